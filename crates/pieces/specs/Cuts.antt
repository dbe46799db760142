-- A network cut at a stage: the keys there that are open, what was closed before them, and the sums
-- of the parts that they are given to.
use Rattle.std.specs.Prelude.{◌≡◌, ℕ, zero, suc, ℤ, ◌+◌, ◌*◌, ◌%◌, ◌<◌, ◌≤◌, List, [], ◌∷◌, length, map, min, nat_abs, pos, filter, Bool, false, ◌&&◌, ◌||◌, nat_eq, cond}
use Rattle.std.specs.List.{sum_by, AllByRecursion}
use Rattle.std.specs.List.Sorted.{IsStrictlySortedBy}
use Rattle.std.specs.Ordering.{is_lt}
use Rattle.std.specs.Set.{distinct_count, is_member}
use Rattle.weights.specs.declared.tails.Tail.{Tail}
use Rattle.node_pool.specs.Nodes.{Node, key_cmp, key_eq, keys, is_held, weighted}
use Rattle.node_pool.specs.PoolSteps.{nodes_of}
use Rattle.networks.specs.Network.{Network}
use Rattle.networks.specs.Completions.{paths, completions, path_weight, is_inside, ends_inside, extreme_weight}
use Rattle.stage_network.specs.FromKeys.{AreStarts}
use Rattle.networks.specs.Opened.{is_open, reached_openly}
use Rattle.piece_texts.specs.declared.piece.PieceSum.{PieceSum}
use Rattle.piece_texts.specs.Merges.{over_parts}
use Rattle.pieces.specs.declared.cuts.Cut.{Cut}
use Rattle.pieces.specs.declared.cuts.CountedCut.{CountedCut}

-- whether a completion meets open keys alone at the m + 1 stages from g on
abbrev pub stays_open : Network → Tail → ℕ → ℕ → List ℤ → List (List ℕ) → Bool
stays_open n t zero g k cs = is_open n t g k
stays_open n t (suc m) g k [] = is_open n t g k
stays_open n t (suc m) g k (c ∷ cs) = is_open n t g k && stays_open n t m (g + 1) (n.next g k c) cs

-- whether it meets an inside key there
abbrev pub meets_inside : Network → Tail → ℕ → ℕ → List ℤ → List (List ℕ) → Bool
meets_inside n t zero g k cs = is_inside (n.verdict t g k)
meets_inside n t (suc m) g k [] = is_inside (n.verdict t g k)
meets_inside n t (suc m) g k (c ∷ cs) =
    is_inside (n.verdict t g k) || meets_inside n t m (g + 1) (n.next g k c) cs

-- the key that it meets m stages on
abbrev pub met : Network → ℕ → ℕ → List ℤ → List (List ℕ) → List ℤ
met n zero g k cs = k
met n (suc m) g k [] = k
met n (suc m) g k (c ∷ cs) = met n m (g + 1) (n.next g k c) cs

-- the summed weight of the extreme completions of the first key that meet an inside key at stage g
-- or before
unfoldable pub closed_sum : Network → Tail → ℕ → ℕ
closed_sum n t g = sum_by (path_weight n 0 n.first)
    (filter (λ cs. ends_inside n t 0 n.first cs && meets_inside n t g 0 n.first cs)
    (completions n 0 n.first))

-- that of those that meet open keys alone at the stages up to g, the last of which passes
unfoldable pub open_sum : Network → Tail → ℕ → (List ℤ → Bool) → ℕ
open_sum n t g p = sum_by (path_weight n 0 n.first)
    (filter (λ cs. ends_inside n t 0 n.first cs
    && (stays_open n t g 0 n.first cs && p (met n g 0 n.first cs))) (completions n 0 n.first))

-- a run is divided at the stage that was asked for, or at the last where there are not so many
abbrev pub cut_stage : Network → ℕ → ℕ
cut_stage n at = min at n.count

-- the open keys of a stage that are reached through open keys alone, once for each way
abbrev pub keys_open_at : Network → Tail → ℕ → List (List ℤ)
keys_open_at n t g = filter (is_open n t g) (reached_openly n t g)

-- the place of a key among them, ascending: how many different ones come before it
abbrev pub place_of : Network → Tail → ℕ → List ℤ → ℕ
place_of n t g k = distinct_count key_eq (filter (λ j. is_lt (key_cmp j k)) (keys_open_at n t g))

-- the key at place i belongs to part i mod P
abbrev pub belongs : Network → Tail → ℕ → ℕ → ℕ → List ℤ → Bool
belongs n t g parts part k = nat_eq (place_of n t g k % parts) part

-- what a part of a run that is divided at a stage knows of a tail: the closed sum, and the summed
-- weight of the extreme completions that meet open keys alone, the last of them one of the part's
abbrev pub piece_sum : Network → Tail → ℕ → ℕ → ℕ → PieceSum
piece_sum n t at parts part =
    let g = cut_stage n at in
    record { closed = closed_sum n t g; sum = open_sum n t g (belongs n t g parts part) }

-- the closed sum and the sums of all parts are what is extreme
abbrev pub PiecesAddUp : Network → Tail → ℕ → ℕ → Type 0
PiecesAddUp n t at parts =
    closed_sum n t (cut_stage n at) + over_parts (λ part. (piece_sum n t at parts part).sum) parts
    ≡ extreme_weight n t 0 n.first

-- whether a key is listed with this owner
abbrev pub is_owned : List (List ℤ) → List ℕ → ℕ → List ℤ → Bool
is_owned [] owners part q = false
is_owned (k ∷ ks) [] part q = false
is_owned (k ∷ ks) (o ∷ owners) part q =
    (key_eq q k && nat_eq o part) || is_owned ks owners part q

-- the sum of the keys that a part owns
abbrev pub owned_sum : Network → Tail → ℕ → List (List ℤ) → List ℕ → ℕ → ℕ
owned_sum n t g ks owners part = open_sum n t g (is_owned ks owners part)

-- the keys of a cut with their weights
abbrev pub cut_nodes : Network → Cut → List Node
cut_nodes n cut = nodes_of n.width cut.keys (map nat_abs cut.weights)

abbrev pub counted_nodes : Network → CountedCut → List Node
counted_nodes n cut = nodes_of n.width cut.keys.items cut.weights.items

-- whatever the owners of the keys are, what was closed and the sums of all parts are all that is
-- extreme
abbrev pub PartsAddUp : Network → Tail → ℕ → ℕ → List (List ℤ) → Type 0
PartsAddUp n t g closed ks =
    (owners : List ℕ) (parts : ℕ)
    → length owners ≡ length ks → AllByRecursion (λ o. o < parts) owners
    → closed + over_parts (owned_sum n t g ks owners) parts ≡ extreme_weight n t 0 n.first

-- the sum over the ways of m stages from the first key that meet open keys alone, of their weight
-- times f of the key that they reach
unfoldable pub met_sum : Network → Tail → ℕ → (List ℤ → ℕ) → ℕ
met_sum n t m f = sum_by (λ cs. path_weight n 0 n.first cs * f (met n m 0 n.first cs))
    (filter (stays_open n t m 0 n.first) (paths n m 0 n.first))

-- the open keys of a stage that are reached through open keys alone, ascending, each once and with
-- the merged weight of the ways there, which is at least 1; and the closed sum
pub record IsCutAt (n : Network) (t : Tail) (g closed : ℕ) (row : List ℤ) (weights : List ℕ)
    : Type 0 where
  pub within : g ≤ n.count
  pub closed_is : closed ≡ closed_sum n t g
  pub starts : AreStarts n g row weights
  pub told : (f : List ℤ → ℕ) → weighted f (nodes_of n.width row weights) ≡ met_sum n t g f
  pub ascending : IsStrictlySortedBy key_cmp (keys (nodes_of n.width row weights))
  pub members : (k : List ℤ)
      → is_held (nodes_of n.width row weights) k ≡ is_member key_eq (keys_open_at n t g) k

-- such a list with weights that are signed numbers, none of them negative
pub record IsCut (n : Network) (t : Tail) (cut : Cut) : Type 0 where
  pub unsigned : cut.weights ≡ map pos (map nat_abs cut.weights)
  pub listed : IsCutAt n t cut.at cut.closed cut.keys (map nat_abs cut.weights)

-- and with weights that are counts
abbrev pub IsCountedCut : Network → Tail → CountedCut → Type 0
IsCountedCut n t cut = IsCutAt n t cut.at cut.closed cut.keys.items cut.weights.items

-- the nodes that a part owns
abbrev pub owned_nodes : List Node → List ℕ → ℕ → List Node
owned_nodes [] owners part = []
owned_nodes (a ∷ nodes) [] part = []
owned_nodes (a ∷ nodes) (o ∷ owners) part =
    cond (nat_eq o part) (a ∷ owned_nodes nodes owners part) (owned_nodes nodes owners part)
