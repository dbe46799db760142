-- The sums of the parts of a cut, and of all of them.
use Rattle.std.proofs.Common.{◌≡◌, ℕ, zero, suc, ◌+◌, ◌*◌, ◌%◌, ◌<◌, ◌≤◌, List, [], ◌∷◌, length, refl, sym, ◌∙◌, ap, arith}
use Rattle.std.specs.Prelude.{ℤ, min}
use Rattle.std.specs.List.{IsDistinct, sum_by, filter}
use Rattle.std.proofs.lemmas.List.{length-map}
use Rattle.std.proofs.lemmas.List.Sums.{sum_by-cons}
use Rattle.weights.specs.declared.tails.Tail.{Tail}
use Rattle.node_pool.specs.Nodes.{Node, key_eq, keys, weighted}
use Rattle.node_pool.specs.PoolSteps.{nodes_of}
use Rattle.networks.specs.Completions.{extreme_weight, path_weight, paths}
use Rattle.networks.specs.Laws.{IsLawful}
use Rattle.networks.specs.Network.{Network}
use Rattle.networks.proofs.Steps.{extreme-le-total, sum_by-same}
use Rattle.piece_texts.specs.Merges.{over_parts}
use Rattle.piece_texts.specs.PieceTexts.{SumFits}
use Rattle.piece_texts.proofs.EachPart.{over-plus}
use Rattle.pieces.specs.declared.cuts.CountedCut.{CountedCut}
use Rattle.pieces.specs.Cuts.{IsCutAt, IsCountedCut, PartsAddUp, PiecesAddUp, piece_sum, belongs, counted_nodes, cut_stage, is_owned, met, met_sum, keys_open_at, open_sum, owned_nodes, owned_sum, place_of, stays_open}
use Rattle.pieces.specs.Parting.{dealt}
use Rattle.pieces.proofs.ByPaths.{open-met, passing_extreme, closed-and_open, closed-le, open-le}
use Rattle.pieces.proofs.Owned.{owned-weighted, parts-all, over-same, pick_one}
use Rattle.pieces.proofs.Placed.{placed, dealt-weighted}

-- the sum of a part of the keys of a cut
pub owned-part : (n : Network) (t : Tail) (g : ℕ) (nodes : List Node) (owners : List ℕ) (part : ℕ) → g ≤ n.count → ((f : List ℤ → ℕ) → weighted f nodes ≡ met_sum n t g f) → IsDistinct key_eq (keys nodes) → weighted (extreme_weight n t g) (owned_nodes nodes owners part) ≡ owned_sum n t g (keys nodes) owners part
owned-part n t g nodes owners part h told apart =
    sym (owned-weighted (extreme_weight n t g) nodes owners part apart)
    ∙ told (passing_extreme n t (is_owned (keys nodes) owners part) g)
    ∙ sym (open-met n t (is_owned (keys nodes) owners part) g h)

-- whatever the owners are, all parts are all that is open
pub cut-parts : (n : Network) (t : Tail) (g closed : ℕ) (row : List ℤ) (weights : List ℕ) → IsLawful n → IsCutAt n t g closed row weights → PartsAddUp n t g closed (keys (nodes_of n.width row weights))
cut-parts n t g closed row weights l is owners parts long below =
    let nodes : List Node = nodes_of n.width row weights in
    let e : List ℤ → ℕ = extreme_weight n t g in
    let each : length owners ≡ length nodes = long ∙ length-map nodes (λ (a : Node). a.key) in
    let all : over_parts (owned_sum n t g (keys nodes) owners) parts ≡ met_sum n t g e =
    over-same _ (λ part. weighted e (owned_nodes nodes owners part)) parts (λ part. sym (owned-part n t g nodes owners part is.within is.told is.starts.distinct))
    ∙ parts-all e nodes owners parts each below ∙ is.told e in
    omega (arith, all, is.closed_is, closed-and_open n t l g is.within)

-- keys that are dealt one after another
pub dealt-part : (n : Network) (t : Tail) (cut : CountedCut) (parts part : ℕ) → IsCountedCut n t cut → owned_sum n t cut.at (keys (counted_nodes n cut)) (dealt parts 0 (length (counted_nodes n cut))) part ≡ open_sum n t cut.at (belongs n t cut.at parts part)
dealt-part n t cut parts part is =
    let g : ℕ = cut.at in
    let nodes : List Node = counted_nodes n cut in
    sym (owned-part n t g nodes (dealt parts 0 (length nodes)) part is.within is.told is.starts.distinct)
    ∙ dealt-weighted (extreme_weight n t g) (place_of n t g) parts part 0 nodes (placed nodes (keys_open_at n t g) is.ascending is.members)
    ∙ is.told (passing_extreme n t (belongs n t g parts part) g)
    ∙ sym (open-met n t (belongs n t g parts part) g is.within)

-- sums over parts, one within the other
over-zero : (parts : ℕ) → over_parts (λ p. 0) parts ≡ 0
over-zero zero = refl
over-zero (suc parts) = omega (arith, over-zero parts)

over-sums : {X : Type 0} (f : ℕ → X → ℕ) (parts : ℕ) (xs : List X) → over_parts (λ p. sum_by (f p) xs) parts ≡ sum_by (λ x. over_parts (λ p. f p x) parts) xs
over-sums f parts [] = over-zero parts
over-sums f parts (x ∷ xs) =
    over-same _ (λ p. f p x + sum_by (f p) xs) parts (λ p. sum_by-cons (f p) x xs)
    ∙ over-plus (λ p. f p x) (λ p. sum_by (f p) xs) parts
    ∙ ap (λ m. over_parts (λ p. f p x) parts + m) (over-sums f parts xs)
    ∙ sym (sum_by-cons (λ y. over_parts (λ p. f p y) parts) x xs)

over-times : (w : ℕ) (f : ℕ → ℕ) (parts : ℕ) → over_parts (λ p. w * f p) parts ≡ w * over_parts f parts
over-times w f zero = omega (arith, none w)
  where
    none : (w : ℕ) → w * 0 ≡ 0
    none w = grind arith
over-times w f (suc parts) = omega (arith, over-times w f parts, spread w (over_parts f parts) (f parts))
  where
    spread : (a b c : ℕ) → a * (b + c) ≡ a * b + a * c
    spread a b c = grind arith

over-met : (n : Network) (t : Tail) (g : ℕ) (f : ℕ → List ℤ → ℕ) (parts : ℕ) → over_parts (λ p. met_sum n t g (f p)) parts ≡ met_sum n t g (λ k. over_parts (λ p. f p k) parts)
unfolding met_sum
over-met n t g f parts =
    let ways : List (List (List ℕ)) = filter (stays_open n t g 0 n.first) (paths n g 0 n.first) in
    over-sums (λ p cs. path_weight n 0 n.first cs * f p (met n g 0 n.first cs)) parts ways
    ∙ sum_by-same _ _ (λ cs. over-times (path_weight n 0 n.first cs) (λ p. f p (met n g 0 n.first cs)) parts) ways

met-same : (n : Network) (t : Tail) (g : ℕ) (f h : List ℤ → ℕ) → ((k : List ℤ) → f k ≡ h k) → met_sum n t g f ≡ met_sum n t g h
unfolding met_sum
met-same n t g f h same = sum_by-same _ _ (λ cs. ap (λ m. path_weight n 0 n.first cs * m) (same (met n g 0 n.first cs))) (filter (stays_open n t g 0 n.first) (paths n g 0 n.first))

below : (place parts : ℕ) → 1 ≤ parts → place % parts < parts
below place parts h = omega (arith, h)

least : (at count : ℕ) → min at count ≤ count
least at count = omega arith

-- each open key belongs to one part
pub pieces-add-up : (n : Network) → IsLawful n → (t : Tail) (at parts : ℕ) → 1 ≤ parts → PiecesAddUp n t at parts
pieces-add-up n l t at parts some =
    let g : ℕ = cut_stage n at in
    let h : g ≤ n.count = least at n.count in
    let e : List ℤ → ℕ = extreme_weight n t g in
    let all : over_parts (λ part. open_sum n t g (belongs n t g parts part)) parts ≡ met_sum n t g e =
    over-same _ (λ part. met_sum n t g (passing_extreme n t (belongs n t g parts part) g)) parts (λ part. open-met n t (belongs n t g parts part) g h)
    ∙ over-met n t g (λ part. passing_extreme n t (belongs n t g parts part) g) parts
    ∙ met-same n t g _ e (λ k. pick_one (place_of n t g k % parts) (e k) parts (below (place_of n t g k) parts some)) in
    omega (arith, all, closed-and_open n t l g h)

-- and weighs no more than all rearrangements
pub piece-fits : (n : Network) → IsLawful n → (t : Tail) (at parts part : ℕ) → SumFits (piece_sum n t at parts part)
piece-fits n l t at parts part =
    let g : ℕ = cut_stage n at in
    record {
      closed = omega (arith, closed-le n t g, extreme-le-total n t 0 n.first, l.fits);
      sum = omega (arith, open-le n t (belongs n t g parts part) g, extreme-le-total n t 0 n.first, l.fits);
    }
