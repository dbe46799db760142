-- The open keys of a network: those that are undecided, and reached through undecided keys alone.
use Rattle.std.specs.Prelude.{ℕ, zero, suc, ℤ, ◌+◌, List, [], ◌∷◌, map, filter, Bool, true, false, ◌||◌}
use Rattle.std.specs.List.{flat_map}
use Rattle.std.specs.Set.{distinct_count}
use Rattle.weights.specs.declared.tails.Tail.{Tail}
use Rattle.weights.specs.declared.tails.Tail.TheVariants.{Less, Greater, Two}
use Rattle.networks.specs.declared.stages.Verdict.{Verdict}
use Rattle.networks.specs.declared.stages.Verdict.TheVariants.{Inside, Outside, Undecided}
use Rattle.networks.specs.Network.{Network}
use Rattle.node_pool.specs.Nodes.{key_eq}

-- whether completions of both kinds may follow
abbrev pub is_undecided : Verdict → Bool
is_undecided Inside = false
is_undecided Outside = false
is_undecided Undecided = true

-- whether a key of stage g is open
abbrev pub is_open : Network → Tail → ℕ → List ℤ → Bool
is_open n t g k = is_undecided (n.verdict t g k)

-- the keys of stage g that are reached through keys alone which pass, once for each way
abbrev pub reached_through : Network → (ℕ → List ℤ → Bool) → ℕ → List (List ℤ)
reached_through n p zero = n.first ∷ []
reached_through n p (suc g) =
    flat_map (λ k. map (n.next g k) (n.choices g k)) (filter (p g) (reached_through n p g))

-- those that are reached through open keys alone
abbrev pub reached_openly : Network → Tail → ℕ → List (List ℤ)
reached_openly n t g = reached_through n (is_open n t) g

-- how many open keys the stages below g have, each distinct key of a stage once
abbrev pub opened_below : Network → Tail → ℕ → ℕ
opened_below n t zero = 0
opened_below n t (suc g) =
    opened_below n t g + distinct_count key_eq (filter (is_open n t g) (reached_openly n t g))

-- whether a key of stage g is open for some tail
abbrev pub is_open_for_some : Network → ℕ → List ℤ → Bool
is_open_for_some n g k = is_open n Less g k || (is_open n Greater g k || is_open n Two g k)

-- the keys of stage g that are reached through such keys alone
abbrev pub reached_by_some : Network → ℕ → List (List ℤ)
reached_by_some n g = reached_through n (is_open_for_some n) g

-- how many of those of the stages below g are open for a tail, each distinct key of a stage once
abbrev pub opened_by_some : Network → Tail → ℕ → ℕ
opened_by_some n t zero = 0
opened_by_some n t (suc g) =
    opened_by_some n t g + distinct_count key_eq (filter (is_open n t g) (reached_by_some n g))
