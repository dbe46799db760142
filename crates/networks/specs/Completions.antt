-- The ways to finish a key, and the summed weight of those that are extreme.
use Rattle.std.specs.Prelude.{ℕ, zero, suc, ℤ, ◌+◌, ◌-◌, ◌*◌, List, [], ◌∷◌, map, filter, Bool, true, false}
use Rattle.std.specs.List.{flat_map, sum_by}
use Rattle.weights.specs.declared.tails.Tail.{Tail}
use Rattle.networks.specs.declared.stages.Verdict.{Verdict}
use Rattle.networks.specs.declared.stages.Verdict.TheVariants.{Inside, Outside, Undecided}
use Rattle.networks.specs.Network.{Network}

-- over the arcs of a key, each arc's weight times what f says of the key that it leads to
abbrev pub over_arcs : Network → (List ℤ → ℕ) → ℕ → List ℤ → ℕ
over_arcs n f g k = sum_by (λ c. n.weight g k c * f (n.next g k c)) (n.choices g k)

-- the lists of choices, one for each of the next m stages, each allowed at the key that the earlier
-- ones reach
abbrev pub paths : Network → ℕ → ℕ → List ℤ → List (List (List ℕ))
paths n zero g k = [] ∷ []
paths n (suc m) g k =
    flat_map (λ c. map (λ cs. c ∷ cs) (paths n m (g + 1) (n.next g k c))) (n.choices g k)

-- the completions of a key of stage g
abbrev pub completions : Network → ℕ → List ℤ → List (List (List ℕ))
completions n g k = paths n (n.count - g) g k

-- the product of the weights of a path's arcs
abbrev pub path_weight : Network → ℕ → List ℤ → List (List ℕ) → ℕ
path_weight n g k [] = 1
path_weight n g k (c ∷ cs) = n.weight g k c * path_weight n (g + 1) (n.next g k c) cs

-- the key that a path reaches
abbrev pub path_end : Network → ℕ → List ℤ → List (List ℕ) → List ℤ
path_end n g k [] = k
path_end n g k (c ∷ cs) = path_end n (g + 1) (n.next g k c) cs

abbrev pub is_inside : Verdict → Bool
is_inside Inside = true
is_inside Outside = false
is_inside Undecided = false

-- a completion is extreme for a tail where the verdict at its end is inside
abbrev pub ends_inside : Network → Tail → ℕ → List ℤ → List (List ℕ) → Bool
ends_inside n t g k cs = is_inside (n.verdict t n.count (path_end n g k cs))

-- the summed weight of all completions of a key
unfoldable pub total_weight : Network → ℕ → List ℤ → ℕ
total_weight n g k = sum_by (path_weight n g k) (completions n g k)

-- the summed weight of its extreme completions
unfoldable pub extreme_weight : Network → Tail → ℕ → List ℤ → ℕ
extreme_weight n t g k =
    sum_by (path_weight n g k) (filter (ends_inside n t g k) (completions n g k))

-- the summed weight of the completions of the first key that end at a key which passes
unfoldable pub ending_weight : Network → (List ℤ → Bool) → ℕ
ending_weight n p =
    let ends_well : List (List ℕ) → Bool = λ cs. p (path_end n 0 n.first cs) in
    sum_by (path_weight n 0 n.first) (filter ends_well (completions n 0 n.first))

-- the summed weight of those that end at a value which passes
abbrev pub value_weights : Network → (ℤ → Bool) → ℕ
value_weights n p = ending_weight n (λ k. p (n.value k))
