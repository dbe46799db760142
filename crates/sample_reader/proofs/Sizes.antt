-- The sizes of groups.
use Rattle.std.proofs.Common.{ℕ, ◌<◌, ◌≤◌, nat_eq, List, arith, zero-add}
use Rattle.std.specs.List.{All, count_by}
use Rattle.std.proofs.lemmas.List.Elements.{All-from_get_or}
use Rattle.std.proofs.lemmas.List.FromFn.{get_or-map-range_with_len, length-map-range_with_len}
use Rattle.weights.specs.Labellings.{counts_of}

-- where each group has a member, no size is 0
pub none_empty-counts : (groups : ℕ) (members : List ℕ) → ((group : ℕ) → group < groups → 0 < count_by (λ member. nat_eq member group) members)
    → All (λ size. 1 ≤ size) (counts_of groups members)
none_empty-counts groups members h =
    let count : ℕ → ℕ = λ group. count_by (λ member. nat_eq member group) members in
    All-from_get_or (λ size. 1 ≤ size) (counts_of groups members) 0
    (λ i within. let lt : i < groups = omega (arith, length-map-range_with_len count 0 groups) in rw (get_or-map-range_with_len count 0 groups i i 0 lt (zero-add i)) (h i lt))
