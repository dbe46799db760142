-- What an element of a list adds to a sum, and what a filter leaves.
use Rattle.std.proofs.Common.{ℕ, ◌≤◌, List, subst}
use Rattle.std.specs.List.{sum_by, Contains}
use Rattle.std.proofs.lemmas.List.Sums.{get_or-le-sum_by}

-- an element's term is at most the sum
pub term-le-sum_by : {X : Type 0} (f : X → ℕ) (xs : List X) (x : X) → Contains xs x → f x ≤ sum_by f xs
term-le-sum_by f xs x (i, below, is) = subst (λ y. f y ≤ sum_by f xs) is (get_or-le-sum_by f xs i x below)
