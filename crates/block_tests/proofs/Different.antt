-- The arrangements of a block are all different.
use Rattle.std.proofs.Common.{◌≢◌, ℕ, List, [], ◌∷◌, AllPairs, sym, subst, arith}
use Rattle.std.proofs.lemmas.List.Elements.{All-from_recursion}
use Rattle.std.proofs.lemmas.List.Kept.{AllPairs-cons}
use Rattle.weights.specs.Labellings.{labellings}
use Rattle.weights.proofs.Filters.{all_weaker}
use Rattle.enumerate.proofs.Order.{IsAscending, IsBefore, labellings-ascending, IsBefore-itself}

ascending-different : (members : List (List ℕ)) → IsAscending members → AllPairs ◌≢◌ members
ascending-different [] a = λ i j d below inside. absurd (omega arith)
ascending-different (x ∷ members) a =
    AllPairs-cons ◌≢◌ x members
    (All-from_recursion (λ y. x ≢ y) members (all_weaker (IsBefore x) (λ y. x ≢ y) (λ y b e. IsBefore-itself x (subst (IsBefore x) (sym e) b)) members a.0))
    (ascending-different members a.1)

pub arrangements-different : (counts : List ℕ) → AllPairs ◌≢◌ (labellings counts)
arrangements-different counts = ascending-different (labellings counts) (labellings-ascending counts)
