-- A measure's network follows a test whose rearrangements are what its rooms give, and that
-- measures the same of each.
use Rattle.std.proofs.Common.{◌≡◌, ℕ, ◌*◌, List, Bool, cond, sym, ◌∙◌, ap, subst}
use Rattle.std.specs.Prelude.{ℤ}
use Rattle.std.specs.List.{Contains}
use Rattle.std.proofs.lemmas.List.Elements.{recursion_from_All, All-contains_itself}
use Rattle.weights.specs.declared.tails.Tail.{Tail}
use Rattle.weights.specs.Conditional.{ConditionalTest}
use Rattle.weights.specs.Rules.{measured}
use Rattle.weights.proofs.Chosen.{one_if}
use Rattle.weights.proofs.GroupingLaw.{one-times}
use Rattle.weights.proofs.Sums.{sum_by-filter, sum_by-same_where}
use Rattle.networks.specs.Completions.{value_weights}
use Rattle.networks.specs.Follows.{Follows, measured_weight}
use Rattle.networks.specs.Judged.{HasIntervals, judge_of}
use Rattle.room_network.specs.Meanings.{Meaning, IsMeasure, way_value}
use Rattle.room_network.specs.Plans.{Gives, Weights}
use Rattle.room_network.specs.RoomNetworks.{room_network}
use Rattle.room_network.proofs.RoomKeys.{KeepsWidth, room_ending, weighed}
use Rattle.room_network.proofs.RoomLaws.{room_intervals}

-- what a test has in common with a measure of weighed rooms, for one tail
pub record IsOfTest (m : Meaning) (weight : Weights) (test : ConditionalTest) (tail : Tail) (cut : List ℕ → List (List ℕ)) : Type 0 where
  pub judge_is : m.judge ≡ judge_of test
  pub gives : Gives (weighed m weight) test.reference test.weight cut
  pub values : (xs : List ℕ) → Contains test.reference xs → measured test tail xs ≡ way_value m (cut xs)

module _ (m : Meaning) (weight : Weights) (s : KeepsWidth m.floor) (t : IsMeasure m) (test : ConditionalTest) (tail : Tail) (cut : List ℕ → List (List ℕ)) (o : IsOfTest m weight test tail cut) where
  term : (p : ℤ → Bool) (xs : List ℕ) → Contains test.reference xs → test.weight xs * one_if (p (way_value m (cut xs))) ≡ cond (p (measured test tail xs)) (test.weight xs) 0
  term p xs a = one-times (test.weight xs) (p (way_value m (cut xs))) ∙ ap (λ z. cond (p z) (test.weight xs) 0) (sym (o.values xs a))

  room_ends : (p : ℤ → Bool) → value_weights (room_network m weight) p ≡ measured_weight test tail p
  room_ends p =
      room_ending m weight s p
      ∙ o.gives.law (λ w. one_if (p (way_value m w)))
      ∙ sum_by-same_where (Contains test.reference) _ _ (term p) test.reference (recursion_from_All (Contains test.reference) test.reference (All-contains_itself test.reference))
      ∙ sym (sum_by-filter test.weight (λ xs. p (measured test tail xs)) test.reference)

  pub room_follows : Follows test tail (room_network m weight)
  room_follows = record {
    intervals = subst (HasIntervals (room_network m weight)) o.judge_is (room_intervals m weight s t);
    ends = room_ends;
  }
