-- What a network of rooms ends at: the values of the members that its rooms give, with their weights.
use Rattle.std.proofs.Common.{◌≡◌, ℕ, List, Bool, sym, ◌∙◌, subst}
use Rattle.std.specs.Prelude.{ℤ}
use Rattle.weights.specs.declared.tails.Tail.{Tail}
use Rattle.weights.specs.Rules.{passes}
use Rattle.weights.proofs.Chosen.{one_if}
use Rattle.weights.proofs.GroupingLaw.{one-times}
use Rattle.weights.proofs.Sums.{sum_by-filter, sum_by-same}
use Rattle.networks.specs.Completions.{extreme_weight, value_weights}
use Rattle.networks.specs.Judged.{rule_in}
use Rattle.networks.specs.Network.{Network}
use Rattle.networks.proofs.Judging.{extreme-passes}
use Rattle.room_network.specs.Meanings.{Meaning, IsMeasure, way_value}
use Rattle.room_network.specs.Plans.{Gives, IsPlan, Plan, Weights}
use Rattle.room_network.specs.RoomNetworks.{EndsAtMembers, IsHoused, member_weights, room_network}
use Rattle.room_network.proofs.RoomKeys.{KeepsWidth, own_plan, room_ending, weighed}
use Rattle.room_network.proofs.RoomLaws.{room_intervals, widths_kept}

module _ (m : Meaning) (weight : Weights) (s : KeepsWidth m.floor) (reference : List (List ℕ)) (mass : List ℕ → ℕ) (cut : List ℕ → List (List ℕ)) (given : Gives (weighed m weight) reference mass cut) where
  abbrev network : Network
  network = room_network m weight

  pub ends-at : (p : ℤ → Bool) → value_weights network p ≡ member_weights m reference mass cut p
  ends-at p =
      room_ending m weight s p
      ∙ given.law (λ w. one_if (p (way_value m w)))
      ∙ sum_by-same _ _ (λ xs. one-times (mass xs) (p (way_value m (cut xs)))) reference
      ∙ sym (sum_by-filter mass (λ xs. p (way_value m (cut xs))) reference)

  extreme-at : IsMeasure m → (t : Tail) → extreme_weight network t 0 network.first ≡ member_weights m reference mass cut (passes (rule_in m.judge t))
  extreme-at i t = extreme-passes network m.judge (room_intervals m weight s i) t ∙ ends-at (passes (rule_in m.judge t))

module _ (plan : Plan) (m : Meaning) (s : IsPlan plan) (h : IsHoused plan m) (i : IsMeasure m) where
  own : (reference : List (List ℕ)) (mass : List ℕ → ℕ) (cut : List ℕ → List (List ℕ)) → Gives plan reference mass cut → Gives (weighed m plan.weight) reference mass cut
  own reference mass cut given = subst (λ p. Gives p reference mass cut) (sym (own_plan plan m h)) given

  pub ends_at_members : EndsAtMembers plan m
  ends_at_members = record {
    values = λ reference mass cut given. ends-at m plan.weight (widths_kept plan m s h) reference mass cut (own reference mass cut given);
    tails = λ reference mass cut given. extreme-at m plan.weight (widths_kept plan m s h) reference mass cut (own reference mass cut given) i;
  }
