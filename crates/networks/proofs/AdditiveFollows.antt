-- When an additive network follows a test: what each test of parts proves.
use Rattle.std.proofs.Common.{◌≡◌, ℕ, List, map, length, filter, ◌∙◌, ap, sym, subst}
use Rattle.std.specs.List.{sum_by, concat}
use Rattle.weights.specs.declared.tails.Tail.{Tail}
use Rattle.weights.specs.Conditional.{ConditionalTest}
use Rattle.weights.specs.Labellings.{product}
use Rattle.weights.specs.Rules.{measured}
use Rattle.networks.specs.Judged.{HasIntervals, judge_of}
use Rattle.networks.specs.Follows.{Follows}
use Rattle.networks.specs.Addends.{Addends, additive_network}
use Rattle.networks.specs.SoundAddends.{IsAdditive}
use Rattle.networks.proofs.Parts.{AreStages, Pieces}
use Rattle.networks.proofs.Flat.{AllParts, IsJoined, ends_flat}
use Rattle.networks.proofs.AdditiveLaws.{additive_intervals, value_even}

-- The test's rearrangements are the members of a product, each joined, whose parts are those of the stages; and what it measures and weighs of one comes of its parts.
pub record IsMadeOf (test : ConditionalTest) (tail : Tail) (a : Addends) (ps : Pieces) (P : ℕ → List ℕ → Type 0) (parts : List (List (List ℕ))) : Type 0 where
  pub reference : test.reference ≡ map concat (product parts)
  pub judge_is : a.judge ≡ judge_of test
  pub counted : length parts ≡ a.count
  pub stages : AreStages a ps 0 parts
  pub each : AllParts P 0 parts
  pub joined : IsJoined a ps P (measured test tail) test.weight

pub additive_follows : (test : ConditionalTest) (tail : Tail) (a : Addends) (ps : Pieces) (P : ℕ → List ℕ → Type 0) (parts : List (List (List ℕ))) → IsAdditive a → IsMadeOf test tail a ps P parts → Follows test tail (additive_network a)
additive_follows test tail a ps P parts s m = record {
  intervals = subst (HasIntervals (additive_network a)) m.judge_is (additive_intervals a s);
  ends = λ p. ends_flat a ps P (measured test tail) test.weight m.joined parts m.counted m.stages (λ sorted. value_even a s) m.each p ∙ ap (λ rs. sum_by test.weight (filter (λ r. p (measured test tail r)) rs)) (sym m.reference);
}
