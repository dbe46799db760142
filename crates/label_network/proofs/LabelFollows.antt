-- A measure's network follows a test of labellings that measures the same of each labelling.
use Rattle.std.proofs.Common.{◌≡◌, ℕ, ◌*◌, List, length, sym, ◌∙◌, ap, subst}
use Rattle.std.specs.List.{sum_by, Contains}
use Rattle.weights.specs.declared.tails.Tail.{Tail}
use Rattle.weights.specs.Conditional.{ConditionalTest}
use Rattle.weights.specs.Grouped.{columns_of}
use Rattle.weights.specs.Labellings.{labellings}
use Rattle.weights.specs.Rules.{measured}
use Rattle.weights.proofs.Sums.{sum_by-same}
use Rattle.networks.specs.Judged.{judge_of}
use Rattle.networks.specs.Follows.{Follows}
use Rattle.room_network.specs.Meanings.{way_value}
use Rattle.room_network.specs.Plans.{Gives}
use Rattle.room_network.proofs.RoomFollows.{room_follows}
use Rattle.label_network.proofs.Endings.{labelling_value}
use Rattle.label_network.specs.LabelNetwork.{label_network, over_rooms}
use Rattle.label_network.specs.LabelRooms.{label_plan, label_weight}
use Rattle.label_network.specs.Meanings.{Meaning, IsMeasure}
use Rattle.label_network.proofs.LabelPlans.{labels_give, label_width}
use Rattle.label_network.proofs.OverRooms.{over_measure, over_value}

-- what a test has in common with a measure, for one tail
pub record IsOfTest (m : Meaning) (test : ConditionalTest) (tail : Tail) : Type 0 where
  pub judge_is : m.judge ≡ judge_of test
  pub reference : test.reference ≡ labellings m.rows
  pub alike : (xs : List ℕ) → test.weight xs ≡ 1
  pub values : (xs : List ℕ) → Contains (labellings m.rows) xs → measured test tail xs ≡ labelling_value m xs

module _ (m : Meaning) (s : IsMeasure m) (test : ConditionalTest) (tail : Tail) (o : IsOfTest m test tail) where
  abbrev cut : List ℕ → List (List ℕ)
  cut = columns_of (length m.rows) m.columns

  gives : Gives (label_plan m.columns m.rows) test.reference test.weight cut
  gives = record {
    law = λ f.
        (labels_give m.columns m.rows s.level).law f
        ∙ sum_by-same _ _ (λ xs. ap (λ n. n * f (cut xs)) (sym (o.alike xs))) (labellings m.rows)
        ∙ ap (sum_by (λ xs. test.weight xs * f (cut xs))) (sym o.reference);
  }

  values : (xs : List ℕ) → Contains test.reference xs → measured test tail xs ≡ way_value (over_rooms m) (cut xs)
  values xs a = o.values xs (subst (λ rs. Contains rs xs) o.reference a) ∙ sym (over_value m (cut xs))

  pub label_follows : Follows test tail (label_network m)
  label_follows = room_follows (over_rooms m) label_weight (label_width m.columns m.rows) (over_measure m s) test tail cut (record {
    judge_is = o.judge_is;
    gives = gives;
    values = values;
  })
