-- What the bodies read of a reached room.
use Rattle.std.proofs.Common.{ℕ, List, length, refl, sym, ◌∙◌, subst, arith}
use Rattle.std.specs.Prelude.{ℤ, slice_index}
use Rattle.std.specs.List.{Contains}
use Rattle.weights.specs.Grouped.{minus}
use Rattle.weights.proofs.ChoiceLists.{IsChoice}
use Rattle.weights.proofs.Sized.{length-minus, sum-minus}
use Rattle.networks.specs.Network.{IsReached}
use Rattle.room_network.specs.Plans.{alone}
use Rattle.label_network.specs.LabelSteps.{IsHeld}
use Rattle.label_network.proofs.Narrowing.{chosen, fits-self, minus-within}
use Rattle.label_network.proofs.Sizes.{fewer-labellings, held-within}
use Rattle.kendall_test.specs.KendallRooms.{counts_left, kendall_floor, kendall_plan}
use Rattle.kendall_test.specs.KendallSteps.{AreKendallCounts, IsCode, KendallChoice, KendallSeat}
use Rattle.kendall_test.proofs.CodeLaws.{code-small}
use Rattle.kendall_test.proofs.Held.{held-arranged}
use Rattle.kendall_test.proofs.KendallPlans.{IsLeftRoom, enough, first_is, left_room, left-few, left-fits, left-is, left-long, rest_is}

module _ (columns rows : List ℕ) (a : AreKendallCounts columns rows) (g : ℕ) (room : List ℤ) (r : IsReached (alone (kendall_plan columns rows)) g room) where
  abbrev here : IsLeftRoom columns rows a g room
  here = left_room columns rows a g room r

  abbrev left : List ℕ
  left = counts_left columns (length rows) g room

  left-held : (width : ℕ) → IsHeld width rows → IsHeld width left
  left-held width h = subst (IsHeld width) (sym (left-is columns rows a g room r)) (held-arranged width here.counts here.counts (fits-self here.counts) (held-within width rows here.counts here.within h))

  pub kendall_seat : KendallSeat columns rows g room
  kendall_seat = record {
    coded = record {
      is_code = subst IsCode (sym here.is) (record { one = refl; whole = refl; small = code-small here.counts here.for.few });
      stage = here.stage;
      few = omega (arith, a.level, a.few);
    };
    some = record { long = left-long columns rows a g room r; few = left-few columns rows a g room r; fits = left-fits columns rows a g room r };
    held = left-held;
    rest = rest_is columns rows a g room r;
    enough = enough columns rows a g room r;
    first = first_is columns rows a g room r;
  }

  pub kendall_choice : (x : List ℕ) → Contains ((kendall_floor columns rows).choices g room) x → KendallChoice columns rows g room x
  kendall_choice x o =
      let c : IsChoice (slice_index columns g) left x = chosen (slice_index columns g) left x o in
      let long = left-long columns rows a g room r in
      let few = left-few columns rows a g room r in
      let fits = left-fits columns rows a g room r in
      record {
        whole = sym c.whole;
        fitting = c.fitting;
        some = record {
          long = c.long ∙ long;
          few = omega (arith, sum-minus left x c.fitting, few);
          fits = omega (arith, fewer-labellings x left c.fitting, fits);
        };
        after = record {
          long = length-minus left x ∙ long;
          few = omega (arith, sum-minus left x c.fitting, few);
          fits = omega (arith, fewer-labellings (minus left x) left (minus-within left x left c.fitting (fits-self left)), fits);
        };
        held = λ width h. held-within width left x c.fitting (left-held width h);
      }
