-- What a reached room of sorted rooms has: its sizes remain of the rows, and it has as many ways as these have labellings.
use Rattle.std.proofs.Common.{◌≡◌, ◌≢◌, ℕ, zero, suc, ◌+◌, ◌-◌, ◌<◌, ◌≤◌, List, [], ◌∷◌, map, drop, length, get_or, refl, sym, ◌∙◌, ap, subst, arith, add-one, mul-one}
use Rattle.std.specs.Prelude.{ℤ, pos, slice_index}
use Rattle.std.specs.List.{sum_by, sum, Contains}
use Rattle.std.proofs.lemmas.List.Kept.{AllPairs-filter}
use Rattle.std.proofs.lemmas.List.Sums.{sum_by-drop_more, sum_by-take-drop}
use Rattle.weights.specs.Grouped.{choices, minus}
use Rattle.weights.specs.Labellings.{labellings, number_of_labellings}
use Rattle.weights.proofs.FirstLabel.{number_of_labellings-positive}
use Rattle.weights.proofs.GroupingLaw.{grouping}
use Rattle.weights.proofs.OneOrder.{length-in_order}
use Rattle.weights.proofs.Sized.{length-minus}
use Rattle.weights.proofs.Sums.{sum_by-same, sum_by-one}
use Rattle.completion_bounds.specs.Fillings.{falling, is_at_least}
use Rattle.completion_bounds.proofs.FallingSizes.{within-falling}
use Rattle.completion_bounds.proofs.TableWeights.{fits-within, sum-falling, within-fits}
use Rattle.networks.specs.Completions.{paths, path_weight, total_weight}
use Rattle.networks.specs.Network.{IsReached}
use Rattle.networks.proofs.Images.{filtered_from}
use Rattle.room_network.specs.Plans.{IsPlan, alone}
use Rattle.room_network.proofs.RoomKeys.{KeepsWidth, is_allowed}
use Rattle.label_network.specs.LabelSteps.{least}
use Rattle.label_network.specs.Meanings.{sizes_in}
use Rattle.label_network.proofs.Differing.{choices-differ}
use Rattle.label_network.proofs.LabelPlans.{sizes-back}
use Rattle.label_network.proofs.Narrowing.{AreLeft, chosen, left-first, left-next}
use Rattle.label_network.proofs.Rows.{fits-long, length-abs, length-pos}
use Rattle.label_network.proofs.Sizes.{fewer-labellings, held-within, sizes-of_pos}
use Rattle.sorted_tables.specs.GatheredChoices.{is_gathered}
use Rattle.sorted_tables.specs.SortedRooms.{sorted_floor}
use Rattle.sorted_tables.specs.SortedSteps.{AreSorted, IsGatheredChoice, IsRoomFor, RoomSeat}
use Rattle.sorted_tables.proofs.GatheredChoices.{first-gathered, weighs-itself}
use Rattle.sorted_tables.proofs.SortedWays.{plan, ways_from}

pub sizes-fallen : (r : List ℕ) → sizes_in (map pos (falling r)) ≡ falling r
sizes-fallen r = sizes-back (falling r)

-- a choice that is allowed is a choice, and stands for all that are gathered into it
pub gathered-choice : (columns rows : List ℕ) (g : ℕ) (room : List ℤ) (c : List ℕ) → Contains ((sorted_floor columns rows).choices g room) c → IsGatheredChoice (slice_index columns g) room c
gathered-choice columns rows g room c o =
    let both = filtered_from (is_gathered (sizes_in room)) c (choices (slice_index columns g) (sizes_in room)) o in
    record { allowed = both.0; gathered = both.1 }

pub among-all : (columns rows : List ℕ) (g : ℕ) (room : List ℤ) (c : List ℕ) → Contains ((sorted_floor columns rows).choices g room) c → Contains (choices (slice_index columns g) (sizes_in room)) c
among-all columns rows g room c o = (gathered-choice columns rows g room c o).allowed

module _ (columns rows : List ℕ) where
  pub sorted_width : KeepsWidth (sorted_floor columns rows)
  sorted_width = record {
    first_long = length-pos rows;
    next_long = λ g room c e. length-pos (falling (minus (sizes_in room) c)) ∙ length-in_order is_at_least (minus (sizes_in room) c) ∙ length-minus (sizes_in room) c ∙ length-abs room ∙ e;
  }

  reached_stage : (g : ℕ) (room : List ℤ) → IsReached (alone (plan columns rows)) g room → g ≤ length columns
  reached_stage zero room r = omega arith
  reached_stage (suc g) room (j, c, r, before, o, e) = omega (arith, before)

  -- sizes in falling order are left where the sizes are
  pub left-falling : falling rows ≡ rows → (g : ℕ) (r : List ℕ) → AreLeft columns rows g r → AreLeft columns rows g (falling r)
  left-falling falls g r l = record {
    whole = l.whole ∙ sym (sum-falling r);
    within = within-fits (falling r) rows (rw falls at (within-falling r rows (fits-within r rows l.within)));
  }

  -- what a reached room has
  pub record IsLeftRoom (g : ℕ) (room : List ℤ) : Type 0 where
    pub held : room ≡ map pos (sizes_in room)
    pub left : AreLeft columns rows g (sizes_in room)

  module _ (level : sum columns ≡ sum rows) (falls : falling rows ≡ rows) where
    pub left-start : IsLeftRoom 0 (map pos rows)
    left-start = record {
      held = ap (map pos) (sym (sizes-back rows));
      left = subst (AreLeft columns rows 0) (sym (sizes-back rows)) (left-first columns rows level);
    }

    pub left-onward : (g : ℕ) (room : List ℤ) (c : List ℕ) → g < length columns → IsLeftRoom g room → Contains (choices (slice_index columns g) (sizes_in room)) c → IsLeftRoom (suc g) (map pos (falling (minus (sizes_in room) c)))
    left-onward g room c before past o =
        let sizes : sizes_in (map pos (falling (minus (sizes_in room) c))) ≡ falling (minus (sizes_in room) c) = sizes-fallen (minus (sizes_in room) c) in
        let next : AreLeft columns rows (g + 1) (minus (sizes_in room) c) = left-next columns rows level g (sizes_in room) c before past.left (chosen (slice_index columns g) (sizes_in room) c o) in
        let fallen : AreLeft columns rows (g + 1) (falling (minus (sizes_in room) c)) = left-falling falls (g + 1) (minus (sizes_in room) c) next in
        record {
          held = ap (map pos) (sym sizes);
          left = rw (sizes, ← add-one) fallen;
        }

    left_room : (g : ℕ) (room : List ℤ) → IsReached (alone (plan columns rows)) g room → IsLeftRoom g room
    left_room zero room r = rw r left-start
    left_room (suc g) room (j, c, r, before, o, e) = rw e (left-onward g j c before (left_room g j r) (among-all columns rows g j c (is_allowed (plan columns rows) g j c before o)))

    -- what remains of a room weighs as many labellings as its sizes have
    pub rest_is : (g : ℕ) (room : List ℤ) → IsReached (alone (plan columns rows)) g room → total_weight (alone (plan columns rows)) g room ≡ number_of_labellings (sizes_in room)
    unfolding total_weight
    rest_is g room r =
        let h : IsLeftRoom g room = left_room g room r in
        let here : g ≤ length columns = reached_stage g room r in
        let n : ℕ = length columns - g in
        let sizes : List ℕ = sizes_in room in
        ap (λ k. sum_by (path_weight (alone (plan columns rows)) g k) (paths (alone (plan columns rows)) n g k)) h.held
        ∙ sum_by-same _ _ (λ w. sym (mul-one (path_weight (alone (plan columns rows)) g (map pos sizes) w))) (paths (alone (plan columns rows)) n g (map pos sizes))
        ∙ ways_from columns rows n g sizes (λ w. 1) (omega (arith, here))
        ∙ grouping (drop g columns) sizes (λ w. 1) h.left.whole
        ∙ sum_by-one (labellings sizes)

    enough : (g : ℕ) (room : List ℤ) → IsReached (alone (plan columns rows)) g room → g < length columns → slice_index columns g ≤ sum (sizes_in room)
    enough g room r before =
        let left : AreLeft columns rows g (sizes_in room) = (left_room g room r).left in
        let more : sum (drop g columns) ≡ get_or columns g 0 + sum (drop (g + 1) columns) = sum_by-drop_more (λ x. x) columns g 0 before in
        omega (arith, more, left.whole)

    -- the first choice is one, and the others come after it
    first_is : (g : ℕ) (room : List ℤ) → IsReached (alone (plan columns rows)) g room → g < length columns → (sorted_floor columns rows).choices g room ≡ least (slice_index columns g) (sizes_in room) ∷ (sorted_floor columns rows).later g room (least (slice_index columns g) (sizes_in room))
    first_is g room r before = first-gathered (slice_index columns g) (sizes_in room) (enough g room r before)

    some_way : (g : ℕ) (room : List ℤ) → IsReached (alone (plan columns rows)) g room → g < length columns → (sorted_floor columns rows).choices g room ≢ []
    some_way g room r before e = let first = first_is g room r before in absurd (cc (first, e))

  module _ (width : ℕ) (a : AreSorted columns rows width) where
    pub sorted_plan_sound : IsPlan (plan columns rows)
    sorted_plan_sound = record {
      first_long = sorted_width.first_long;
      next_long = sorted_width.next_long;
      some_choice = some_way a.sound.level a.falls;
      different = λ g room r before. AllPairs-filter ◌≢◌ (is_gathered (sizes_in room)) (choices (slice_index columns g) (sizes_in room)) (choices-differ (slice_index columns g) (sizes_in room));
      weighty = λ g room c r before o. omega (arith, number_of_labellings-positive c, weighs-itself (slice_index columns g) (sizes_in room) c (chosen (slice_index columns g) (sizes_in room) c (among-all columns rows g room c o)) (gathered-choice columns rows g room c o).gathered);
      fits = rw (rest_is a.sound.level a.falls 0 (map pos rows) refl, sizes-back rows) a.sound.total;
    }

    room-for : (g : ℕ) (room : List ℤ) → IsLeftRoom g room → length room ≡ length rows → (column : ℕ) → column ≤ sum (sizes_in room) → IsRoomFor width column room
    room-for g room h long column enough =
        let less : sum (sizes_in room) ≤ sum rows = omega (arith, h.left.whole, sum_by-take-drop (λ v. v) columns g, a.sound.level) in
        record {
          few = omega (arith, long, a.sound.few);
          sizes = sizes-of_pos (sizes_in room) (omega (arith, less, a.sound.units)) room h.held;
          small = omega (arith, less, a.sound.units);
          held = held-within width rows (sizes_in room) h.left.within a.held;
          fits = omega (arith, fewer-labellings (sizes_in room) rows h.left.within, a.sound.total);
          enough = enough;
        }

    -- what is known of a reached room
    pub room_seat : (g : ℕ) (room : List ℤ) → IsReached (alone (plan columns rows)) g room → RoomSeat columns rows width g room
    room_seat g room r =
        let h : IsLeftRoom g room = left_room a.sound.level a.falls g room r in
        let long : length room ≡ length rows = sym (length-abs room) ∙ fits-long (sizes_in room) rows h.left.within in
        record {
          long = long;
          fits = room-for g room h long 0 (omega arith);
          rest = rest_is a.sound.level a.falls g room r;
          before = λ b. room-for g room h long _ (enough a.sound.level a.falls g room r b);
          first = first_is a.sound.level a.falls g room r;
        }
