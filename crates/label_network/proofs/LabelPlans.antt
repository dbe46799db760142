-- The rooms of labels: their ways are the tables of counts, which give the labellings; and what a reached room has.
use Rattle.std.proofs.Common.{◌≡◌, ◌≢◌, ℕ, zero, suc, ◌+◌, ◌-◌, ◌*◌, ◌<◌, ◌≤◌, List, [], ◌∷◌, map, drop, length, true, refl, sym, ◌∙◌, ap, subst, arith, add-one, drop-cons, drop_of_length-le, mul-one}
use Rattle.std.specs.Prelude.{ℤ, pos, slice_index}
use Rattle.std.specs.List.{sum_by, sum, Contains}
use Rattle.std.proofs.lemmas.Bool.{lt-ltb}
use Rattle.std.proofs.lemmas.List.Sums.{sum_by-drop_more, sum_by-take-drop}
use Rattle.weights.specs.Grouped.{choices, columns_of, fits, minus, tables, table_weight}
use Rattle.weights.specs.Labellings.{labellings, number_of_labellings}
use Rattle.weights.proofs.ChoiceLists.{IsChoice}
use Rattle.weights.proofs.Filters.{flat_map-same}
use Rattle.weights.proofs.FirstLabel.{number_of_labellings-positive}
use Rattle.weights.proofs.GroupingLaw.{grouping}
use Rattle.weights.proofs.Sized.{length-minus}
use Rattle.weights.proofs.Sums.{sum_by-same, sum_by-one}
use Rattle.networks.specs.Completions.{paths, path_weight, total_weight}
use Rattle.networks.specs.Network.{IsReached}
use Rattle.room_network.specs.Plans.{Plan, IsPlan, alone, way_weight}
use Rattle.room_network.proofs.RoomKeys.{KeepsWidth, is_allowed}
use Rattle.label_network.specs.LabelRooms.{GivesLabellings, IsLabelled, label_floor, label_plan}
use Rattle.label_network.specs.LabelSteps.{ChoiceSeat, RoomSeat, AreLabels, least}
use Rattle.label_network.specs.Meanings.{sizes_in}
use Rattle.label_network.proofs.Differing.{choices-differ}
use Rattle.label_network.proofs.LaterChoices.{least-first}
use Rattle.label_network.proofs.Narrowing.{AreLeft, chosen, left-first, left-next}
use Rattle.label_network.proofs.Rows.{fits-long, length-abs, length-pos}
use Rattle.label_network.proofs.Sizes.{fewer-labellings, fits-chain, held-within, sizes-of_pos}

pub sizes-back : (xs : List ℕ) → sizes_in (map pos xs) ≡ xs
sizes-back [] = refl
sizes-back (x ∷ xs) = ap (λ ys. x ∷ ys) (sizes-back xs)

once : (n : ℕ) → n ≡ 1 * n
once n = omega arith

module _ (columns rows : List ℕ) where
  abbrev plan : Plan
  plan = label_plan columns rows

  -- the ways are the tables
  paths_are : (n g : ℕ) (r : List ℕ) → g + n ≡ length columns → paths (alone plan) n g (map pos r) ≡ tables (drop g columns) r
  paths_are zero g r e = rw (drop_of_length-le columns {i = g} (omega arith)) refl
  paths_are (suc n) g r e =
      let before : g < length columns = omega arith in
      let split : drop g columns ≡ slice_index columns g ∷ drop (g + 1) columns = rw add-one (drop-cons columns g 0 before) in
      rw (lt-ltb g (length columns) before, split, sizes-back r) (flat_map-same _ _ (λ c.
      ap (map (λ cs. c ∷ cs)) (paths_are n (g + 1) (minus r c) (omega arith))) (choices (slice_index columns g) r))

  way_weight_is : (g : ℕ) (room : List ℤ) (w : List (List ℕ)) → path_weight (alone plan) g room w ≡ table_weight w
  way_weight_is g room [] = refl
  way_weight_is g room (c ∷ w) = ap (λ n. number_of_labellings c * n) (way_weight_is (g + 1) (map pos (minus (sizes_in room) c)) w)

  pub label_width : KeepsWidth (label_floor columns rows)
  label_width = record {
    first_long = length-pos rows;
    next_long = λ g room c e. length-pos (minus (sizes_in room) c) ∙ length-minus (sizes_in room) c ∙ length-abs room ∙ e;
  }

  -- the law, by the grouping law
  pub labels_give : sum columns ≡ sum rows → GivesLabellings columns rows
  labels_give level = record {
    law = λ f.
        ap (sum_by (λ w. way_weight plan w * f w)) (paths_are (length columns - 0) 0 rows (omega arith))
        ∙ sum_by-same _ _ (λ w. ap (λ n. n * f w) (way_weight_is 0 (map pos rows) w)) (tables columns rows)
        ∙ grouping columns rows f level
        ∙ sum_by-same _ _ (λ xs. once (f (columns_of (length rows) columns xs))) (labellings rows);
  }

  pub reached_stage : (g : ℕ) (room : List ℤ) → IsReached (alone plan) g room → g ≤ length columns
  reached_stage zero room r = omega arith
  reached_stage (suc g) room (j, c, r, before, o, e) = omega (arith, before)

  -- what a reached room has
  record IsLeftRoom (g : ℕ) (room : List ℤ) : Type 0 where
    pub held : room ≡ map pos (sizes_in room)
    pub left : AreLeft columns rows g (sizes_in room)

  module _ (level : sum columns ≡ sum rows) where
    left_room : (g : ℕ) (room : List ℤ) → IsReached (alone plan) g room → IsLeftRoom g room
    left_room zero room r = rw r (record {
      held = ap (map pos) (sym (sizes-back rows));
      left = subst (AreLeft columns rows 0) (sym (sizes-back rows)) (left-first columns rows level);
    })
    left_room (suc g) room (j, c, r, before, o, e) =
        let sizes : sizes_in room ≡ minus (sizes_in j) c = ap sizes_in e ∙ sizes-back (minus (sizes_in j) c) in
        record {
          held = e ∙ ap (map pos) (sym sizes);
          left = rw (sizes, ← add-one) (left-next columns rows level g (sizes_in j) c before (left_room g j r).left (chosen (slice_index columns g) (sizes_in j) c (is_allowed plan g j c before o)));
        }

    -- the tables of what remains weigh as much as its sizes have labellings
    pub tables_left : (g : ℕ) (room : List ℤ) → IsReached (alone plan) g room → sum_by table_weight (tables (drop g columns) (sizes_in room)) ≡ number_of_labellings (sizes_in room)
    tables_left g room r =
        sum_by-same table_weight (λ w. table_weight w * 1) (λ w. sym (mul-one (table_weight w))) (tables (drop g columns) (sizes_in room))
        ∙ grouping (drop g columns) (sizes_in room) (λ w. 1) (left_room g room r).left.whole
        ∙ sum_by-one (labellings (sizes_in room))

    pub rest_is : (g : ℕ) (room : List ℤ) → IsReached (alone plan) g room → total_weight (alone plan) g room ≡ number_of_labellings (sizes_in room)
    unfolding total_weight
    rest_is g room r =
        let here : g ≤ length columns = reached_stage g room r in
        ap (sum_by (path_weight (alone plan) g room)) (ap (paths (alone plan) (length columns - g) g) (left_room g room r).held ∙ paths_are (length columns - g) g (sizes_in room) (omega (arith, here)))
        ∙ sum_by-same (path_weight (alone plan) g room) table_weight (λ w. way_weight_is g room w) (tables (drop g columns) (sizes_in room))
        ∙ tables_left g room r

    enough : (g : ℕ) (room : List ℤ) → IsReached (alone plan) g room → g < length columns → slice_index columns g ≤ sum (sizes_in room)
    enough g room r before =
        omega (arith, (sum_by-drop_more (λ x. x) columns g 0 before), ((left_room g room r).left).whole)

    -- the first choice is one, and the others come after it
    first_is : (g : ℕ) (room : List ℤ) → IsReached (alone plan) g room → g < length columns → plan.floor.choices g room ≡ least (slice_index columns g) (sizes_in room) ∷ plan.floor.later g room (least (slice_index columns g) (sizes_in room))
    first_is g room r before = least-first (slice_index columns g) (sizes_in room) (enough g room r before)

    pub some_way : (g : ℕ) (room : List ℤ) → IsReached (alone plan) g room → g < length columns → plan.floor.choices g room ≢ []
    some_way g room r before e = let first = first_is g room r before in absurd (cc (first, e))

  pub label_plan_sound : IsLabelled columns rows → IsPlan plan
  label_plan_sound s = record {
    first_long = label_width.first_long;
    next_long = label_width.next_long;
    some_choice = some_way s.level;
    different = λ g room r before. choices-differ (slice_index columns g) (sizes_in room);
    weighty = λ g room c r before o. number_of_labellings-positive c;
    fits = rw (rest_is s.level 0 (map pos rows) refl, sizes-back rows) s.total;
  }

  module _ (width : ℕ) (a : AreLabels columns rows width) where
    pub room_parts : (g : ℕ) (room : List ℤ) → IsReached (alone plan) g room → RoomSeat columns rows width g room
    room_parts g room r =
        let s : IsLabelled columns rows = a.sound in
        let h : IsLeftRoom g room = left_room s.level g room r in
        let less : sum (sizes_in room) ≤ sum rows = omega (arith, h.left.whole, sum_by-take-drop (λ v. v) columns g, s.level) in
        let long : length room ≡ length rows = sym (length-abs room) ∙ fits-long (sizes_in room) rows h.left.within in
        record {
          long = long;
          few = omega (arith, long, s.few);
          sizes = sizes-of_pos (sizes_in room) (omega (arith, less, s.units)) room h.held;
          small = omega (arith, less, s.units);
          held = held-within width rows (sizes_in room) h.left.within a.held;
          fits = omega (arith, fewer-labellings (sizes_in room) rows h.left.within, s.total);
          total = rest_is s.level g room r;
          enough = enough s.level g room r;
          first = first_is s.level g room r;
        }

    pub choice_seat : (g : ℕ) (room : List ℤ) (c : List ℕ) → IsReached (alone plan) g room → Contains (plan.floor.choices g room) c → ChoiceSeat columns width g room c
    choice_seat g room c r o =
        let here : IsChoice (slice_index columns g) (sizes_in room) c = chosen (slice_index columns g) (sizes_in room) c o in
        let within : fits c rows ≡ true = fits-chain c (sizes_in room) rows here.fitting (left_room a.sound.level g room r).left.within in
        record {
          whole = sym here.whole;
          fitting = here.fitting;
          held = held-within width rows c within a.held;
          small = omega (arith, fewer-labellings c rows within, a.sound.total);
        }
