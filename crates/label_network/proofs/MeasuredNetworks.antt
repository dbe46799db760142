-- The network of a measure: what its keys have, that it is lawful, and what it ends at.
use Rattle.std.proofs.Common.{◌≡◌, ℕ, zero, suc, ◌+◌, ◌-◌, ◌*◌, ◌<◌, ◌≤◌, List, [], ◌∷◌, map, drop, length, refl, sym, ◌∙◌, ap, arith, add-one, drop-cons, drop_of_length-le, ◌≢◌, take, AllPairs, subst, length-append, inl, inr, Bool}
use Rattle.std.specs.Prelude.{ℤ, pos, slice_index}
use Rattle.std.specs.List.{sum_by, sum, filter}
use Rattle.std.proofs.lemmas.Bool.{lt-ltb, cases_lt}
use Rattle.std.proofs.lemmas.List.{take-append-drop}
use Rattle.weights.specs.Grouped.{minus, tables, table_weight}
use Rattle.weights.specs.Labellings.{number_of_labellings, labellings}
use Rattle.weights.specs.declared.TheConstants.{MAX}
use Rattle.weights.specs.declared.tails.Tail.{Tail}
use Rattle.weights.proofs.Filters.{flat_map-same}
use Rattle.weights.proofs.Sums.{sum_by-same, sum_by-filter, sum_by-one}
use Rattle.weights.proofs.FirstLabel.{number_of_labellings-positive}
use Rattle.weights.proofs.Chosen.{one_if}
use Rattle.weights.proofs.GroupingLaw.{grouping, one-times}
use Rattle.networks.specs.Completions.{completions, path_weight, paths, total_weight, ending_weight, extreme_weight, value_weights}
use Rattle.networks.specs.Network.{IsReached}
use Rattle.networks.specs.Laws.{IsLawful}
use Rattle.room_network.specs.Plans.{alone, Plan}
use Rattle.room_network.proofs.RoomKeys.{KeepsWidth, back_is, front_is, is_allowed, choices_before, choices_past}
use Rattle.label_network.specs.LabelRooms.{label_floor, label_plan, IsLabelled}
use Rattle.label_network.specs.Meanings.{sizes_in}
use Rattle.label_network.specs.Measures.{AreReached, Measured, left_after, measured_network, partial_of, remaining_of, completion_of, extreme_labellings, passing_labellings}
use Rattle.label_network.specs.LabelSteps.{AreParts, IsSeated}
use Rattle.label_network.proofs.LabelPlans.{label_width, reached_stage, sizes-back, tables_left, rest_is, some_way}
use Rattle.label_network.proofs.Differing.{choices-differ}

module _ (m : Measured) where
  widths : KeepsWidth (label_floor m.columns m.rows)
  widths = label_width m.columns m.rows

  remaining-next : (g : ℕ) (k : List ℤ) (c : List ℕ) → length (remaining_of m k) ≡ length m.rows → remaining_of m ((measured_network m).next g k c) ≡ left_after (remaining_of m k) c
  remaining-next g k c l = front_is (length m.rows) (left_after (remaining_of m k) c) (m.advance g (remaining_of m k) c (partial_of m k)) (widths.next_long g (remaining_of m k) c l)

  pub first-remaining : remaining_of m (measured_network m).first ≡ map pos m.rows
  first-remaining = front_is (length m.rows) (map pos m.rows) m.first widths.first_long

  pub first-long : length (remaining_of m (measured_network m).first) ≡ length m.rows
  first-long = ap length first-remaining ∙ widths.first_long

  -- what every reached key has
  pub record IsKey (g : ℕ) (k : List ℤ) : Type 0 where
    pub long : length (remaining_of m k) ≡ length m.rows
    pub room : IsReached (alone (label_plan m.columns m.rows)) g (remaining_of m k)
    pub reached : AreReached m g (remaining_of m k) (partial_of m k)

  pub is_key : (g : ℕ) (k : List ℤ) → IsReached (measured_network m) g k → IsKey g k
  is_key zero k r = rw r (record {
    long = first-long;
    room = first-remaining;
    reached = (first-remaining, back_is (length m.rows) (map pos m.rows) m.first widths.first_long);
  })
  is_key (suc g) k (j, c, r, before, o, e) =
      let past : IsKey g j = is_key g j r in
      let next : length (left_after (remaining_of m j) c) ≡ length m.rows = widths.next_long g (remaining_of m j) c past.long in
      let remaining : remaining_of m k ≡ left_after (remaining_of m j) c = ap (remaining_of m) e ∙ remaining-next g j c past.long in
      let partial : partial_of m k ≡ m.advance g (remaining_of m j) c (partial_of m j) = ap (partial_of m) e ∙ back_is (length m.rows) _ _ next in
      record {
        long = ap length remaining ∙ next;
        room = (remaining_of m j, c, past.room, before, o, remaining);
        reached = (remaining_of m j, partial_of m j, c, past.reached, before, is_allowed (label_plan m.columns m.rows) g (remaining_of m j) c before o, remaining, partial);
      }

  paths_are : (n g : ℕ) (k : List ℤ) → length (remaining_of m k) ≡ length m.rows → g + n ≡ length m.columns → paths (measured_network m) n g k ≡ tables (drop g m.columns) (sizes_in (remaining_of m k))
  paths_are zero g k l e = rw (drop_of_length-le m.columns {i = g} (omega arith)) refl
  paths_are (suc n) g k l e =
      let before : g < length m.columns = omega arith in
      let split : drop g m.columns ≡ slice_index m.columns g ∷ drop (g + 1) m.columns = rw add-one (drop-cons m.columns g 0 before) in
      let long = λ (c : List ℕ). ap length (remaining-next g k c l) ∙ widths.next_long g (remaining_of m k) c l in
      let sizes = λ (c : List ℕ). ap sizes_in (remaining-next g k c l) ∙ sizes-back (minus (sizes_in (remaining_of m k)) c) in
      rw (lt-ltb g (length m.columns) before, split) (flat_map-same _ _ (λ c.
      ap (map (λ cs. c ∷ cs)) (paths_are n (g + 1) ((measured_network m).next g k c) (long c) (omega arith) ∙ ap (tables (drop (g + 1) m.columns)) (sizes c))) _)

  pub completions_are : (g : ℕ) (k : List ℤ) → length (remaining_of m k) ≡ length m.rows → g ≤ length m.columns → completions (measured_network m) g k ≡ tables (drop g m.columns) (sizes_in (remaining_of m k))
  completions_are g k l h = paths_are (length m.columns - g) g k l (omega (arith, h))

  pub path_weight_is : (g : ℕ) (k : List ℤ) (w : List (List ℕ)) → path_weight (measured_network m) g k w ≡ table_weight w
  path_weight_is g k [] = refl
  path_weight_is g k (c ∷ w) = ap (λ n. number_of_labellings c * n) (path_weight_is (g + 1) ((measured_network m).next g k c) w)

  -- what remains of a key weighs as many labellings as its sizes have
  pub total_is : sum m.columns ≡ sum m.rows → (g : ℕ) (k : List ℤ) → IsKey g k → total_weight (measured_network m) g k ≡ number_of_labellings (sizes_in (remaining_of m k))
  unfolding total_weight
  total_is level g k h =
      ap (sum_by (path_weight (measured_network m) g k)) (completions_are g k h.long (reached_stage m.columns m.rows g (remaining_of m k) h.room))
      ∙ sum_by-same _ table_weight (path_weight_is g k) (tables (drop g m.columns) (sizes_in (remaining_of m k)))
      ∙ tables_left m.columns m.rows level g (remaining_of m k) h.room

module _ (m : Measured) (columns rows : List ℕ) (f : IsSeated m columns rows) where
  abbrev plan : Plan
  plan = label_plan m.columns m.rows

  labelled : IsLabelled m.columns m.rows
  labelled = rw (f.margins.columns_are, f.margins.rows_are) at f.margins.labelled

  key_long : (g : ℕ) (k : List ℤ) → IsReached (measured_network m) g k → length k ≡ length m.rows + m.slots
  key_long g k r =
      let h : IsKey m g k = is_key m g k r in
      ap length (sym (take-append-drop (length m.rows) k)) ∙ omega (arith, length-append (remaining_of m k) (partial_of m k), h.long, f.sound.wide g (remaining_of m k) (partial_of m k) h.reached)

  some : (g : ℕ) (k : List ℤ) → IsReached (measured_network m) g k → g < length m.columns → (measured_network m).choices g k ≢ []
  some g k r before e = some_way m.columns m.rows labelled.level g (remaining_of m k) (is_key m g k r).room before (sym (choices_before plan g (remaining_of m k) before) ∙ e)

  differing : (g : ℕ) (k : List ℤ) → AllPairs ◌≢◌ ((measured_network m).choices g k)
  differing g k = elim (cases_lt g (length m.columns)) [
    | inl before ↦ subst (AllPairs ◌≢◌) (sym (choices_before plan g (remaining_of m k) before)) (choices-differ (slice_index m.columns g) (sizes_in (remaining_of m k)))
    | inr past ↦ subst (AllPairs ◌≢◌) (sym (choices_past plan g (remaining_of m k) (omega (arith, past)))) (λ i j d below within. absurd (omega (arith, within)))
  ]

  first_total : total_weight (measured_network m) 0 (measured_network m).first ≤ MAX
  first_total = rw (total_is m labelled.level 0 (measured_network m).first (is_key m 0 (measured_network m).first refl), first-remaining m, sizes-back m.rows) labelled.total

  pub measured_lawful : IsLawful (measured_network m)
  measured_lawful = record {
    width_least = omega (arith, f.margins.some, ap length f.margins.rows_are);
    width_most = omega (arith, f.margins.wide, ap length f.margins.rows_are);
    long = key_long;
    some_choice = some;
    weighty = λ g k c r o. number_of_labellings-positive c;
    different = λ g k r. differing g k;
    ends = λ k r. choices_past plan (length m.columns) (remaining_of m k) (omega arith);
    fits = first_total;
    inside = f.sound.inside;
    outside = f.sound.outside;
    decided = f.sound.decided;
  }

  -- of a key, and how many sizes there are
  module _ (g : ℕ) (k : List ℤ) (r : IsReached (measured_network m) g k) (n : ℕ) (e : n ≡ length rows) where
    own : n ≡ length m.rows
    own = e ∙ ap length f.margins.rows_are

    pub parts_short : n ≤ length k
    parts_short = omega (arith, own, key_long g k r)

    pub parts_are : AreParts m columns rows g k (take n k) (drop n k)
    parts_are =
        let h : IsKey m g k = is_key m g k r in
        rw (own, f.margins.columns_are, f.margins.rows_are) (record {
          remaining_is = refl;
          partial_is = refl;
          room = h.room;
          reached = h.reached;
          total = rest_is m.columns m.rows labelled.level g (remaining_of m k) h.room ∙ sym (total_is m labelled.level g k h);
        })

module _ (m : Measured) (level : sum m.columns ≡ sum m.rows) where
  abbrev first : List ℤ
  first = (measured_network m).first

  tables_are : completions (measured_network m) 0 first ≡ tables m.columns m.rows
  tables_are = completions_are m 0 first (first-long m) (omega arith) ∙ ap (tables m.columns) (ap sizes_in (first-remaining m) ∙ sizes-back m.rows)

  -- the completions that pass weigh as many labellings as pass
  counted : (p : List (List ℕ) → Bool) → sum_by (path_weight (measured_network m) 0 first) (filter p (completions (measured_network m) 0 first)) ≡ length (filter (λ xs. p (completion_of m xs)) (labellings m.rows))
  counted p =
      let weight = path_weight (measured_network m) 0 first in
      ap (λ ws. sum_by weight (filter p ws)) tables_are
      ∙ sum_by-filter weight p (tables m.columns m.rows)
      ∙ sum_by-same _ _ (λ w. sym (one-times (weight w) (p w)) ∙ ap (λ n. n * one_if (p w)) (path_weight_is m 0 first w)) (tables m.columns m.rows)
      ∙ grouping m.columns m.rows (λ w. one_if (p w)) level
      ∙ sym (sum_by-filter (λ xs. 1) (λ xs. p (completion_of m xs)) (labellings m.rows))
      ∙ sum_by-one _

  pub values_counted : (p : ℤ → Bool) → value_weights (measured_network m) p ≡ passing_labellings m p
  unfolding ending_weight
  values_counted p = counted _

  pub extreme_counted : (t : Tail) → extreme_weight (measured_network m) t 0 first ≡ extreme_labellings m t
  unfolding extreme_weight
  extreme_counted t = counted _
