-- What the measure of sums of products knows at each of its keys.
use Rattle.std.proofs.Common.{◌≡◌, ℕ, zero, suc, ◌+◌, ◌-◌, ◌*◌, ◌^◌, ◌<◌, ◌≤◌, ◌⊎◌, List, length, get_or, take, drop, sym, ◌∙◌, ap, subst, arith, inl, inr}
use Rattle.std.specs.Prelude.{ℤ, unsigned_abs, slice_index}
use Rattle.std.specs.List.{sum, Contains}
use Rattle.std.proofs.Math.Nat.{mul-le-mul, mul-le-mul_left, le_refl}
use Rattle.std.proofs.lemmas.Bool.{cases_lt}
use Rattle.std.proofs.lemmas.List.{length-map}
use Rattle.std.proofs.lemmas.List.Sums.{sum_by-take-drop, sum_by-drop_more}
use Rattle.weights.specs.declared.TheConstants.{MAX}
use Rattle.networks.specs.declared.verdicts.Judge.{Judge}
use Rattle.weights.proofs.ChoiceLists.{IsChoice}
use Rattle.completion_bounds.specs.Pairings.{greatest_score}
use Rattle.room_network.specs.Numbers.{IsScalar, IsOutcome, so_far}
use Rattle.room_network.specs.declared.numbers.Operation.TheVariants.{Sum}
use Rattle.later_scores.specs.LaterSums.{later_scores}
use Rattle.later_scores.proofs.Absolute.{sizes-block}
use Rattle.later_scores.proofs.Stages.{sizes-some}
use Rattle.later_scores.proofs.Later.{later-next}
use Rattle.label_network.specs.LabelNetwork.{over_rooms, over_sizes}
use Rattle.label_network.specs.LabelRooms.{label_floor}
use Rattle.room_network.specs.Meanings.{AreReached}
use Rattle.label_network.specs.Meanings.{Meaning, IsPlace, allowed, sizes_in}
use Rattle.label_network.specs.Meanings.{AreReached as LabelReached}
use Rattle.label_network.specs.declared.linear.LinearMeasure.{LinearMeasure}
use Rattle.weights.specs.Numbers.{absolute_sum}
use Rattle.label_network.specs.Linear.{row_sum, least_paired, greatest_paired, score_of, column_sum, linear_meaning, linear_numbers, greatest_sizes}
use Rattle.label_network.specs.LinearSteps.{least_added, greatest_added, picked, order_of, ordered_scores, whole_reach, AreAddable, HasTails, ArePlaces, IsLinearMeasure}
use Rattle.label_network.proofs.Rows.{length-abs}
use Rattle.label_network.proofs.Sizes.{sizes-of_pos}
use Rattle.label_network.proofs.Narrowing.{IsLeft, chosen}
use Rattle.label_network.proofs.Ascending.{ascending, order-inside}
use Rattle.label_network.proofs.Rearranging.{picked-fits}
use Rattle.label_network.proofs.Enough.{tails-enough}
use Rattle.label_network.proofs.LinearSizes.{picked-within, reach-within, row-size}
use Rattle.label_network.proofs.OverRooms.{over_number, over_place}
use Rattle.label_network.proofs.LinearNarrows.{IsPartial, least-stepwise, greatest-stepwise, linear_measure, reached_left, reached_partial, rows-level, ordered-whole, low-small, high-small, low-rule, high-rule, choice-level, column-small}

pub reached-stage : (m : Meaning) (g : ℕ) (r : List ℕ) (p : List ℤ) → LabelReached m g r p → g ≤ length m.columns
reached-stage m zero r p a = omega arith
reached-stage m (suc g) r p (s, q, c, a, before, o, e, f) = omega (arith, before)

module _ (m : LinearMeasure) where
  abbrev us : List ℤ
  us = m.scores.items

  abbrev rows : List ℕ
  rows = m.rows.items

  abbrev scores : List ℤ
  scores = m.later.scores.items

  abbrev columns : List ℕ
  columns = m.later.columns.items

  abbrev order : List ℕ
  order = m.order.items

  abbrev ordered_us : List ℤ
  ordered_us = m.ordered.items

  abbrev judge : Judge
  judge = m.judge

  abbrev width : ℕ
  width = m.later.width

  abbrev meaning : Meaning
  meaning = linear_meaning us rows scores columns judge

  h : IsLinearMeasure us rows scores columns width order ordered_us judge
  h = m.right

  reach-small : whole_reach ordered_us ≤ 3 * greatest_score us
  reach-small = subst (λ vs. whole_reach vs ≤ 3 * greatest_score us) (sym h.ordered_is) (reach-within (ordered_scores us) (greatest_score us) (ascending us) (picked-within (order_of us) us))

  steps-fit : whole_reach ordered_us < 2 ^ 127
  steps-fit = omega (arith, reach-small, h.linear.scores_fit)

  module _ (g : ℕ) (f p : List ℤ) (r : AreReached (over_rooms meaning) g f p) where
    a : IsPlace meaning g f p
    a = over_place meaning g f p r

    left : IsLeft meaning g (sizes_in f)
    left = reached_left us rows scores columns judge h.linear g (sizes_in f) p a.reached

    pub partial_is : IsPartial us scores columns g (sizes_in f) p
    partial_is = reached_partial us rows scores columns judge h.linear g (sizes_in f) p a.reached

    sizes-few : sum (sizes_in f) < 2 ^ 64
    sizes-few = omega (arith, left.whole, h.linear.level, h.linear.units, sum_by-take-drop (λ v. v) columns g)

    rows-long : length f ≡ length us
    rows-long = sym (length-abs f) ∙ rows-level us rows scores columns judge h.linear g (sizes_in f) left

    places : ArePlaces order f
    places = record {
      inside = λ i l. subst (λ js. get_or js i 0 < length f) (sym h.order_is) (omega (arith, rows-long, order-inside us i (omega (arith, l, ap length h.order_is))));
      sizes = sizes-of_pos (sizes_in f) sizes-few f a.whole;
    }

    whole : sum (picked order (sizes_in f)) ≡ length (later_scores scores columns g)
    whole = ap (λ js. sum (picked js (sizes_in f))) h.order_is ∙ ordered-whole us rows scores columns judge h.linear g (sizes_in f) left

    parted : (k : ℕ) → (sum (drop k (picked order rows)) ≤ width - 1) ⊎ (sum (take k (picked order rows)) ≤ width - 1)
    parted k = by (cases_lt (width - 1) (sum (drop k (picked order rows))))
      where
        by : (width - 1 < sum (drop k (picked order rows))) ⊎ (sum (drop k (picked order rows)) ≤ width - 1) → (sum (drop k (picked order rows)) ≤ width - 1) ⊎ (sum (take k (picked order rows)) ≤ width - 1)
        by (inl many) = inr (h.enough.each k many)
        by (inr few) = inl few

    tails : 1 ≤ width → HasTails width (picked order (sizes_in f)) (later_scores scores columns g)
    tails some =
        let back : (width - 1) + 1 ≡ width = omega (arith, some) in
        subst (λ n. HasTails n (picked order (sizes_in f)) (later_scores scores columns g)) back
        (tails-enough (width - 1) (picked order rows) (picked order (sizes_in f)) (later_scores scores columns g) parted (picked-fits order rows (sizes_in f) left.within) whole)

    later-within : absolute_sum (later_scores scores columns g) ≤ absolute_sum (later_scores scores columns 0)
    later-within = sizes-some g scores columns

    added-fits : whole_reach ordered_us * absolute_sum (later_scores scores columns g) < 2 ^ 127
    added-fits =
        omega (arith, (mul-le-mul reach-small later-within), (grouped (greatest_score us) (absolute_sum (later_scores scores columns 0))), h.linear.sums_fit)
      where
        grouped : (m s : ℕ) → (3 * m) * s ≡ 3 * (m * s)
        grouped m s = omega arith

    pub addable : AreAddable ordered_us order width f (later_scores scores columns g)
    addable = record {
      level = ap length h.ordered_is ∙ length-map (order_of us) (score_of us) ∙ sym (ap length h.order_is);
      places = places;
      whole = whole;
      tails = tails m.later.right.wide;
      steps = steps-fit;
      small = added-fits;
    }

    -- the ends that are built row by row
    pub least-built : least_added ordered_us (picked order (sizes_in f)) (later_scores scores columns g) ≡ least_paired us (sizes_in f) (later_scores scores columns g)
    least-built =
        ap (λ vs. least_added vs (picked order (sizes_in f)) (later_scores scores columns g)) h.ordered_is
        ∙ ap (λ js. least_added (ordered_scores us) (picked js (sizes_in f)) (later_scores scores columns g)) h.order_is
        ∙ sym (least-stepwise us rows scores columns judge h.linear g (sizes_in f) left)

    pub greatest-built : greatest_added ordered_us (picked order (sizes_in f)) (later_scores scores columns g) ≡ greatest_paired us (sizes_in f) (later_scores scores columns g)
    greatest-built =
        ap (λ vs. greatest_added vs (picked order (sizes_in f)) (later_scores scores columns g)) h.ordered_is
        ∙ ap (λ js. greatest_added (ordered_scores us) (picked js (sizes_in f)) (later_scores scores columns g)) h.order_is
        ∙ sym (greatest-stepwise us rows scores columns judge h.linear g (sizes_in f) left)

    sums-within : greatest_sizes us scores columns ≤ MAX
    sums-within = omega (arith, h.linear.sums_fit)

    -- what later columns add
    least-outcome : IsOutcome Sum judge (so_far p) (least_paired us (sizes_in f) (later_scores scores columns g))
    least-outcome = record {
      fits = omega (arith, sums-within, low-small us rows scores columns judge h.linear g (sizes_in f) left p partial_is);
      ruled = low-rule us rows scores columns judge h.linear g (sizes_in f) left p partial_is;
    }

    greatest-outcome : IsOutcome Sum judge (so_far p) (greatest_paired us (sizes_in f) (later_scores scores columns g))
    greatest-outcome = record {
      fits = omega (arith, sums-within, high-small us rows scores columns judge h.linear g (sizes_in f) left p partial_is);
      ruled = high-rule us rows scores columns judge h.linear g (sizes_in f) left p partial_is;
    }

    -- a choice there
    module _ (before : g < length columns) (x : List ℕ) (o : Contains (allowed meaning g (sizes_in f)) x) where
      choice : IsChoice (slice_index columns g) (sizes_in f) x
      choice = chosen (slice_index columns g) (sizes_in f) x o

      pub choice-long : length x ≡ length us
      choice-long = choice-level us rows scores columns judge h.linear g (sizes_in f) x before left choice

      pub choice-whole : sum x ≡ slice_index columns g
      choice-whole = choice.whole

      pub arc-fits : unsigned_abs (so_far p) + unsigned_abs (column_sum us scores g x) ≤ MAX
      arc-fits = omega (arith, sums-within, partial_is.small, column-small us rows scores columns judge h.linear g (sizes_in f) x before left choice)

  pub linear_number : IsScalar (label_floor columns rows) (over_sizes (linear_numbers us scores columns judge))
  linear_number =
      over_number columns rows (linear_numbers us scores columns judge) (linear_measure us rows scores columns judge h.linear)
      (λ g f x p v. arc-fits g f p v.reached v.before x v.allowed) (λ g f p r. least-outcome g f p r) (λ g f p r. greatest-outcome g f p r)

  -- of a column and counts of so many subjects
  module _ (g : ℕ) (before : g < length columns) (x : List ℕ) (whole : sum x ≡ slice_index columns g) where
    pub rows-fit : greatest_score us * sum x ≤ MAX
    rows-fit =
        let part : sum x ≤ sum rows = omega (arith, whole, h.linear.level, sum_by-take-drop (λ v. v) columns g, sum_by-drop_more (λ v. v) columns g 0 before) in
        omega (arith, mul-le-mul_left (greatest_score us) part, h.linear.rows_fit)

    pub column-fits : unsigned_abs (score_of scores g) * unsigned_abs (row_sum us x) ≤ MAX
    column-fits =
        let most : unsigned_abs (score_of scores g) * unsigned_abs (row_sum us x) ≤ unsigned_abs (score_of scores g) * (greatest_score us * slice_index columns g) = mul-le-mul_left (unsigned_abs (score_of scores g)) (rw (← whole) (row-size us x (greatest_score us) (le_refl (greatest_score us)))) in
        let split : absolute_sum (later_scores scores columns g) ≡ slice_index columns g * unsigned_abs (score_of scores g) + absolute_sum (later_scores scores columns (g + 1)) = ap absolute_sum (later-next scores columns g before h.linear.long) ∙ sizes-block (slice_index columns g) (score_of scores g) (later_scores scores columns (g + 1)) in
        let part : greatest_score us * absolute_sum (later_scores scores columns g) ≤ greatest_score us * absolute_sum (later_scores scores columns 0) = mul-le-mul_left (greatest_score us) (sizes-some g scores columns) in
        omega (arith, most, (ap (λ n. greatest_score us * n) split ∙ apart (greatest_score us) (slice_index columns g) (unsigned_abs (score_of scores g)) (absolute_sum (later_scores scores columns (g + 1)))), part, h.linear.sums_fit)
      where
        apart : (m c v s : ℕ) → m * (c * v + s) ≡ v * (m * c) + m * s
        apart m c v s = omega arith
