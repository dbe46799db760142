-- What is kept of the strata from each one on: what can be left of the sum for them, and how many of their labellings have it.
use Rattle.std.proofs.Common.{◌≡◌, ℕ, zero, suc, ◌+◌, ◌-◌, ◌*◌, ◌<◌, ◌≤◌, List, [], ◌∷◌, length, drop, sym, ap, subst, arith, ◌++◌, length-append, inl, inr, refl, ◌∙◌, lit≤, drop_of_length-le}
use Rattle.std.specs.Prelude.{max, min, slice_index_or}
use Rattle.std.proofs.lemmas.List.Sums.{sum_by-take-drop}
use Rattle.strata_cells.specs.declared.stratum.Stratum.{Stratum}
use Rattle.strata_cells.specs.Strata.{cell_weight, greatest_cell, least_cell, stratum_at, size}
use Rattle.strata_cells.proofs.StrataSums.{next-drop, sum-step, small-at, subjects-few, sums-within}
use Rattle.strata_cells.specs.StrataLimits.{IsSmall}
use Rattle.zelen_test.specs.ZelenNetwork.{greatest_choice, greatest_first_cells, least_choice, least_first_cells, number_with}
use Rattle.zelen_test.specs.ZelenSteps.{CanHave, IsLeft, least_left, most_left, AreAllLaterSums, AreNumbers, AreSummed, IsCountable, AreLaterSums, IsPast, AreSumRanges, StratumSeat, choice_from, choice_to, counted, counted_cell, kept_number}
use Rattle.std.specs.List.{range_with_len, sum_by}
use Rattle.std.proofs.lemmas.Bool.{cases_lt}
use Rattle.std.proofs.lemmas.List.Elements.{recursion_from_All}
use Rattle.weights.specs.declared.TheConstants.{MAX}
use Rattle.weights.proofs.CellSums.{same-within}
use Rattle.weights.proofs.Appended.{get-front, get-last}
use Rattle.zelen_test.proofs.LabellingsWithSum.{can-next, choice-range, number-step, number_by, choice-left}
use Rattle.zelen_test.specs.declared.later_sums.LaterSums.{LaterSums}
use Rattle.zelen_test.specs.declared.later_sums.SumRanges.{SumRanges}
use Rattle.zelen_test.proofs.RemainingSums.{can-here, left-first, left-meet, left-next, number-within}
use Rattle.zelen_test.proofs.LesserWeights.{number-some}

module _ (strata : List Stratum) (sum : ℕ) (d : AreSummed strata sum) where
  drop-within : (f : Stratum → ℕ) (g : ℕ) → sum_by f (drop g strata) ≤ sum_by f strata
  drop-within f g = omega (arith, sum_by-take-drop f strata g)

  pub least-few : (g : ℕ) → least_first_cells (drop g strata) ≤ 40000000000
  least-few g = omega (arith, drop-within least_cell g, sums-within least_cell size (λ s. omega arith) strata, subjects-few strata (recursion_from_All IsSmall strata d.small) d.few)

  pub most-few : (g : ℕ) → greatest_first_cells (drop g strata) ≤ 40000000000
  most-few g = omega (arith, drop-within greatest_cell g, sums-within greatest_cell size (λ s. omega arith) strata, subjects-few strata (recursion_from_All IsSmall strata d.small) d.few)

  pub sum-few : sum ≤ 40000000000
  sum-few = omega (arith, d.can.most, most-few 0)

  -- with no stratum
  pub end-is : (end : LaterSums) → end.least ≡ 0 → end.most ≡ 0 → end.first ≡ 0 → end.numbers ≡ 1 ∷ [] → AreLaterSums strata sum (length strata) end
  end-is end a b c e =
      let none : drop (length strata) strata ≡ [] = drop_of_length-le strata {i = length strata} (omega arith) in
      let least : least_first_cells (drop (length strata) strata) ≡ 0 = ap least_first_cells none in
      let most : greatest_first_cells (drop (length strata) strata) ≡ 0 = ap greatest_first_cells none in
      let first : least_left strata sum (length strata) ≡ 0 = omega (arith, least, most, d.can.most) in
      let last : most_left strata sum (length strata) ≡ 0 = omega (arith, least, most) in
      record {
        least = a ∙ sym least;
        most = b ∙ sym most;
        first = c ∙ sym first;
        long = ap length e ∙ omega (arith, first, last);
        each = λ left i. (let here : left ≡ 0 = omega (arith, i.most, last) in
            let place : left - end.first ≡ 0 = omega (arith, here) in
            rw (e, place, none, here) refl);
        fits = λ left i. (let here : left ≡ 0 = omega (arith, i.most, last) in rw (none, here) (lit≤ tt));
      }

  module _ (g : ℕ) (before : g < length strata) (later : LaterSums) (i : AreLaterSums strata sum (g + 1) later) where
    abbrev s : Stratum
    s = stratum_at strata g

    abbrev ts : List Stratum
    ts = drop (g + 1) strata

    from-is : (left : ℕ) → choice_from s later left ≡ least_choice s ts left
    from-is left = ap (λ n. max (least_cell s) (left - n)) i.most

    to-is : (left : ℕ) → choice_to s later left ≡ greatest_choice s ts left
    to-is left = ap (λ n. min (greatest_cell s) (left - n)) i.least

    module _ (left : ℕ) (h : IsLeft strata sum g left) where
      can : CanHave (s ∷ ts) left
      can = can-here strata sum d.can g before left h

      module _ (x : ℕ) (low : least_choice s ts left ≤ x) (high : x ≤ greatest_choice s ts left) where
        next : IsLeft strata sum (g + 1) (left - x)
        next = left-next strata sum d.can g before left x h low high

        kept : kept_number later (left - x) ≡ number_with ts (left - x)
        kept = i.each (left - x) next

        some-kept : 1 ≤ kept_number later (left - x)
        some-kept = omega (arith, kept, number-some ts (left - x) (can-next s ts left can x low high))

        within-left : x ≤ left
        within-left = choice-left s ts left can x high

      pub countable : IsCountable s later left
      countable = record {
        small = small-at strata g (recursion_from_All IsSmall strata d.small);
        choices = rw (from-is left, to-is left) (choice-range s ts left can).some;
        kept = λ x l m. (let low : least_choice s ts left ≤ x = rw (from-is left) at l in
            let high : x ≤ greatest_choice s ts left = rw (to-is left) at m in
            let r = choice-range s ts left can in
            let n = next x low high in
            let w = within-left x low high in
            record {
              least = omega (arith, r.low, low);
              most = omega (arith, r.high, high);
              left_some = omega (arith, i.first, n.least, w);
              within = omega (arith, i.first, i.long, n.least, n.most, w);
              some = some-kept x low high;
            });
      }

      pub counted-is : counted s later left ≡ number_with (drop g strata) left
      counted-is =
          let r = choice-range s ts left can in
          let from : ℕ = least_choice s ts left in
          let to : ℕ = greatest_choice s ts left in
          ap (λ a. sum_by (counted_cell s later left) (range_with_len a (choice_to s later left + 1 - a))) (from-is left)
          ∙ ap (λ b. sum_by (counted_cell s later left) (range_with_len from (b + 1 - from))) (to-is left)
          ∙ same-within (counted_cell s later left) (number_by s ts left) from (to + 1 - from) (λ x l m. ap (λ n. cell_weight s x * n) (kept x l (omega (arith, m, r.some))))
          ∙ sym (number-step s ts left can)
          ∙ ap (λ all. number_with all left) (sym (next-drop strata g before))

    pub least-next : later.least + least_cell s ≡ least_first_cells (drop g strata)
    least-next = omega (arith, i.least, sum-step least_cell strata g before)

    pub most-next : later.most + greatest_cell s ≡ greatest_first_cells (drop g strata)
    most-next = omega (arith, i.most, sum-step greatest_cell strata g before)

    pub stratum-seat : StratumSeat strata sum g later
    stratum-seat = record {
      least = least-next;
      most = most-next;
      least_small = omega (arith, least-next, least-few g);
      most_small = omega (arith, most-next, most-few g);
      sum_small = omega (arith, sum-few);
    }

    -- what can be left, as it is computed
    pub ranges-are : (r : SumRanges) → r.least ≡ later.least + least_cell s → r.most ≡ later.most + greatest_cell s → r.first ≡ max (sum + r.most - greatest_first_cells strata) r.least → r.last ≡ min (sum + r.least - least_first_cells strata) r.most → AreSumRanges strata sum g later r
    ranges-are r a b c e =
        let first : r.first ≡ least_left strata sum g = omega (arith, a, b, c, least-next, most-next) in
        let last : r.last ≡ most_left strata sum g = omega (arith, a, b, e, least-next, most-next) in
        record {
          least = a ∙ least-next;
          most = b ∙ most-next;
          first = first;
          last = last;
          meet = omega (arith, first, last, left-meet strata sum d.can g);
          small = omega (arith, last, most-few g);
          each = λ left l h. countable left (record { least = omega (arith, first, l); most = omega (arith, last, h) });
        }

    module _ (r : SumRanges) (h : AreSumRanges strata sum g later r) where
      pub later-next : (numbers : List ℕ) → AreNumbers s later r.first (r.last + 1) numbers → AreLaterSums strata sum g (record { least = r.least; most = r.most; first = r.first; numbers = numbers })
      later-next numbers n = record {
        least = h.least;
        most = h.most;
        first = h.first;
        long = omega (arith, n.long, h.first, h.last);
        each = λ left i. n.each left (omega (arith, h.first, i.least)) (omega (arith, h.last, i.most)) ∙ counted-is left i;
        fits = λ left i. omega (arith, n.fits left (omega (arith, h.first, i.least)) (omega (arith, h.last, i.most)), counted-is left i);
      }

      pub past-all : IsPast s later r.first r.last → MAX < number_with strata sum
      past-all p =
          let i : IsLeft strata sum g p.left = record { least = omega (arith, h.first, p.least); most = omega (arith, h.last, p.most) } in
          omega (arith, p.past, counted-is p.left i, number-within strata sum d.can g p.left (omega (arith, before)) i)

  -- ---- all of them

  pub later_sums-first : (end : LaterSums) → AreLaterSums strata sum (length strata) end → AreAllLaterSums strata sum (length strata - 0) (end ∷ [])
  later_sums-first end i = record { long = omega arith; each = by }
    where
      by : (j : ℕ) (e : LaterSums) → j < 1 → AreLaterSums strata sum (length strata - j) (slice_index_or (end ∷ []) j e)
      by zero e h = subst (λ n. AreLaterSums strata sum n end) (let q : length strata ≡ length strata - 0 = omega arith in q) i
      by (suc j) e h = absurd (omega (arith, h))

  pub later_sums-next : (done : ℕ) (later_sums : List LaterSums) (next : LaterSums) → done < length strata → AreAllLaterSums strata sum (length strata - done) later_sums → AreLaterSums strata sum (length strata - done - 1) next → AreAllLaterSums strata sum (length strata - (done + 1)) (later_sums ++ next ∷ [])
  later_sums-next done later_sums next h a i = record {
    long = omega (arith, length-append later_sums (next ∷ []), a.long, h);
    each = λ j e m. elim (cases_lt j (length later_sums)) [
      | inl before ↦ subst (AreLaterSums strata sum (length strata - j)) (sym (get-front later_sums next e j before)) (a.each j e before)
      | inr after ↦
          (let last : j ≡ length later_sums = omega (arith, length-append later_sums (next ∷ []), m, after) in
          let place : length strata - j ≡ length strata - done - 1 = omega (arith, last, a.long, h) in
          subst (AreLaterSums strata sum (length strata - j)) (sym (get-last later_sums next e j last)) (subst (λ n. AreLaterSums strata sum n next) (sym place) i))
    ];
  }

  pub later_sums-whole : (done : ℕ) (later_sums : List LaterSums) → length strata ≤ done → AreAllLaterSums strata sum (length strata - done) later_sums → AreAllLaterSums strata sum 0 later_sums
  later_sums-whole done later_sums h a = subst (λ n. AreAllLaterSums strata sum n later_sums) (let e : length strata - done ≡ 0 = omega (arith, h) in e) a

  -- so all labellings with the sum are few enough
  pub all-fit : (later_sums : List LaterSums) → AreAllLaterSums strata sum 0 later_sums → number_with strata sum ≤ MAX
  all-fit later_sums a =
      let none : LaterSums = record { least = 0; most = 0; first = 0; numbers = [] } in
      let first : AreLaterSums strata sum (length strata - length strata) (slice_index_or later_sums (length strata) none) = a.each (length strata) none (omega (arith, a.long)) in
      let here : length strata - length strata ≡ 0 = omega arith in
      (subst (λ n. AreLaterSums strata sum n (slice_index_or later_sums (length strata) none)) here first).fits sum (left-first strata sum d.can)

  -- of the stratum before those that are done
  pub later-at : (done : ℕ) (later_sums : List LaterSums) (later : LaterSums) → done < length strata → AreAllLaterSums strata sum (length strata - done) later_sums → later ≡ slice_index_or later_sums done later → AreLaterSums strata sum (length strata - done - 1 + 1) later
  later-at done later_sums later h a e =
      let long : done < length later_sums = omega (arith, a.long, h) in
      let place : length strata - done ≡ length strata - done - 1 + 1 = omega (arith, h) in
      subst (λ n. AreLaterSums strata sum n later) place (subst (AreLaterSums strata sum (length strata - done)) (sym e) (a.each done later long))

-- ---- one number more

module _ (s : Stratum) (later : LaterSums) (first : ℕ) where
  pub numbers-next : (end number : ℕ) (numbers : List ℕ) → first ≤ end → counted s later end ≤ MAX → number ≡ counted s later end → AreNumbers s later first end numbers → AreNumbers s later first (end + 1) (numbers ++ number ∷ [])
  numbers-next end number numbers from few e a = record {
    long = omega (arith, length-append numbers (number ∷ []), a.long, from);
    each = λ left l h. elim (cases_lt left end) [
      | inl before ↦ get-front numbers number 0 (left - first) (omega (arith, a.long, l, before)) ∙ a.each left l before
      | inr after ↦ (let last : left ≡ end = omega (arith, h, after) in
          get-last numbers number 0 (left - first) (omega (arith, a.long, last)) ∙ e ∙ ap (counted s later) (sym last))
    ];
    fits = λ left l h. elim (cases_lt left end) [
      | inl before ↦ a.fits left l before
      | inr after ↦ (let last : end ≡ left = omega (arith, h, after) in subst (λ n. counted s later n ≤ MAX) last few)
    ];
  }
