-- What can be left of a given sum before a stratum, and that no more labellings from it on have it than all have the sum.
use Rattle.std.proofs.Common.{◌≡◌, ℕ, zero, suc, ◌+◌, ◌-◌, ◌*◌, ◌<◌, ◌≤◌, List, ◌∷◌, length, drop, take, sym, ap, subst, arith, add-one}
use Rattle.std.specs.Prelude.{max, min}
use Rattle.std.proofs.lemmas.List.Sums.{sum_by-take-drop}
use Rattle.strata_cells.specs.declared.stratum.Stratum.{Stratum}
use Rattle.strata_cells.specs.Strata.{cell_weight, greatest_cell, least_cell, stratum_at}
use Rattle.strata_cells.proofs.FirstCells.{cells-meet, right-within, weight-some}
use Rattle.strata_cells.proofs.StrataSums.{next-drop, sum-step}
use Rattle.zelen_test.specs.ZelenNetwork.{greatest_choice, greatest_first_cells, least_choice, least_first_cells, number_with}
use Rattle.zelen_test.specs.ZelenSteps.{CanHave, IsLeft, least_left, most_left}
use Rattle.zelen_test.proofs.LabellingsWithSum.{choice-range, number_by, sums-meet, number-term}

-- ---- what can be left, in plain numbers

-- before a stratum: of the sum, with the sums of all strata and of those from it on, and after it
pub record CanRemain (sum all_least all_most least most left : ℕ) : Type 0 where
  pub low : max (sum + most - all_most) least ≤ left
  pub high : left ≤ min (sum + least - all_least) most

remain-after : (sum all_least all_most cell_least cell_most least most left x : ℕ) → all_least ≤ sum → sum ≤ all_most → CanRemain sum all_least all_most (cell_least + least) (cell_most + most) left
    → max cell_least (left - most) ≤ x → x ≤ min cell_most (left - least) → CanRemain sum all_least all_most least most (left - x)
remain-after sum all_least all_most cell_least cell_most least most left x a b w l h = record {
  low = omega (arith, a, b, w.low, w.high, l, h);
  high = omega (arith, a, b, w.low, w.high, l, h);
}

-- and a first cell with which it was more
pub record HadMore (sum all_least all_most cell_least cell_most least most left : ℕ) : Type 0 where
  pub x : ℕ
  pub low : max cell_least (left + x - most) ≤ x
  pub high : x ≤ min cell_most (left + x - least)
  pub remained : CanRemain sum all_least all_most (cell_least + least) (cell_most + most) (left + x)

had-more : (sum all_least all_most cell_least cell_most least most left : ℕ) → all_least ≤ sum → sum ≤ all_most → cell_least ≤ cell_most → all_least + (cell_most + most) ≤ all_most + (cell_least + least) → CanRemain sum all_least all_most least most left
    → HadMore sum all_least all_most cell_least cell_most least most left
had-more sum all_least all_most cell_least cell_most least most left a b c d w =
    let x : ℕ = max cell_least (sum + (cell_most + most) - all_most - left) in
    record {
      x = x;
      low = omega (arith, a, b, c, d, w.low, w.high);
      high = omega (arith, a, b, c, d, w.low, w.high);
      remained = record { low = omega (arith, a, b, c, d, w.low, w.high); high = omega (arith, a, b, c, d, w.low, w.high) };
    }

ends-meet : (sum all_least all_most front_least front_most least most : ℕ) → all_least ≤ sum → sum ≤ all_most → front_least + least ≡ all_least → front_most + most ≡ all_most → front_least ≤ front_most → least ≤ most → max (sum + most - all_most) least ≤ min (sum + least - all_least) most
ends-meet sum all_least all_most front_least front_most least most a b c d e f = omega (arith, a, b, c, d, e, f)

-- ---- of strata

module _ (strata : List Stratum) (sum : ℕ) (can : CanHave strata sum) where
  abbrev Remains : ℕ → ℕ → ℕ → Type 0
  Remains least most left = CanRemain sum (least_first_cells strata) (greatest_first_cells strata) least most left

  remains : (g left : ℕ) → IsLeft strata sum g left → Remains (least_first_cells (drop g strata)) (greatest_first_cells (drop g strata)) left
  remains g left i = record { low = i.least; high = i.most }

  is-left : (g left : ℕ) → Remains (least_first_cells (drop g strata)) (greatest_first_cells (drop g strata)) left → IsLeft strata sum g left
  is-left g left w = record { least = w.low; most = w.high }

  pub left-can : (g left : ℕ) → IsLeft strata sum g left → CanHave (drop g strata) left
  left-can g left i = record { least = omega (arith, i.least); most = omega (arith, i.most) }

  pub left-first : IsLeft strata sum 0 sum
  left-first = record { least = omega (arith, can.least, can.most); most = omega (arith, can.least, can.most) }

  only-first : (left : ℕ) → IsLeft strata sum 0 left → left ≡ sum
  only-first left i = omega (arith, i.least, i.most, can.least, can.most)

  pub left-meet : (g : ℕ) → least_left strata sum g ≤ most_left strata sum g
  left-meet g = ends-meet sum (least_first_cells strata) (greatest_first_cells strata) (least_first_cells (take g strata)) (greatest_first_cells (take g strata)) (least_first_cells (drop g strata)) (greatest_first_cells (drop g strata)) can.least can.most (sum_by-take-drop least_cell strata g) (sum_by-take-drop greatest_cell strata g) (sums-meet (take g strata)) (sums-meet (drop g strata))

  module _ (g : ℕ) (before : g < length strata) where
    abbrev here : Stratum
    here = stratum_at strata g

    abbrev later : List Stratum
    later = drop (g + 1) strata

    least-on : least_first_cells (drop g strata) ≡ least_cell here + least_first_cells later
    least-on = sum-step least_cell strata g before

    most-on : greatest_first_cells (drop g strata) ≡ greatest_cell here + greatest_first_cells later
    most-on = sum-step greatest_cell strata g before

    pub can-here : (left : ℕ) → IsLeft strata sum g left → CanHave (here ∷ later) left
    can-here left i = subst (λ ts. CanHave ts left) (next-drop strata g before) (left-can g left i)

    pub left-next : (left x : ℕ) → IsLeft strata sum g left → least_choice here later left ≤ x → x ≤ greatest_choice here later left → IsLeft strata sum (g + 1) (left - x)
    left-next left x i l h =
        is-left (g + 1) (left - x) (remain-after sum (least_first_cells strata) (greatest_first_cells strata) (least_cell here) (greatest_cell here) (least_first_cells later) (greatest_first_cells later) left x can.least can.most (rw (least-on, most-on) at (remains g left i)) l h)

    front-meets : least_first_cells strata + greatest_first_cells (drop g strata) ≤ greatest_first_cells strata + least_first_cells (drop g strata)
    front-meets = omega (arith, sum_by-take-drop least_cell strata g, sum_by-take-drop greatest_cell strata g, sums-meet (take g strata))

    left-before : (left : ℕ) → IsLeft strata sum (g + 1) left → HadMore sum (least_first_cells strata) (greatest_first_cells strata) (least_cell here) (greatest_cell here) (least_first_cells later) (greatest_first_cells later) left
    left-before left i = had-more sum (least_first_cells strata) (greatest_first_cells strata) (least_cell here) (greatest_cell here) (least_first_cells later) (greatest_first_cells later) left can.least can.most (cells-meet here) (rw (least-on, most-on) at front-meets) (remains (g + 1) left i)

    -- no number is greater than that of one more stratum
    number-before : (left : ℕ) → IsLeft strata sum (g + 1) left → ((more : ℕ) → IsLeft strata sum g more → number_with (drop g strata) more ≤ number_with strata sum) → number_with later left ≤ number_with strata sum
    number-before left i each =
        let b = left-before left i in
        let more : IsLeft strata sum g (left + b.x) = is-left g (left + b.x) (rw (least-on, most-on) b.remained) in
        let whole : left + b.x - b.x ≡ left = omega arith in
        let can' = can-here (left + b.x) more in
        let r = choice-range here later (left + b.x) can' in
        let term : number_by here later (left + b.x) b.x ≤ number_with (here ∷ later) (left + b.x) = number-term here later (left + b.x) can' b.x b.low b.high in
        let some : 1 ≤ cell_weight here b.x = weight-some here b.x (omega (arith, r.low, b.low)) (omega (arith, r.high, b.high)) in
        let less : number_with later left ≤ cell_weight here b.x * number_with later left = right-within (cell_weight here b.x) (number_with later left) some in
        let same : number_by here later (left + b.x) b.x ≡ cell_weight here b.x * number_with later left = ap (λ n. cell_weight here b.x * number_with later n) whole in
        let all : number_with (here ∷ later) (left + b.x) ≤ number_with strata sum = subst (λ ts. number_with ts (left + b.x) ≤ number_with strata sum) (next-drop strata g before) (each (left + b.x) more) in
        omega (arith, term, less, same, all)

  pub number-within : (g left : ℕ) → g ≤ length strata → IsLeft strata sum g left → number_with (drop g strata) left ≤ number_with strata sum
  number-within zero left h i = rw (only-first left i) (omega arith)
  number-within (suc g) left h i =
      let on : IsLeft strata sum (g + 1) left = subst (λ n. IsLeft strata sum n left) (sym (add-one g)) i in
      subst (λ n. number_with (drop n strata) left ≤ number_with strata sum) (add-one g) (number-before g (omega (arith, h)) left on (λ more m. number-within g more (omega (arith, h)) m))
