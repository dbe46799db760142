-- Products of the lesser weights of strata: no more than the labellings that have what can be left of a given sum, and so than all that have the sum.
use Rattle.std.proofs.Common.{◌≡◌, ℕ, ◌+◌, ◌-◌, ◌*◌, ◌<◌, ◌≤◌, List, [], ◌∷◌, length, drop, sym, ap, arith, ◌∙◌}
use Rattle.std.specs.Prelude.{min}
use Rattle.std.proofs.Math.Nat.{mul-le-mul}
use Rattle.strata_cells.specs.declared.stratum.Stratum.{Stratum}
use Rattle.strata_cells.specs.Strata.{cell_weight, greatest_cell, least_cell, stratum_at}
use Rattle.strata_cells.proofs.FirstCells.{cells-meet, weight-some, left-within}
use Rattle.strata_cells.proofs.StrataSums.{next-drop}
use Rattle.zelen_test.specs.ZelenNetwork.{least_choice, lesser_weight, lesser_weights, number_with}
use Rattle.zelen_test.specs.ZelenSteps.{CanHave, IsLeft, least_left, AreSummed, LesserSeat}
use Rattle.zelen_test.proofs.LabellingsWithSum.{can-next, choice-range, number-term}
use Rattle.zelen_test.proofs.Unimodal.{lesser-least}
use Rattle.weights.specs.declared.TheConstants.{MAX}
use Rattle.zelen_test.proofs.RemainingSums.{left-can, left-meet, number-within}

-- ---- and how many labellings there are

pub lesser-some : (s : Stratum) → 1 ≤ lesser_weight s
lesser-some s = both (cell_weight s (least_cell s)) (cell_weight s (greatest_cell s)) (weight-some s (least_cell s) (omega arith) (cells-meet s)) (weight-some s (greatest_cell s) (cells-meet s) (omega arith))
  where
    both : (a b : ℕ) → 1 ≤ a → 1 ≤ b → 1 ≤ min a b
    both a b h k = omega (arith, h, k)

pub lesser-all_some : (strata : List Stratum) → 1 ≤ lesser_weights strata
lesser-all_some [] = omega arith
lesser-all_some (s ∷ strata) = mul-le-mul (lesser-some s) (lesser-all_some strata)

-- there are at least as many labellings as their lesser weights
pub lesser-number : (strata : List Stratum) (left : ℕ) → CanHave strata left → lesser_weights strata ≤ number_with strata left
lesser-number [] left can = (let none : left ≡ 0 = omega (arith, can.most) in rw none (omega arith))
lesser-number (s ∷ strata) left can =
    let r = choice-range s strata left can in
    let x : ℕ = least_choice s strata left in
    let here : lesser_weight s ≤ cell_weight s x = lesser-least s x r.low (omega (arith, r.some, r.high)) in
    let rest : lesser_weights strata ≤ number_with strata (left - x) = lesser-number strata (left - x) (can-next s strata left can x (omega arith) r.some) in
    let product : lesser_weight s * lesser_weights strata ≤ cell_weight s x * number_with strata (left - x) = mul-le-mul here rest in
    omega (arith, product, number-term s strata left can x (omega arith) r.some)

pub number-some : (strata : List Stratum) (left : ℕ) → CanHave strata left → 1 ≤ number_with strata left
number-some strata left can = omega (arith, lesser-all_some strata, lesser-number strata left can)

-- ---- from the last stratum back

module _ (strata : List Stratum) where
  lesser-on : (done : ℕ) → done < length strata → lesser_weights (drop (length strata - done - 1) strata) ≡ lesser_weight (stratum_at strata (length strata - done - 1)) * lesser_weights (drop (length strata - done) strata)
  lesser-on done h =
      let place : length strata - done - 1 + 1 ≡ length strata - done = omega (arith, h) in
      ap lesser_weights (next-drop strata (length strata - done - 1) (omega (arith, h)))
      ∙ ap (λ n. lesser_weight (stratum_at strata (length strata - done - 1)) * lesser_weights (drop n strata)) place

  -- with those of one more stratum
  lesser-product : (done : ℕ) → done < length strata → lesser_weights (drop (length strata - done) strata) * lesser_weight (stratum_at strata (length strata - done - 1)) ≡ lesser_weights (drop (length strata - done - 1) strata)
  lesser-product done h = turned _ (lesser_weight (stratum_at strata (length strata - done - 1))) ∙ sym (lesser-on done h)
    where
      turned : (a b : ℕ) → a * b ≡ b * a
      turned a b = grind arith

  lesser-one : (done : ℕ) → done < length strata → lesser_weight (stratum_at strata (length strata - done - 1)) ≤ lesser_weights (drop (length strata - done - 1) strata)
  lesser-one done h = omega (arith, lesser-on done h, left-within (lesser_weight (stratum_at strata (length strata - done - 1))) (lesser_weights (drop (length strata - done) strata)) (lesser-all_some (drop (length strata - done) strata)))

module _ (strata : List Stratum) (sum : ℕ) (d : AreSummed strata sum) where
  -- they are no more than the labellings with the sum
  pub lesser-within : (g : ℕ) → g ≤ length strata → lesser_weights (drop g strata) ≤ number_with strata sum
  lesser-within g h =
      let left : ℕ = least_left strata sum g in
      let i : IsLeft strata sum g left = record { least = omega arith; most = left-meet strata sum d.can g } in
      omega (arith, lesser-number (drop g strata) left (left-can strata sum d.can g left i), number-within strata sum d.can g left h i)

  pub lesser-seat : number_with strata sum ≤ MAX → (done : ℕ) → done < length strata → LesserSeat strata done
  lesser-seat fits done h =
      let on = lesser-product strata done h in
      let all : lesser_weights (drop (length strata - done - 1) strata) ≤ MAX = omega (arith, lesser-within (length strata - done - 1) (omega arith), fits) in
      record { own = omega (arith, lesser-one strata done h, all); within = omega (arith, on, all); on = on }
