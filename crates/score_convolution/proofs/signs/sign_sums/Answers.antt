use Rattle.std.proofs.Common.{◌≡◌, ◌^◌, ◌≤◌, ℕ, List, length, max, true, ap, ◌∙◌}
use Rattle.std.specs.Prelude.{ℤ, pos, int_le, All, unsigned_abs, Result, IfOk}
use Rattle.std.specs.Int.{◌∣◌}
use Rattle.std.proofs.lemmas.Result.{IfOk-weaker}
use Rattle.weights.specs.Numbers.{absolute_sum}
use Rattle.weights.specs.declared.TheConstants.{MAX}
use Rattle.weights.specs.declared.tails.Tail.{Tail}
use Rattle.weights.specs.declared.tails.Tails.{Tails}
use Rattle.weights.proofs.OneOrder.{in_order-permutes, length-in_order}
use Rattle.networks.specs.Asked.{asks}
use Rattle.networks.specs.EachTail.{sum_for}
use Rattle.networks.specs.Judged.{rule_in}
use Rattle.networks.specs.PartialSums.{ascending}
use Rattle.networks.specs.declared.tail_sums.TailSums.{TailSums}
use Rattle.networks.specs.declared.verdicts.Judge.{Judge}
use Rattle.score_convolution.specs.Draws.{draw_sum}
use Rattle.score_convolution.specs.DrawnSums.{passing_signs}
use Rattle.score_convolution.specs.Sides.{AreSidesOf, is_in, once, sides_for}
use Rattle.score_convolution.specs.declared.sides.TailSides.{TailSides}
use Rattle.score_convolution.proofs.DrawSums.{draw-order}
use Rattle.score_convolution.proofs.DrawnLabels.{signed-passing}
use Rattle.score_convolution.proofs.ScoreTotals.{absolute-ascending}
use Rattle.score_convolution.proofs.Strides.{divides-ascending}
use Rattle.score_convolution.proofs.signs.sign_sums.Goals as goal

-- of scores in order
module _ (scores sorted : List ℤ) (e : sorted ≡ ascending scores) where
  each-divided : (divisor stride : ℕ) → stride ≡ max divisor 1 → All (λ s. max divisor 1 ∣ unsigned_abs s) (ascending scores) → All (λ s. stride ∣ unsigned_abs s) sorted
  each-divided divisor stride is all = rw (e, is) all

  still-small : absolute_sum scores ≤ MAX → absolute_sum sorted ≤ MAX
  still-small small = rw (e, absolute-ascending scores) small

  still-fit : 2 ^ length scores ≤ MAX → 2 ^ length sorted ≤ MAX
  still-fit fits = rw (e, length-in_order int_le scores) fits

  signs-pass : {E : Type 0} (judge : Judge) (sides : TailSides) (tails : Tails) (found : Result TailSums E) → ((t : Tail) → AreSidesOf (rule_in judge t) (sides_for sides t))
      → IfOk found (λ sums. (t : Tail) → asks tails t ≡ true → (sum_for sums t).sum ≡ draw_sum (λ n. once (is_in (sides_for sides t))) 0 (pos 0) sorted)
      → IfOk found (λ sums. (t : Tail) → asks tails t ≡ true → (sum_for sums t).sum ≡ passing_signs (rule_in judge t) scores)
  signs-pass judge sides tails found are =
      IfOk-weaker found
      (λ sums. (t : Tail) → asks tails t ≡ true → (sum_for sums t).sum ≡ draw_sum (λ n. once (is_in (sides_for sides t))) 0 (pos 0) sorted)
      (λ sums. (t : Tail) → asks tails t ≡ true → (sum_for sums t).sum ≡ passing_signs (rule_in judge t) scores)
      (λ sums each t asked. (
      let p = is_in (sides_for sides t) in
      each t asked
      ∙ ap (draw_sum (λ n. once p) 0 (pos 0)) e
      ∙ draw-order (λ n. once p) scores (ascending scores) (in_order-permutes int_le scores) 0 (pos 0)
      ∙ signed-passing p (rule_in judge t) (are t).pass scores
      ))

pub half_sums-requires-clause-apart : goal.half_sums-requires-clause-apart
half_sums-requires-clause-apart g c =
    each-divided c.args.scores.now _ (c.as_slice.ensures.value ∙ c.in_ok-sorted.ensures) c.common_divisor.result c.max-stride.result c.max-stride.ensures (divides-ascending c.common_divisor.result c.args.scores.now c.common_divisor.ensures)

pub half_sums-requires-clause-small : goal.half_sums-requires-clause-small
half_sums-requires-clause-small g c = still-small c.args.scores.now _ (c.as_slice.ensures.value ∙ c.in_ok-sorted.ensures) c.requires.small

pub half_sums-requires-clause-fits : goal.half_sums-requires-clause-fits
half_sums-requires-clause-fits g c = still-fit c.args.scores.now _ (c.as_slice.ensures.value ∙ c.in_ok-sorted.ensures) c.requires.total

pub half_sums-requires-then-are_near_sums-clause-apart : goal.half_sums-requires-then-are_near_sums-clause-apart
half_sums-requires-then-are_near_sums-clause-apart g c =
    each-divided c.args.scores.now _ (c.as_slice-then-are_near_sums.ensures.value ∙ c.in_ok-sorted.ensures) c.common_divisor.result c.max-stride.result c.max-stride.ensures (divides-ascending c.common_divisor.result c.args.scores.now c.common_divisor.ensures)

pub half_sums-requires-then-are_near_sums-clause-small : goal.half_sums-requires-then-are_near_sums-clause-small
half_sums-requires-then-are_near_sums-clause-small g c = still-small c.args.scores.now _ (c.as_slice-then-are_near_sums.ensures.value ∙ c.in_ok-sorted.ensures) c.requires.small

pub half_sums-requires-then-are_near_sums-clause-fits : goal.half_sums-requires-then-are_near_sums-clause-fits
half_sums-requires-then-are_near_sums-clause-fits g c = still-fit c.args.scores.now _ (c.as_slice-then-are_near_sums.ensures.value ∙ c.in_ok-sorted.ensures) c.requires.total

pub half_sums-requires-2-clause-apart : goal.half_sums-requires-2-clause-apart
half_sums-requires-2-clause-apart g c =
    each-divided c.args.scores.now _ (c.as_slice-2.ensures.value ∙ c.in_ok-sorted.ensures) c.common_divisor.result c.max-stride.result c.max-stride.ensures (divides-ascending c.common_divisor.result c.args.scores.now c.common_divisor.ensures)

pub half_sums-requires-2-clause-small : goal.half_sums-requires-2-clause-small
half_sums-requires-2-clause-small g c = still-small c.args.scores.now _ (c.as_slice-2.ensures.value ∙ c.in_ok-sorted.ensures) c.requires.small

pub half_sums-requires-2-clause-fits : goal.half_sums-requires-2-clause-fits
half_sums-requires-2-clause-fits g c = still-fit c.args.scores.now _ (c.as_slice-2.ensures.value ∙ c.in_ok-sorted.ensures) c.requires.total

pub returns-then-are_few_sums : goal.returns-then-are_few_sums
returns-then-are_few_sums g c = signs-pass c.args.scores.now _ (c.as_slice.ensures.value ∙ c.in_ok-sorted.ensures) c.args.judge.now c.in-Some.sides c.args.tails c.half_sums.result c.in-Some.ensures.sides c.half_sums.ensures

pub returns-then-are_near_sums : goal.returns-then-are_near_sums
returns-then-are_near_sums g c = signs-pass c.args.scores.now _ (c.as_slice-then-are_near_sums.ensures.value ∙ c.in_ok-sorted.ensures) c.args.judge.now c.in-Some.sides c.args.tails c.half_sums-then-are_near_sums.result c.in-Some.ensures.sides c.half_sums-then-are_near_sums.ensures

pub returns : goal.returns
returns g c = signs-pass c.args.scores.now _ (c.as_slice-2.ensures.value ∙ c.in_ok-sorted.ensures) c.args.judge.now c.in-Some.sides c.args.tails c.half_sums-2.result c.in-Some.ensures.sides c.half_sums-2.ensures
