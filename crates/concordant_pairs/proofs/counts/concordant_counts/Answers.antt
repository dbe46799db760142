use Rattle.std.proofs.Common.{◌≡◌, ◌≤◌, ℕ, ◌+◌, ◌-◌, List, ◌∷◌, length, get_or, take, drop, drop-cons, add-one, length-drop, ◌∙◌, ap, subst, arith}
use Rattle.std.specs.List.{sum}
use Rattle.std.proofs.lemmas.List.{take_all}
use Rattle.std.proofs.lemmas.List.Sums.{sum_by-cons, sum_by-take-drop}
use Rattle.weights.specs.declared.TheConstants.{MAX}
use Rattle.weights.specs.Labellings.{number_of_labellings}
use Rattle.concordant_pairs.specs.ConcordantSteps.{AreCounts}
use Rattle.concordant_pairs.proofs.Counting.{behind-fits, sums-alike}
use Rattle.concordant_pairs.proofs.counts.concordant_counts.Goals as goal

module _ (sizes : List ℕ) (at : ℕ) (some : 1 ≤ at) (within : at ≤ length sizes) where
  -- the sizes from a place on: one, and those behind it
  from-place : drop (at - 1) sizes ≡ get_or sizes (at - 1) 0 ∷ drop (at - 1 + 1) sizes
  from-place = rw add-one (drop-cons sizes (at - 1) 0 (omega (arith, some, within)))

  few-behind : (later : ℕ) → later ≡ sum (drop at sizes) → sum sizes ≤ 10000 → get_or sizes (at - 1) 0 + later ≤ 10000
  few-behind later e few =
      let one : at - 1 + 1 ≡ at = omega (arith, some) in
      let here = ap sum from-place ∙ sum_by-cons (λ v. v) (get_or sizes (at - 1) 0) (drop (at - 1 + 1) sizes) in
      omega (arith, e, here, ap (λ i. sum (drop i sizes)) one, sum_by-take-drop (λ v. v) sizes (at - 1), few)

  rest-fits : number_of_labellings sizes ≤ MAX → number_of_labellings (get_or sizes (at - 1) 0 ∷ take (length sizes - (at - 1 + 1)) (drop (at - 1 + 1) sizes)) ≤ MAX
  rest-fits fits =
      let all : take (length sizes - (at - 1 + 1)) (drop (at - 1 + 1) sizes) ≡ drop (at - 1 + 1) sizes = take_all (length sizes - (at - 1 + 1)) (drop (at - 1 + 1) sizes) (omega (arith, length-drop (at - 1 + 1) sizes)) in
      rw all (subst (λ ns. number_of_labellings ns ≤ MAX) from-place (behind-fits sizes (at - 1) MAX fits))

pub with_group-requires-clause-few : goal.with_group-requires-clause-few
with_group-requires-clause-few c = few-behind c.args.sizes.now c.loop-at.at (omega (arith, c.loop-at-test.true)) c.loop-at.invariant.0 c.loop-at.later c.loop-at.invariant.1 c.requires.few

pub with_group-requires-clause-fits : goal.with_group-requires-clause-fits
with_group-requires-clause-fits c = rest-fits c.args.sizes.now c.loop-at.at (omega (arith, c.loop-at-test.true)) c.loop-at.invariant.0 c.requires.fits

pub returns-clause-alike : goal.returns-clause-alike
returns-clause-alike c =
    let first : c.loop-at.at ≡ 0 = omega (arith, c.loop-at-test.false) in
    sums-alike c.args.sizes.now c.loop-at.counts.items (subst (λ at. AreCounts (drop at c.args.sizes.now) c.loop-at.counts.items) first c.loop-at.invariant.2)
