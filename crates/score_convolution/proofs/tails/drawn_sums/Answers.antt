use Rattle.std.proofs.Common.{◌≡◌, ◌-◌, ◌*◌, ◌≤◌, ℕ, List, length, ap, sym, ◌∙◌, arith}
use Rattle.std.specs.Prelude.{ℤ, pos, int_le}
use Rattle.weights.specs.Numbers.{absolute_sum}
use Rattle.weights.specs.declared.TheConstants.{MAX}
use Rattle.weights.specs.declared.tails.Tail.{Tail}
use Rattle.weights.proofs.OneOrder.{in_order-permutes, length-in_order}
use Rattle.networks.specs.Judged.{rule_in}
use Rattle.networks.specs.PartialSums.{ascending}
use Rattle.networks.specs.declared.verdicts.Judge.{Judge}
use Rattle.score_convolution.specs.Draws.{draw_sum, score_total}
use Rattle.score_convolution.specs.DrawnSums.{passing_draws}
use Rattle.score_convolution.specs.LeftDraws.{AreLeftSides}
use Rattle.score_convolution.specs.Meetings.{drawn_at}
use Rattle.score_convolution.specs.Sides.{AreSidesOf, is_in, sides_for}
use Rattle.score_convolution.specs.declared.sides.TailSides.{TailSides}
use Rattle.score_convolution.proofs.DrawSums.{draw-order}
use Rattle.score_convolution.proofs.DrawnLabels.{drawn-passing}
use Rattle.score_convolution.proofs.LeftDraws.{drawn-left}
use Rattle.score_convolution.proofs.ScoreTotals.{twice-small}
use Rattle.score_convolution.proofs.Subjects.{ordered-subjects}
use Rattle.score_convolution.proofs.TwoGroups.{drawn-fit, left-fit}
use Rattle.score_convolution.proofs.tails.drawn_sums.Goals as goal

-- the draws of scores in order that are on the sides
module _ (scores sorted : List ℤ) (e : sorted ≡ ascending scores) (judge : Judge) (sides : TailSides) (are : (t : Tail) → AreSidesOf (rule_in judge t) (sides_for sides t)) (n : ℕ) (h : n ≤ length scores) (t : Tail) where
  draws-pass : passing_draws (rule_in judge t) n scores ≡ draw_sum (drawn_at (is_in (sides_for sides t)) n) 0 (pos 0) sorted
  draws-pass =
      let p = is_in (sides_for sides t) in
      sym (
      ap (draw_sum (drawn_at p n) 0 (pos 0)) e
      ∙ draw-order (drawn_at p n) scores (ascending scores) (in_order-permutes int_le scores) 0 (pos 0)
      ∙ drawn-passing p (rule_in judge t) (are t).pass n scores h
      )

  -- or those of the others, on the sides for these
  left-pass : (left : TailSides) → AreLeftSides (score_total scores) (sides_for sides t) (sides_for left t) → 2 * length scores * absolute_sum scores ≤ MAX
      → passing_draws (rule_in judge t) n scores ≡ draw_sum (drawn_at (is_in (sides_for left t)) (length scores - n)) 0 (pos 0) sorted
  left-pass left reflected small =
      let p = is_in (sides_for sides t) in
      let q = is_in (sides_for left t) in
      let m : ℕ = length scores - n in
      sym (
      ap (draw_sum (drawn_at q m) 0 (pos 0)) e
      ∙ draw-order (drawn_at q m) scores (ascending scores) (in_order-permutes int_le scores) 0 (pos 0)
      ∙ drawn-left p q n scores h (λ v l. reflected.pass v (omega (arith, twice-small scores MAX small, l)))
      ∙ drawn-passing p (rule_in judge t) (are t).pass n scores h
      )

pub sorted_sums-requires-clause-subjects : goal.sorted_sums-requires-clause-subjects
sorted_sums-requires-clause-subjects g c =
    rw (c.max-stride.ensures, c.as_slice.ensures.value, c.in_ok-sorted.ensures) (ordered-subjects c.common_stride.result c.args.scores.now c.common_stride.ensures c.requires.small)

pub sorted_sums-requires-clause-few : goal.sorted_sums-requires-clause-few
sorted_sums-requires-clause-few g c = rw (c.as_slice.ensures.value, c.in_ok-sorted.ensures, length-in_order int_le c.args.scores.now) (omega (arith, c.if-drawn-left.true, c.requires.drawn))

pub sorted_sums-requires-clause-fits : goal.sorted_sums-requires-clause-fits
sorted_sums-requires-clause-fits g c = rw (c.as_slice.ensures.value, c.in_ok-sorted.ensures, length-in_order int_le c.args.scores.now) (drawn-fit (length c.args.scores.now) c.args.drawn c.requires.drawn c.requires.total)

pub sorted_sums-requires-clause-same : goal.sorted_sums-requires-clause-same
sorted_sums-requires-clause-same g c = λ t.
    c.requires.same t ∙ draws-pass c.args.scores.now _ (c.as_slice.ensures.value ∙ c.in_ok-sorted.ensures) c.args.judge.now c.in-Some.sides c.in-Some.ensures.sides c.args.drawn c.requires.drawn t

pub left_sides-left_sides-requires : goal.left_sides-left_sides-requires
left_sides-left_sides-requires g c = omega (arith, twice-small c.args.scores.now MAX c.requires.small)

pub sorted_sums-requires-2-clause-subjects : goal.sorted_sums-requires-2-clause-subjects
sorted_sums-requires-2-clause-subjects g c =
    rw (c.max-stride.ensures, c.as_slice-2.ensures.value, c.in_ok-sorted.ensures) (ordered-subjects c.common_stride.result c.args.scores.now c.common_stride.ensures c.requires.small)

pub sorted_sums-requires-2-clause-few : goal.sorted_sums-requires-2-clause-few
sorted_sums-requires-2-clause-few g c = rw (c.as_slice-2.ensures.value, c.in_ok-sorted.ensures, length-in_order int_le c.args.scores.now) (omega (arith, c.if-drawn-left.false))

pub sorted_sums-requires-2-clause-fits : goal.sorted_sums-requires-2-clause-fits
sorted_sums-requires-2-clause-fits g c = rw (c.as_slice-2.ensures.value, c.in_ok-sorted.ensures, length-in_order int_le c.args.scores.now) (left-fit (length c.args.scores.now) c.args.drawn c.requires.drawn c.requires.total)

pub sorted_sums-requires-2-clause-ordered : goal.sorted_sums-requires-2-clause-ordered
sorted_sums-requires-2-clause-ordered g c = λ t. (c.left_sides-left_sides.ensures t).ordered (c.in-Some.ensures.sides t).ordered

pub sorted_sums-requires-2-clause-same : goal.sorted_sums-requires-2-clause-same
sorted_sums-requires-2-clause-same g c = λ t.
    c.requires.same t ∙ left-pass c.args.scores.now _ (c.as_slice-2.ensures.value ∙ c.in_ok-sorted.ensures) c.args.judge.now c.in-Some.sides c.in-Some.ensures.sides c.args.drawn c.requires.drawn t c.left_sides-left_sides.result (c.left_sides-left_sides.ensures t) c.requires.small
