use Rattle.std.proofs.Common.{ℕ, List, get_or, ap, sym, ◌∙◌, arith, rules, FitsSigned}
use Rattle.std.specs.Prelude.{ℤ, pos, ◌+ℤ◌}
use Rattle.std.proofs.lemmas.Int.{to_z-of_z}
use Rattle.std.proofs.lemmas.List.{take_all}
use mir.Syntax.{w128}
use Rattle.score_convolution.specs.Draws.{score_total}
use Rattle.score_convolution.proofs.ScoreTotals.{next-small, total-more, total-size}
use Rattle.score_convolution.proofs.left.score_total.Goals as goal

pub plus-total-requires : goal.plus-total-requires
plus-total-requires c =
    let scores : List ℤ = c.args.scores.now in
    let score : ℤ = get_or scores c.loop-i.i (pos 0) in
    let fits : FitsSigned w128 score = search rules in
    rw (c.loop-i.invariant, to_z-of_z w128 score fits) (omega (arith, next-small scores c.loop-i.i c.loop-i-test.true, c.requires))

pub loop-i-preserved : goal.loop-i-preserved
loop-i-preserved c =
    let scores : List ℤ = c.args.scores.now in
    let i : ℕ = c.loop-i.i in
    let score : ℤ = get_or scores i (pos 0) in
    let fa : FitsSigned w128 score = search rules in
    let fb : FitsSigned w128 c.plus-total.result = search rules in
    to_z-of_z w128 c.plus-total.result fb
    ∙ (rw (to_z-of_z w128 score fa) at c.plus-total.ensures)
    ∙ ap (λ z. z +ℤ score) c.loop-i.invariant
    ∙ sym (total-more scores i c.loop-i-test.true)

pub returns-clause-small : goal.returns-clause-small
returns-clause-small c =
    let is = c.loop-i.invariant ∙ ap score_total (take_all c.loop-i.i c.args.scores.now (omega (arith, c.loop-i-test.false))) in
    rw is (total-size c.args.scores.now)
