use Rattle.std.proofs.Common.{◌+◌, ◌≤◌, ℕ, List, length, take, get_or, subst, arith}
use Rattle.std.specs.Prelude.{ℤ, pos}
use Rattle.std.proofs.lemmas.List.{take_all}
use Rattle.weights.specs.Numbers.{binomial}
use Rattle.weights.proofs.Binomials.{binomial-zero}
use Rattle.score_convolution.specs.DrawRows.{AreDraws}
use Rattle.score_convolution.specs.declared.rows.DrawRow.{DrawRow}
use Rattle.score_convolution.proofs.RowSteps.{draws-more, take-one}
use Rattle.score_convolution.proofs.draws.draw_rows.Goals as goal

pub nobody_alone-requires : goal.nobody_alone-requires
nobody_alone-requires g c =
    let one : binomial (length c.args.scores.now) 0 ≤ g.K.Tally.LIMIT = c.requires.counted.within 0 (omega arith) in
    rw (binomial-zero (length c.args.scores.now)) at one

pub loop-i-preserved : goal.loop-i-preserved
loop-i-preserved g c =
    let i : ℕ = c.loop-i.i in
    let scores : List ℤ = c.args.scores.now in
    let rows : List (DrawRow g.row.K.Denot) = c.loop-i.rows.items in
    let new : List (DrawRow g.row.K.Denot) = c.add_subject.new.rows.items in
    draws-more g.K.Tally.cells g.K.Tally.LIMIT c.args.most c.args.stride (take i scores) (take (i + 1) scores) (get_or scores i (pos 0)) rows new (take-one scores i (pos 0) c.loop-i-test.true) c.loop-i.invariant c.in_ok-add_subject.ensures.rows c.in_ok-add_subject.ensures.told

pub returns : goal.returns
returns g c =
    let scores : List ℤ = c.args.scores.now in
    subst (λ xs. AreDraws g.K.Tally.cells g.K.Tally.LIMIT c.args.most c.args.stride xs c.loop-i.rows.items) (take_all c.loop-i.i scores (omega (arith, c.loop-i-test.false))) c.loop-i.invariant
