use Rattle.std.proofs.Common.{ℕ, cond, ap, ◌∙◌}
use Rattle.score_convolution.specs.Sides.{is_in, sides_for}
use Rattle.score_convolution.specs.DrawRows.{rows_draws}
use Rattle.score_convolution.specs.Meetings.{met}
use Rattle.score_convolution.proofs.BothParts.{all-met}
use Rattle.score_convolution.proofs.MeetingFits.{may-meet}
use Rattle.score_convolution.proofs.Subjects.{first-subjects, second-subjects}
use Rattle.score_convolution.proofs.tails.sums_in.Goals as goal

pub draw_rows-requires-clause-subjects : goal.draw_rows-requires-clause-subjects
draw_rows-requires-clause-subjects g c = first-subjects c.args.stride c.args.first.now c.args.second.now c.requires.subjects

pub draw_rows-requires-2-clause-subjects : goal.draw_rows-requires-2-clause-subjects
draw_rows-requires-2-clause-subjects g c = second-subjects c.args.stride c.args.first.now c.args.second.now c.requires.subjects

pub meeting-requires-clause-meet : goal.meeting-requires-clause-meet
meeting-requires-clause-meet g c =
    rw (c.deref.ensures.value, c.deref-2.ensures.value)
    (may-meet g.K.Tally.cells g.K.Tally.LIMIT c.args.drawn c.args.stride c.args.sides.now c.args.first.now c.args.second.now c.in_ok-rows.rows.items c.in_ok-others.others.items c.requires.subjects c.requires.fits c.in_ok-rows.ensures c.in_ok-others.ensures)

pub returns : goal.returns
returns g c t asked =
    let cells_of = g.K.Tally.cells in
    let p = is_in (sides_for c.args.sides.now t) in
    let s : ℕ = c.args.stride in
    let n : ℕ = c.args.drawn in
    c.meeting.ensures t
    ∙ ap (λ b. cond b (rows_draws cells_of (met cells_of p n s c.deref-2.result.now) 0 s c.deref.result.now) 0) asked
    ∙ ap (λ xs. rows_draws cells_of (met cells_of p n s xs) 0 s c.deref.result.now) c.deref-2.ensures.value
    ∙ ap (rows_draws cells_of (met cells_of p n s c.in_ok-others.others.items) 0 s) c.deref.ensures.value
    ∙ all-met cells_of g.K.Tally.LIMIT s n p c.args.first.now c.args.second.now c.in_ok-rows.rows.items c.in_ok-others.others.items c.in_ok-rows.ensures c.in_ok-others.ensures
