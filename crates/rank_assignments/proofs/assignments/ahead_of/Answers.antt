use Rattle.std.proofs.Common.{◌∙◌, ◌+◌, ◌-◌, ap, arith, length, subst, sym}
use Rattle.rank_assignments.specs.Assignments.{AreAhead, IsSmallAhead, before, assignment_at}
use Rattle.rank_assignments.specs.declared.assignment.Assignment.{Assignment}
use Rattle.rank_assignments.proofs.AssignmentSteps.{ahead-more, ahead-small, found-ahead, small-ahead}
use Rattle.rank_assignments.proofs.assignments.ahead_of.Goals as goal

pub before-here-requires-clause-next : goal.before-here-requires-clause-next
before-here-requires-clause-next c =
    let vs = c.args.items.now in
    subst IsSmallAhead (sym (found-ahead c.args.treatments vs c.args._judge c.requires c.loop-done.done c.loop-done.done c.loop-done.table.items c.index.result.now c.loop-done.invariant (omega arith) c.index.ensures))
    (small-ahead c.args.treatments vs c.args._judge c.requires (length vs - c.loop-done.done) (omega arith))

pub before-here-requires-clause-here : goal.before-here-requires-clause-here
before-here-requires-clause-here c =
    let vs = c.args.items.now in
    let v : Assignment = assignment_at vs (length vs - c.loop-done.done - 1) in
    subst (λ z. IsSmallAhead (before v.closes v z)) (sym (found-ahead c.args.treatments vs c.args._judge c.requires c.loop-done.done c.loop-done.done c.loop-done.table.items c.index.result.now c.loop-done.invariant (omega arith) c.index.ensures))
    (ahead-small c.args.treatments vs c.args._judge c.requires c.loop-done.done c.loop-done-test.true)

pub loop-done-preserved : goal.loop-done-preserved
loop-done-preserved c =
    let vs = c.args.items.now in
    let v : Assignment = assignment_at vs (length vs - c.loop-done.done - 1) in
    subst (AreAhead c.args.treatments vs (c.loop-done.done + 1)) (sym c.in_ok-push-2.ensures.items)
    (ahead-more c.args.treatments vs c.args._judge c.requires c.loop-done.done c.loop-done.table.items c.before-here.result c.loop-done-test.true c.loop-done.invariant
    (c.before-here.ensures ∙ ap (before v.closes v) (found-ahead c.args.treatments vs c.args._judge c.requires c.loop-done.done c.loop-done.done c.loop-done.table.items c.index.result.now c.loop-done.invariant (omega arith) c.index.ensures)))
