use Rattle.std.proofs.Common.{arith}
use Rattle.sample_reader.proofs.SubjectLemmas.{kept-next, next, with_label-few, with_label-many}
use Rattle.sample_reader.proofs.group_rows.GroupsSoFar.with_label.Goals as goal

pub returns-then-len-most : goal.returns-then-len-most
returns-then-len-most c =
    let kept = c.self.inside in
    let one_more = next kept.labels _ kept.members _ c.args.label.now c.self.invariant.numbered c.in_ok-number.ensures.number c.in_ok-number.ensures.ok in
    rw (← c.self.view_is) (with_label-many kept.labels _ kept.members kept.values _ c.args.most c.args.label.now one_more (omega arith))

pub invariant_of-result : goal.invariant_of-result
invariant_of-result c =
    let kept = c.self.inside in
    let one_more = next kept.labels _ kept.members _ c.args.label.now c.self.invariant.numbered c.in_ok-number.ensures.number c.in_ok-number.ensures.ok in
    rw c.in_ok-push.ensures.ok (kept-next kept.labels _ kept.members kept.values _ c.args.most c.args.label.now one_more c.self.invariant)

pub returns : goal.returns
returns c =
    let kept = c.self.inside in
    let one_more = next kept.labels _ kept.members _ c.args.label.now c.self.invariant.numbered c.in_ok-number.ensures.number c.in_ok-number.ensures.ok in
    rw (← c.self.view_is, c.in_ok-push.ensures.ok) (with_label-few kept.labels _ kept.members kept.values _ c.args.most c.args.label.now one_more (omega arith))
