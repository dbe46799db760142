use Rattle.std.proofs.Common.{◌<◌, get_or, arith}
use Rattle.one_sample_tests.specs.SignNetwork.{group_at}
use Rattle.one_sample_tests.proofs.MarkNetwork.{few-subjects, next-choices}
use Rattle.one_sample_tests.proofs.mark_stages.MarkStagesAdditive.next_choice.Goals as goal

pub overflow_add-choice : goal.overflow_add-choice
overflow_add-choice c =
    let few = few-subjects c.args.self.now.groups c.args.self.now.judge c.args.self.now.sound c.args.stage in
    let more : get_or c.args.choice.now 0 0 < (group_at c.args.self.now.groups c.args.stage).count = rw c.as_slice.ensures at c.if-choice-as_slice.true in
    omega (arith, few, more)

pub returns-then-choice-as_slice : goal.returns-then-choice-as_slice
returns-then-choice-as_slice c =
    let more : get_or c.args.choice.now 0 0 < (group_at c.args.self.now.groups c.args.stage).count = rw c.as_slice.ensures at c.if-choice-as_slice.true in
    next-choices (group_at c.args.self.now.groups c.args.stage).count c.args.choice.now c.requires.wide more
