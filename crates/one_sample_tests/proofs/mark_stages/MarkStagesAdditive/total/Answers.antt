use Rattle.one_sample_tests.proofs.MarkNetwork.{doubled, few-subjects}
use Rattle.one_sample_tests.proofs.mark_stages.MarkStagesAdditive.total.Goals as goal

pub overflow_shl-result : goal.overflow_shl-result
overflow_shl-result c = rw c.as_slice.ensures (few-subjects c.args.self.now.groups c.args.self.now.judge c.args.self.now.sound c.args.stage)

pub returns : goal.returns
returns c = rw c.as_slice.ensures (doubled c.args.self.now.groups c.args.self.now.judge c.args.self.now.sound c.args.stage)
