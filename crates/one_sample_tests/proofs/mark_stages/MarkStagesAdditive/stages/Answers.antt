use Rattle.one_sample_tests.proofs.MarkNetwork.{sound_stages}
use Rattle.one_sample_tests.proofs.mark_stages.MarkStagesAdditive.stages.Goals as goal

pub returns-clause-sound : goal.returns-clause-sound
returns-clause-sound c = sound_stages c.args.self.now.groups c.args.self.now.judge c.args.self.now.sound
