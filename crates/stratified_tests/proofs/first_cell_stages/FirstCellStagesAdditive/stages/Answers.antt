use Rattle.stratified_tests.proofs.StrataLaws.{sound_stages}
use Rattle.stratified_tests.proofs.first_cell_stages.FirstCellStagesAdditive.stages.Goals as goal

pub returns-clause-sound : goal.returns-clause-sound
returns-clause-sound c =
    let s = c.args.self.now in
    sound_stages s.odds s.strata s.judge s.sound
