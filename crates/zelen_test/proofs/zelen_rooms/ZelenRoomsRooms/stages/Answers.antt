use Rattle.zelen_test.proofs.ZelenPlans.{zelen_sound}
use Rattle.zelen_test.proofs.zelen_rooms.ZelenRoomsRooms.stages.Goals as goal

pub returns-clause-sound : goal.returns-clause-sound
returns-clause-sound c =
    let s = c.args.self.now.counts in
    zelen_sound s.strata s.sum s.right.summed.can s.right.fits
