use Rattle.symmetry_reduction.proofs.network.SymmetryReduced.sound.Goals as goal

pub returns : goal.returns
returns g c = rw (← c.self.view_is) ((g.R.Rooms.plan c.self.inside.rooms, c.self.invariant))
