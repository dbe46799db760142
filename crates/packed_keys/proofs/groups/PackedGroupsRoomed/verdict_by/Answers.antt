use Rattle.packed_keys.proofs.groups.PackedGroupsRoomed.verdict_by.Goals as goal

pub verdict_by-requires-clause-reached : goal.verdict_by-requires-clause-reached
verdict_by-requires-clause-reached g c = rw (← c.self.view_is) at c.requires.reached
