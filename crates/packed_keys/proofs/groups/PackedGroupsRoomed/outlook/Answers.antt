use Rattle.packed_keys.proofs.groups.PackedGroupsRoomed.outlook.Goals as goal

pub outlook-requires-clause-place : goal.outlook-requires-clause-place
outlook-requires-clause-place g c = rw (← c.self.view_is) at c.requires.place
