use Rattle.packed_keys.proofs.groups.PackedGroupsStages.apply.Goals as goal

pub apply-requires-clause-reached : goal.apply-requires-clause-reached
apply-requires-clause-reached g c = rw (← c.self.view_is) at c.requires.reached
