use Rattle.packed_keys.proofs.groups.PackedGroupsStages.rest.Goals as goal

pub rest-requires : goal.rest-requires
rest-requires g c = rw (← c.self.view_is) at c.requires
