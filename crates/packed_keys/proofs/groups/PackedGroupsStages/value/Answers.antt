use Rattle.packed_keys.proofs.groups.PackedGroupsStages.value.Goals as goal

pub value-requires : goal.value-requires
value-requires g c = rw (← c.self.view_is) at c.requires
