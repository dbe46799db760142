use Rattle.packed_keys.proofs.groups.PackedGroupsStages.verdict.Goals as goal

pub verdict-requires : goal.verdict-requires
verdict-requires g c = rw (← c.self.view_is) at c.requires
