use Rattle.packed_keys.proofs.groups.PackedGroupsStages.first_choice.Goals as goal

pub first_choice-requires-clause-reached : goal.first_choice-requires-clause-reached
first_choice-requires-clause-reached g c = rw (← c.self.view_is) at c.requires.reached
