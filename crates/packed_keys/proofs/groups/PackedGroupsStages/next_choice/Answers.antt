use Rattle.packed_keys.proofs.groups.PackedGroupsStages.next_choice.Goals as goal

pub next_choice-requires-clause-reached : goal.next_choice-requires-clause-reached
next_choice-requires-clause-reached g c = rw (← c.self.view_is) at c.requires.reached
