use Rattle.packed_keys.proofs.groups.PackedGroups.new.Goals as goal

pub returns-clause-ends : goal.returns-clause-ends
returns-clause-ends g c = c.new.ensures.ends

pub returns-clause-follows : goal.returns-clause-follows
returns-clause-follows g c = c.new.ensures.follows

pub returns-clause-goes_on : goal.returns-clause-goes_on
returns-clause-goes_on g c = c.new.ensures.goes_on
