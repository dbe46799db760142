use Rattle.stage_network.proofs.one_of.OneOfPrepared.is_shared.Goals as goal

pub returns-in-First : goal.returns-in-First
returns-in-First g c = rw c.in-First.is c.is_shared.ensures

pub returns-in-Second : goal.returns-in-Second
returns-in-Second g c = rw c.in-Second.is c.is_shared-in-Second.ensures
