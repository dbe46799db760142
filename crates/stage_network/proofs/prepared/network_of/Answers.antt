use Rattle.networks.proofs.Following.{extreme-is, whole-is}
use Rattle.networks.proofs.Writing.{opened-alike}
use Rattle.stage_network.proofs.prepared.network_of.Goals as goal

pub returns-clause-whole : goal.returns-clause-whole
returns-clause-whole g c = whole-is (g.P.Plain.test c.args.problem.now) c.args.tail (g.P.Prepared.running c.args.problem.now c.args.tail) (c.stages_of.ensures.follows c.args.tail c.requires)

pub returns-clause-numerator : goal.returns-clause-numerator
returns-clause-numerator g c = extreme-is (g.P.Plain.test c.args.problem.now) c.args.tail (g.P.Prepared.running c.args.problem.now c.args.tail) (c.stages_of.ensures.follows c.args.tail c.requires)

pub returns-clause-counted : goal.returns-clause-counted
returns-clause-counted g c = opened-alike (g.P.Plain.test c.args.problem.now) (g.P.Prepared.running c.args.problem.now) (g.P.Prepared.network c.args.problem.now) c.stages_of.ensures.written
