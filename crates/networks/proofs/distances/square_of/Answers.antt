use Rattle.std.proofs.Math.Nat.{mul-le-mul}
use Rattle.networks.proofs.distances.square_of.Goals as goal

pub returns-clause-small : goal.returns-clause-small
returns-clause-small c = mul-le-mul c.requires c.requires
