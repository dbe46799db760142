use Rattle.std.proofs.Common.{◌*◌, arith}
use Rattle.shift_limits.proofs.Halving.{divided-first}
use Rattle.shift_limits.proofs.places.most_missed.Goals as goal

pub returns : goal.returns
returns c = divided-first c.args.miss.above c.args.total (2 * c.args.miss.below) (omega (arith, c.requires.miss.some, c.requires.miss.part))
