use Rattle.std.proofs.Common.{◌-◌, arith}
use Rattle.weights.specs.Numbers.{binomial}
use Rattle.weights.proofs.Binomials.{binomial-positive}
use Rattle.sorted_tables.proofs.FrontLines.{first-factor, second-factor}
use Rattle.sorted_tables.proofs.fronts.with_row.Goals as goal

pub ways-here-requires-clause-fits : goal.ways-here-requires-clause-fits
ways-here-requires-clause-fits c =
    omega (
      arith,
      first-factor c.args.front.ways (binomial c.args.front.column c.args.count) (binomial c.args.front.others (c.args.size - c.args.count)) c.requires.some (binomial-positive c.args.front.others (c.args.size - c.args.count) c.requires.left),
      c.requires.fits,
    )

pub ways-there-requires-clause-fits : goal.ways-there-requires-clause-fits
ways-there-requires-clause-fits c =
    omega (
      arith,
      second-factor c.args.front.ways (binomial c.args.front.column c.args.count) (binomial c.args.front.others (c.args.size - c.args.count)) c.requires.some (binomial-positive c.args.front.column c.args.count c.requires.within),
      c.requires.fits,
    )
