use Rattle.std.proofs.Common.{◌<◌, ◌/◌, arith}
use Rattle.distribution.proofs.Products.{above-size}
use Rattle.distribution.proofs.filtered.away.Goals as goal

pub returns : goal.returns
returns c =
    let whole = c.in-Some.ensures in
    let above : c.args.size / c.args.factor < c.args.times = omega (arith, whole.1, c.if-times-whole.false) in
    let exact = above-size c.args.factor c.args.times c.args.size whole.0 above in
    omega (arith, exact, rw (whole.1) at c.saturating_mul.ensures, c.saturating_add.ensures)
