use Rattle.std.proofs.Common.{sym, arith}
use Rattle.row_products.proofs.Cutting.{factorial-cut}
use Rattle.row_products.proofs.bounds.RowProducts.factorial.Goals as goal

pub returns-else-n-lt-HELD : goal.returns-else-n-lt-HELD
returns-else-n-lt-HELD c = sym (factorial-cut c.args.n (omega (arith, c.if-n-lt-HELD.false)))
