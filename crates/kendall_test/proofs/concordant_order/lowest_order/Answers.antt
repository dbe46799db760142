use Rattle.std.proofs.Common.{arith}
use Rattle.std.proofs.lemmas.Int.{ints}
use Rattle.kendall_test.proofs.KendallNarrows.{all-pairs}
use Rattle.kendall_test.proofs.concordant_order.lowest_order.Goals as goal

pub returns-clause-small : goal.returns-clause-small
returns-clause-small c = omega (arith, ints, c.open_pairs.ensures, all-pairs c.args.rows.now c.requires)
