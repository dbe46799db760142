use Rattle.strata_cells.specs.Strata.{strata_of}
use Rattle.zelen_test.proofs.ZelenTests.{not-wide, total-wide}
use Rattle.zelen_test.proofs.zelen.Zelen.prepare.Goals as goal

pub returns-in_default : goal.returns-in_default
returns-in_default c = total-wide (strata_of c.args.strata.now.cells) (rw c.in_default.is at c.in_ok-made.ensures)

pub invariant_of-result : goal.invariant_of-result
invariant_of-result c = rw c.in_ok-cells.ensures (rw c.in-Some.is at c.in_ok-made.ensures)

pub returns : goal.returns
returns c =
    let made = rw c.in-Some.is at c.in_ok-made.ensures in
    (c.in_ok-cells.ensures, not-wide (strata_of c.args.strata.now.cells) made.fits)
