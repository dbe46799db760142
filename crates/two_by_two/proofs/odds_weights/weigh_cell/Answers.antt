use Rattle.std.proofs.Common.{arith}
use Rattle.two_by_two.proofs.OddsLaws.{cell-factors}
use Rattle.two_by_two.proofs.odds_weights.weigh_cell.Goals as goal

pub returns-in_err-chosen : goal.returns-in_err-chosen
returns-in_err-chosen c =
    let within = cell-factors c.args.odds c.requires.odds c.args.left c.args.right c.args.upper c.args.cell c.requires.left c.requires.upper c.requires.right in
    rw c.from_residual.ensures (λ fits. c.in_err-chosen.ensures (omega (arith, fits, within.first)))

pub returns-in_err-others : goal.returns-in_err-others
returns-in_err-others c =
    let within = cell-factors c.args.odds c.requires.odds c.args.left c.args.right c.args.upper c.args.cell c.requires.left c.requires.upper c.requires.right in
    rw c.from_residual-in_err-others.ensures (λ fits. c.in_err-others.ensures (omega (arith, fits, within.second)))

pub returns-in_err-above : goal.returns-in_err-above
returns-in_err-above c =
    let within = cell-factors c.args.odds c.requires.odds c.args.left c.args.right c.args.upper c.args.cell c.requires.left c.requires.upper c.requires.right in
    rw c.from_residual-in_err-above.ensures (λ fits. c.in_err-above.ensures (omega (arith, fits, within.third)))

pub returns-in_err-below : goal.returns-in_err-below
returns-in_err-below c =
    let within = cell-factors c.args.odds c.requires.odds c.args.left c.args.right c.args.upper c.args.cell c.requires.left c.requires.upper c.requires.right in
    rw c.from_residual-in_err-below.ensures (λ fits. c.in_err-below.ensures (omega (arith, fits, within.fourth)))

pub returns-in_err-ways : goal.returns-in_err-ways
returns-in_err-ways c =
    let within = cell-factors c.args.odds c.requires.odds c.args.left c.args.right c.args.upper c.args.cell c.requires.left c.requires.upper c.requires.right in
    rw c.from_residual-in_err-ways.ensures (λ fits. c.in_err-ways.ensures (rw (c.in_ok-chosen.ensures.1, c.in_ok-others.ensures.1) (omega (arith, fits, within.ways))))

pub returns-in_err-each : goal.returns-in_err-each
returns-in_err-each c =
    let within = cell-factors c.args.odds c.requires.odds c.args.left c.args.right c.args.upper c.args.cell c.requires.left c.requires.upper c.requires.right in
    rw c.from_residual-in_err-each.ensures (λ fits. c.in_err-each.ensures (rw (c.in_ok-above.ensures.1, c.in_ok-below.ensures.1) (omega (arith, fits, within.each))))
