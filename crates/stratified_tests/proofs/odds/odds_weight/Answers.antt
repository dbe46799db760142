use Rattle.std.proofs.Common.{◌-◌, ◌^◌, arith}
use Rattle.strata_cells.proofs.FirstCells.{left-within, right-within}
use Rattle.stratified_tests.proofs.OddsLaws.{above-some, below-some}
use Rattle.stratified_tests.proofs.odds.odds_weight.Goals as goal

pub returns-in_err-above : goal.returns-in_err-above
returns-in_err-above c =
    let o = c.args.odds in
    let more = left-within (o.above ^ c.args.cell) (o.below ^ (c.args.subjects - c.args.cell)) (below-some o c.requires (c.args.subjects - c.args.cell)) in
    rw c.from_residual.ensures (λ whole. c.in_err-above.ensures (omega (arith, more, whole)))

pub returns-in_err-below : goal.returns-in_err-below
returns-in_err-below c =
    let o = c.args.odds in
    let more = right-within (o.above ^ c.args.cell) (o.below ^ (c.args.subjects - c.args.cell)) (above-some o c.requires c.args.cell) in
    rw c.from_residual-in_err-below.ensures (λ whole. c.in_err-below.ensures (rw c.saturating_sub.ensures (omega (arith, more, whole))))

pub returns : goal.returns
returns c = rw (c.in_ok-above.ensures.1, c.in_ok-below.ensures.1, c.saturating_sub.ensures) at c.bounded_product.ensures
