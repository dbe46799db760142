use Rattle.std.proofs.Common.{◌≡◌, ◌∙◌, sym, get_or, arith}
use Rattle.completion_bounds.specs.Fillings.{evenly_divided}
use Rattle.completion_bounds.proofs.Capped.{even-first, even-next, even-greater, even-fewer, even-last}
use Rattle.completion_bounds.proofs.fillings.times_evenly_divided.Goals as goal
use Rattle.completion_bounds.proofs.fillings.times_evenly_divided.Goals.{then-row-greater, else-row-greater}

pub loop-row-init : goal.loop-row-init
loop-row-init c = even-first c.args.product c.args.cap c.args.units c.args.rows c.requires.rows c.requires.some c.requires.most

pub overflow_sub-left : goal.overflow_sub-left
overflow_sub-left c =
    let next = even-next _ _ _ _ c.args.units c.args.rows c.loop-row.row c.loop-row-test.true c.loop-row.invariant in
    elim c.if-row-greater.branch [
      | then-row-greater w ↦ omega (arith, w.cell-is, even-greater c.args.units c.args.rows c.loop-row.row w.if-row-greater.true, next.1)
      | else-row-greater w ↦ omega (arith, w.cell-is, even-fewer c.args.units c.args.rows c.loop-row.row w.if-row-greater.false c.loop-row-test.true, next.1)
    ]

pub loop-row-preserved : goal.loop-row-preserved
loop-row-preserved c =
    let next = even-next _ _ _ _ c.args.units c.args.rows c.loop-row.row c.loop-row-test.true c.loop-row.invariant in
    let cell : c.if-row-greater.cell ≡ get_or (evenly_divided c.args.units c.args.rows) c.loop-row.row 0 = elim c.if-row-greater.branch [
      | then-row-greater w ↦ w.cell-is ∙ sym (even-greater c.args.units c.args.rows c.loop-row.row w.if-row-greater.true)
      | else-row-greater w ↦ w.cell-is ∙ sym (even-fewer c.args.units c.args.rows c.loop-row.row w.if-row-greater.false c.loop-row-test.true)
    ] in
    rw (c.times_ways-weight.ensures, cell) next.0

pub returns : goal.returns
returns c = even-last _ _ _ _ c.args.units c.args.rows c.loop-row.row c.requires.rows (omega (arith, c.loop-row-test.false)) c.loop-row.invariant
