use Rattle.std.proofs.Common.{◌+◌, ◌*◌, sym, subst, arith}
use Rattle.label_network.specs.LabelSteps.{AreBinomials}
use Rattle.label_network.proofs.BinomialTable.{binomials-none, binomials-more, binomials-row, binomials-start}
use Rattle.label_network.proofs.binomials.Binomials.new.Goals as goal

pub loop-row-init : goal.loop-row-init
loop-row-init c = binomials-none c.args.width c.requires.some c.new-table.result.items c.new-table.ensures.items

pub loop-place-init : goal.loop-place-init
loop-place-init c = binomials-start c.args.width c.loop-row.row c.loop-row.table.items c.loop-row.invariant

pub next_entry-entry-requires-clause-table : goal.next_entry-entry-requires-clause-table
next_entry-entry-requires-clause-table c = subst (AreBinomials c.args.width (c.loop-row.row * c.args.width + c.loop-place.place)) (sym c.deref.ensures.value) c.loop-place.invariant

pub loop-place-preserved : goal.loop-place-preserved
loop-place-preserved c =
    rw c.in_ok-push.ensures.items (binomials-more c.args.width c.loop-row.row c.loop-place.place c.loop-place.table.items c.next_entry-entry.result c.loop-place-test.true c.loop-place.invariant c.next_entry-entry.ensures)

pub loop-row-preserved : goal.loop-row-preserved
loop-row-preserved c = binomials-row c.args.width c.loop-row.row c.loop-place.place c.loop-place.table.items (omega (arith, c.loop-place-test.false, c.loop-place.auto.place-end)) c.loop-place.invariant

pub invariant_of-result : goal.invariant_of-result
invariant_of-result c =
    record { right = subst (λ n. AreBinomials c.args.width (n * c.args.width) c.loop-row.table.items) (omega (arith, c.loop-row-test.false, c.loop-row.auto.row-end)) c.loop-row.invariant }
