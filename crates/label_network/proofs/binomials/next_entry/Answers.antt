use Rattle.std.proofs.Common.{◌∙◌}
use Rattle.label_network.proofs.BinomialTable.{first-entry, first-row, left-most, above-most, entry-sum}
use Rattle.label_network.proofs.binomials.next_entry.Goals as goal

pub capped_sum-requires-clause-a : goal.capped_sum-requires-clause-a
capped_sum-requires-clause-a c = left-most c.args.width c.args.row c.args.place c.args.table.now c.requires.table c.requires.place c.if-place-eq0.false c.if-row-eq0.false

pub capped_sum-requires-clause-b : goal.capped_sum-requires-clause-b
capped_sum-requires-clause-b c = above-most c.args.width c.args.row c.args.place c.args.table.now c.requires.table c.requires.place c.if-place-eq0.false c.if-row-eq0.false

pub returns-then-place-eq0 : goal.returns-then-place-eq0
returns-then-place-eq0 c = first-entry c.args.row c.args.place c.if-place-eq0.true

pub returns-then-row-eq0 : goal.returns-then-row-eq0
returns-then-row-eq0 c = first-row c.args.row c.args.place c.if-place-eq0.false c.if-row-eq0.true

pub returns-else-row-eq0 : goal.returns-else-row-eq0
returns-else-row-eq0 c = c.capped_sum.ensures ∙ entry-sum c.args.width c.args.row c.args.place c.args.table.now c.requires.table c.requires.place c.if-place-eq0.false c.if-row-eq0.false
