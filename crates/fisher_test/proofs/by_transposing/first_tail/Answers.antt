use Rattle.std.proofs.Common.{◌∙◌, sym, true, false}
use Rattle.fisher_test.proofs.TransposedParts.{first-is}
use Rattle.fisher_test.proofs.by_transposing.first_tail.Goals as goal

pub returns-then-made : goal.returns-then-made
returns-then-made c = sym (first-is c.args.table.now true (sym c.if-made.true ∙ c.made.ensures.two_by_two))

pub returns-else-made : goal.returns-else-made
returns-else-made c = sym (first-is c.args.table.now false (sym c.if-made.false ∙ c.made.ensures.two_by_two))
