use Rattle.std.proofs.Common.{ℕ}
use Rattle.record_reader.proofs.Pieces.{none}
use Rattle.record_reader.proofs.fields.Fields.empty.Goals as goal

pub invariant_of-result : goal.invariant_of-result
invariant_of-result c = rw (c.new-2.ensures.items, c.new.ensures.items) (none {X = ℕ}).cuts

pub returns : goal.returns
returns c = rw (c.new-2.ensures.items, c.new.ensures.items) (none {X = ℕ}).view
