use Rattle.std.proofs.Common.{◌+◌, ◌*◌}
use Rattle.label_network.specs.LabelSteps.{AreBinomials}
use Rattle.label_network.proofs.binomials.Binomials.new.Given as goal

abbrev pub invariant-loop-place : goal.invariant-loop-place
invariant-loop-place l = AreBinomials l.width (l.row * l.width + l.place) l.table.items

abbrev pub invariant-loop-row : goal.invariant-loop-row
invariant-loop-row l = AreBinomials l.width (l.row * l.width) l.table.items
