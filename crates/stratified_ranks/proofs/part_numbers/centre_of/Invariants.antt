use Rattle.std.proofs.Common.{◌≡◌, ◌+◌, drop}
use Rattle.std.specs.List.{sum_by}
use Rattle.stratified_ranks.specs.StrataSteps.{part_centre}
use Rattle.stratified_ranks.proofs.part_numbers.centre_of.Given as goal

abbrev pub invariant-loop-part : goal.invariant-loop-part
invariant-loop-part l = l.centre + sum_by part_centre (drop l.part-index l.parts) ≡ sum_by part_centre l.parts
