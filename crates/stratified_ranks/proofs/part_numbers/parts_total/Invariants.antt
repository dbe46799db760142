use Rattle.stratified_ranks.proofs.PartTotals.{IsTotalled}
use Rattle.stratified_ranks.proofs.part_numbers.parts_total.Given as goal

abbrev pub invariant-loop-part : goal.invariant-loop-part
invariant-loop-part l = IsTotalled l.parts l.part-index l.all
