use Rattle.std.proofs.Common.{◌≡◌, map, take}
use Rattle.stratified_ranks.proofs.part_numbers.sizes_of.Given as goal

abbrev pub invariant-loop-part : goal.invariant-loop-part
invariant-loop-part l = l.sizes ≡ map (λ part. part.subjects) (take l.part-index l.parts)
