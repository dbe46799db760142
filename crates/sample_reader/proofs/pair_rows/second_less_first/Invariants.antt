use Rattle.std.proofs.Common.{◌≡◌, take}
use Rattle.sample_reader.specs.CellLayouts.{second_less_first}
use Rattle.sample_reader.proofs.pair_rows.second_less_first.Given as goal

abbrev pub invariant-loop-pair : goal.invariant-loop-pair
invariant-loop-pair l = l.differences ≡ second_less_first (take l.pair l.first) (take l.pair l.second)
