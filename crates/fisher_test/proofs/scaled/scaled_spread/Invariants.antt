use Rattle.std.proofs.Common.{◌≡◌, map, take}
use Rattle.fisher_test.specs.Transposed.{scaled_line}
use Rattle.fisher_test.proofs.scaled.scaled_spread.Given as goal

abbrev pub invariant-loop-line : goal.invariant-loop-line
invariant-loop-line l = l.spread ≡ map (scaled_line l.all l.of) (take l.line-index l.given)
