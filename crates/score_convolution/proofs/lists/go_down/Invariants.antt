use Rattle.std.proofs.Common.{drop}
use Rattle.score_convolution.specs.Places.{AllEnough, IsUpper}
use Rattle.score_convolution.proofs.lists.go_down.Given as goal

-- the spots from here on are enough
abbrev pub invariant-loop-index : goal.invariant-loop-index
invariant-loop-index g l = record {
  upper : IsUpper l.spots (record { index = l.index; draws = l.draws });
  enough : AllEnough l.fn.least (drop l.index l.spots);
}

abbrev pub decreases-loop-index : goal.decreases-loop-index
decreases-loop-index g l = l.index
