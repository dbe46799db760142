use Rattle.std.proofs.Common.{◌≡◌, take}
use Rattle.std.specs.Prelude.{◌+ℤ◌}
use Rattle.node_pool.specs.Nodes.{weighted}
use Rattle.node_pool.specs.PoolSteps.{nodes_of}
use Rattle.score_convolution.specs.DrawRows.{number_of}
use Rattle.score_convolution.specs.Meetings.{pair_draws}
use Rattle.score_convolution.specs.Sides.{is_in, once}
use Rattle.score_convolution.proofs.onward.key_pairs.Given as goal

-- the pairs of the keys before this one, and where the first row lies alone has changed
abbrev pub invariant-loop-i : goal.invariant-loop-i
invariant-loop-i g l = record {
  sum : l.sum ≡ weighted (λ k. pair_draws g.K.Tally.cells (λ v. once (is_in l.sides) (number_of k +ℤ v)) l.stride l.fn.one l.other) (take l.i (nodes_of 1 l.keys l.weights));
  tally : l.one.tally ≡ l.fn.one.tally;
  total : l.one.total ≡ l.fn.one.total;
}
