-- Keys that are given to parts one after another.
use Rattle.std.specs.Prelude.{◌≡◌, ℕ, zero, suc, ◌%◌, List, [], ◌∷◌}
use Rattle.weights.specs.declared.tails.Tail.{Tail}
use Rattle.node_pool.specs.Nodes.{weighted}
use Rattle.networks.specs.Completions.{extreme_weight}
use Rattle.networks.specs.Network.{Network}
use Rattle.stage_network.specs.FromKeys.{AreStarts}
use Rattle.pieces.specs.declared.cuts.CountedCut.{CountedCut}
use Rattle.pieces.specs.Cuts.{counted_nodes, piece_sum}

-- the owners of the keys from place i on
abbrev pub dealt : ℕ → ℕ → ℕ → List ℕ
dealt parts i zero = []
dealt parts i (suc count) = (i % parts) ∷ dealt parts (suc i) count

-- a cut with the keys of one part alone: the sum over them is the part's
pub record IsPartCut (n : Network) (t : Tail) (at parts part : ℕ) (cut : CountedCut) : Type 0 where
  pub starts : AreStarts n cut.at cut.keys.items cut.weights.items
  pub sums : record {
    closed = cut.closed;
    sum = weighted (extreme_weight n t cut.at) (counted_nodes n cut);
  } ≡ piece_sum n t at parts part
