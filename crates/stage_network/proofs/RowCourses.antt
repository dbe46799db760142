-- A sweep over rows along its course, by the nodes of the rows that it stands at.
use Rattle.std.proofs.Common.{ℕ, ◌<◌, ◌≤◌, List}
use Rattle.std.specs.Prelude.{ℤ}
use Rattle.weights.specs.declared.TheConstants.{MAX}
use Rattle.node_pool.specs.Nodes.{weighted}
use Rattle.networks.specs.Network.{Network}
use Rattle.networks.specs.Shifts.{IsShifting}
use Rattle.stage_network.specs.NodeSteps.{AllReached}
use Rattle.stage_network.specs.SweepSteps.{Course}
use Rattle.stage_network.specs.declared.row_sweeps.RowSweep.{RowSweep}
use Rattle.stage_network.specs.RowSteps.{all_nodes}
use Rattle.stage_network.specs.RowSweeps.{AreRowsHere, IsRowSweeping}
use Rattle.stage_network.proofs.Courses.{standing-reached, standing-nodes, standing-light}

module _ {C : Type 0} (n : Network) (width step_width limit : ℕ) (number : C → ℕ) (course : Course) (sweep : RowSweep C) (s : IsRowSweeping n width step_width limit number course sweep) where
  pub rows-reached : AllReached n sweep.stage (all_nodes sweep.rows.rows)
  rows-reached = standing-reached n s.lawful limit course s.starts s.gone sweep.stage s.stands s.within sweep.sums (all_nodes sweep.rows.rows) s.swept

  pub rows-light : weighted (λ k. 1) (all_nodes sweep.rows.rows) ≤ MAX
  rows-light = standing-light n s.lawful limit course s.starts s.gone sweep.stage s.stands s.within sweep.sums (all_nodes sweep.rows.rows) s.swept

  pub rows-here : (step_of : ℕ → List ℤ → List ℕ → List ℤ) → IsShifting n width step_width step_of → sweep.stage < n.count → AreRowsHere n width step_width step_of sweep.stage sweep.rows
  rows-here step_of shifting before = record {
    nodes = standing-nodes n s.lawful limit course s.starts s.gone sweep.stage s.stands s.within sweep.sums (all_nodes sweep.rows.rows) s.swept before;
    roomed = s.stores.roomed;
    shifting = shifting;
    room_width = s.stores.rows;
  }
