-- A sweep over rows of cells: what it owns, and where it stands.
use Rattle.std.specs.Prelude.{◌≡◌, ℕ, ℤ, ◌+◌, ◌<◌, ◌≤◌, pos, List, length, map}
use Rattle.node_pool.specs.Nodes.{Node}
use Rattle.count_arrays.specs.Rows.{row_nodes}
use Rattle.stage_network.specs.declared.row_arcs.RowArcs.{RowArcs}
use Rattle.stage_network.specs.declared.row_filling.RoomRow.{RoomRow}
use Rattle.stage_network.specs.declared.row_sweeps.RowSweep.{RowSweep}
use Rattle.networks.specs.Network.{Network}
use Rattle.networks.specs.Laws.{IsLawful}
use Rattle.networks.specs.Rooms.{IsRoomed}
use Rattle.networks.specs.Shifts.{IsShifting}
use Rattle.stage_network.specs.NodeSteps.{AreNodes}
use Rattle.stage_network.specs.SweepSteps.{AreListed, Course, HasBuffers, HasSwept, IsCourse}
use Rattle.stage_network.specs.RowSteps.{Row, RowList, AreShifts, all_nodes}

-- rows of a stage before the last, in rooms of this width, which steps shift
pub record AreRowsHere (n : Network) (width step_width : ℕ)
    (step_of : ℕ → List ℤ → List ℕ → List ℤ) (g : ℕ) (here : RowList) : Type 0 where
  pub nodes : AreNodes n g (all_nodes here.rows)
  pub roomed : IsRoomed n width
  pub shifting : IsShifting n width step_width step_of
  pub room_width : here.width ≡ width

-- buffers for rooms and steps of these widths
pub record HasRowBuffers (n : Network) (width step_width : ℕ) (all : RowArcs) : Type 0 where
  pub listed : HasBuffers n width all.listed
  pub step : length all.step.items ≡ step_width

-- the arcs of the nodes before a place are listed, each with its shift
pub record AreRowsListed (n : Network) (width step_width g : ℕ) (rows : List Row) (place : ℕ)
    (all : RowArcs) : Type 0 where
  pub listed : AreListed n width g (all_nodes rows) place all.listed
  pub step : length all.step.items ≡ step_width
  pub shifts : AreShifts n g width rows all.listed.arcs.arcs all.shifts.items

-- the nodes of a room's row, given by their partials
abbrev pub row_partials : {C : Type 0} → (C → ℕ) → RoomRow C → List Node
row_partials number row = row_nodes row.lowest (pos row.stride) (map number row.cells.items)

-- a row can be cleared, and its cells are for distinct numbers
pub record IsRoomRow {C : Type 0} (number : C → ℕ) (row : RoomRow C) : Type 0 where
  pub none : number row.none ≡ 0
  pub apart : 0 < row.stride

-- the stores of a sweep serve the network
pub record HasRowStores {C : Type 0} (n : Network) (width step_width : ℕ) (number : C → ℕ)
    (sweep : RowSweep C) : Type 0 where
  pub roomed : IsRoomed n width
  pub rows : sweep.rows.width ≡ width
  pub ahead : sweep.ahead.width ≡ width
  pub arcs : HasRowBuffers n width step_width sweep.arcs
  pub row : IsRoomRow number sweep.row

-- a sweep of this course stands at a stage
pub record IsRowSweeping {C : Type 0} (n : Network) (width step_width limit : ℕ)
    (number : C → ℕ) (course : Course) (sweep : RowSweep C) : Type 0 where
  pub lawful : IsLawful n
  pub starts : IsCourse n limit course
  pub stores : HasRowStores n width step_width number sweep
  pub keeps : sweep.keep ≡ course.keep
  pub gone : ℕ
  pub stands : sweep.stage ≡ course.stage + gone
  pub within : sweep.stage ≤ n.count
  pub swept : HasSwept n course gone sweep.sums (all_nodes sweep.rows.rows)
