-- Rows of cells in rooms: the nodes that they stand for, and the arcs that shift them.
use Rattle.std.specs.Prelude.{◌≡◌, ℕ, ◌+◌, ◌*◌, ◌<◌, ◌≤◌, ℤ, pos, ◌+ℤ◌, List, [], ◌∷◌, ◌++◌}
use Rattle.std.specs.Prelude.{length, take, drop, get_or}
use Rattle.std.specs.List.{Contains, flat_map, AllByRecursion}
use Rattle.weights.specs.declared.TheConstants.{MAX}
use Rattle.node_pool.specs.Nodes.{Node, weighted}
use Rattle.count_arrays.specs.Rows.{row_nodes}
use Rattle.weights.specs.declared.tails.Tail.{Tail}
use Rattle.networks.specs.declared.tail_sums.TailSums.{TailSums}
use Rattle.networks.specs.declared.tail_sums.Kept.{Kept}
use Rattle.networks.specs.Network.{Network, IsReached}
use Rattle.networks.specs.Laws.{IsLawful}
use Rattle.stage_network.specs.NodeSteps.{AllReached}
use Rattle.networks.specs.EachTail.{sum_for}
use Rattle.stage_network.specs.SweepSteps.{closed_at, counted, staying}
use Rattle.stage_network.specs.ArcSteps.{Arc, IsRun, lift, segment}
use Rattle.stage_network.specs.declared.row_heads.Head.{Head}
use Rattle.stage_network.specs.declared.row_heads.Shift.{Shift}

-- a room, and its row of cells
pub record Row : Type 0 where
  pub room : List ℤ
  pub lowest : ℤ
  pub stride : ℤ
  pub cells : List ℕ

-- how many numbers a room has, and the rows
pub record RowList : Type 0 where
  pub width : ℕ
  pub rows : List Row

-- the nodes of a row
abbrev pub row_whole : Row → List Node
row_whole r = lift r.room (row_nodes r.lowest r.stride r.cells)

-- those that a step leads to, given by their partials
abbrev pub moved : Row → ℤ → List Node
moved r step = row_nodes (r.lowest +ℤ step) r.stride r.cells

-- the nodes of many rows
abbrev pub all_nodes : List Row → List Node
all_nodes rows = flat_map row_whole rows

-- the rows that heads stand for, over a list of rooms and a list of cells
abbrev pub rows_of : ℕ → List ℤ → List ℕ → List Head → List Row
rows_of width rooms cells [] = []
rows_of width rooms cells (h ∷ heads) =
    let row : Row = record {
      room = take width rooms;
      lowest = h.lowest;
      stride = pos h.stride;
      cells = take h.len (drop h.start cells);
    } in
    row ∷ rows_of width (drop width rooms) cells heads

pub record AreRows (width : ℕ) (rooms : List ℤ) (cells : List ℕ) (heads : List Head) : Type 0 where
  pub long : length rooms ≡ length heads * width
  pub within : AllByRecursion (λ (h : Head). h.start + h.len ≤ length cells) heads

-- the nodes of a row are those from a place to before another, all of one room
pub record IsSpan (rows : List Row) (width i start end : ℕ) : Type 0 where
  pub order : start < end
  pub last : end ≤ length (all_nodes rows)
  pub is : (d : Row) → segment start end (all_nodes rows) ≡ row_whole (get_or rows i d)
  pub run : IsRun width (all_nodes rows) start end
  pub room : (d : Row) (e : Node)
      → take width (get_or (all_nodes rows) start e).key ≡ (get_or rows i d).room

-- an arc's nodes are those of a row, and its choice raises each partial there by a step
pub record IsShift (n : Network) (g width : ℕ) (rows : List Row) (a : Arc) (s : Shift)
    : Type 0 where
  pub low : s.row < length rows
  pub is : (d : Row) → segment a.start a.end (all_nodes rows) ≡ row_whole (get_or rows s.row d)
  pub moves : (d : Row) (p : ℤ) → IsReached n g ((get_or rows s.row d).room ++ p ∷ [])
      → Contains (n.choices g ((get_or rows s.row d).room ++ p ∷ [])) a.choice
      → drop width (n.next g ((get_or rows s.row d).room ++ p ∷ []) a.choice)
      ≡ (p +ℤ s.step) ∷ []

-- each arc with its shift
pub record AreShifts (n : Network) (g width : ℕ) (rows : List Row) (arcs : List Arc)
    (shifts : List Shift) : Type 0 where
  pub each : length shifts ≡ length arcs
  pub all : (i : ℕ) (d : Arc) (e : Shift) → i < length arcs
      → IsShift n g width rows (get_or arcs i d) (get_or shifts i e)

-- nodes of a room of stage g
pub record IsRowful (n : Network) (width g : ℕ) (room : List ℤ) (nodes : List Node)
    : Type 0 where
  pub lawful : IsLawful n
  pub within : g ≤ n.count
  pub reached : AllReached n g nodes
  pub wide : length room ≡ width
  pub deep : n.width ≡ width + 1
  pub fits : weighted (λ k. 1) nodes ≤ MAX

-- what settling nodes of a room of stage g comes to: those that stay, and the sums
pub record IsRowSettled (n : Network) (keep : Kept) (g : ℕ) (old new : List Node)
    (sums all : TailSums) : Type 0 where
  pub nodes : new ≡ staying n keep g old
  pub sum : (t : Tail)
      → (sum_for all t).sum ≡ (sum_for sums t).sum + weighted (closed_at n keep t g) old
  pub opened : (t : Tail)
      → (sum_for all t).opened ≡ (sum_for sums t).opened + counted n keep t g old
