-- What columns owe each other, and what is kept of each stage.
use Rattle.std.specs.Prelude.{◌≡◌, ⊤, ℕ, ℤ, ◌+◌, ◌-◌, ◌*◌, ◌<◌, ◌≤◌, List, [], ◌∷◌, drop, get_or, length, nat_eq, unsigned_abs, if◌then◌else◌}
use Rattle.std.specs.List.{sum}
use Rattle.weights.specs.declared.TheConstants.{MAX}
use Rattle.midranks.specs.declared.TheConstants.{MOST_VALUES}
use Rattle.networks.specs.Completions.{total_weight}
use Rattle.networks.specs.Judged.{JudgeFits}
use Rattle.networks.specs.declared.verdicts.Judge.{Judge}
use Rattle.room_network.specs.Plans.{alone}
use Rattle.count_rooms.specs.OneCount.{IsOneCount, chosen, remaining}
use Rattle.stratified_ranks.specs.RankRooms.{column_at, column_ranks, fewest_here, greatest_added, least_added, most_here}
use Rattle.stratified_ranks.specs.RankRooms.{left, rank_plan, second_of, ways_of}
use Rattle.stratified_ranks.specs.declared.rank_columns.Column.{Column}

-- the rank of the first column, 0 where there is none
abbrev pub first_rank : List Column → ℕ
first_rank [] = 0
first_rank (c ∷ columns) = c.rank

-- a column and those behind it: the others of its stratum, whose ranks are not below its own, or
-- behind the last one of the stratum those of the next
pub record IsColumn (c : Column) (columns : List Column) : Type 0 where
  pub small : c.size + c.later ≤ MOST_VALUES
  pub on : 0 < c.later → left columns ≡ c.later
  pub rises : 0 < c.later → c.rank ≤ first_rank columns
  pub ahead : c.later ≡ 0 → second_of columns ≤ left columns

abbrev pub AreColumns : List Column → Type 0
AreColumns [] = ⊤
AreColumns (c ∷ columns) = IsColumn c columns × AreColumns columns

-- the same, stage by stage
pub record AreSound (columns : List Column) : Type 0 where
  pub each : (g : ℕ) → g < length columns → IsColumn (column_at columns g) (drop (g + 1) columns)

-- how many labellings all later strata have
abbrev pub later_ways : List Column → ℕ
later_ways [] = 1
later_ways (c ∷ columns) =
    (if nat_eq c.later 0 then ways_of (left columns) (second_of columns) else 1)
    * later_ways columns

-- that of the last stages: none, the last one, and so on
pub record AreLaterWays (columns : List Column) (done : ℕ) (ways : List ℕ) : Type 0 where
  pub long : length ways ≡ done + 1
  pub within : done ≤ length columns
  pub each : (i : ℕ) → i ≤ done
      → get_or ways i 0 ≡ later_ways (drop (length columns - i) columns)

-- columns whose labellings pass no limit
pub record AreFitColumns (columns : List Column) : Type 0 where
  pub sound : AreSound columns
  pub within : second_of columns ≤ left columns
  pub total_fits : ways_of (left columns) (second_of columns) * later_ways columns ≤ MAX
  pub ranks_fit : sum (column_ranks columns) ≤ MAX

pub record AreRankRooms (columns : List Column) (ways : List ℕ) : Type 0 where
  pub fit : AreFitColumns columns
  pub ways_are : AreLaterWays columns (length columns) ways

-- what is known of a room that is reached: how many are left from its stage on, how many labellings
-- they and those behind them have, and what ranks can still add, of which none passes the limit;
-- and before the last stage, that some choice is allowed
pub record RankSeat (columns : List Column) (g : ℕ) (room : List ℤ) : Type 0 where
  pub one : IsOneCount room
  pub stage : g ≤ length columns
  pub sound : AreColumns (drop g columns)
  pub few : left (drop g columns) ≤ MOST_VALUES
  pub within : remaining room ≤ left (drop g columns)
  pub own : ways_of (left (drop g columns)) (remaining room) ≤ MAX
  pub both : ways_of (left (drop g columns)) (remaining room) * later_ways (drop g columns) ≤ MAX
  pub least : least_added (drop g columns) (remaining room) ≤ MAX
  pub greatest : greatest_added (drop g columns) (remaining room) ≤ MAX
  pub meets : g < length columns → let c = column_at columns g in
      fewest_here c (remaining room) ≤ most_here c (remaining room)
  pub total : total_weight (alone (rank_plan columns)) g room
      ≡ ways_of (left (drop g columns)) (remaining room) * later_ways (drop g columns)

-- and of a choice there
pub record RankChoice (column : Column) (room : List ℤ) (x : List ℕ) : Type 0 where
  pub some : 0 < length x
  pub within : chosen x ≤ column.size
  pub most : chosen x ≤ remaining room
  pub fits : ways_of column.size (chosen x) ≤ MAX
  pub few : column.size ≤ MOST_VALUES
  pub added : chosen x * column.rank ≤ MAX

-- and rules that compute no great number of a sum of ranks
pub record AreRankSums (columns : List Column) (judge : Judge) : Type 0 where
  pub fit : AreFitColumns columns
  pub judge_fits : (v : ℤ) → unsigned_abs v ≤ sum (column_ranks columns) → JudgeFits judge v
