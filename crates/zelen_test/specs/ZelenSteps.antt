-- What is kept of strata that are prepared for Zelen's test: for each stratum what can be left of
-- the sum before it, and how many labellings from it on have each of these sums.
use Rattle.std.specs.Prelude.{◌≡◌, ℕ, suc, ◌+◌, ◌-◌, ◌*◌, ◌<◌, ◌≤◌, ◌^◌, List, length, drop, max, min, slice_index, slice_index_or, ℤ}
use Rattle.std.specs.List.{range_with_len, sum_by}
use Rattle.weights.specs.declared.TheConstants.{MAX}
use Rattle.record_reader.specs.declared.TheConstants.{MOST_ROWS}
use Rattle.networks.specs.Completions.{total_weight}
use Rattle.networks.specs.Judged.{JudgeFits}
use Rattle.networks.specs.declared.verdicts.Judge.{Judge}
use Rattle.room_network.specs.Plans.{alone}
use Rattle.strata_cells.specs.declared.stratum.Stratum.{Stratum}
use Rattle.strata_cells.specs.Strata.{cell_weight, greatest_cell, least_cell, stratum_at}
use Rattle.strata_cells.specs.StrataLimits.{AreSmall, IsSmall}
use Rattle.count_rooms.specs.OneCount.{IsOneCount, chosen, remaining}
use Rattle.zelen_test.specs.ZelenNetwork.{greatest_choice, greatest_first_cells, least_choice}
use Rattle.zelen_test.specs.ZelenNetwork.{least_first_cells, lesser_weight, lesser_weights, number_with, zelen_plan}
use Rattle.zelen_test.specs.declared.later_sums.LaterSums.{LaterSums}
use Rattle.zelen_test.specs.declared.later_sums.SumRanges.{SumRanges}

-- a sum that first cells of strata can have
pub record CanHave (strata : List Stratum) (sum : ℕ) : Type 0 where
  pub least : least_first_cells strata ≤ sum
  pub most : sum ≤ greatest_first_cells strata

-- what can be left of a sum before stratum g, where the strata before it and those from it on have
-- their least and their greatest first cells
abbrev pub least_left : List Stratum → ℕ → ℕ → ℕ
least_left strata sum g =
    let later = drop g strata in
    max (sum + greatest_first_cells later - greatest_first_cells strata) (least_first_cells later)

abbrev pub most_left : List Stratum → ℕ → ℕ → ℕ
most_left strata sum g =
    let later = drop g strata in
    min (sum + least_first_cells later - least_first_cells strata) (greatest_first_cells later)

pub record IsLeft (strata : List Stratum) (sum g left : ℕ) : Type 0 where
  pub least : least_left strata sum g ≤ left
  pub most : left ≤ most_left strata sum g

-- what is kept of the strata from g on
pub record AreLaterSums (strata : List Stratum) (sum g : ℕ) (later : LaterSums) : Type 0 where
  pub least : later.least ≡ least_first_cells (drop g strata)
  pub most : later.most ≡ greatest_first_cells (drop g strata)
  pub first : later.first ≡ least_left strata sum g
  pub long : length later.numbers ≡ most_left strata sum g + 1 - least_left strata sum g
  pub each : (left : ℕ) → IsLeft strata sum g left
      → slice_index later.numbers (left - later.first) ≡ number_with (drop g strata) left
  pub fits : (left : ℕ) → IsLeft strata sum g left → number_with (drop g strata) left ≤ MAX

-- strata of a file, and a sum that they can have
pub record AreSummed (strata : List Stratum) (sum : ℕ) : Type 0 where
  pub small : AreSmall strata
  pub few : length strata ≤ MOST_ROWS
  pub can : CanHave strata sum

-- what is kept of all strata from g on, the last first
pub record AreAllLaterSums (strata : List Stratum) (sum g : ℕ) (later_sums : List LaterSums)
    : Type 0 where
  pub long : length later_sums ≡ suc (length strata - g)
  pub each : (i : ℕ) (d : LaterSums) → i < length later_sums
      → AreLaterSums strata sum (length strata - i) (slice_index_or later_sums i d)

-- and where their labellings with the sum are few enough
pub record AreSumCounts (strata : List Stratum) (sum : ℕ) (later_sums : List LaterSums)
    : Type 0 where
  pub summed : AreSummed strata sum
  pub later_sums_are : AreAllLaterSums strata sum 0 later_sums
  pub fits : number_with strata sum ≤ MAX

-- the products of the lesser weights, from the last stratum back to stratum g
pub record AreLesser (strata : List Stratum) (g : ℕ) (lesser : List ℕ) : Type 0 where
  pub long : length lesser ≡ suc (length strata - g)
  pub each : (i : ℕ) → i < length lesser
      → slice_index lesser i ≡ lesser_weights (drop (length strata - i) strata)

-- what a measure keeps: these products, and rules that compute no number past a limit
pub record IsZelenMeasure (strata : List Stratum) (lesser : List ℕ) (judge : Judge) : Type 0 where
  pub lesser_are : AreLesser strata 0 lesser
  pub rules_fit : (v : ℤ) → JudgeFits judge v

-- ---- what is known of a place

-- of a stratum, by what is kept of those after it: their sums and its own are those from it on, and
-- no sum passes a limit
pub record StratumSeat (strata : List Stratum) (sum g : ℕ) (later : LaterSums) : Type 0 where
  pub least : later.least + least_cell (stratum_at strata g) ≡ least_first_cells (drop g strata)
  pub most : later.most + greatest_cell (stratum_at strata g) ≡ greatest_first_cells (drop g strata)
  pub least_small : later.least + least_cell (stratum_at strata g) < 2 ^ 62
  pub most_small : later.most + greatest_cell (stratum_at strata g) < 2 ^ 62
  pub sum_small : sum < 2 ^ 62

-- of a stratum before those that are done, the last first: its lesser weight, and the product with
-- those of the strata after it, pass no limit
pub record LesserSeat (strata : List Stratum) (done : ℕ) : Type 0 where
  pub own : lesser_weight (stratum_at strata (length strata - done - 1)) ≤ MAX
  pub within : lesser_weights (drop (length strata - done) strata)
      * lesser_weight (stratum_at strata (length strata - done - 1)) ≤ MAX
  pub on : lesser_weights (drop (length strata - done) strata)
      * lesser_weight (stratum_at strata (length strata - done - 1))
      ≡ lesser_weights (drop (length strata - done - 1) strata)

-- of a room that is reached: what can be left, how many labellings have it, and by what the strata
-- multiply a product at least, of which none passes the limit; and before the last stratum, that
-- some first cell can be chosen
pub record ZelenSeat (strata : List Stratum) (sum g : ℕ) (room : List ℤ) : Type 0 where
  pub one : IsOneCount room
  pub stage : g ≤ length strata
  pub left : IsLeft strata sum g (remaining room)
  pub number : number_with (drop g strata) (remaining room) ≤ MAX
  pub lesser : lesser_weights (drop g strata) ≤ MAX
  pub meets : g < length strata → let s = stratum_at strata g in let later = drop (g + 1) strata in
      least_choice s later (remaining room) ≤ greatest_choice s later (remaining room)
  pub total : total_weight (alone (zelen_plan strata sum)) g room
      ≡ number_with (drop g strata) (remaining room)

-- and of a first cell that is allowed there
pub record ZelenChoice (strata : List Stratum) (g : ℕ) (room : List ℤ) (c : List ℕ) : Type 0 where
  pub some : 0 < length c
  pub least : least_cell (stratum_at strata g) ≤ chosen c
  pub most : chosen c ≤ greatest_cell (stratum_at strata g)
  pub left : chosen c ≤ remaining room
  pub fits : cell_weight (stratum_at strata g) (chosen c) ≤ MAX

-- ---- the number of labellings before a stratum, by what is kept of those after it

-- the first cells that can be chosen where so much is left, and how many labellings follow one
abbrev pub choice_from : Stratum → LaterSums → ℕ → ℕ
choice_from s later left = max (least_cell s) (left - later.most)

abbrev pub choice_to : Stratum → LaterSums → ℕ → ℕ
choice_to s later left = min (greatest_cell s) (left - later.least)

abbrev pub kept_number : LaterSums → ℕ → ℕ
kept_number later left = slice_index later.numbers (left - later.first)

abbrev pub counted_cell : Stratum → LaterSums → ℕ → ℕ → ℕ
counted_cell s later left x = cell_weight s x * kept_number later (left - x)

abbrev pub counted : Stratum → LaterSums → ℕ → ℕ
counted s later left =
    let from = choice_from s later left in
    sum_by (counted_cell s later left) (range_with_len from (choice_to s later left + 1 - from))

-- a first cell after which a number is kept for what is left
pub record IsKept (s : Stratum) (later : LaterSums) (left x : ℕ) : Type 0 where
  pub least : least_cell s ≤ x
  pub most : x ≤ greatest_cell s
  pub left_some : x + later.first ≤ left
  pub within : left - x - later.first < length later.numbers
  pub some : 1 ≤ kept_number later (left - x)

pub record IsCountable (s : Stratum) (later : LaterSums) (left : ℕ) : Type 0 where
  pub small : IsSmall s
  pub choices : choice_from s later left ≤ choice_to s later left
  pub kept : (x : ℕ) → choice_from s later left ≤ x → x ≤ choice_to s later left
      → IsKept s later left x

-- numbers for all that can be left, and one that passes MAX
pub record AreNumbers (s : Stratum) (later : LaterSums) (first end : ℕ) (numbers : List ℕ)
    : Type 0 where
  pub long : length numbers ≡ end - first
  pub each : (left : ℕ) → first ≤ left → left < end
      → slice_index numbers (left - first) ≡ counted s later left
  pub fits : (left : ℕ) → first ≤ left → left < end → counted s later left ≤ MAX

pub record IsPast (s : Stratum) (later : LaterSums) (first last : ℕ) : Type 0 where
  pub left : ℕ
  pub least : first ≤ left
  pub most : left ≤ last
  pub past : MAX < counted s later left

-- what the strata from g on can have, and what can be left for them, each of which is countable
pub record AreSumRanges (strata : List Stratum) (sum g : ℕ) (later : LaterSums) (ranges : SumRanges)
    : Type 0 where
  pub least : ranges.least ≡ least_first_cells (drop g strata)
  pub most : ranges.most ≡ greatest_first_cells (drop g strata)
  pub first : ranges.first ≡ least_left strata sum g
  pub last : ranges.last ≡ most_left strata sum g
  pub meet : ranges.first ≤ ranges.last
  pub small : ranges.last < 2 ^ 63
  pub each : (left : ℕ) → ranges.first ≤ left → left ≤ ranges.last
      → IsCountable (stratum_at strata g) later left
