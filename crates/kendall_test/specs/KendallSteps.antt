-- Words for the bodies of Kendall's test.
use Rattle.std.specs.Prelude.{◌≡◌, ℕ, ◌^◌, ◌<◌, ◌≤◌, ℤ, pos, Bool, true, List, ◌∷◌, length, int_lt, slice_index, slice_index_or, unsigned_abs, if◌then◌else◌}
use Rattle.std.specs.List.{sum, sum_by}
use Rattle.weights.specs.declared.TheConstants.{MAX}
use Rattle.weights.specs.Grouped.{fits, minus}
use Rattle.weights.specs.Labellings.{number_of_labellings}
use Rattle.sample_reader.specs.declared.subjects.Subject.{Subject}
use Rattle.networks.specs.Completions.{total_weight}
use Rattle.networks.specs.Judged.{JudgeFits}
use Rattle.networks.specs.declared.verdicts.Judge.{Judge}
use Rattle.room_network.specs.Plans.{alone}
use Rattle.label_network.specs.LabelSteps.{IsHeld, least}
use Rattle.kendall_test.specs.Kendall.{one_where_greater, one_where_less}
use Rattle.kendall_test.specs.KendallRooms.{code_in, counts_left, kendall_floor, kendall_plan}

-- few subjects and labellings
pub record AreKendallCounts (columns rows : List ℕ) : Type 0 where
  pub level : sum columns ≡ sum rows
  pub few : sum rows ≤ 120
  pub short : length rows ≤ 120
  pub total : number_of_labellings rows ≤ MAX

-- counts of the subjects that some of the rows' have, one for each row
pub record AreSome (rows counts : List ℕ) : Type 0 where
  pub long : length counts ≡ length rows
  pub few : sum counts ≤ 120
  pub fits : number_of_labellings counts ≤ MAX

-- one number, which is a code
pub record IsCode (room : List ℤ) : Type 0 where
  pub one : length room ≡ 1
  pub whole : slice_index_or room 0 (pos 0) ≡ pos (code_in room)
  pub small : code_in room < 2 ^ 120

-- a code of counts of the subjects of the columns from stage g on
pub record IsCoded (columns : List ℕ) (g : ℕ) (room : List ℤ) : Type 0 where
  pub is_code : IsCode room
  pub stage : g ≤ length columns
  pub few : sum columns ≤ 120

-- and rules of which no number of K passes a limit
pub record IsKendall (columns rows : List ℕ) (judge : Judge) : Type 0 where
  pub counts : AreKendallCounts columns rows
  pub rules_fit : (v : ℤ) → unsigned_abs v ≤ 14400 → JudgeFits judge v

-- 1 where the second of two numbers is greater, or where it is less
abbrev pub ordered : Bool → ℕ → ℕ → ℕ
ordered concordant x y = if concordant then one_where_less x y else one_where_greater x y

-- what a subject adds with those that have a greater first value
abbrev pub pairs_with : Bool → ℤ → ℕ → List Subject → ℕ
pairs_with concordant v x subjects =
    sum_by (λ b. if int_lt v b.value then ordered concordant x b.label else 0) subjects

-- what is known of a room that is reached, and of what is left there
pub record KendallSeat (columns rows : List ℕ) (g : ℕ) (room : List ℤ) : Type 0 where
  pub coded : IsCoded columns g room
  pub some : AreSome rows (counts_left columns (length rows) g room)
  pub held : (width : ℕ) → IsHeld width rows
      → IsHeld width (counts_left columns (length rows) g room)
  pub rest : total_weight (alone (kendall_plan columns rows)) g room
      ≡ number_of_labellings (counts_left columns (length rows) g room)
  pub enough : g < length columns
      → slice_index columns g ≤ sum (counts_left columns (length rows) g room)
  pub first : g < length columns → let floor = kendall_floor columns rows in
      let x = least (slice_index columns g) (counts_left columns (length rows) g room) in
      floor.choices g room ≡ x ∷ floor.later g room x

-- and of a choice there
pub record KendallChoice (columns rows : List ℕ) (g : ℕ) (room : List ℤ) (x : List ℕ) : Type 0 where
  pub whole : slice_index columns g ≡ sum x
  pub fitting : fits x (counts_left columns (length rows) g room) ≡ true
  pub some : AreSome rows x
  pub after : AreSome rows (minus (counts_left columns (length rows) g room) x)
  pub held : (width : ℕ) → IsHeld width rows → IsHeld width x
