-- What a measure measures of the ways through rooms, and an interval of what it can come to.
use Rattle.std.specs.Prelude.{◌≡◌, ℕ, zero, suc, ◌+◌, ◌<◌, ℤ, pos, ◌+ℤ◌, ◌≤ℤ◌, List, [], ◌∷◌, get_or, length}
use Rattle.std.specs.List.{Contains}
use Rattle.weights.specs.declared.tails.Tail.{Tail}
use Rattle.networks.specs.declared.stages.Verdict.{Verdict}
use Rattle.networks.specs.declared.verdicts.Judge.{Judge}
use Rattle.networks.specs.Judged.{rule_in, verdict_of}
use Rattle.room_network.specs.Plans.{Floor}

pub record Meaning : Type 0 where
  -- the rooms whose ways are measured
  pub floor : Floor
  -- how many numbers a partial has, a step, and an outlook
  pub slots : ℕ
  pub step_width : ℕ
  pub outlook_width : ℕ
  -- the partial before the first choice
  pub first : List ℤ
  -- of a stage, a room and a choice: their step, and where a partial is led to
  pub step : ℕ → List ℤ → List ℕ → List ℤ
  pub advance : ℕ → List ℤ → List ℕ → List ℤ → List ℤ
  -- of a stage and a room: what later choices can do
  pub outlook : ℕ → List ℤ → List ℤ
  -- the value of a partial after the last choice
  pub value : List ℤ → ℤ
  -- of a stage, a room and a partial: between which the values of all completions lie
  pub low : ℕ → List ℤ → List ℤ → ℤ
  pub high : ℕ → List ℤ → List ℤ → ℤ
  -- the rules that the verdicts go by
  pub judge : Judge

-- this room and this partial are reached together by choices of the stages before g
abbrev pub AreReached : Meaning → ℕ → List ℤ → List ℤ → Type 0
AreReached m zero r p = (r ≡ m.floor.first) × (p ≡ m.first)
AreReached m (suc g) r p =
    (s : List ℤ) × (q : List ℤ) × (c : List ℕ) × AreReached m g s q × (g < m.floor.count)
    × Contains (m.floor.choices g s) c × (r ≡ m.floor.next g s c) × (p ≡ m.advance g s c q)

-- Intervals that narrow along every choice, to the value after the last one.
pub record IsMeasure (m : Meaning) : Type 0 where
  pub wide : (g : ℕ) (r p : List ℤ) → AreReached m g r p → length p ≡ m.slots
  pub low_rises : (g : ℕ) (r p : List ℤ) (c : List ℕ)
      → AreReached m g r p → g < m.floor.count → Contains (m.floor.choices g r) c
      → m.low g r p ≤ℤ m.low (g + 1) (m.floor.next g r c) (m.advance g r c p)
  pub high_falls : (g : ℕ) (r p : List ℤ) (c : List ℕ)
      → AreReached m g r p → g < m.floor.count → Contains (m.floor.choices g r) c
      → m.high (g + 1) (m.floor.next g r c) (m.advance g r c p) ≤ℤ m.high g r p
  pub low_ends : (r p : List ℤ) → AreReached m m.floor.count r p
      → m.low m.floor.count r p ≡ m.value p
  pub high_ends : (r p : List ℤ) → AreReached m m.floor.count r p
      → m.high m.floor.count r p ≡ m.value p

-- a room that is reached with some partial
pub record IsRoom (m : Meaning) (g : ℕ) (room : List ℤ) : Type 0 where
  pub partial : List ℤ
  pub reached : AreReached m g room partial

-- a room and a partial before the last stage, and a choice that is allowed there
pub record IsMove (m : Meaning) (g : ℕ) (room : List ℤ) (choice : List ℕ) (partial : List ℤ)
    : Type 0 where
  pub before : g < m.floor.count
  pub reached : AreReached m g room partial
  pub allowed : Contains (m.floor.choices g room) choice

-- a move from some partial
pub record IsStep (m : Meaning) (g : ℕ) (room : List ℤ) (choice : List ℕ) : Type 0 where
  pub partial : List ℤ
  pub move : IsMove m g room choice partial

-- a partial that is reached after the last choice
pub record IsEnd (m : Meaning) (partial : List ℤ) : Type 0 where
  pub room : List ℤ
  pub reached : AreReached m m.floor.count room partial

-- what is known of a room and a partial
abbrev pub verdict_at : Meaning → Tail → ℕ → List ℤ → List ℤ → Verdict
verdict_at m t g room partial =
    verdict_of (rule_in m.judge t) (m.low g room partial) (m.high g room partial)

-- a partial is one number, which the one number of a step is added to
pub record IsShift (m : Meaning) : Type 0 where
  pub one : m.slots ≡ 1
  pub step : m.step_width ≡ 1
  pub moves : (g : ℕ) (room : List ℤ) (p : ℤ) (c : List ℕ) → IsMove m g room c (p ∷ [])
      → m.advance g room c (p ∷ []) ≡ (p +ℤ get_or (m.step g room c) 0 (pos 0)) ∷ []

-- where the choices from stage g on lead a room and a partial
abbrev pub partial_after : Meaning → ℕ → List ℤ → List ℤ → List (List ℕ) → List ℤ
partial_after m g r p [] = p
partial_after m g r p (c ∷ cs) =
    partial_after m (g + 1) (m.floor.next g r c) (m.advance g r c p) cs

-- the value of a way
abbrev pub way_value : Meaning → List (List ℕ) → ℤ
way_value m w = m.value (partial_after m 0 m.floor.first m.first w)
