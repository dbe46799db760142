-- What a source in memory that never fails is.
use Rattle.std.specs.Prelude.{ℕ, List, length, min}

-- its bytes, the most that a read gives, and the bytes that are left
pub record Steady : Type 0 where
  pub bytes : List ℕ
  pub step : ℕ
  pub left : List ℕ

-- how many bytes a read into so many places gives
abbrev pub given_at_once : Steady → ℕ → ℕ
given_at_once s places = min (min s.step places) (length s.left)
