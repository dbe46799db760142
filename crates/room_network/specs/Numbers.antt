-- A measure of one number: each choice puts a number to the one so far, and later choices put one
-- between a least and a greatest.
use Rattle.std.specs.Prelude.{◌≡◌, ℕ, ◌+◌, ◌*◌, ◌≤◌, ℤ, pos, ◌+ℤ◌, nat_abs, unsigned_abs, List, [], ◌∷◌, slice_index_or}
use Rattle.weights.specs.declared.TheConstants.{MAX}
use Rattle.networks.specs.declared.verdicts.Judge.{Judge}
use Rattle.networks.specs.Judged.{JudgeFits}
use Rattle.room_network.specs.declared.numbers.Operation.{Operation}
use Rattle.room_network.specs.declared.numbers.Operation.TheVariants.{Sum, Product}
use Rattle.room_network.specs.Meanings.{AreReached, IsMeasure, IsMove, Meaning}
use Rattle.room_network.specs.Plans.{Floor}

pub record Numbers (Room : Type 0) : Type 0 where
  -- how a number is put to another
  pub operation : Operation
  -- of a stage, a room and a choice: what is put to the number so far
  pub step : ℕ → Room → List ℕ → ℤ
  -- of a stage and a room: what later choices put to it, at least and at most
  pub least : ℕ → Room → ℤ
  pub greatest : ℕ → Room → ℤ
  -- the rules that the verdicts go by
  pub judge : Judge

-- the number before the first choice
abbrev pub start : Operation → ℤ
start Sum = pos 0
start Product = pos 1

-- two numbers put together; those that are multiplied are weights, and none of them is negative
abbrev pub put : Operation → ℤ → ℤ → ℤ
put Sum a b = a +ℤ b
put Product a b = pos (nat_abs a * nat_abs b)

-- the one number of a partial
abbrev pub so_far : List ℤ → ℤ
so_far partial = slice_index_or partial 0 (pos 0)

abbrev pub scalar_meaning : Floor → Numbers (List ℤ) → Meaning
scalar_meaning floor n = record {
  floor = floor;
  slots = 1;
  step_width = 1;
  outlook_width = 2;
  first = start n.operation ∷ [];
  step = λ g room c. n.step g room c ∷ [];
  advance = λ g room c p. put n.operation (so_far p) (n.step g room c) ∷ [];
  outlook = λ g room. n.least g room ∷ n.greatest g room ∷ [];
  value = so_far;
  low = λ g room p. put n.operation (so_far p) (n.least g room);
  high = λ g room p. put n.operation (so_far p) (n.greatest g room);
  judge = n.judge;
}

-- two weights whose product passes no limit
pub record AreWeights (a b : ℤ) : Type 0 where
  pub first : a ≡ pos (nat_abs a)
  pub second : b ≡ pos (nat_abs b)
  pub fits : unsigned_abs a * unsigned_abs b ≤ MAX

-- two numbers can be put together
abbrev pub Fits : Operation → ℤ → ℤ → Type 0
Fits Sum a b = unsigned_abs a + unsigned_abs b ≤ MAX
Fits Product a b = AreWeights a b

-- a number can be put to one, and the rules can be asked of what comes of it
pub record IsOutcome (operation : Operation) (judge : Judge) (a b : ℤ) : Type 0 where
  pub fits : Fits operation a b
  pub ruled : JudgeFits judge (put operation a b)

-- Intervals that narrow along every choice, of numbers that pass no limit on the way.
pub record IsScalar (floor : Floor) (n : Numbers (List ℤ)) : Type 0 where
  pub narrows : IsMeasure (scalar_meaning floor n)
  pub steps : (g : ℕ) (room : List ℤ) (c : List ℕ) (p : List ℤ)
      → IsMove (scalar_meaning floor n) g room c p
      → Fits n.operation (so_far p) (n.step g room c)
  pub lows : (g : ℕ) (room p : List ℤ) → AreReached (scalar_meaning floor n) g room p
      → IsOutcome n.operation n.judge (so_far p) (n.least g room)
  pub highs : (g : ℕ) (room p : List ℤ) → AreReached (scalar_meaning floor n) g room p
      → IsOutcome n.operation n.judge (so_far p) (n.greatest g room)
