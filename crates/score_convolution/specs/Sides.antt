-- Which values pass a rule, by bounds for them.
use Rattle.std.specs.Prelude.{◌≡◌, ℕ, ℤ, pos, ◌+◌, ◌+ℤ◌, ◌-ℤ◌, ◌≤ℤ◌, Bool, true, ⊤}
use Rattle.std.specs.Prelude.{cond, int_le, int_lt, nat_eq, nat_lt, ◌&&◌, ◌||◌}
use Rattle.weights.specs.declared.TheConstants.{MAX}
use Rattle.networks.specs.declared.verdicts.Judge.{Judge}
use Rattle.weights.specs.declared.rules.Rule.{Rule}
use Rattle.weights.specs.declared.rules.Rule.TheVariants.{AtMost, AtLeast, Far}
use Rattle.weights.specs.declared.tails.Tail.{Tail}
use Rattle.weights.specs.declared.tails.Tail.TheVariants.{Less, Greater, Two}
use Rattle.weights.specs.Rules.{passes}
use Rattle.score_convolution.specs.declared.sides.Sides.{Sides}
use Rattle.score_convolution.specs.declared.sides.Sides.TheVariants.{Every, UpTo, Above, Apart}
use Rattle.score_convolution.specs.declared.sides.TailSides.{TailSides}

-- 1 for a value that passes
abbrev pub once : (ℤ → Bool) → ℤ → ℕ
once p v = cond (p v) 1 0

abbrev pub is_in : Sides → ℤ → Bool
is_in Every v = true
is_in (UpTo most) v = int_le v most
is_in (Above least) v = int_lt least v
is_in (Apart most least) v = int_le v most || int_lt least v

-- whether a number is at most one, or at least another
abbrev pub is_beyond : ℤ → ℤ → ℤ → Bool
is_beyond z below above = int_le z below || int_le above z

-- both kinds have no value in common
abbrev pub AreOrdered : Sides → Type 0
AreOrdered Every = ⊤
AreOrdered (UpTo most) = ⊤
AreOrdered (Above least) = ⊤
AreOrdered (Apart most least) = most ≤ℤ least

pub record AreSidesOf (rule : Rule) (sides : Sides) : Type 0 where
  pub ordered : AreOrdered sides
  pub pass : (v : ℤ) → is_in sides v ≡ passes rule v

-- those of a tail
abbrev pub sides_for : TailSides → Tail → Sides
sides_for sides Less = sides.less
sides_for sides Greater = sides.greater
sides_for sides Two = sides.two

-- whether the numbers of a rule, and those next to them, are within 128 bits
abbrev pub has_sides : Rule → Bool
has_sides (AtMost most) = true
has_sides (AtLeast least) = int_le (pos 0 -ℤ pos MAX) least
has_sides (Far factor centre distance) = nat_eq distance 0
    || (nat_lt 0 factor && int_le (pos 0 -ℤ pos (MAX + 1)) (centre -ℤ pos distance)
    && int_le (centre +ℤ pos distance) (pos MAX))

abbrev pub have_sides : Judge → Bool
have_sides judge = has_sides judge.less && has_sides judge.greater && has_sides judge.two
