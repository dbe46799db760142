-- What a frame and a measure tell of a member.
use Rattle.std.specs.Prelude.{◌≡◌, ℕ, ℤ, List, Contains}
use Rattle.weights.specs.declared.tails.Tail.{Tail}
use Rattle.weights.specs.declared.frames.Frame.{Frame}
use Rattle.weights.specs.Conditional.{ConditionalTest}
use Rattle.weights.specs.Frames.{IsFrameOf, RulesFit}
use Rattle.weights.specs.Rules.{measured}

-- a number is what a tail measures of a member of a test of which the frame tells
pub record IsMeasured (frame : Frame) (measure : ℤ) (tail : Tail) : Type 0 where
  pub test : ConditionalTest
  pub member : List ℕ
  pub told : IsFrameOf test frame
  pub fits : RulesFit test
  pub within : Contains test.reference member
  pub is : measure ≡ measured test tail member
