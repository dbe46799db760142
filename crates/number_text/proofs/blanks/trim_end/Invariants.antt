use Rattle.std.proofs.Common.{◌≡◌, length}
use Rattle.number_text.specs.Trimmed.{without_trailing_blanks}
use Rattle.number_text.proofs.blanks.trim_end.Given as goal

-- the blanks passed so far change nothing
abbrev pub invariant-loop-last : goal.invariant-loop-last
invariant-loop-last l = without_trailing_blanks l.text ≡ without_trailing_blanks l.fn.text

abbrev pub decreases-loop-last : goal.decreases-loop-last
decreases-loop-last l = length l.text
