use Rattle.std.proofs.Common.{◌≡◌, length}
use Rattle.number_text.specs.Trimmed.{without_leading_blanks}
use Rattle.number_text.proofs.blanks.trim_start.Given as goal

-- the blanks passed so far change nothing
abbrev pub invariant-loop-first : goal.invariant-loop-first
invariant-loop-first l = without_leading_blanks l.text ≡ without_leading_blanks l.fn.text

abbrev pub decreases-loop-first : goal.decreases-loop-first
decreases-loop-first l = length l.text
