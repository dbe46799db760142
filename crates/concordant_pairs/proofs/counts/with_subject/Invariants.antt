use Rattle.std.proofs.Common.{◌≡◌, ℕ, ◌<◌, length, get_or}
use Rattle.concordant_pairs.specs.ConcordantSteps.{mixed_count}
use Rattle.concordant_pairs.proofs.counts.with_subject.Given as goal

abbrev pub invariant-loop-place : goal.invariant-loop-place
invariant-loop-place l = (length l.new.items ≡ l.place) × ((u : ℕ) → u < l.place → get_or l.new.items u 0 ≡ mixed_count l.rest l.group l.other u)
