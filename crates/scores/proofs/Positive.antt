-- No scale is 0.
use Rattle.std.proofs.Common.{◌≤◌, List, length, arith}
use Rattle.std.specs.Prelude.{ℤ}
use Rattle.scores.specs.PlaceScores.{multiple_to}
use Rattle.scores.specs.RawScores.{decimals}
use Rattle.scores.specs.Scores.{common_size, scale_of}
use Rattle.scores.specs.declared.kinds.ScoreKind.{ScoreKind}
use Rattle.scores.specs.declared.kinds.ScoreKind.TheVariants.{Wilcoxon, Ansari, Mood, Savage, Median, Raw}
use Rattle.scores.proofs.AverageLemmas.{common_size-some}
use Rattle.scores.proofs.MultipleLemmas.{multiple_to-some}
use Rattle.scores.proofs.RawLemmas.{power-some}
use Rattle.weights.proofs.Products.{product-some}

pub scale-some : (kind : ScoreKind) (values : List ℤ) → 1 ≤ scale_of kind values
scale-some Wilcoxon values = omega arith
scale-some Ansari values = omega (arith, common_size-some values)
scale-some Mood values = omega (arith, common_size-some values)
scale-some Savage values = product-some (common_size values) (multiple_to (length values)) (omega (arith, common_size-some values)) (omega (arith, multiple_to-some (length values)))
scale-some Median values = omega (arith, common_size-some values)
scale-some Raw values = omega (arith, power-some (decimals values))
