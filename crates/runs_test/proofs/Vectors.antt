-- Worked rows of the definition, by computation.
use Rattle.std.specs.Prelude.{◌≡◌, pos, [], ◌∷◌, codes}
use Rattle.std.proofs.Common.{refl}
use Rattle.weights.specs.Conditional.{numerator, observed_statistic, total}
use Rattle.weights.specs.declared.tails.Tail.TheVariants.{Less, Greater, Two}
use Rattle.sample_reader.specs.Sequences.{SequenceData}
use Rattle.runs_test.specs.Runs.{blocks, runs_test}

three_blocks : blocks (0 ∷ 0 ∷ 1 ∷ 0 ∷ []) ≡ (0 ∷ 0 ∷ []) ∷ (1 ∷ []) ∷ (0 ∷ []) ∷ []
three_blocks = refl

-- two rows of each label, those of one label together
apart : SequenceData
apart = record { labels = codes "a" ∷ codes "b" ∷ []; members = 0 ∷ 0 ∷ 1 ∷ 1 ∷ [] }

apart_runs : observed_statistic (runs_test apart) ≡ pos 2
unfolding apart
apart_runs = refl

apart_total : total (runs_test apart) ≡ 6
unfolding apart
apart_total = refl

apart_less : numerator (runs_test apart) Less ≡ 2
unfolding apart
apart_less = refl

apart_greater : numerator (runs_test apart) Greater ≡ 6
unfolding apart
apart_greater = refl

apart_two : numerator (runs_test apart) Two ≡ 4
unfolding apart
apart_two = refl
