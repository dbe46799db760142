-- What is found of one of the three tails, where they stand side by side.
use Rattle.std.specs.Prelude.{Bool, ◌||◌}
use Rattle.weights.specs.declared.tails.Tail.{Tail}
use Rattle.weights.specs.declared.tails.Tail.TheVariants.{Less, Greater, Two}
use Rattle.networks.specs.declared.stages.Verdict.{Verdict}
use Rattle.networks.specs.declared.tail_sums.TailSum.{TailSum}
use Rattle.networks.specs.declared.tail_sums.TailSums.{TailSums}
use Rattle.networks.specs.declared.tail_sums.Verdicts.{Verdicts}
use Rattle.networks.specs.Opened.{is_undecided}

-- the sum of one tail, and the verdict for it
abbrev pub sum_for : TailSums → Tail → TailSum
sum_for sums Less = sums.less
sum_for sums Greater = sums.greater
sum_for sums Two = sums.two

abbrev pub verdict_for : Verdicts → Tail → Verdict
verdict_for verdicts Less = verdicts.less
verdict_for verdicts Greater = verdicts.greater
verdict_for verdicts Two = verdicts.two

-- whether some verdict is open
abbrev pub some_undecided : Verdicts → Bool
some_undecided verdicts =
    is_undecided verdicts.less || (is_undecided verdicts.greater || is_undecided verdicts.two)
