use Rattle.std.proofs.Common.{◌∙◌, ap, get_or, ℤ, List}
use Rattle.std.specs.Prelude.{pos, ◌+◌, ◌*◌}
use Rattle.label_network.specs.Meanings.{sizes_in}
use Rattle.runs_test.specs.RunNetwork.{firsts_in, last_in, seconds_in}
use Rattle.runs_test.proofs.RunKeys.{most-at}
use Rattle.runs_test.proofs.run_measure.left_after.Goals as goal

pub returns-clause-high : goal.returns-clause-high
returns-clause-high c =
    c.after_last.ensures.high ∙ ap (λ (zs : List ℤ). get_or zs (2 * last_in c.args.partial.now + 1) (pos 0)) c.requires.outlook
    ∙ most-at (last_in c.args.partial.now) (firsts_in (sizes_in c.args._remaining.now)) (seconds_in (sizes_in c.args._remaining.now)) c.requires.partial.label
