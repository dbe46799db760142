use Rattle.std.proofs.Common.{◌≡◌, ◌∙◌, drop, rules}
use Rattle.kendall_test.specs.KendallNetwork.{open_pairs}
use Rattle.kendall_test.proofs.KendallNarrows.{concordant-among}
use Rattle.kendall_test.proofs.pairs.open_pairs.Goals as goal

pub returns : goal.returns
returns c =
    let same : c.concordant_from.result ≡ open_pairs c.args.columns.now c.args.stage = c.concordant_from.ensures ∙ concordant-among (drop c.args.stage c.args.columns.now) in
    search rules
