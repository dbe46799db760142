use Rattle.std.proofs.Common.{◌≡◌, ◌∙◌, length, ap}
use Rattle.one_sample_tests.specs.SignedSamples.{used_scores}
use Rattle.one_sample_tests.proofs.mark_sum.MarkSumUnweightedTest.first.Goals as goal

pub returns : goal.returns
returns c =
    let many : c.len.result ≡ length (used_scores c.args.self.now) = c.len.ensures ∙ ap length c.made.ensures.scores in
    rw many at c.first_marks.ensures
