use Rattle.std.proofs.Common.{◌∙◌, ap, sym}
use Rattle.std.proofs.lemmas.Result.{IfOk-weaker}
use Rattle.label_network.specs.LabelNetwork.{label_network}
use Rattle.labelled.specs.LabelTests.{label_test}
use Rattle.labelled.specs.LinearTests.{linear_label_meaning, linear_label_test}
use Rattle.networks.specs.Judged.{judge_of}
use Rattle.two_sample_tests.proofs.FittingTests.{is-same, same-network}
use Rattle.two_sample_tests.proofs.two_sample.ScoreSumLabelStatistic.stages_of.Goals as goal

pub stages_of-requires : goal.stages_of-requires
stages_of-requires c =
    c.requires ∙ ap (λ t. judge_of (label_test t)) (sym (is-same c.args.self.now c.made.ensures.fitting)) ∙ ap (λ s. judge_of (linear_label_test s)) (sym c.made.ensures.is)

pub returns : goal.returns
returns c =
    IfOk-weaker c.stages_of.result _ _ (λ built e. e ∙ ap (λ s. label_network (linear_label_meaning s)) c.made.ensures.is ∙ same-network c.args.self.now c.made.ensures.fitting) c.stages_of.ensures
