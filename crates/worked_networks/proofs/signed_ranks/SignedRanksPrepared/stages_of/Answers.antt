use Rattle.std.proofs.Common.{◌≡◌, ◌∙◌, ap}
use Rattle.std.proofs.lemmas.Result.{IfOk-weaker}
use Rattle.networks.specs.Addends.{additive_network}
use Rattle.networks.specs.Judged.{judge_of}
use Rattle.worked_networks.specs.SignedRanks.{worked_addends, worked_test}
use Rattle.worked_networks.specs.declared.signed_ranks.RankStages.{RankStages}
use Rattle.worked_networks.proofs.SignLaws.{least, most, worked_follows}
use Rattle.worked_networks.proofs.signed_ranks.SignedRanksPrepared.stages_of.Goals as goal

pub invariant_of-new : goal.invariant_of-new
invariant_of-new c =
    let judge : c.of-judge.result ≡ judge_of worked_test = c.of-judge.ensures worked_test c.frame.ensures.frame in
    record { least = least c.of-judge.result judge; most = most c.of-judge.result judge }

pub returns-clause-follows : goal.returns-clause-follows
returns-clause-follows c t has = worked_follows t

pub returns-clause-built : goal.returns-clause-built
returns-clause-built c =
    let judge : c.of-judge.result ≡ judge_of worked_test = c.of-judge.ensures worked_test c.frame.ensures.frame in
    IfOk-weaker c.new.result _ _ (λ s e. ap (λ (x : RankStages). additive_network (worked_addends x.judge)) e ∙ ap (λ j. additive_network (worked_addends j)) judge) c.new.ensures
