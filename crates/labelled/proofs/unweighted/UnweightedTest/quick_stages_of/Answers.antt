use Rattle.std.proofs.Common.{sym, subst}
use Rattle.std.proofs.lemmas.Result.{IfOk-weaker}
use Rattle.networks.specs.Follows.{Follows}
use Rattle.labelled.proofs.unweighted.UnweightedTest.quick_stages_of.Goals as goal

pub returns : goal.returns
returns g c =
    IfOk-weaker c.stages_of.result _ _ (λ built e t. subst (Follows (g.Self.UnweightedTest.test c.args.self.now) t) (sym e) (c.sound.ensures.follows t)) c.stages_of.ensures
