use Rattle.std.proofs.lemmas.Result.{IfOk-weaker}
use Rattle.labelled.proofs.problem.UnweightedPrepared.quick_stages_of.Goals as goal

pub quick_stages_of-requires : goal.quick_stages_of-requires
quick_stages_of-requires g c = c.of.ensures (g.T.UnweightedTest.test c.self.inside.test) c.self.invariant

pub returns : goal.returns
returns g c = rw (← c.self.view_is) (IfOk-weaker c.quick_stages_of.result _ _ (λ built follows t has same. follows t) c.quick_stages_of.ensures)
