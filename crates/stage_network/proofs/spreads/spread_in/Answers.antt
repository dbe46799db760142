use Rattle.std.specs.Prelude.{ℤ, Bool}
use Rattle.stage_network.proofs.NodeLines.{spread-same}
use Rattle.stage_network.proofs.spreads.spread_in.Goals as goal

pub returns : goal.returns
returns g c = spread-same _ _ _ (λ (p : ℤ → Bool). c.in_ok-swept.ensures.swept (λ k. p ((g.S.Stages.network c.args.stages.now).value k))) c.in_ok-spread.ensures
