use Rattle.std.specs.Prelude.{ℤ, Bool}
use Rattle.stage_network.proofs.NodeLines.{spread-same}
use Rattle.stage_network.proofs.spreads.spread_by_rows.Goals as goal

pub returns-in_ok-spread-in-Some : goal.returns-in_ok-spread-in-Some
returns-in_ok-spread-in-Some g c = spread-same _ _ _ (λ (p : ℤ → Bool). (rw c.in-Some.is at c.in_ok-ends.ensures.ends) (λ k. p ((g.S.Stages.network c.args.stages.now).value k))) c.in_ok-spread-in-Some.ensures
