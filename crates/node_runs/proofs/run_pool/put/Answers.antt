use Rattle.std.proofs.Common.{◌+◌, ◌*◌, ℕ, ap, ◌∙◌, arith}
use Rattle.node_pool.specs.Nodes.{weighted}
use Rattle.node_pool.proofs.Puts.{weight_in-le}
use Rattle.node_runs.proofs.Merges.{heavy-merge}
use Rattle.node_runs.proofs.run_pool.put.Goals as goal

pub add-requires-clause-fits : goal.add-requires-clause-fits
add-requires-clause-fits g c = omega (arith, weight_in-le c.args.key.now c.reserve.new.self.nodes, ap (weighted (λ k. 1)) c.reserve.ensures.nodes, c.requires.fits)

pub returns-clause-grown : goal.returns-clause-grown
returns-clause-grown g c =
    let w : ℕ = g.C.Count.number c.args.weight in
    record {
      sums = λ f. c.add.ensures.merged.sums f ∙ ap (λ ns. weighted f ns + w * f c.args.key.now) c.reserve.ensures.nodes;
      heavy = λ h all. heavy-merge c.reserve.new.self.nodes c.args.key.now w c.add.new.self.nodes c.add.ensures.merged h (rw c.reserve.ensures.nodes all);
    }
