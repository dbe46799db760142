use Rattle.std.proofs.Common.{[], ◌∙◌, ℕ, subst, arith}
use Rattle.node_pool.specs.Pool.{IsMerge}
use Rattle.node_runs.proofs.Merges.{merge_first}
use Rattle.node_runs.proofs.run_pool.RunPool.put_one.Goals as goal

pub add-requires-clause-fits : goal.add-requires-clause-fits
add-requires-clause-fits g c = rw (c.reserve.ensures.nodes, c.clear.ensures.nodes) (omega (arith, c.requires.limit))

pub returns-clause-nodes : goal.returns-clause-nodes
returns-clause-nodes g c =
    let w : ℕ = g.C.Count.number c.args.weight in
    let merged : IsMerge [] c.args.key.now w c.add.new.self.nodes = subst (λ old. IsMerge old c.args.key.now w c.add.new.self.nodes) (c.reserve.ensures.nodes ∙ c.clear.ensures.nodes) c.add.ensures.merged in
    merge_first c.args.key.now w c.add.new.self.nodes merged
