use Rattle.std.proofs.Common.{◌+◌, ◌++◌, ℕ, List, drop, ap, ◌∙◌, arith}
use Rattle.node_pool.specs.Nodes.{Node, node}
use Rattle.node_runs.proofs.Passing.{node-at, passed}
use Rattle.node_runs.proofs.merger.pass.Goals as goal

pub returns-clause-passed : goal.returns-clause-passed
returns-clause-passed g c =
    let from : List Node = c.args.from.now.nodes in
    let i : ℕ = c.args.at.now in
    let a : Node = node c.key.result.now (g.C.Count.number c.weight.result) in
    record {
      wide = c.push.ensures.width;
      within = omega (arith, c.requires.within);
      same = ap (λ ns. ns ++ drop (i + 1) from) c.in_ok-push.ensures.ok ∙ passed c.args.into.now.nodes from i a c.requires.within (node-at from i c.key.result.now (g.C.Count.number c.weight.result) c.key.ensures.key c.weight.ensures);
    }
