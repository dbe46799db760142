use Rattle.std.proofs.Common.{List, drop, get_or, rules, FitsSigned}
use Rattle.std.specs.Prelude.{ℤ, pos}
use Rattle.std.specs.Int.{w128}
use Rattle.std.proofs.lemmas.Int.{to_z-of_z}
use Rattle.std.proofs.lemmas.List.{map-append}
use Rattle.node_pool.specs.Nodes.{Node}
use Rattle.node_runs.specs.RunSteps.{lead, leads}
use Rattle.node_runs.proofs.Ascending.{ascending-front}
use Rattle.node_runs.proofs.Passing.{merger-passed}
use Rattle.node_runs.proofs.merger.Merger.take.Goals as goal

pub put-requires-clause-low : goal.put-requires-clause-low
put-requires-clause-low g c =
    let p = c.self.inside in
    let into : List Node = c.pass_below.new.into.nodes in
    let left : List Node = drop c.pass_below.new.at p.from.nodes in
    let m = merger-passed p.into p.from p.at p.count c.pass_below.new.at c.pass_below.new.into c.self.invariant c.in_ok-pass_below.ensures.passed in
    let up = rw (map-append lead into left) at m.ascending in
    let front = ascending-front (leads into) (leads left) up in
    let z : ℤ = get_or c.args.key.now 0 (pos 0) in
    let fits : FitsSigned w128 z = search rules in
    rw (to_z-of_z w128 z fits) at (c.is_over.ensures c.if-not-is_over.false front)
