use Rattle.std.proofs.Common.{◌≡◌, ◌<◌, ◌-◌, List, [], length, get_or, ap, ◌∙◌, arith, rules, FitsSigned}
use Rattle.std.specs.Prelude.{ℤ, ◌<ℤ◌, pos}
use Rattle.std.specs.Int.{w128}
use Rattle.std.proofs.lemmas.Int.{ints, to_z-of_z}
use Rattle.std.proofs.lemmas.List.{length-map}
use Rattle.node_pool.specs.Nodes.{Node, node}
use Rattle.node_runs.specs.RunSteps.{lead, leads}
use Rattle.node_runs.proofs.Ascending.{over}
use Rattle.node_runs.proofs.Passing.{last-lead, less-is}
use Rattle.node_runs.proofs.merger.is_over.Goals as goal

pub returns-else-count-eq0 : goal.returns-else-count-eq0
returns-else-count-eq0 g c = λ less up.
    let d : Node = node [] 0 in
    let nodes : List Node = c.args.nodes.now.nodes in
    let last : ℤ = c.number_at.result in
    let fits : FitsSigned w128 last = search rules in
    let low : last <ℤ c.args.number = less-is last c.args.number (rw (to_z-of_z w128 last fits, to_z-of_z w128 c.args.number c.ranges.number) at less) in
    over (leads nodes) c.args.number up (λ some.
    let full : 0 < length nodes = omega (arith, some, length-map nodes lead) in
    let is : last ≡ get_or (leads nodes) (length (leads nodes) - 1) (pos 0) = c.number_at.ensures d ∙ last-lead nodes (c.len-count.result - 1) d (ap (λ n. n - 1) c.len-count.ensures) full in
    omega (arith, ints, low, is))
