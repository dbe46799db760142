use Rattle.std.proofs.Common.{◌≡◌, ◌<◌, ◌++◌, ◌∷◌, [], length, get_or, ap, ◌∙◌, arith, rules}
use Rattle.std.proofs.lemmas.Int.{to_z-of_z}
use mir.Syntax.{w128}
use Rattle.node_pool.specs.Nodes.{node}
use Rattle.networks.specs.Lines.{line_sum}
use Rattle.stage_network.proofs.NodeLines.{line-more}
use Rattle.stage_network.proofs.OneArc.{key_is, reached-key}
use Rattle.stage_network.proofs.Stepping.{is_node}
use Rattle.stage_network.proofs.spreads.node_lines.Goals as goal

pub value-requires : goal.value-requires
value-requires g c =
    let n = g.S.Stages.network c.args.stages.now in
    reached-key n n.count c.args.nodes.now.nodes c.loop-i.i _ _ _ _ c.requires.reached (omega (arith, c.loop-i-test.true, c.len-i-end.ensures)) c.write_key.ensures c.room.ensures.room c.partial.ensures.partial

pub loop-i-preserved : goal.loop-i-preserved
loop-i-preserved g c =
    let n = g.S.Stages.network c.args.stages.now in
    let nodes = c.args.nodes.now.nodes in
    let i = c.loop-i.i in
    let d = node [] 0 in
    let low : i < length nodes = omega (arith, c.loop-i-test.true, c.len-i-end.ensures) in
    let k = c.write_key.new.key in
    let w = g.C.Count.number c.weight.result in
    let is : node k w ≡ get_or nodes i (node k w) = is_node nodes i low d k w (key_is nodes i _ k _ _ c.write_key.ensures c.room.ensures.room c.partial.ensures.partial d) (c.weight.ensures d) in
    let line : c.push.new.self.items ≡ c.loop-i.lines.items ++ record { value = n.value k; weight = w } ∷ [] =
    c.in_ok-push.ensures.items
    ∙ ap (λ v. c.loop-i.lines.items ++ record { value = v; weight = c.value-in-loop-i.result } ∷ []) (to_z-of_z w128 c.value.result (record { sfits = c.value.type_inv }) ∙ c.value.ensures)
    ∙ ap (λ m. c.loop-i.lines.items ++ record { value = n.value k; weight = m } ∷ []) c.value-in-loop-i.ensures.value in
    record {
      told = λ p. ap (line_sum p) line ∙ line-more n p c.loop-i.lines.items nodes i k w low is (c.loop-i.invariant.told p);
      long = search rules;
    }
