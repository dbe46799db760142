use Rattle.std.proofs.Common.{◌≡◌, ◌<◌, ◌++◌, ◌∷◌, [], ℕ, List, length, map, take, get_or, ap, sym, ◌∙◌, arith}
use Rattle.std.specs.Prelude.{ℤ}
use Rattle.std.proofs.lemmas.List.{take_more, take-append-drop, take_all}
use Rattle.node_pool.specs.Nodes.{Node, node}
use Rattle.stage_network.proofs.OpenKeys.{map-append}
use Rattle.stage_network.proofs.Stepping.{is_node}
use Rattle.stage_network.specs.declared.ordering.Entry.{Entry}
use Rattle.stage_network.specs.Ordering.{entry_node}
use Rattle.stage_network.proofs.images.entries_in.Goals as goal

pub loop-i-preserved : goal.loop-i-preserved
loop-i-preserved c =
    let nodes : List Node = c.args.pool.now.nodes in
    let i : ℕ = c.loop-i.i in
    let d : Node = node [] 0 in
    let low : i < length nodes = omega (arith, c.loop-i-test.true, c.len-i-end.ensures.count) in
    let more : Entry = record { room = c.front.result; partial = c.behind.result; weight = c.value.result } in
    let k : List ℤ = c.front.result.now ++ c.behind.result.now in
    let w : ℕ = c.value.result in
    let whole : k ≡ c.key-key.result.now = ap (λ r. r ++ c.behind.result.now) c.front.ensures.room ∙ ap (λ p. take c.args.room_width c.key-key.result.now ++ p) c.behind.ensures ∙ take-append-drop c.args.room_width c.key-key.result.now in
    let is : node k w ≡ get_or nodes i (node k w) = is_node nodes i low d k w (whole ∙ c.key-key.ensures.key d) (c.value.ensures.value ∙ c.weight.ensures d) in
    ap (map entry_node) c.in_ok-push.ensures.items
    ∙ map-append entry_node c.loop-i.entries.items (more ∷ [])
    ∙ ap (λ ns. ns ++ node k w ∷ []) c.loop-i.invariant
    ∙ ap (λ a. take i nodes ++ a ∷ []) is
    ∙ sym (take_more nodes i (node k w) low)

pub returns : goal.returns
returns c = c.loop-i.invariant ∙ take_all c.loop-i.i c.args.pool.now.nodes (omega (arith, c.loop-i-test.false, c.len-i-end.ensures.count))
