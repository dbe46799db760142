use Rattle.std.proofs.Common.{◌≡◌, ◌<◌, ◌++◌, ◌∷◌, [], ℕ, List, length, map, take, get_or, ap, sym, ◌∙◌, arith, refl}
use Rattle.std.specs.Prelude.{ℤ}
use Rattle.std.proofs.lemmas.List.{take_more}
use Rattle.weights.proofs.Filters.{all_push}
use Rattle.node_pool.specs.Nodes.{Node, node}
use Rattle.stage_network.proofs.OneArc.{key_is}
use Rattle.stage_network.proofs.OpenKeys.{map-append}
use Rattle.stage_network.proofs.Stepping.{is_node}
use Rattle.stage_network.specs.declared.ordering.Entry.{Entry}
use Rattle.stage_network.specs.Ordering.{entry_node}
use Rattle.stage_network.proofs.ordering.entries_of.Goals as goal

pub loop-i-preserved : goal.loop-i-preserved
loop-i-preserved g c =
    let nodes : List Node = c.args.nodes.now.nodes in
    let i : ℕ = c.loop-i.i in
    let d : Node = node [] 0 in
    let low : i < length nodes = omega (arith, c.loop-i-test.true, c.len-i-end.ensures) in
    let k : List ℤ = c.room.result.now ++ c.partial.result.now in
    let w : ℕ = g.C.Count.number c.weight.result in
    let is : node k w ≡ get_or nodes i (node k w) = is_node nodes i low d k w (key_is nodes i _ k _ _ refl c.room.ensures.room c.partial.ensures.partial d) (c.weight.ensures d) in
    let more : Entry = record { room = c.room.result; partial = c.partial.result; weight = c.value.result } in
    record {
      nodes = ap (map entry_node) c.in_ok-push.ensures.items
          ∙ map-append entry_node c.loop-i.entries.items (more ∷ [])
          ∙ ap (λ m. map entry_node c.loop-i.entries.items ++ node k m ∷ []) c.value.ensures.value
          ∙ ap (λ ns. ns ++ node k w ∷ []) c.loop-i.invariant.nodes
          ∙ ap (λ a. take i nodes ++ a ∷ []) is
          ∙ sym (take_more nodes i (node k w) low);
      rooms = rw c.in_ok-push.ensures.items (all_push (λ (e : Entry). length e.room.now ≡ c.args.nodes.now.room_width) c.loop-i.entries.items more c.loop-i.invariant.rooms c.room.ensures.wide);
    }
