use Rattle.std.proofs.Common.{◌≡◌, ◌≤◌, ◌+◌, ◌<◌, [], ◌∷◌, ◌++◌, length, get_or, set, vec_capacity, ap, sym, ◌∙◌, arith, FitsSigned, to_z, of_z}
use Rattle.std.specs.Prelude.{pos}
use mir.Syntax.{w128}
use Rattle.std.proofs.lemmas.Int.{to_z-of_z}
use Rattle.std.proofs.lemmas.List.{length_push}
use Rattle.node_pool.specs.PoolSteps.{keys_of, weight_of, weights_of}
use Rattle.node_pool.specs.TableSteps.{IsHeldAt, IsFreeAt}
use Rattle.node_pool.proofs.Cells.{cell-fits, cells-room, pushed-cells, pushed-keys, pushed-weights, raised-cells, raised-keys, raised-weights, weight-at, weight_place}
use Rattle.node_pool.proofs.Pools.{held-true, raised-fits, raised-pool, raised-merge, raised-placed, held-false, slots-room, added-pool, added-merge, added-placed}
use Rattle.node_pool.proofs.pool.NodePool.enter.Given.{Over}
use Rattle.node_pool.proofs.pool.NodePool.enter.Goals as goal
use Rattle.node_pool.proofs.pool.NodePool.enter.Goals.{After-self, In-At, In-Free}

wide : (g : Over) (c : After-self g) → length c.args.key.now ≡ c.self.inside.width
wide g c = rw (← c.self.view_is) at c.requires.wide

-- where the key is held
found : (g : Over) (c : In-At g) → IsHeldAt c.self.inside.width (length c.self.inside.slots.items) (keys_of c.self.inside.width (length c.self.inside.slots.items) c.self.inside.cells.items) c.args.key.now c.in-At.place
found g c = rw (c.deref.ensures.value, c.deref-2.ensures.value) at c.in-At.ensures

fits : (g : Over) (c : In-At g) → get_or (weights_of c.self.inside.width (length c.self.inside.slots.items) c.self.inside.cells.items) c.in-At.place 0 + g.C.Count.number c.args.weight ≤ g.C.Count.LIMIT
fits g c = raised-fits c.self.invariant.pool (found g c) (g.C.Count.number c.args.weight) g.C.Count.LIMIT (rw (← c.self.view_is) at c.requires.fits)

low : (g : Over) (c : In-At g) → c.in-At.place < length c.self.inside.slots.items
low g c = (found g c).low

pub raise-requires-clause-within : goal.raise-requires-clause-within
raise-requires-clause-within g c = rw c.self.inside.cells.ok.0 (cell-fits c.self.invariant.stored c.in-At.place (low g (goal.at.raise-requires-clause-within g c).In-At))

pub raise-requires-clause-fits : goal.raise-requires-clause-fits
raise-requires-clause-fits g c =
    let here = (goal.at.raise-requires-clause-fits g c).In-At in
    rw (← weight-at c.self.inside.width (length c.self.inside.slots.items) c.in-At.place c.self.inside.cells.items (low g here)) (fits g here)

pub invariant_of-self : goal.invariant_of-self
invariant_of-self g c =
    let h = (goal.at.invariant_of-self g c).In-At in
    let is : weight_of (get_or c.raise.new.cells.items (weight_place c.self.inside.width c.in-At.place) (pos 0)) ≡ get_or (weights_of c.self.inside.width (length c.self.inside.slots.items) c.self.inside.cells.items) c.in-At.place 0 + g.C.Count.number c.args.weight = c.raise.ensures.weight ∙ ap (λ n. n + g.C.Count.number c.args.weight) (sym (weight-at c.self.inside.width (length c.self.inside.slots.items) c.in-At.place c.self.inside.cells.items (low g h))) in
    let keys : keys_of c.self.inside.width (length c.self.inside.slots.items) c.raise.new.cells.items ≡ keys_of c.self.inside.width (length c.self.inside.slots.items) c.self.inside.cells.items = raised-keys c.self.invariant.stored c.in-At.place _ c.raise.new.cells.items (low g h) c.raise.ensures.cells in
    let weights : weights_of c.self.inside.width (length c.self.inside.slots.items) c.raise.new.cells.items ≡ set (weights_of c.self.inside.width (length c.self.inside.slots.items) c.self.inside.cells.items) c.in-At.place (get_or (weights_of c.self.inside.width (length c.self.inside.slots.items) c.self.inside.cells.items) c.in-At.place 0 + g.C.Count.number c.args.weight) = raised-weights c.self.invariant.stored c.in-At.place _ c.raise.new.cells.items (low g h) c.raise.ensures.cells _ is in
    let light : weight_of (get_or c.raise.new.cells.items (weight_place c.self.inside.width c.in-At.place) (pos 0)) ≤ g.C.Count.LIMIT = omega (arith, is, fits g h) in
    record {
      stored = rw c.raise.ensures.room (raised-cells c.self.invariant.stored c.in-At.place _ c.raise.new.cells.items (low g h) c.raise.ensures.cells light);
      pool = rw (keys, weights) (raised-pool c.self.invariant.pool (found g h) (g.C.Count.number c.args.weight));
    }

pub returns-in-At-clause-merged : goal.returns-in-At-clause-merged
returns-in-At-clause-merged g c =
    let h = (goal.at.returns-in-At-clause-merged g c).In-At in
    let is : weight_of (get_or c.raise.new.cells.items (weight_place c.self.inside.width c.in-At.place) (pos 0)) ≡ get_or (weights_of c.self.inside.width (length c.self.inside.slots.items) c.self.inside.cells.items) c.in-At.place 0 + g.C.Count.number c.args.weight = c.raise.ensures.weight ∙ ap (λ n. n + g.C.Count.number c.args.weight) (sym (weight-at c.self.inside.width (length c.self.inside.slots.items) c.in-At.place c.self.inside.cells.items (low g h))) in
    let keys : keys_of c.self.inside.width (length c.self.inside.slots.items) c.raise.new.cells.items ≡ keys_of c.self.inside.width (length c.self.inside.slots.items) c.self.inside.cells.items = raised-keys c.self.invariant.stored c.in-At.place _ c.raise.new.cells.items (low g h) c.raise.ensures.cells in
    let weights : weights_of c.self.inside.width (length c.self.inside.slots.items) c.raise.new.cells.items ≡ set (weights_of c.self.inside.width (length c.self.inside.slots.items) c.self.inside.cells.items) c.in-At.place (get_or (weights_of c.self.inside.width (length c.self.inside.slots.items) c.self.inside.cells.items) c.in-At.place 0 + g.C.Count.number c.args.weight) = raised-weights c.self.invariant.stored c.in-At.place _ c.raise.new.cells.items (low g h) c.raise.ensures.cells _ is in
    rw (← c.self.view_is, keys, weights) (raised-merge c.self.invariant.pool (found g h) (g.C.Count.number c.args.weight))

pub returns-in-At-clause-spare : goal.returns-in-At-clause-spare
returns-in-At-clause-spare g c = rw (← c.self.view_is, held-true c.self.invariant.pool (found g (goal.at.returns-in-At-clause-spare g c).In-At))

pub returns-in-At-clause-placed : goal.returns-in-At-clause-placed
returns-in-At-clause-placed g c =
    let h = (goal.at.returns-in-At-clause-placed g c).In-At in
    let is : weight_of (get_or c.raise.new.cells.items (weight_place c.self.inside.width c.in-At.place) (pos 0)) ≡ get_or (weights_of c.self.inside.width (length c.self.inside.slots.items) c.self.inside.cells.items) c.in-At.place 0 + g.C.Count.number c.args.weight = c.raise.ensures.weight ∙ ap (λ n. n + g.C.Count.number c.args.weight) (sym (weight-at c.self.inside.width (length c.self.inside.slots.items) c.in-At.place c.self.inside.cells.items (low g h))) in
    let keys : keys_of c.self.inside.width (length c.self.inside.slots.items) c.raise.new.cells.items ≡ keys_of c.self.inside.width (length c.self.inside.slots.items) c.self.inside.cells.items = raised-keys c.self.invariant.stored c.in-At.place _ c.raise.new.cells.items (low g h) c.raise.ensures.cells in
    let weights : weights_of c.self.inside.width (length c.self.inside.slots.items) c.raise.new.cells.items ≡ set (weights_of c.self.inside.width (length c.self.inside.slots.items) c.self.inside.cells.items) c.in-At.place (get_or (weights_of c.self.inside.width (length c.self.inside.slots.items) c.self.inside.cells.items) c.in-At.place 0 + g.C.Count.number c.args.weight) = raised-weights c.self.invariant.stored c.in-At.place _ c.raise.new.cells.items (low g h) c.raise.ensures.cells _ is in
    rw (← c.self.view_is, keys, weights) (raised-placed c.self.invariant.pool (found g h) (g.C.Count.number c.args.weight))

-- where it is new
free : (g : Over) (c : In-Free g) → IsFreeAt c.self.inside.width (length c.self.inside.slots.items) (keys_of c.self.inside.width (length c.self.inside.slots.items) c.self.inside.cells.items) c.self.inside.buckets.items c.args.key.now c.in-Free.slot
free g c = rw (c.deref.ensures.value, c.deref-2.ensures.value, c.deref-3.ensures.value) at c.in-Free.ensures

some : (g : Over) (c : In-Free g) → 1 ≤ c.self.inside.spare
some g c = (rw (← c.self.view_is) at c.requires.room) (held-false c.self.invariant.pool (free g c))

pub put-requires-clause-slots_fit : goal.put-requires-clause-slots_fit
put-requires-clause-slots_fit g c =
    let here = (goal.at.put-requires-clause-slots_fit g c).In-Free in
    rw c.self.inside.slots.ok.0 (slots-room c.self.invariant.pool (free g here) (some g here))

pub put-requires-clause-cells_fit : goal.put-requires-clause-cells_fit
put-requires-clause-cells_fit g c =
    let here = (goal.at.put-requires-clause-cells_fit g c).In-Free in
    rw c.self.inside.cells.ok.0 (cells-room c.self.invariant.stored c.args.key.now (wide g (goal.at.put-requires-clause-cells_fit g c).After-self) (some g here))

pub overflow_sub-self : goal.overflow_sub-self
overflow_sub-self g c = some g (goal.at.overflow_sub-self g c).In-Free

pub invariant_of-self-in-Free : goal.invariant_of-self-in-Free
invariant_of-self-in-Free g c =
    let h = (goal.at.invariant_of-self-in-Free g c).In-Free in
    let wide : length c.args.key.now ≡ c.self.inside.width = wide g (goal.at.invariant_of-self-in-Free g c).After-self in
    let f : FitsSigned w128 c.number_for.result = record { sfits = c.number_for.type_inv } in
    let is : weight_of (to_z w128 (of_z w128 c.number_for.result)) ≡ g.C.Count.number c.args.weight = ap weight_of (to_z-of_z w128 c.number_for.result f) ∙ c.number_for.ensures in
    let count : length c.put.new.slots.items ≡ length c.self.inside.slots.items + 1 = ap length c.put.ensures.slots ∙ length_push c.self.inside.slots.items c.in-Free.slot in
    let keys : keys_of c.self.inside.width (length c.put.new.slots.items) c.put.new.cells.items ≡ keys_of c.self.inside.width (length c.self.inside.slots.items) c.self.inside.cells.items ++ c.args.key.now = pushed-keys c.self.invariant.stored c.args.key.now (to_z w128 (of_z w128 c.number_for.result)) (length c.put.new.slots.items) c.put.new.cells.items wide count c.put.ensures.cells in
    let weights : weights_of c.self.inside.width (length c.put.new.slots.items) c.put.new.cells.items ≡ weights_of c.self.inside.width (length c.self.inside.slots.items) c.self.inside.cells.items ++ g.C.Count.number c.args.weight ∷ [] = pushed-weights c.self.invariant.stored c.args.key.now (to_z w128 (of_z w128 c.number_for.result)) (length c.put.new.slots.items) c.put.new.cells.items wide count c.put.ensures.cells _ is in
    let light : weight_of (to_z w128 (of_z w128 c.number_for.result)) ≤ g.C.Count.LIMIT = rw is (omega (arith, rw (← c.self.view_is) at c.requires.fits)) in
    record {
      stored = pushed-cells c.self.invariant.stored c.args.key.now (to_z w128 (of_z w128 c.number_for.result)) (length c.put.new.slots.items) c.put.new.cells.items wide count c.put.ensures.cells (vec_capacity c.put.new.cells) light (some g h) c.put.ensures.cell_room;
      pool = rw (keys, weights, c.put.ensures.slots, c.len.ensures ∙ c.self.inside.slots.ok.0) (added-pool c.self.invariant.pool (free g h) (g.C.Count.number c.args.weight) (vec_capacity c.put.new.slots) wide (some g h) c.put.ensures.slot_room);
    }

pub returns-in-Free-clause-merged : goal.returns-in-Free-clause-merged
returns-in-Free-clause-merged g c =
    let h = (goal.at.returns-in-Free-clause-merged g c).In-Free in
    let wide : length c.args.key.now ≡ c.self.inside.width = wide g (goal.at.returns-in-Free-clause-merged g c).After-self in
    let f : FitsSigned w128 c.number_for.result = record { sfits = c.number_for.type_inv } in
    let is : weight_of (to_z w128 (of_z w128 c.number_for.result)) ≡ g.C.Count.number c.args.weight = ap weight_of (to_z-of_z w128 c.number_for.result f) ∙ c.number_for.ensures in
    let count : length c.put.new.slots.items ≡ length c.self.inside.slots.items + 1 = ap length c.put.ensures.slots ∙ length_push c.self.inside.slots.items c.in-Free.slot in
    let keys : keys_of c.self.inside.width (length c.put.new.slots.items) c.put.new.cells.items ≡ keys_of c.self.inside.width (length c.self.inside.slots.items) c.self.inside.cells.items ++ c.args.key.now = pushed-keys c.self.invariant.stored c.args.key.now (to_z w128 (of_z w128 c.number_for.result)) (length c.put.new.slots.items) c.put.new.cells.items wide count c.put.ensures.cells in
    let weights : weights_of c.self.inside.width (length c.put.new.slots.items) c.put.new.cells.items ≡ weights_of c.self.inside.width (length c.self.inside.slots.items) c.self.inside.cells.items ++ g.C.Count.number c.args.weight ∷ [] = pushed-weights c.self.invariant.stored c.args.key.now (to_z w128 (of_z w128 c.number_for.result)) (length c.put.new.slots.items) c.put.new.cells.items wide count c.put.ensures.cells _ is in
    rw (← c.self.view_is, keys, weights) (added-merge c.self.invariant.pool (free g h) (g.C.Count.number c.args.weight) wide)

pub returns-in-Free-clause-spare : goal.returns-in-Free-clause-spare
returns-in-Free-clause-spare g c = rw (← c.self.view_is, held-false c.self.invariant.pool (free g (goal.at.returns-in-Free-clause-spare g c).In-Free))

pub returns-in-Free-clause-placed : goal.returns-in-Free-clause-placed
returns-in-Free-clause-placed g c =
    let h = (goal.at.returns-in-Free-clause-placed g c).In-Free in
    let wide : length c.args.key.now ≡ c.self.inside.width = wide g (goal.at.returns-in-Free-clause-placed g c).After-self in
    let f : FitsSigned w128 c.number_for.result = record { sfits = c.number_for.type_inv } in
    let is : weight_of (to_z w128 (of_z w128 c.number_for.result)) ≡ g.C.Count.number c.args.weight = ap weight_of (to_z-of_z w128 c.number_for.result f) ∙ c.number_for.ensures in
    let count : length c.put.new.slots.items ≡ length c.self.inside.slots.items + 1 = ap length c.put.ensures.slots ∙ length_push c.self.inside.slots.items c.in-Free.slot in
    let keys : keys_of c.self.inside.width (length c.put.new.slots.items) c.put.new.cells.items ≡ keys_of c.self.inside.width (length c.self.inside.slots.items) c.self.inside.cells.items ++ c.args.key.now = pushed-keys c.self.invariant.stored c.args.key.now (to_z w128 (of_z w128 c.number_for.result)) (length c.put.new.slots.items) c.put.new.cells.items wide count c.put.ensures.cells in
    let weights : weights_of c.self.inside.width (length c.put.new.slots.items) c.put.new.cells.items ≡ weights_of c.self.inside.width (length c.self.inside.slots.items) c.self.inside.cells.items ++ g.C.Count.number c.args.weight ∷ [] = pushed-weights c.self.invariant.stored c.args.key.now (to_z w128 (of_z w128 c.number_for.result)) (length c.put.new.slots.items) c.put.new.cells.items wide count c.put.ensures.cells _ is in
    rw (← c.self.view_is, keys, weights, c.put.ensures.place) (added-placed c.self.invariant.pool (free g h) (g.C.Count.number c.args.weight) wide)
