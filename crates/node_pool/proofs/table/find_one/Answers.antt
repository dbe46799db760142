use Rattle.std.proofs.Common.{◌≡◌, ◌≢◌, ℕ, ℤ, List, ◌-◌, ◌*◌, ◌<◌, [], ◌∷◌, length, get_or, ◌∙◌, ap, sym, subst, arith, below_more, pos, of_z, to_z, rules}
use mir.Syntax.{w128}
use Rattle.std.proofs.lemmas.Int.{to_z-of_z}
use Rattle.node_pool.specs.PoolSteps.{keys_of}
use Rattle.node_pool.specs.TableSteps.{key_at}
use Rattle.node_pool.proofs.Cells.{number-in}
use Rattle.node_pool.proofs.Spots.{along-start, along-next}
use Rattle.node_pool.proofs.table.find_one.Goals as goal

pub loop-slot-init : goal.loop-slot-init
loop-slot-init c = record {
  along = along-start c.args.buckets.now c.home_of_one-home.result c.home_of_one-home.ensures.within;
  missed = λ e h. absurd (omega arith);
}

pub loop-slot-preserved : goal.loop-slot-preserved
loop-slot-preserved c =
    let some = c.loop-slot-test.true in
    let keys : List ℤ = keys_of 1 (length c.args.slots.now) c.args.cells.now in
    let place : ℕ = get_or c.args.buckets.now c.loop-slot.slot 0 - 1 in
    let low : place < length c.args.slots.now = omega (arith, some, c.requires.table.entry c.loop-slot.slot c.loop-slot.invariant.along.within) in
    let here : key_at 1 keys place ≡ get_or c.args.cells.now (2 * place) (pos 0) ∷ [] = number-in (length c.args.slots.now) place c.args.cells.now c.requires.long low in
    record {
      along = along-next c.loop-slot.invariant.along c.home_of_one-home.ensures.within (omega (arith, c.requires.table.counted, c.requires.room)) some _ c.next_slot-slot.ensures.value c.next_slot-slot.ensures.within;
      missed = below_more _ _ c.loop-slot.invariant.missed (subst (λ s. key_at 1 keys (get_or c.args.buckets.now s 0 - 1) ≢ to_z w128 (of_z w128 c.args.number) ∷ []) c.loop-slot.invariant.along.here (λ same. c.if-cells-place.false (ap (of_z w128) (ap (λ key. get_or key 0 (pos 0)) (sym here ∙ same) ∙ to_z-of_z w128 c.args.number c.ranges.number))));
    }

pub returns-then-cells-place : goal.returns-then-cells-place
returns-then-cells-place c =
    let low : get_or c.args.buckets.now c.loop-slot.slot 0 - 1 < length c.args.slots.now = omega (arith, c.loop-slot-test.true, c.requires.table.entry c.loop-slot.slot c.loop-slot.invariant.along.within) in
    let same : get_or c.args.cells.now (2 * (get_or c.args.buckets.now c.loop-slot.slot 0 - 1)) (pos 0) ≡ c.args.number = search (rules, c.if-cells-place.true) in
    record { low = low; here = number-in (length c.args.slots.now) _ c.args.cells.now c.requires.long low ∙ ap (λ z. z ∷ []) same }
