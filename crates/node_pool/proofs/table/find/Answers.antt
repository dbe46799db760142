use Rattle.std.proofs.Common.{◌≡◌, ◌≢◌, ◌-◌, ◌<◌, length, get_or, sym, ◌∙◌, subst, arith, below_more, true, false, pos, rules, FitsSigned}
use mir.Syntax.{w128}
use Rattle.std.proofs.lemmas.Int.{to_z-of_z}
use Rattle.node_pool.specs.PoolSteps.{keys_of}
use Rattle.node_pool.specs.TableSteps.{key_at}
use Rattle.node_pool.proofs.Cells.{key-at, within}
use Rattle.node_pool.proofs.Numbers.{its_number}
use Rattle.node_pool.proofs.Spots.{along-start, along-next}
use Rattle.node_pool.proofs.table.find.Goals as goal

pub loop-slot-init : goal.loop-slot-init
loop-slot-init c = record {
  along = along-start c.args.buckets.now c.home_of-home.result c.home_of-home.ensures.within;
  missed = λ e h. absurd (omega arith);
}

pub cell_key-requires-clause-within : goal.cell_key-requires-clause-within
cell_key-requires-clause-within c =
    let low : get_or c.args.buckets.now c.loop-slot.slot 0 - 1 < length c.args.slots.now = omega (arith, c.loop-slot-test.true, c.requires.table.entry c.loop-slot.slot c.loop-slot.invariant.along.within) in
    omega (arith, within c.args.width (length c.args.slots.now) _ low, c.requires.long)

pub loop-slot-preserved : goal.loop-slot-preserved
loop-slot-preserved c =
    let low : get_or c.args.buckets.now c.loop-slot.slot 0 - 1 < length c.args.slots.now = omega (arith, c.loop-slot-test.true, c.requires.table.entry c.loop-slot.slot c.loop-slot.invariant.along.within) in
    record {
      along = along-next c.loop-slot.invariant.along c.home_of-home.ensures.within (omega (arith, c.requires.table.counted, c.requires.room)) c.loop-slot-test.true _ c.next_slot-slot.ensures.value c.next_slot-slot.ensures.within;
      missed = below_more _ _ c.loop-slot.invariant.missed (subst (λ s. key_at c.args.width (keys_of c.args.width (length c.args.slots.now) c.args.cells.now) (get_or c.args.buckets.now s 0 - 1) ≢ c.args.key.now) c.loop-slot.invariant.along.here (λ same. let no : c.same_key.result ≡ true = c.same_key.ensures.1 (c.cell_key.ensures ∙ sym (key-at c.args.width (length c.args.slots.now) _ c.args.cells.now c.requires.long low) ∙ same) in let yes : c.same_key.result ≡ false = c.if-same_key.false in cc));
    }

pub returns-then-width-eq1 : goal.returns-then-width-eq1
returns-then-width-eq1 c =
    let fits : FitsSigned w128 (get_or c.args.key.now 0 (pos 0)) = search rules in
    let found = rw (to_z-of_z w128 _ fits, ← its_number c.args.key.now (c.requires.wide ∙ c.if-width-eq1.true)) at c.find_one.ensures in
    rw c.if-width-eq1.true found

pub returns-then-same_key : goal.returns-then-same_key
returns-then-same_key c =
    let low : get_or c.args.buckets.now c.loop-slot.slot 0 - 1 < length c.args.slots.now = omega (arith, c.loop-slot-test.true, c.requires.table.entry c.loop-slot.slot c.loop-slot.invariant.along.within) in
    record { low = low; here = key-at c.args.width (length c.args.slots.now) _ c.args.cells.now c.requires.long low ∙ sym c.cell_key.ensures ∙ c.same_key.ensures.0 c.if-same_key.true }
