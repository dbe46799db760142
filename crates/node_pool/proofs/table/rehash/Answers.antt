use Rattle.std.proofs.Common.{◌≡◌, ℕ, ℤ, List, ◌+◌, ◌<◌, length, set, refl, ◌∙◌, ap, sym, subst, arith}
use Rattle.std.proofs.lemmas.List.{length-set, get_or-set_same, get_or-set_other}
use Rattle.node_pool.specs.HashSteps.{home_of}
use Rattle.node_pool.specs.PoolSteps.{keys_of}
use Rattle.node_pool.specs.TableSteps.{IsWalk, key_at}
use Rattle.node_pool.proofs.Cells.{key-at, within}
use Rattle.node_pool.proofs.Tables.{table-none, table-more}
use Rattle.node_pool.proofs.table.rehash.Goals as goal

pub loop-i-init : goal.loop-i-init
loop-i-init c = record { table = table-none c.args.width (keys_of c.args.width (length c.args.slots.now) c.args.cells.now) c.args.slots.now c.args.buckets.now c.requires.empty; size = refl; count = refl }

pub cell_key-requires-clause-within : goal.cell_key-requires-clause-within
cell_key-requires-clause-within c =
    let low : c.loop-i.i < length c.args.slots.now = omega (arith, c.loop-i-test.true, c.loop-i.invariant.count) in
    omega (arith, within c.args.width (length c.args.slots.now) c.loop-i.i low, c.requires.long)

pub loop-i-preserved : goal.loop-i-preserved
loop-i-preserved c =
    let i : ℕ = c.loop-i.i in
    let ss = c.loop-i.slots in
    let keys : List ℤ = keys_of c.args.width (length c.args.slots.now) c.args.cells.now in
    let slot : ℕ = c.free_slot-slot.result in
    let low : i < length ss = omega (arith, c.loop-i-test.true) in
    let here : c.cell_key.result.now ≡ key_at c.args.width keys i = c.cell_key.ensures ∙ sym (key-at c.args.width (length c.args.slots.now) i c.args.cells.now c.requires.long (omega (arith, low, c.loop-i.invariant.count))) in
    record {
      table = table-more c.args.width i keys keys ss (set ss i slot) c.loop-i.buckets slot c.loop-i.invariant.table
          c.free_slot-slot.ensures.within c.free_slot-slot.ensures.free (subst (λ h. IsWalk c.loop-i.buckets h slot) (c.home_of-home.ensures.value ∙ ap (home_of (length c.loop-i.buckets)) here) c.free_slot-slot.ensures.walk)
          (λ j h. refl) (λ j h. get_or-set_other ss i j slot 0 (λ e. omega arith)) (get_or-set_same ss i slot 0 low);
      size = length-set c.loop-i.buckets slot (i + 1) ∙ c.loop-i.invariant.size;
      count = length-set ss i slot ∙ c.loop-i.invariant.count;
    }
