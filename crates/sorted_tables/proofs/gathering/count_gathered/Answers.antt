use Rattle.std.proofs.Common.{◌≡◌, Bool, true, ◌&&◌, arith, sym, ◌∙◌}
use Rattle.std.specs.List.{sum}
use Rattle.label_network.proofs.Narrowing.{chosen}
use Rattle.sorted_tables.proofs.GatheredLoops.{counted-all, counted-apart, counted-first, counted-step}
use Rattle.sorted_tables.proofs.gathering.count_gathered.Goals as goal

pub loop-i-init : goal.loop-i-init
loop-i-init c = counted-first (chosen (sum c.args.counts.now) c.args.rows.now c.args.counts.now c.requires.allowed) c.requires.gathered c.requires.few

-- both rows and counts go on where the former do and the latter
both : (again other more : Bool) → true ≡ again → more ≡ other → more ≡ (again && other)
both again other more e f = rw (sym e) f

pub overflow_mul-orders : goal.overflow_mul-orders
overflow_mul-orders c =
    let again = sym c.if-goes_on.true ∙ c.goes_on.ensures in
    omega (arith, (counted-step c.loop-i.invariant c.loop-i-test.true again (both _ _ _ again c.goes_on-then-goes_on.ensures) c.count_on-equal.ensures c.count_on-alike.ensures).orders_fit)

pub overflow_mul-alike_orders : goal.overflow_mul-alike_orders
overflow_mul-alike_orders c =
    let again = sym c.if-goes_on.true ∙ c.goes_on.ensures in
    omega (arith, (counted-step c.loop-i.invariant c.loop-i-test.true again (both _ _ _ again c.goes_on-then-goes_on.ensures) c.count_on-equal.ensures c.count_on-alike.ensures).alike_orders_fit)

pub loop-i-preserved-then-goes_on : goal.loop-i-preserved-then-goes_on
loop-i-preserved-then-goes_on c =
    let again = sym c.if-goes_on.true ∙ c.goes_on.ensures in
    (counted-step c.loop-i.invariant c.loop-i-test.true again (both _ _ _ again c.goes_on-then-goes_on.ensures) c.count_on-equal.ensures c.count_on-alike.ensures).next

pub loop-i-preserved : goal.loop-i-preserved
loop-i-preserved c = counted-apart c.loop-i.invariant c.loop-i-test.true (sym c.if-goes_on.false ∙ c.goes_on.ensures)

pub returns : goal.returns
returns c = counted-all c.loop-i.invariant (omega arith)
