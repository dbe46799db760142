use Rattle.std.proofs.Common.{rules, ◌<◌, ◌≤◌, length, FitsSigned, arith, ap, ◌∙◌, subst}
use Rattle.std.specs.Int.{w128}
use Rattle.std.proofs.lemmas.Int.{to_z-of_z}
use Rattle.completion_bounds.specs.PairingSteps.{turned}
use Rattle.completion_bounds.proofs.Runs.{walk-start, walk-row, column_left, walk-skip, walk-column, walk-pairs, walk-fits, left-pairs, walk-end, length-turned}
use Rattle.completion_bounds.proofs.pairings.pair_runs.Goals as goal

pub loop-rows_read-init : goal.loop-rows_read-init
loop-rows_read-init c = walk-start c.args.from c.args.rows.now c.args.columns.now c.args.downwards c.requires.level

pub loop-rows_read-preserved-then-row-eq0 : goal.loop-rows_read-preserved-then-row-eq0
loop-rows_read-preserved-then-row-eq0 c =
    let some : c.loop-rows_read.rows_read < length c.args.rows.now = search rules in
    walk-row _ _ _ _ _ _ _ _ _ _ _ _ _ c.if-row-eq0.true some c.loop-rows_read.invariant

pub column_at-next-requires : goal.column_at-next-requires
column_at-next-requires c =
    let j = column_left _ _ _ _ _ _ _ _ _ _ _ _ (omega (arith, c.if-row-eq0.false)) c.if-column-eq0.true c.loop-rows_read.invariant in
    omega (arith, j, length-turned c.args.downwards c.args.columns.now)

pub overflow_add-columns_read : goal.overflow_add-columns_read
overflow_add-columns_read c =
    let j = column_left _ _ _ _ _ _ _ _ _ _ _ _ (omega (arith, c.if-row-eq0.false)) c.if-column-eq0.true c.loop-rows_read.invariant in
    let k : c.loop-rows_read.columns_read < length c.args.columns.now = omega (arith, j, length-turned c.args.downwards c.args.columns.now) in
    search rules

pub loop-rows_read-smaller-then-next-from : goal.loop-rows_read-smaller-then-next-from
loop-rows_read-smaller-then-next-from c =
    let j = column_left _ _ _ _ _ _ _ _ _ _ _ _ (omega (arith, c.if-row-eq0.false)) c.if-column-eq0.true c.loop-rows_read.invariant in
    omega (arith, j)

pub loop-rows_read-preserved-then-next-from : goal.loop-rows_read-preserved-then-next-from
loop-rows_read-preserved-then-next-from c =
    let j = column_left _ _ _ _ _ _ _ _ _ _ _ _ (omega (arith, c.if-row-eq0.false)) c.if-column-eq0.true c.loop-rows_read.invariant in
    let d = c.column_at-next.result in
    let f : FitsSigned w128 c.column_at-next.result.score = search rules in
    let is = c.column_at-next.ensures d in
    walk-column _ _ _ _ _ _ _ _ _ _ _ _ d _ c.if-column-eq0.true j (subst (λ l. c.args.from ≤ l.stage) is (omega (arith, c.if-next-from.true))) (ap (λ l. l.count) is) (to_z-of_z w128 _ f ∙ ap (λ l. l.score) is) c.loop-rows_read.invariant

pub loop-rows_read-smaller-else-next-from : goal.loop-rows_read-smaller-else-next-from
loop-rows_read-smaller-else-next-from c =
    let j = column_left _ _ _ _ _ _ _ _ _ _ _ _ (omega (arith, c.if-row-eq0.false)) c.if-column-eq0.true c.loop-rows_read.invariant in
    omega (arith, j)

pub loop-rows_read-preserved-else-next-from : goal.loop-rows_read-preserved-else-next-from
loop-rows_read-preserved-else-next-from c =
    let j = column_left _ _ _ _ _ _ _ _ _ _ _ _ (omega (arith, c.if-row-eq0.false)) c.if-column-eq0.true c.loop-rows_read.invariant in
    let d = c.column_at-next.result in
    walk-skip _ _ _ _ _ _ _ _ _ _ _ _ d c.if-column-eq0.true j (subst (λ l. l.stage < c.args.from) (c.column_at-next.ensures d) (omega (arith, c.if-next-from.false))) c.loop-rows_read.invariant

pub add_pairs-sum-requires-clause-small : goal.add_pairs-sum-requires-clause-small
add_pairs-sum-requires-clause-small c =
    let f : FitsSigned w128 c.loop-rows_read.row.score = search rules in
    let g : FitsSigned w128 c.loop-rows_read.column.score = search rules in
    let fits = walk-fits _ _ _ _ _ _ _ _ _ _ _ _ c.min-pairs.result (omega (arith, c.min-pairs.ensures, c.if-row-eq0.false, c.if-column-eq0.false)) (omega (arith, c.min-pairs.ensures)) (omega (arith, c.min-pairs.ensures)) c.loop-rows_read.invariant in
    rw (to_z-of_z w128 _ f, to_z-of_z w128 _ g) (omega (arith, fits, c.requires.small))

pub loop-rows_read-smaller : goal.loop-rows_read-smaller
loop-rows_read-smaller c = left-pairs c.args.rows.now (turned c.args.downwards c.args.columns.now) _ _ _ c.min-pairs.result (omega (arith, c.min-pairs.ensures, c.if-row-eq0.false, c.if-column-eq0.false)) (omega (arith, c.min-pairs.ensures))

pub loop-rows_read-preserved : goal.loop-rows_read-preserved
loop-rows_read-preserved c =
    let f : FitsSigned w128 c.loop-rows_read.row.score = search rules in
    let g : FitsSigned w128 c.loop-rows_read.column.score = search rules in
    let h : FitsSigned w128 c.add_pairs-sum.result = search rules in
    let next = walk-pairs _ _ _ _ _ _ _ _ _ _ _ _ c.min-pairs.result (omega (arith, c.min-pairs.ensures)) (omega (arith, c.min-pairs.ensures)) c.loop-rows_read.invariant in
    rw (to_z-of_z w128 _ h, c.add_pairs-sum.ensures, to_z-of_z w128 _ f, to_z-of_z w128 _ g) next

pub returns : goal.returns
returns c = walk-end _ _ _ _ _ _ _ _ _ _ _ _ (omega (arith, c.if-row-gt0.false)) (omega (arith, c.if-rows_read-rows.false)) c.loop-rows_read.invariant
