use Rattle.std.proofs.Common.{◌∙◌, map, sym, eq-eqb, ne_eqb}
use Rattle.strata_cells.specs.Strata.{first_cells, row_counts}
use Rattle.zelen_test.proofs.SumWalk.{onward-found, passing-next}
use Rattle.zelen_test.proofs.sum_walk.move_on.Goals as goal

pub returns-then-first_cells-sum : goal.returns-then-first_cells-sum
returns-then-first_cells-sum c =
    let ss = c.args.strata.now in
    let new = c.next_joined.new.labels in
    onward-found ss c.args.sum c.args.labels.now c.loop-labels.labels new c.loop-labels.invariant (c.loop-labels-test.ensures (map row_counts ss) c.requires.sized.sizes_are c.loop-labels.invariant.member) (eq-eqb (first_cells ss new) c.args.sum (sym c.first_cells.ensures ∙ c.if-first_cells-sum.true))

pub loop-labels-preserved : goal.loop-labels-preserved
loop-labels-preserved c =
    let ss = c.args.strata.now in
    let new = c.next_joined.new.labels in
    passing-next ss c.args.sum c.args.labels.now c.loop-labels.labels new c.loop-labels.invariant (c.loop-labels-test.ensures (map row_counts ss) c.requires.sized.sizes_are c.loop-labels.invariant.member) (ne_eqb (first_cells ss new) c.args.sum (λ e. c.if-first_cells-sum.false (c.first_cells.ensures ∙ e)))
