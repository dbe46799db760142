use Rattle.std.proofs.Common.{◌≡◌, ◌∙◌, length, sym, ap, subst, eq-eqb, ne_eqb, List, ℕ}
use Rattle.std.specs.List.{filter}
use Rattle.weights.proofs.Writes.{written_over-all}
use Rattle.enumerate.specs.Walk.{BeginsWith}
use Rattle.strata_cells.specs.Strata.{first_cells, strata_labellings}
use Rattle.zelen_test.specs.Zelen.{has_sum}
use Rattle.zelen_test.specs.SumSteps.{IsOnward}
use Rattle.zelen_test.proofs.SumWalk.{begins-here, begins-later}
use Rattle.zelen_test.proofs.sum_walk.first_with_sum.Goals as goal
use Rattle.zelen_test.proofs.sum_walk.first_with_sum.Goals.{else-first_cells-sum, then-first_cells-sum}

pub returns : goal.returns
returns c =
    let ss = c.args.strata.now in
    let labels : List ℕ = c.in_ok-labels.labels in
    let cells : c.first_cells.result ≡ first_cells ss labels = c.first_cells.ensures ∙ ap (first_cells ss) c.as_slice.ensures in
    elim c.if-first_cells-sum.branch [
      | then-first_cells-sum w ↦
          (let on : IsOnward ss c.args.sum labels w.move_on.result w.move_on.new.labels = subst (λ old. IsOnward ss c.args.sum old w.move_on.result w.move_on.new.labels) w.as_mut_slice.ensures.items w.move_on.ensures in
          let whole : c.if-first_cells-sum.labels ≡ w.move_on.new.labels = w.labels-is ∙ written_over-all labels w.move_on.new.labels (w.move_on.auto.labels ∙ ap length w.as_mut_slice.ensures.items) in
          subst (BeginsWith (filter (has_sum ss c.args.sum) (strata_labellings ss))) (sym whole)
          (begins-later ss c.args.sum labels w.move_on.new.labels w.move_on.result c.in_ok-labels.ensures (ne_eqb (first_cells ss labels) c.args.sum (λ e. w.if-first_cells-sum.true (cells ∙ e))) c.requires.some on))
      | else-first_cells-sum w ↦
          subst (BeginsWith (filter (has_sum ss c.args.sum) (strata_labellings ss))) (sym w.labels-is)
          (begins-here ss c.args.sum labels c.in_ok-labels.ensures (eq-eqb (first_cells ss labels) c.args.sum (sym cells ∙ w.if-first_cells-sum.false)))
    ]
