use Rattle.std.proofs.Common.{◌≡◌, ap, ◌∙◌, sym, rules, FitsSigned, to_z, of_z}
use Rattle.std.specs.Prelude.{ℤ, ◌+ℤ◌}
use Rattle.std.specs.List.{sum}
use Rattle.std.proofs.lemmas.Int.{to_z-of_z}
use mir.Syntax.{w128}
use Rattle.score_convolution.proofs.RowSteps.{cells-moved, cells_draws}
use Rattle.score_convolution.proofs.rows.DrawRow.with.Goals as goal

pub returns-clause-row : goal.returns-clause-row
returns-clause-row g c = record {
  whole = c.requires.row.whole ∙ ap sum (sym c.in_ok-tally.ensures);
  within = c.requires.row.within;
  fits = c.requires.row.fits;
}

pub returns-clause-told : goal.returns-clause-told
returns-clause-told g c = λ h stride.
    let F : ℤ = c.args.self.now.lowest in
    let fits : FitsSigned w128 F = search rules in
    let lowest : to_z w128 (of_z w128 c.plus.result) ≡ F +ℤ c.args.score = to_z-of_z w128 c.plus.result (search rules) ∙ (rw (to_z-of_z w128 F fits, to_z-of_z w128 c.args.score c.ranges.score) at c.plus.ensures) in
    ap (λ z. cells_draws h stride z (g.K.Tally.cells c.in_ok-tally.tally)) lowest
    ∙ ap (cells_draws h stride (F +ℤ c.args.score)) c.in_ok-tally.ensures
    ∙ cells-moved h c.args.score stride F (g.K.Tally.cells c.args.self.now.tally)
