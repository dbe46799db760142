use Rattle.std.proofs.Common.{◌≡◌, [], ◌∷◌, length, ap, sym, ◌∙◌, arith, lit≤}
use Rattle.std.specs.Prelude.{pos}
use Rattle.std.specs.List.{sum}
use Rattle.std.proofs.lemmas.List.Sums.{sum_by-cons}
use Rattle.score_convolution.proofs.RowSteps.{cells-one, cells_draws}
use Rattle.score_convolution.proofs.rows.DrawRow.nobody.Goals as goal

alone : 1 ≡ sum (1 ∷ [])
alone = omega (arith, sum_by-cons (λ v. v) 1 [])

pub returns-clause-row : goal.returns-clause-row
returns-clause-row g c = record {
  whole = alone ∙ ap sum (sym c.in_ok-one.ensures);
  within = c.requires;
  fits = lit≤ tt;
}

pub returns-clause-long : goal.returns-clause-long
returns-clause-long g c = ap length c.in_ok-one.ensures

pub returns-clause-told : goal.returns-clause-told
returns-clause-told g c = λ h stride.
    ap (cells_draws h stride (pos 0)) c.in_ok-one.ensures ∙ cells-one h stride (pos 0) 1 (omega arith)
