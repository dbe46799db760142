use Rattle.std.proofs.Common.{[], ◌∷◌, ◌++◌, sym, ◌∙◌, ap, subst}
use Rattle.score_convolution.specs.DrawRows.{AreDraws}
use Rattle.score_convolution.proofs.RowsOf.{nobody-draws}
use Rattle.score_convolution.proofs.draws.nobody_alone.Goals as goal

pub returns : goal.returns
returns g c = λ most stride.
    let row = c.in_ok-nobody in
    let items = c.in_ok-push.ensures.items ∙ ap (λ rows. rows ++ row.field-0 ∷ []) c.new-rows.ensures.items in
    subst (AreDraws g.K.Tally.cells g.K.Tally.LIMIT most stride []) (sym items)
    (nobody-draws g.K.Tally.cells g.K.Tally.LIMIT most stride row.field-0 row.ensures.row row.ensures.one row.ensures.lowest row.ensures.long (λ h. row.ensures.told h stride))
