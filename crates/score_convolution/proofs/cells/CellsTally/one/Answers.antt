use Rattle.std.proofs.Common.{[], ◌∷◌, ◌++◌, map, ap, ◌∙◌}
use Rattle.score_convolution.proofs.cells.CellsTally.one.Goals as goal

pub returns : goal.returns
returns g c =
    ap (map g.C.Count.number) (c.in_ok-push.ensures.items ∙ ap (λ xs. xs ++ c.cell_of.result ∷ []) c.new-counts.ensures.items)
    ∙ ap (λ n. n ∷ []) c.cell_of.ensures
