use Rattle.std.proofs.Common.{◌∷◌, ◌++◌, ◌%◌, [], ap, sym, ◌∙◌}
use Rattle.pieces.proofs.Placed.{dealt-more}
use Rattle.pieces.proofs.parting.deal.Goals as goal

pub loop-i-preserved : goal.loop-i-preserved
loop-i-preserved c =
    c.in_ok-push.ensures.items ∙ ap (λ os. os ++ (c.loop-i.i % c.args.parts) ∷ []) c.loop-i.invariant ∙ sym (dealt-more c.args.parts c.loop-i.i)
