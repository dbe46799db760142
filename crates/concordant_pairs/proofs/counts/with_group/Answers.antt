use Rattle.std.proofs.Common.{◌∷◌, ◌∙◌, ap, arith, subst, sym}
use Rattle.std.proofs.lemmas.Result.{IfOk-weaker}
use Rattle.concordant_pairs.specs.ConcordantSteps.{AreCounts, AreMixed, mixed_total}
use Rattle.concordant_pairs.proofs.Counting.{group-total, others-with, turned-total, with-others}
use Rattle.concordant_pairs.proofs.counts.with_group.Goals as goal

pub with_two-requires-clause-fits : goal.with_two-requires-clause-fits
with_two-requires-clause-fits c = omega (arith, group-total c.args.size c.args.rest.now ∙ ap (mixed_total c.args.rest.now c.args.size) (sym c.requires.later), c.requires.fits)

pub with_two-requires-else-size-later-clause-fits : goal.with_two-requires-else-size-later-clause-fits
with_two-requires-else-size-later-clause-fits c = omega (arith, turned-total c.args.size c.args.rest.now ∙ ap (λ m. mixed_total c.args.rest.now m c.args.size) (sym c.requires.later), c.requires.fits)

pub returns-then-size-later : goal.returns-then-size-later
returns-then-size-later c =
    IfOk-weaker c.with_two.result (λ all. AreMixed c.args.rest.now c.args.size c.args.later all.items) (λ all. AreCounts (c.args.size ∷ c.args.rest.now) all.items)
    (λ all are. with-others c.args.size c.args.rest.now all.items (subst (λ m. AreMixed c.args.rest.now c.args.size m all.items) c.requires.later are)) c.with_two.ensures

pub returns-else-size-later : goal.returns-else-size-later
returns-else-size-later c =
    IfOk-weaker c.with_two-else-size-later.result (λ all. AreMixed c.args.rest.now c.args.later c.args.size all.items) (λ all. AreCounts (c.args.size ∷ c.args.rest.now) all.items)
    (λ all are. others-with c.args.size c.args.rest.now all.items (subst (λ m. AreMixed c.args.rest.now m c.args.size all.items) c.requires.later are)) c.with_two-else-size-later.ensures
