use Rattle.std.proofs.Common.{◌∙◌, ap, subst, sym, arith}
use Rattle.label_network.specs.Meanings.{Meaning}
use Rattle.kruskal_wallis.specs.SumMeanings.{AreSums, sums_meaning}
use Rattle.kruskal_wallis.proofs.FittingKruskalWallis.{margin, squares-sound}
use Rattle.kruskal_wallis.proofs.kruskal_wallis_ways.written_stages.Goals as goal

pub label_stages-requires : goal.label_stages-requires
label_stages-requires c =
    let made = c.made-made.ensures in
    margin c.args.problem.now made.fitting (sums_meaning c.in_ok-sums.sums) c.as_slice-columns.result.now c.as_slice.result.now
    (ap (λ (m : Meaning). m.columns) c.in_ok-sums.ensures.meaning) (ap (λ (m : Meaning). m.rows) c.in_ok-sums.ensures.meaning)
    (omega (arith, ap (λ (m : Meaning). m.slots) c.in_ok-sums.ensures.meaning, made.fitting.few_rows))
    (c.as_slice-columns.ensures ∙ made.column_sizes) (c.as_slice.ensures ∙ made.sizes)

pub returns-in_err-sums-clause-follows : goal.returns-in_err-sums-clause-follows
returns-in_err-sums-clause-follows c t = (squares-sound c.args.problem.now c.made-made.ensures.fitting).follows t

pub returns-in_err-stages-clause-follows : goal.returns-in_err-stages-clause-follows
returns-in_err-stages-clause-follows c t = (squares-sound c.args.problem.now c.made-made.ensures.fitting).follows t

pub returns-clause-follows : goal.returns-clause-follows
returns-clause-follows c t = (squares-sound c.args.problem.now c.made-made.ensures.fitting).follows t

pub returns-clause-sums : goal.returns-clause-sums
returns-clause-sums c = subst (AreSums c.args.problem.now) (sym c.in_ok-stages.ensures.measure) c.in_ok-sums.ensures
