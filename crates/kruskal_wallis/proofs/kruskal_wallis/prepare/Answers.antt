use Rattle.std.proofs.Common.{◌∙◌, refl, arith}
use Rattle.std.proofs.lemmas.Result.{err_from_is_err_and}
use Rattle.labelled.proofs.LabelLaws.{label-fits, label-refused, label-wide}
use Rattle.sample_reader.specs.Data.{data_of}
use Rattle.pooled_columns.proofs.GroupFacts.{few_subjects, sizes-whole}
use Rattle.kruskal_wallis.specs.KruskalWallis.{ScoredGroups, kruskal_wallis_says}
use Rattle.kruskal_wallis.proofs.kruskal_wallis.prepare.Goals as goal

pub multinomial-requires : goal.multinomial-requires
multinomial-requires c = rw (c.as_slice.ensures ∙ c.args.groups.now.counted) (omega (arith, sizes-whole c.args.groups.now, few_subjects c.args.groups.now))

pub returns-in_default : goal.returns-in_default
returns-in_default c =
    let samples : ScoredGroups = record { kind = c.args.kind; groups = data_of c.args.groups.now } in
    label-wide (kruskal_wallis_says samples) (rw (c.as_slice.ensures ∙ c.args.groups.now.counted) at c.in_default.ensures)

pub returns-in_err-made : goal.returns-in_err-made
returns-in_err-made c =
    let samples : ScoredGroups = record { kind = c.args.kind; groups = data_of c.args.groups.now } in
    let total = rw (c.as_slice.ensures ∙ c.args.groups.now.counted) at c.in-Some.ensures in
    let p = err_from_is_err_and c.from_residual.result c.from_residual.ensures.1 in
    rw (p.1, p.2) (label-refused kruskal_wallis_says samples c.in_err-made.field-0.0 total.0 c.in_err-made.ensures)

pub returns : goal.returns
returns c =
    let samples : ScoredGroups = record { kind = c.args.kind; groups = data_of c.args.groups.now } in
    (rw (c.new.ensures, c.in_ok-copy.ensures, c.in_ok-copy-2.ensures, c.in_ok-copy-3.ensures) refl, label-fits (kruskal_wallis_says samples) c.in_ok-made.ensures.fitting.total_fits c.in_ok-made.ensures.fitting.bound_fits)
