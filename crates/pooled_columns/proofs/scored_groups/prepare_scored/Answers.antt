use Rattle.std.proofs.Common.{◌≡◌, ◌∙◌, Err, arith, refl, subst, sym}
use Rattle.std.proofs.lemmas.Result.{err_from_is_err_and}
use Rattle.sample_reader.specs.Data.{data_of}
use Rattle.labelled.specs.LinearTests.{AreScoredLabels, IsFittedTo, linear_says}
use Rattle.labelled.specs.declared.linear.ScoredLabels.{ScoredLabels}
use Rattle.labelled.proofs.LabelLaws.{label-fits, label-refused, label-wide}
use Rattle.pooled_columns.specs.ScoredGroups.{scored_groups}
use Rattle.pooled_columns.proofs.GroupFacts.{few_subjects, sizes-whole}
use Rattle.pooled_columns.proofs.ScoredLaws.{are-scored, scores-refused}
use Rattle.pooled_columns.proofs.scored_groups.prepare_scored.Goals as goal
use Rattle.pooled_columns.proofs.scored_groups.prepare_scored.Goals.{In_ok-copy}

pub multinomial-requires : goal.multinomial-requires
multinomial-requires c = rw (c.as_slice.ensures ∙ c.args.groups.now.counted) (omega (arith, sizes-whole c.args.groups.now, few_subjects c.args.groups.now))

pub returns-in_default : goal.returns-in_default
returns-in_default c =
    let groups : ScoredLabels = scored_groups c.args.kind c.args.label_scores (data_of c.args.groups.now) in
    label-wide (linear_says groups) (rw (c.as_slice.ensures ∙ c.args.groups.now.counted) at c.in_default.ensures)

pub returns-in_err-made : goal.returns-in_err-made
returns-in_err-made c =
    let groups : ScoredLabels = scored_groups c.args.kind c.args.label_scores (data_of c.args.groups.now) in
    let total = rw (c.as_slice.ensures ∙ c.args.groups.now.counted) at c.in-Some.ensures in
    let p = err_from_is_err_and c.from_residual.result c.from_residual.ensures.1 in
    rw (p.1, p.2) (label-refused linear_says groups c.in_err-made.field-0.0 total.0 (scores-refused c.args.kind c.args.groups.now c.args.label_scores c.in_err-made.field-0.0 (rw c.requires.greatest at c.requires.some) c.in_err-made.ensures))

-- what is put together is the groups, scored
data-are : (c : In_ok-copy) → ◌≡◌ {A = ScoredLabels} (record {
  sizes = c.in_ok-copy.field-0;
  label_scores = c.args.label_scores;
  scores = c.in_ok-made.made.scored.list;
  columns = c.in_ok-made.made.columns.sizes;
  column_scores = c.in_ok-made.made.columns.scores;
  observed = c.in_ok-made.made.labels;
  scale = c.in_ok-made.made.scored.scale;
}) (scored_groups c.args.kind c.args.label_scores (data_of c.args.groups.now))
data-are c =
    let made = c.in_ok-made.ensures in
    rw (c.in_ok-copy.ensures ∙ c.args.groups.now.counted, made.scores.list, made.column_sizes, made.column_scores, made.labels, made.scores.scale) refl

pub new-requires-clause-are : goal.new-requires-clause-are
new-requires-clause-are c = subst AreScoredLabels (sym (data-are c)) (are-scored c.args.kind c.args.groups.now c.args.label_scores c.requires.wide (rw c.requires.greatest at c.requires.some) (rw c.requires.greatest at c.requires.small))

pub new-requires-clause-sum : goal.new-requires-clause-sum
new-requires-clause-sum c = rw (c.in_ok-made.ensures.scores.sum, c.in_ok-made.ensures.scores.list) refl

pub returns-in_err-sum : goal.returns-in_err-sum
returns-in_err-sum c =
    let groups : ScoredLabels = scored_groups c.args.kind c.args.label_scores (data_of c.args.groups.now) in
    let total = rw (c.as_slice.ensures ∙ c.args.groups.now.counted) at c.in-Some.ensures in
    let p = err_from_is_err_and c.from_residual-in_err-sum.result c.from_residual-in_err-sum.ensures.1 in
    let refused = subst (λ s. IsFittedTo s (Err c.in_err-sum.field-0.0)) (data-are (goal.at.returns-in_err-sum c).In_ok-copy) c.in_err-sum.ensures in
    rw (p.1, p.2) (label-refused linear_says groups c.in_err-sum.field-0.0 total.0 refused)

pub returns : goal.returns
returns c =
    let groups : ScoredLabels = scored_groups c.args.kind c.args.label_scores (data_of c.args.groups.now) in
    let is = data-are (goal.at.returns c).In_ok-copy in
    let fits = rw is at c.in_ok-sum.ensures.1 in
    (c.framed.ensures ∙ c.in_ok-sum.ensures.0 ∙ is, label-fits (linear_says groups) fits.total_fits fits.bound_fits)
