use Rattle.std.proofs.Common.{◌≡◌, ◌∙◌, Err, ap, map, subst}
use Rattle.std.proofs.lemmas.Result.{err_from_is_err_and}
use Rattle.midranks.specs.declared.ties.Tie.{Tie}
use Rattle.scores.specs.Scores.{AreTieScores}
use Rattle.sample_reader.specs.Data.{data_of}
use Rattle.sample_reader.specs.PooledSample.{labels_of, values_of}
use Rattle.pooled_columns.specs.PooledColumns.{pooled_values}
use Rattle.pooled_columns.specs.ScoredGroups.{IsScoredBy}
use Rattle.pooled_columns.proofs.GroupFacts.{few_subjects, labels-small}
use Rattle.pooled_columns.proofs.scored_groups.scored_subjects.Goals as goal

pub labels_in-requires : goal.labels_in-requires
labels_in-requires c = rw (c.deref.ensures.value ∙ c.in_ok-subjects.ensures) (labels-small c.args.groups.now)

values-are : (c : goal.After-as_slice) → c.as_slice.result.now ≡ pooled_values (data_of c.args.groups.now)
values-are c = c.as_slice.ensures ∙ c.in_ok-values.ensures ∙ ap values_of (c.deref-2.ensures.value ∙ c.in_ok-subjects.ensures)

pub scored_values-requires : goal.scored_values-requires
scored_values-requires c = rw (values-are c) (few_subjects c.args.groups.now)

pub returns-in_err-scored : goal.returns-in_err-scored
returns-in_err-scored c =
    let p = err_from_is_err_and c.from_residual-in_err-scored.result c.from_residual-in_err-scored.ensures.1 in
    rw (p.1, p.2) (subst (λ vs. IsScoredBy c.args.kind vs (Err c.in_err-scored.field-0.0)) (c.as_slice.ensures ∙ c.in_ok-values.ensures ∙ ap values_of (c.deref-2.ensures.value ∙ c.in_ok-subjects.ensures)) c.in_err-scored.ensures)

pub returns : goal.returns
returns c =
    let values = pooled_values (data_of c.args.groups.now) in
    let held : c.as_slice.result.now ≡ values = c.as_slice.ensures ∙ c.in_ok-values.ensures ∙ ap values_of (c.deref-2.ensures.value ∙ c.in_ok-subjects.ensures) in
    let scores : AreTieScores c.args.kind values c.in_ok-scored.scored = subst (λ vs. AreTieScores c.args.kind vs c.in_ok-scored.scored) held c.in_ok-scored.ensures in
    record {
      labels = c.in_ok-labels.ensures ∙ ap labels_of (c.deref.ensures.value ∙ c.in_ok-subjects.ensures);
      scores = scores.all;
      column_sizes = c.in_ok-columns.ensures.sizes ∙ ap (map (λ (t : Tie). t.count)) (c.as_slice-2.ensures ∙ scores.ties);
      column_scores = c.in_ok-columns.ensures.scores ∙ scores.scores;
    }
