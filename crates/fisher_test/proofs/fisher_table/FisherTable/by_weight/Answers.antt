use Rattle.std.proofs.Common.{◌≡◌, ◌∙◌, sym, ap, subst}
use Rattle.std.proofs.lemmas.Result.{IfOk-weaker}
use Rattle.label_network.specs.LabelNetwork.{IsMargin, over_rooms}
use Rattle.label_network.specs.Meanings.{Meaning}
use Rattle.table_sums.specs.Tables.{column_sums, row_sums}
use Rattle.fisher_test.specs.Weighing.{weight_meaning}
use Rattle.fisher_test.specs.declared.weight_measure.WeightMeasure.{WeightMeasure}
use Rattle.fisher_test.proofs.fisher_table.FisherTable.by_weight.Goals as goal

abbrev meaning_of : WeightMeasure → Meaning
meaning_of m = weight_meaning m.rows.items m.columns.items m.judge

pub label_stages-requires : goal.label_stages-requires
label_stages-requires c =
    let given = rw (c.row_sums-rows.ensures, c.column_sums-columns.ensures, c.judge.ensures) at c.in_ok-measure.ensures in
    rw (c.row_sums-rows.ensures, c.column_sums-columns.ensures)
    (subst (λ m. IsMargin (over_rooms m) (column_sums c.args.self.now) (row_sums c.args.self.now)) (sym (ap meaning_of c.new-2.ensures ∙ given)) c.facts.ensures.margin)

pub returns : goal.returns
returns c =
    let given = rw (c.row_sums-rows.ensures, c.column_sums-columns.ensures, c.judge.ensures) at c.in_ok-measure.ensures in
    IfOk-weaker c.label_stages.result (λ s. s.1 ≡ c.new-2.result) _ (λ s e. ap meaning_of (e ∙ c.new-2.ensures) ∙ given) c.label_stages.ensures.measure
