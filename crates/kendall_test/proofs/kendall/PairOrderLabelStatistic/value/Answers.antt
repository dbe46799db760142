use Rattle.std.proofs.Common.{◌∙◌, ap, sym, length}
use Rattle.weights.proofs.Members.{labelling_from}
use Rattle.pooled_columns.specs.PooledColumns.{column_sizes}
use Rattle.kendall_test.proofs.KendallFitting.{firsts-few, rows-sum}
use Rattle.kendall_test.proofs.kendall.PairOrderLabelStatistic.value.Goals as goal

pub kendall_sum-requires-clause-long : goal.kendall_sum-requires-clause-long
kendall_sum-requires-clause-long c = (labelling_from (column_sizes c.args.self.now.second) c.args.labels.now c.requires).over.long ∙ rows-sum c.args.self.now c.made.ensures.long c.made.ensures.few ∙ sym (ap length (c.as_slice.ensures ∙ c.made.ensures.firsts))

pub kendall_sum-requires-clause-few : goal.kendall_sum-requires-clause-few
kendall_sum-requires-clause-few c = rw (c.as_slice.ensures ∙ c.made.ensures.firsts) (firsts-few c.args.self.now c.made.ensures.long c.made.ensures.few)
