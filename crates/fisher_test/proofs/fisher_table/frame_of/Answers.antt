use Rattle.std.proofs.Common.{◌∙◌, get_or, refl, ap, rules, FitsSigned}
use mir.Syntax.{w128}
use Rattle.std.proofs.lemmas.Int.{to_z-of_z}
use Rattle.weights.specs.declared.rules.Rule.TheVariants.{AtMost}
use Rattle.table_reader.specs.Data.{table_data_of}
use Rattle.fisher_test.proofs.FisherTests.{framed, observed-few}
use Rattle.fisher_test.proofs.fisher_table.frame_of.Goals as goal

pub observed_weight-weight-requires : goal.observed_weight-weight-requires
observed_weight-weight-requires c = observed-few (table_data_of c.args.table.now) c.requires.fitting

pub statistic_of-requires : goal.statistic_of-requires
statistic_of-requires c = rw c.observed_weight-weight.ensures (observed-few (table_data_of c.args.table.now) c.requires.fitting)

pub held-requires : goal.held-requires
held-requires c = rw c.observed_weight-weight.ensures (observed-few (table_data_of c.args.table.now) c.requires.fitting)

pub returns : goal.returns
returns c =
    let s : FitsSigned w128 c.statistic_of.result = search rules in
    let h : FitsSigned w128 c.held.result = search rules in
    framed (table_data_of c.args.table.now) c.args.two_by_two c.observed_weight-weight.result (get_or c.as_slice.result.now 0 0) c.args.total _ c.requires.fitting c.requires.square c.observed_weight-weight.ensures
    (ap (λ cells. get_or cells 0 0) c.as_slice.ensures) c.requires.total
    (to_z-of_z w128 c.statistic_of.result s ∙ c.statistic_of.ensures) c.scale_of.ensures refl (ap AtMost (to_z-of_z w128 c.held.result h ∙ c.held.ensures))
