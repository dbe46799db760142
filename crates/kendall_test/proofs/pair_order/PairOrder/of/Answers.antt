use Rattle.std.proofs.Common.{refl, arith}
use Rattle.labelled.proofs.LabelLaws.{label-fits, label-wide}
use Rattle.sample_reader.specs.Twins.{TwinData}
use Rattle.sample_reader.specs.Data.{twin_data_of}
use Rattle.kendall_test.specs.Kendall.{kendall_says}
use Rattle.kendall_test.proofs.KendallFitting.{bound-fits, read-few, read-paired}
use Rattle.pooled_columns.proofs.TieColumns.{columns-sum}
use Rattle.kendall_test.proofs.pair_order.PairOrder.of.Goals as goal

pub multinomial-requires : goal.multinomial-requires
multinomial-requires c = rw (c.as_slice-2.ensures, c.in_ok-rows.ensures, c.as_slice.ensures) (omega (arith, columns-sum c.args.sample.second, read-paired c.args.sample, read-few c.args.sample))

pub returns-in_default : goal.returns-in_default
returns-in_default c = label-wide (kendall_says (twin_data_of c.args.sample)) (rw (c.as_slice-2.ensures, c.in_ok-rows.ensures, c.as_slice.ensures) at c.in_default.ensures)

pub returns : goal.returns
returns c =
    let sample : TwinData = twin_data_of c.args.sample in
    let fits = rw (c.as_slice-2.ensures, c.in_ok-rows.ensures, c.as_slice.ensures) at c.in-Some.ensures in
    (refl, label-fits (kendall_says sample) fits.0 (bound-fits sample (read-paired c.args.sample) (read-few c.args.sample)))
