use Rattle.sample_reader.specs.Data.{twin_data_of}
use Rattle.kendall_test.proofs.KendallFitting.{labels-small, read-few, read-paired}
use Rattle.kendall_test.proofs.kendall.prepare.Goals as goal

pub labels_in-requires : goal.labels_in-requires
labels_in-requires c = rw (c.deref-2.ensures.value, c.in_ok-subjects.ensures) (labels-small (twin_data_of c.args.twins.now) (read-paired c.args.twins.now) (read-few c.args.twins.now))
