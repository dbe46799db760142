use Rattle.std.proofs.Common.{◌∙◌, ap}
use Rattle.weights.specs.InOrder.{in_order}
use Rattle.weights.proofs.OneOrder.{compared-is}
use Rattle.sample_reader.specs.PooledSample.{may_precede, subject_cmp}
use Rattle.sample_reader.proofs.PooledLemmas.{subjects-exact, subjects-total}
use Rattle.sample_reader.proofs.subjects.ordered_subjects.Goals as goal

pub returns : goal.returns
returns c =
    compared-is subject_cmp subjects-total subjects-exact _ _ c.sort_unstable.ensures.permutation c.sort_unstable.ensures.sorted
    ∙ ap (in_order may_precede) c.in_ok-subjects.ensures
