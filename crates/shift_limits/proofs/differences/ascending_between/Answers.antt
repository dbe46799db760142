use Rattle.std.proofs.Common.{◌∙◌, ap}
use Rattle.std.specs.Prelude.{int_le}
use Rattle.weights.specs.InOrder.{in_order}
use Rattle.weights.proofs.OneOrder.{ascending-is}
use Rattle.shift_limits.proofs.differences.ascending_between.Goals as goal

pub returns : goal.returns
returns c =
    ascending-is _ _ c.sort_unstable.ensures.permutation c.sort_unstable.ensures.sorted
    ∙ ap (in_order int_le) c.in_ok-list.ensures
