use Rattle.std.proofs.Common.{◌∙◌}
use Rattle.weights.specs.declared.tails.Tail.TheVariants.{Less}
use Rattle.networks.specs.Judged.{judge_of}
use Rattle.networks.proofs.Following.{extreme-is}
use Rattle.kendall_test.specs.Kendall.{kendall_test}
use Rattle.kendall_test.proofs.by_transposing.sums_as_they_stand.Goals as goal

pub tail_sums_by_rooms-requires : goal.tail_sums_by_rooms-requires
tail_sums_by_rooms-requires c = record { judge = judge_of (kendall_test c.args.order.now); intervals = (c.in_ok-stages.ensures Less).intervals }

pub returns : goal.returns
returns c t a = c.in_ok-sums.ensures.sum t a ∙ extreme-is (kendall_test c.args.order.now) t _ (c.in_ok-stages.ensures t)
