use Rattle.std.proofs.Common.{arith}
use Rattle.weights.proofs.Members.{IsLabelling, labelling_from}
use Rattle.block_tests.proofs.page.BlockPlain.value.Goals as goal

pub page_sum-requires : goal.page_sum-requires
page_sum-requires c = (let l : IsLabelling c.args.self.now c.args.labels.now = labelling_from c.args.self.now c.args.labels.now c.requires in omega (arith, l.over.long, c.first-few.ensures.few))
