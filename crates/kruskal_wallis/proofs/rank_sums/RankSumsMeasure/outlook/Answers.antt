use Rattle.std.proofs.Common.{arith}
use Rattle.kruskal_wallis.proofs.RankKeys.{long}
use Rattle.kruskal_wallis.proofs.rank_sums.RankSumsMeasure.outlook.Goals as goal

pub split_at_mut-least-requires : goal.split_at_mut-least-requires
split_at_mut-least-requires c = omega (arith, c.requires.wide, long c.args.self.now c.args.stage c.args.remaining.now c.requires.room.partial c.requires.room.reached)

pub parts-requires-clause-greatest : goal.parts-requires-clause-greatest
parts-requires-clause-greatest c = omega (arith, c.split_at_mut-least.ensures.back_len, c.requires.wide, long c.args.self.now c.args.stage c.args.remaining.now c.requires.room.partial c.requires.room.reached)
