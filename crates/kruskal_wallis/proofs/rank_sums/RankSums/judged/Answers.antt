use Rattle.kruskal_wallis.proofs.rank_sums.RankSums.judged.Goals as goal

pub verdict-requires-clause-low : goal.verdict-requires-clause-low
verdict-requires-clause-low c = (c.args.self.now.right.squaring.rules_fit _).fits c.args.tail

pub verdict-requires-clause-high : goal.verdict-requires-clause-high
verdict-requires-clause-high c = (c.args.self.now.right.squaring.rules_fit _).fits c.args.tail
