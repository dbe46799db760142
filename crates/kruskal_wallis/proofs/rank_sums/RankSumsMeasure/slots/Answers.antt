use Rattle.label_network.proofs.OverRooms.{over_measure}
use Rattle.kruskal_wallis.specs.SumMeanings.{sums_meaning}
use Rattle.kruskal_wallis.proofs.RankNarrows.{squares_measure}
use Rattle.kruskal_wallis.proofs.rank_sums.RankSumsMeasure.slots.Goals as goal

pub returns-clause-sound : goal.returns-clause-sound
returns-clause-sound c =
    let m = c.args.self.now in
    over_measure (sums_meaning m) (squares_measure m.factors.items m.bound m.later.scores.items m.later.columns.items m.rows.items m.judge m.right.squaring)
