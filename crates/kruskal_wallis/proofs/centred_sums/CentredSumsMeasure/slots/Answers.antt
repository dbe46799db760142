use Rattle.label_network.proofs.OverRooms.{over_measure}
use Rattle.kruskal_wallis.specs.SumMeanings.{seen_meaning}
use Rattle.kruskal_wallis.proofs.CentredNarrows.{centred_measure}
use Rattle.kruskal_wallis.proofs.centred_sums.CentredSumsMeasure.slots.Goals as goal

pub returns-clause-sound : goal.returns-clause-sound
returns-clause-sound c =
    let s = c.args.self.now in
    let m = s.sums in
    over_measure (seen_meaning s) (centred_measure m.factors.items m.bound s.base s.middle m.later.scores.items m.later.columns.items m.rows.items m.judge m.right.squaring s.right)
