use Rattle.std.proofs.Common.{◌≡◌, ◌+◌, ◌-◌, ◌∷◌, drop, length, sym, subst, arith}
use Rattle.stratified_ranks.specs.RankRooms.{column_at}
use Rattle.stratified_ranks.specs.RankSteps.{AreLaterWays, later_ways}
use Rattle.stratified_ranks.proofs.RankPlans.{columns-at, suffix-fits, table-more}
use Rattle.stratified_ranks.proofs.rank_rooms.later_ways.Goals as goal

pub more_ways-requires-clause-sound : goal.more_ways-requires-clause-sound
more_ways-requires-clause-sound c = rw (c.column_of.ensures, c.from_stage-later.ensures) (columns-at c.args.columns.now c.requires.sound (length c.args.columns.now - c.loop-done.done - 1) (omega (arith, c.loop-done-test.true)))

pub more_ways-requires-clause-fits : goal.more_ways-requires-clause-fits
more_ways-requires-clause-fits c = rw (c.column_of.ensures, c.from_stage-later.ensures) (suffix-fits c.args.columns.now (length c.args.columns.now - c.loop-done.done - 1) (omega (arith, c.loop-done-test.true)) c.requires.fits)

pub loop-done-preserved : goal.loop-done-preserved
loop-done-preserved c =
    let told : c.more_ways.result ≡ later_ways (column_at c.args.columns.now (length c.args.columns.now - c.loop-done.done - 1) ∷ drop (length c.args.columns.now - c.loop-done.done - 1 + 1) c.args.columns.now) = rw (c.column_of.ensures, c.from_stage-later.ensures) at c.more_ways.ensures in
    subst (AreLaterWays c.args.columns.now (c.loop-done.done + 1)) (sym (c.in_ok-push-2.ensures.ok)) (table-more c.args.columns.now c.loop-done.done c.loop-done.ways c.more_ways.result c.loop-done.invariant c.loop-done-test.true told)
