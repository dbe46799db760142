use Rattle.std.proofs.Common.{◌≡◌, ◌<◌, length, arith, to_z, of_z}
use Rattle.std.specs.Prelude.{min}
use mir.Syntax.{w128}
use Rattle.std.proofs.lemmas.Int.{to_z-of_z}
use Rattle.later_scores.specs.LaterSteps.{better_of}
use Rattle.later_scores.proofs.Columns.{row-ready, units-more, units-enough}
use Rattle.later_scores.proofs.later_scores.add_units.Goals as goal

pub add_to_row-requires : goal.add_to_row-requires
add_to_row-requires g c =
    let s : to_z w128 (of_z w128 c.args.score) ≡ c.args.score = to_z-of_z w128 c.args.score c.ranges.score in
    let h = rw s at c.loop-i.invariant in
    let few : c.loop-i.i < c.args.count = omega (arith, c.loop-i-test.true, c.min-telling.ensures) in
    rw s (row-ready c.args.score g.scores (better_of c.args.end) c.loop-i.row c.loop-i.i c.args.before c.args.count c.requires.0 few c.requires.1.1.1 h)

pub loop-i-preserved : goal.loop-i-preserved
loop-i-preserved g c =
    let s : to_z w128 (of_z w128 c.args.score) ≡ c.args.score = to_z-of_z w128 c.args.score c.ranges.score in
    let more = rw s at c.add_to_row.ensures in
    rw s (units-more c.args.score g.scores (better_of c.args.end) c.loop-i.i c.args.before c.add_to_row.new.row c.requires.0 more)

pub returns : goal.returns
returns g c =
    let h = rw (to_z-of_z w128 c.args.score c.ranges.score) at c.loop-i.invariant in
    let all : c.loop-i.i ≡ min c.args.count (length c.loop-i.row) = omega (arith, c.loop-i-test.false, c.loop-i.auto.i-end, c.min-telling.ensures, c.loop-i.auto.row) in
    units-enough c.args.score g.scores c.args.end c.loop-i.i c.args.count c.loop-i.row all h
