use Rattle.std.proofs.Common.{rules, ◌<◌, ◌≤◌, ◌-◌, ◌+◌, ◌^◌, get_or, arith, pos}
use Rattle.std.specs.Prelude.{unsigned_abs}
use mir.Syntax.{w128}
use Rattle.std.proofs.lemmas.Int.{to_z-of_z}
use Rattle.weights.specs.Numbers.{absolute_sum}
use Rattle.later_scores.specs.LaterSteps.{better_of}
use Rattle.later_scores.proofs.TakenScores.{row-loop, half-held, fits-size, fits-plus}
use Rattle.later_scores.proofs.later_scores.add_to_row.Goals as goal

pub overflow_add-row : goal.overflow_add-row
overflow_add-row g c =
    let small : unsigned_abs c.args.score + absolute_sum g.scores < 2 ^ 127 = c.requires.1.1 in
    let held : unsigned_abs (get_or c.loop-j.row (c.loop-j.j - 1 - 1) (pos 0)) ≤ absolute_sum g.scores = half-held c.args.end _ g.scores c.loop-j.row c.loop-j.j (c.loop-j.j - 1 - 1) c.loop-j.invariant (omega (arith, c.loop-j-test.true)) in
    rw (to_z-of_z w128 (get_or c.loop-j.row (c.loop-j.j - 1 - 1) (pos 0)) (fits-size _ (absolute_sum g.scores) held (omega (arith, small))), to_z-of_z w128 c.args.score c.ranges.score) (fits-plus _ c.args.score (absolute_sum g.scores) held small)

pub loop-j-preserved : goal.loop-j-preserved
loop-j-preserved g c =
    let small : unsigned_abs c.args.score + absolute_sum g.scores < 2 ^ 127 = c.requires.1.1 in
    let held : unsigned_abs (get_or c.loop-j.row (c.loop-j.j - 1 - 1) (pos 0)) ≤ absolute_sum g.scores = half-held c.args.end _ g.scores c.loop-j.row c.loop-j.j (c.loop-j.j - 1 - 1) c.loop-j.invariant (omega (arith, c.loop-j-test.true)) in
    row-loop (better_of c.args.end) c.args.score _ _ _ _ _ g.scores c.loop-j.row c.loop-j.j c.args.before (to_z-of_z w128 c.args.score c.ranges.score) c.loop-j-test.true c.requires.0 c.loop-j.invariant c.chosen.ensures
    (rw (to_z-of_z w128 (get_or c.loop-j.row (c.loop-j.j - 1 - 1) (pos 0)) (fits-size _ (absolute_sum g.scores) held (omega (arith, small))), to_z-of_z w128 c.args.score c.ranges.score) (to_z-of_z w128 _ (fits-plus _ c.args.score (absolute_sum g.scores) held small)))
    (to_z-of_z w128 _ (fits-size _ (absolute_sum g.scores) (half-held c.args.end _ g.scores c.loop-j.row c.loop-j.j (c.loop-j.j - 1) c.loop-j.invariant (omega (arith, c.loop-j-test.true))) (omega (arith, small)))) (to_z-of_z w128 c.chosen.result (search rules))
