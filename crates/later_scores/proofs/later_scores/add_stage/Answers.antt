use Rattle.std.proofs.Common.{rules, ◌<◌, ◌^◌, ◌++◌, ap, ◌∙◌, replicate, pos, length, slice_index_or}
use Rattle.std.specs.Prelude.{slice_index}
use mir.Syntax.{w128}
use Rattle.std.proofs.lemmas.Int.{to_z-of_z}
use Rattle.weights.specs.Numbers.{absolute_sum}
use Rattle.later_scores.proofs.Stages.{count-fits, next-small}
use Rattle.later_scores.proofs.later_scores.add_stage.Goals as goal

pub add_column-requires : goal.add_column-requires
add_column-requires g c =
    let r = c.requires in
    let small : absolute_sum (replicate (slice_index c.args.columns.now c.args.stage) (slice_index_or c.args.scores.now c.args.stage (pos 0)) ++ g.rest) < 2 ^ 127 = rw (r.1.1.0) (next-small c.args.scores.now c.args.columns.now r.1.0 c.args.stage r.0 r.1.1.1.1.1.1.1.1) in
    (r.1.1.1.0, (r.1.1.1.1.0, (r.1.1.1.1.1.0, (to_z-of_z w128 c.args.total c.ranges.total ∙ r.1.1.1.1.1.1.0, ((count-fits c.args.scores.now c.args.columns.now r.1.0 c.args.stage c.args.before r.0 (r.1.1.1.0 ∙ ap length r.1.1.0) r.1.1.1.1.1.1.1.0), rw (to_z-of_z w128 (slice_index_or c.args.scores.now c.args.stage (pos 0)) (search rules)) small)))))
