use Rattle.std.proofs.Common.{rules, ◌≡◌, to_z, of_z, ◌∙◌}
use mir.Syntax.{w128}
use Rattle.std.proofs.lemmas.Int.{to_z-of_z}
use Rattle.later_scores.proofs.Columns.{total-more, total-fits}
use Rattle.later_scores.proofs.later_scores.add_column.Goals as goal

pub with_units-requires : goal.with_units-requires
with_units-requires g c =
    rw ((to_z-of_z w128 c.args.score c.ranges.score), (to_z-of_z w128 c.args.total c.ranges.total)) (total-fits c.args.score g.scores c.args.count c.args.total c.requires.1.1.1.0 c.requires.1.1.1.1.1)

pub returns : goal.returns
returns g c =
    let s : to_z w128 (of_z w128 c.args.score) ≡ c.args.score = to_z-of_z w128 c.args.score c.ranges.score in
    let sum = rw (s, (to_z-of_z w128 c.args.total c.ranges.total)) at c.with_units.ensures in
    record {
      low = rw s at c.add_units.ensures;
      high = rw s at c.add_units-2.ensures;
      total = to_z-of_z w128 c.with_units.result (search rules) ∙ total-more c.args.score g.scores c.args.count c.args.total c.with_units.result c.requires.1.1.1.0 sum;
    }
