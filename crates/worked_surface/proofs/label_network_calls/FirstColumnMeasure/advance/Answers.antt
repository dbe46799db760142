use Rattle.std.proofs.Common.{◌≡◌, length, arith}
use Rattle.worked_surface.proofs.FirstColumns.{choice_long}
use Rattle.worked_surface.proofs.label_network_calls.FirstColumnMeasure.advance.Goals as goal

pub count_after-requires-clause-choice : goal.count_after-requires-clause-choice
count_after-requires-clause-choice c = λ first.
    let long : length c.args.choice.now ≡ length c.args.self.now.rows.items = choice_long c.args.self.now.columns.items c.args.self.now.rows.items c.args.self.now.least c.args._remaining.now c.args.partial.now c.args.choice.now (rw first at c.requires.reached) (rw first at c.requires.allowed) in
    omega (arith, long, c.args.self.now.wide)
