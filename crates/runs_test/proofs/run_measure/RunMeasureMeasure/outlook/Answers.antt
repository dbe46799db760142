use Rattle.std.proofs.Common.{rules, ◌∙◌, refl, FitsSigned}
use mir.Syntax.{w128}
use Rattle.std.proofs.lemmas.Int.{to_z-of_z}
use Rattle.runs_test.proofs.RunKeys.{six_items, two_sizes}
use Rattle.runs_test.proofs.run_measure.RunMeasureMeasure.outlook.Goals as goal

pub to_come-first-requires : goal.to_come-first-requires
to_come-first-requires c = two_sizes c.args.self.now.first c.args.self.now.second c.args.self.now.judge c.args.self.now.right c.args._stage c.args.remaining.now c.requires.room.partial c.requires.room.reached

pub to_come-second-requires : goal.to_come-second-requires
to_come-second-requires c = two_sizes c.args.self.now.first c.args.self.now.second c.args.self.now.judge c.args.self.now.right c.args._stage c.args.remaining.now c.requires.room.partial c.requires.room.reached

pub to_come-none-requires : goal.to_come-none-requires
to_come-none-requires c = two_sizes c.args.self.now.first c.args.self.now.second c.args.self.now.judge c.args.self.now.right c.args._stage c.args.remaining.now c.requires.room.partial c.requires.room.reached

pub returns : goal.returns
returns c =
    let a : FitsSigned w128 c.to_come-first.result.low = search rules in
    let b : FitsSigned w128 c.to_come-first.result.high = search rules in
    let d : FitsSigned w128 c.to_come-second.result.low = search rules in
    let e : FitsSigned w128 c.to_come-second.result.high = search rules in
    let f : FitsSigned w128 c.to_come-none.result.low = search rules in
    let g : FitsSigned w128 c.to_come-none.result.high = search rules in
    six_items c.args.outlook.now _ _ _ _ _ _ c.requires.wide
    ∙ rw (
      to_z-of_z w128 c.to_come-first.result.low a,
      to_z-of_z w128 c.to_come-first.result.high b,
      to_z-of_z w128 c.to_come-second.result.low d,
      to_z-of_z w128 c.to_come-second.result.high e,
      to_z-of_z w128 c.to_come-none.result.low f,
      to_z-of_z w128 c.to_come-none.result.high g,
      c.to_come-first.ensures.least,
      c.to_come-first.ensures.greatest,
      c.to_come-second.ensures.least,
      c.to_come-second.ensures.greatest,
      c.to_come-none.ensures.least,
      c.to_come-none.ensures.greatest,
    ) refl
