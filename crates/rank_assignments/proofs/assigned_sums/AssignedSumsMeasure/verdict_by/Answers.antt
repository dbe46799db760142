use Rattle.std.proofs.Common.{◌∙◌, arith, sym}
use Rattle.rank_assignments.proofs.AssignedNarrows.{assigned}
use Rattle.rank_assignments.proofs.AssignmentSteps.{correction-small, centre-less, given-small, marks-of, sums-of}
use Rattle.rank_assignments.proofs.assigned_sums.AssignedSumsMeasure.verdict_by.Goals as goal

pub bounds-bounds-requires-clause-as_many : goal.bounds-bounds-requires-clause-as_many
bounds-bounds-requires-clause-as_many c =
    let s = c.args.self.now.assignments in
    let here = assigned s.treatments s.items.items s.judge s.right s.reflections.items s.reflections_are c.args.stage c.args.room.now c.args.partial.now c.requires.reached in
    here.placed.long ∙ sym here.long

pub bounds-bounds-requires-clause-few : goal.bounds-bounds-requires-clause-few
bounds-bounds-requires-clause-few c = (let s = c.args.self.now.assignments in omega (arith, (assigned s.treatments s.items.items s.judge s.right s.reflections.items s.reflections_are c.args.stage c.args.room.now c.args.partial.now c.requires.reached).long, s.right.narrow))

pub bounds-bounds-requires-clause-marks : goal.bounds-bounds-requires-clause-marks
bounds-bounds-requires-clause-marks c = (let s = c.args.self.now.assignments in marks-of s.treatments s.items.items s.judge s.right c.args.stage c.args.room.now (assigned s.treatments s.items.items s.judge s.right s.reflections.items s.reflections_are c.args.stage c.args.room.now c.args.partial.now c.requires.reached).placed)

pub bounds-bounds-requires-clause-sums : goal.bounds-bounds-requires-clause-sums
bounds-bounds-requires-clause-sums c = (let s = c.args.self.now.assignments in sums-of s.treatments s.items.items s.judge s.right c.args.stage c.args.room.now c.args.partial.now (assigned s.treatments s.items.items s.judge s.right s.reflections.items s.reflections_are c.args.stage c.args.room.now c.args.partial.now c.requires.reached))

pub bounds-bounds-requires-clause-centre : goal.bounds-bounds-requires-clause-centre
bounds-bounds-requires-clause-centre c = (let s = c.args.self.now.assignments in omega (arith, s.middle_is, centre-less s.treatments s.items.items s.judge s.right, given-small s.treatments s.items.items s.judge s.right))

pub ahead-ahead-requires : goal.ahead-ahead-requires
ahead-ahead-requires c = (let s = c.args.self.now.assignments in (assigned s.treatments s.items.items s.judge s.right s.reflections.items s.reflections_are c.args.stage c.args.room.now c.args.partial.now c.requires.reached).placed.within)

pub squares_with-low-requires-clause-base : goal.squares_with-low-requires-clause-base
squares_with-low-requires-clause-base c = (let s = c.args.self.now.assignments in omega (arith, s.base_is, correction-small s.treatments s.items.items s.judge s.right (given-small s.treatments s.items.items s.judge s.right)))

pub squares_with-high-requires-clause-base : goal.squares_with-high-requires-clause-base
squares_with-high-requires-clause-base c = (let s = c.args.self.now.assignments in omega (arith, s.base_is, correction-small s.treatments s.items.items s.judge s.right (given-small s.treatments s.items.items s.judge s.right)))

pub verdict-requires-clause-low : goal.verdict-requires-clause-low
verdict-requires-clause-low c = (c.args.self.now.assignments.right.judge_fits c.interval_of.result.low c.interval_of.ensures.low_small).fits c.args.tail

pub verdict-requires-clause-high : goal.verdict-requires-clause-high
verdict-requires-clause-high c = (c.args.self.now.assignments.right.judge_fits c.interval_of.result.high c.interval_of.ensures.high_small).fits c.args.tail
