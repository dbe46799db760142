use Rattle.std.proofs.Common.{◌∙◌, arith}
use Rattle.networks.specs.Distances.{far_square, near_square}
use Rattle.rank_assignments.proofs.AssignmentSteps.{all-taken, end-within, ends-at}
use Rattle.rank_assignments.proofs.assigned_sums.bounds.Goals as goal

pub near_square-near-requires-clause-low : goal.near_square-near-requires-clause-low
near_square-near-requires-clause-low c = omega (arith, end-within c.args.ahead.least c.args.ahead.later_least c.args.room.now c.args.partial.now c.loop-i.i c.raised_sum-least.result c.requires.marks c.requires.sums c.loop-i-test.true c.requires.as_many c.requires.ahead.least c.requires.ahead.later_least c.raised_sum-least.ensures)

pub far_square-far-requires-clause-high : goal.far_square-far-requires-clause-high
far_square-far-requires-clause-high c = omega (arith, end-within c.args.ahead.most c.args.ahead.later_most c.args.room.now c.args.partial.now c.loop-i.i c.raised_sum-most.result c.requires.marks c.requires.sums c.loop-i-test.true c.requires.as_many c.requires.ahead.most c.requires.ahead.later_most c.raised_sum-most.ensures)

pub overflow_add-near : goal.overflow_add-near
overflow_add-near c = omega (arith, c.loop-i.invariant.near_small, c.near_square-near.ensures.small, c.loop-i-test.true, c.requires.few)

pub overflow_add-far : goal.overflow_add-far
overflow_add-far c = omega (arith, c.loop-i.invariant.far_small, c.far_square-far.ensures.small, c.loop-i-test.true, c.requires.few)

pub loop-i-preserved : goal.loop-i-preserved
loop-i-preserved c = record {
  near = ends-at (near_square c.args.centre) c.args.ahead c.args.room.now c.args.partial.now c.loop-i.i c.raised_sum-least.result c.raised_sum-most.result c.near_square-near.result c.loop-i.near c.loop-i-test.true c.requires.as_many c.raised_sum-least.ensures c.raised_sum-most.ensures c.near_square-near.ensures.is c.loop-i.invariant.near;
  far = ends-at (far_square c.args.centre) c.args.ahead c.args.room.now c.args.partial.now c.loop-i.i c.raised_sum-least.result c.raised_sum-most.result c.far_square-far.result c.loop-i.far c.loop-i-test.true c.requires.as_many c.raised_sum-least.ensures c.raised_sum-most.ensures c.far_square-far.ensures.is c.loop-i.invariant.far;
  near_small = omega (arith, c.loop-i.invariant.near_small, c.near_square-near.ensures.small);
  far_small = omega (arith, c.loop-i.invariant.far_small, c.far_square-far.ensures.small);
}

pub returns-clause-near : goal.returns-clause-near
returns-clause-near c = c.loop-i.invariant.near ∙ all-taken (near_square c.args.centre) c.args.ahead c.args.room.now c.args.partial.now c.loop-i.i c.loop-i-test.false c.requires.as_many

pub returns-clause-far : goal.returns-clause-far
returns-clause-far c = c.loop-i.invariant.far ∙ all-taken (far_square c.args.centre) c.args.ahead c.args.room.now c.args.partial.now c.loop-i.i c.loop-i-test.false c.requires.as_many

pub returns-clause-small : goal.returns-clause-small
returns-clause-small c = record {
  near = omega (arith, c.loop-i.invariant.near_small, c.loop-i.auto.i-end, c.requires.few);
  far = omega (arith, c.loop-i.invariant.far_small, c.loop-i.auto.i-end, c.requires.few);
}
