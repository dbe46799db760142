use Rattle.std.proofs.Common.{◌+◌, arith, ap, ◌∙◌}
use Rattle.std.proofs.lemmas.List.{take_all}
use Rattle.weights.specs.declared.tails.Tail.TheVariants.{Two}
use Rattle.node_pool.specs.Nodes.{weighted}
use Rattle.networks.specs.Completions.{extreme_weight}
use Rattle.networks.specs.EachTail.{sum_for}
use Rattle.fisher_test.specs.LastSteps.{weight_network}
use Rattle.fisher_test.proofs.LastColumns.{run-fits, run-next}
use Rattle.fisher_test.proofs.last_columns.LastColumns.sum.Goals as goal

pub room_sum-requires-clause-here : goal.room_sum-requires-clause-here
room_sum-requires-clause-here g c = record { meeting = c.requires.half.meeting; left = c.requires.left }

pub overflow_add-sum : goal.overflow_add-sum
overflow_add-sum g c =
    let self = c.args.self.now in
    let n = weight_network self.rooms.rows.items self.rooms.columns.items self.judge in
    let half = c.args.half.now in
    omega (arith, c.loop-start.invariant.sums, c.in_ok-more.ensures, run-fits n half.stage half.nodes.nodes c.loop-start.start c.run_end-end.result (sum_for half.closed Two).sum (omega (arith, c.run_end-end.ensures.after)) (c.requires.half.fits Two))

pub loop-start-preserved : goal.loop-start-preserved
loop-start-preserved g c =
    let self = c.args.self.now in
    let n = weight_network self.rooms.rows.items self.rooms.columns.items self.judge in
    let half = c.args.half.now in
    record {
      within = c.run_end-end.ensures.within;
      sums = omega (arith, c.loop-start.invariant.sums, c.in_ok-more.ensures, run-next n half.stage half.nodes.nodes c.loop-start.start c.run_end-end.result (sum_for half.closed Two).sum (omega (arith, c.run_end-end.ensures.after)));
    }

pub returns : goal.returns
returns g c =
    let self = c.args.self.now in
    let n = weight_network self.rooms.rows.items self.rooms.columns.items self.judge in
    let half = c.args.half.now in
    c.loop-start.invariant.sums ∙ ap (λ ns. (sum_for half.closed Two).sum + weighted (extreme_weight n Two half.stage) ns) (take_all c.loop-start.start half.nodes.nodes (omega (arith, c.loop-start-test.false)))
