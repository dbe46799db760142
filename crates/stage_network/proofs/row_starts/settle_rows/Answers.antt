use Rattle.std.proofs.Common.{◌≡◌, ◌++◌, ℕ, List, take, ap, sym, subst, ◌∙◌, arith}
use Rattle.std.specs.Prelude.{ℤ}
use Rattle.std.proofs.lemmas.List.{take_all}
use Rattle.node_pool.specs.Nodes.{Node, weighted}
use Rattle.node_pool.specs.PoolSteps.{nodes_of}
use Rattle.node_pool.specs.TableSteps.{key_at}
use Rattle.node_pool.proofs.NodeLists.{length-nodes}
use Rattle.stage_network.specs.ArcSteps.{lift}
use Rattle.stage_network.specs.RowSteps.{all_nodes}
use Rattle.stage_network.specs.RowSweeps.{row_partials}
use Rattle.stage_network.specs.SweepSteps.{closed_at, counted, staying}
use Rattle.stage_network.proofs.Bounds.{weights-le-weighted}
use Rattle.stage_network.proofs.RowStarts.{row-reached, row-weighted, row-within, row-stays, row-counted}
use Rattle.stage_network.proofs.row_starts.settle_rows.Given.{Over}
use Rattle.stage_network.proofs.row_starts.settle_rows.Goals as goal
use Rattle.stage_network.proofs.row_starts.settle_rows.Goals.{After-front-room}

-- the nodes of a row, by the width and the room that the code has
same_row : (width key_width to : ℕ) (keys room key : List ℤ) (weights : List ℕ) (start end : ℕ) (partials : List Node) → key_width ≡ to → room ≡ take width key → key ≡ key_at key_width keys start → take end (nodes_of key_width keys weights) ≡ take start (nodes_of key_width keys weights) ++ lift (take width (key_at key_width keys start)) partials → take end (nodes_of to keys weights) ≡ take start (nodes_of to keys weights) ++ lift room partials
same_row width key_width to keys room key weights start end partials e r k is =
    subst (λ v. take end (nodes_of v keys weights) ≡ take start (nodes_of v keys weights) ++ lift room partials) e
    (is ∙ ap (λ q. take start (nodes_of key_width keys weights) ++ lift q partials) (ap (take width) (sym k) ∙ sym r))

row : (g : Over) (c : After-front-room g) → take c.row_end-end.result (nodes_of (g.S.Stages.network c.args.stages.now).width c.args.keys.now c.args.weights.now) ≡ take c.loop-start.start (nodes_of (g.S.Stages.network c.args.stages.now).width c.args.keys.now c.args.weights.now) ++ lift c.front-room.result.now (row_partials g.C.Count.number c.write_row.new.row)
row g c = same_row c.room_width-width.result c.width-key_width.result (g.S.Stages.network c.args.stages.now).width c.args.keys.now c.front-room.result.now c.key_at.result.now c.args.weights.now c.loop-start.start c.row_end-end.result (row_partials g.C.Count.number c.write_row.new.row) c.width-key_width.ensures c.front-room.ensures.room c.key_at.ensures c.in_ok-write_row.ensures.nodes

pub settle-requires-clause-full : goal.settle-requires-clause-full
settle-requires-clause-full g c =
    let n = g.S.Stages.network c.args.stages.now in
    let starts = c.requires.starts in
    let all = nodes_of n.width c.args.keys.now c.args.weights.now in
    let work = lift c.front-room.result.now (row_partials g.C.Count.number c.write_row.new.row) in
    let is = row g (goal.at.settle-requires-clause-full g c).After-front-room in
    record {
      lawful = c.stages-count.ensures.lawful;
      within = starts.within;
      reached = row-reached n c.args.keep c.args.stage all work c.loop-start.start c.row_end-end.result is starts.reached;
      wide = c.front-room.ensures.long ∙ c.room_width-width.ensures.width;
      deep = c.requires.shifting.one;
      fits = omega (
        arith,
        row-within n c.args.keep c.args.stage all work c.loop-start.start c.row_end-end.result is (λ k. 1),
        weights-le-weighted n c.stages-count.ensures.lawful c.args.stage starts.within all starts.reached,
        starts.fits,
      );
    }

pub loop-start-preserved : goal.loop-start-preserved
loop-start-preserved g c =
    let n = g.S.Stages.network c.args.stages.now in
    let keep = c.args.keep in
    let stage = c.args.stage in
    let start = c.loop-start.start in
    let end = c.row_end-end.result in
    let all = nodes_of n.width c.args.keys.now c.args.weights.now in
    let room = c.front-room.result.now in
    let work = lift room (row_partials g.C.Count.number c.write_row.new.row) in
    let left = lift room (row_partials g.C.Count.number c.settle.new.self) in
    let is = row g (goal.at.loop-start-preserved g c).After-front-room in
    let i = c.loop-start.invariant in
    let done = c.in_ok-sums.ensures.settled in
    record {
      within = c.row_end-end.ensures.within;
      few = omega (arith, i.few, c.row_end-end.ensures.after);
      ready = c.in_ok-sums.ensures.ready;
      width = c.in_ok-keep.ensures.width ∙ i.width;
      nodes = row-stays n keep stage all work start end is (all_nodes c.loop-start.kept.rows) left (all_nodes c.keep.new.kept.rows) i.nodes done.nodes c.in_ok-keep.ensures.nodes;
      sum = λ t. omega (arith, done.sum t, i.sum t, row-weighted n keep stage all work start end is (closed_at n keep t stage));
      opened = λ t. omega (arith, done.opened t, i.opened t, row-counted n keep stage all work start end is t);
    }

pub returns-clause-nodes : goal.returns-clause-nodes
returns-clause-nodes g c =
    let n = g.S.Stages.network c.args.stages.now in
    let all = nodes_of n.width c.args.keys.now c.args.weights.now in
    c.loop-start.invariant.nodes ∙ ap (staying n c.args.keep c.args.stage) (take_all c.loop-start.start all (omega (arith, c.loop-start-test.false, length-nodes n.width c.args.keys.now c.args.weights.now)))

pub returns-clause-sum : goal.returns-clause-sum
returns-clause-sum g c = λ t.
    let n = g.S.Stages.network c.args.stages.now in
    let all = nodes_of n.width c.args.keys.now c.args.weights.now in
    c.loop-start.invariant.sum t ∙ ap (weighted (closed_at n c.args.keep t c.args.stage)) (take_all c.loop-start.start all (omega (arith, c.loop-start-test.false, length-nodes n.width c.args.keys.now c.args.weights.now)))

pub returns-clause-opened : goal.returns-clause-opened
returns-clause-opened g c = λ t.
    let n = g.S.Stages.network c.args.stages.now in
    let all = nodes_of n.width c.args.keys.now c.args.weights.now in
    c.loop-start.invariant.opened t ∙ ap (counted n c.args.keep t c.args.stage) (take_all c.loop-start.start all (omega (arith, c.loop-start-test.false, length-nodes n.width c.args.keys.now c.args.weights.now)))
