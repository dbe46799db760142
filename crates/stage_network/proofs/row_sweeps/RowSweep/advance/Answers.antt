use Rattle.std.proofs.Common.{◌≡◌, ◌<◌, ◌≤◌, ◌+◌, ◌++◌, ℕ, suc, List, [], length, map, ap, sym, subst, ◌∙◌, arith}
use Rattle.std.specs.Prelude.{ℤ, pos}
use Rattle.std.specs.List.{IsDistinct}
use Rattle.std.proofs.lemmas.Int.{ints}
use Rattle.weights.specs.declared.tails.Tail.TheVariants.{Less}
use Rattle.weights.specs.declared.TheConstants.{MAX}
use Rattle.node_pool.specs.Nodes.{Node, node, key_eq, keys, weighted}
use Rattle.count_arrays.proofs.RowNodes.{row-heavy, row-distinct}
use Rattle.networks.specs.Completions.{total_weight}
use Rattle.stage_network.specs.NodeSteps.{AllHeavy}
use Rattle.stage_network.specs.ArcSteps.{spread_out, bucket, lift}
use Rattle.networks.specs.EachTail.{sum_for}
use Rattle.stage_network.specs.SweepSteps.{closed_at, staying, HasSwept}
use Rattle.stage_network.specs.RowSteps.{RowList, all_nodes}
use Rattle.stage_network.specs.RowSweeps.{row_partials}
use Rattle.stage_network.proofs.Roomwise.{lift-heavy, lift-distinct}
use Rattle.stage_network.proofs.Gathered.{filled-reached, bucket-light}
use Rattle.stage_network.proofs.Gathering.{gathering-first, gathering-next, all-gathered}
use Rattle.stage_network.proofs.Courses.{next-light, swept-next}
use Rattle.stage_network.proofs.RowCourses.{rows-here}
use Rattle.stage_network.proofs.row_sweeps.RowSweep.advance.Given.{Over}
use Rattle.stage_network.proofs.row_sweeps.RowSweep.advance.Goals as goal
use Rattle.stage_network.proofs.row_sweeps.RowSweep.advance.Goals.{After-len-target-end, After-key-room}

pub list-requires-clause-here : goal.list-requires-clause-here
list-requires-clause-here g c = rows-here _ _ _ _ _ _ c.args.self.now c.requires.1.1.1.1 _ c.requires.1.1.1.0 c.requires.1.1.0

-- what the arcs lead to weighs no more than the completions of the course's nodes
light : (g : Over) (c : After-len-target-end g) → weighted (total_weight (g.S.Stages.network c.args.stages.now) (c.args.self.now.stage + 1)) (spread_out (g.S.Stages.network c.args.stages.now) c.args.self.now.stage (all_nodes c.args.self.now.rows.rows) c.list.new.self.listed.arcs.arcs) ≤ weighted (total_weight (g.S.Stages.network c.args.stages.now) g.course.stage) g.course.nodes
light g c =
    let n = g.S.Stages.network c.args.stages.now in
    let s = c.requires.1.1.1.1 in
    let was = c.args.self.now in
    let nodes = all_nodes was.rows.rows in
    omega (arith, next-light n s.lawful _ _ s.starts s.gone was.stage was.keep s.stands c.requires.1.1.0 s.keeps was.sums nodes (spread_out n was.stage nodes c.list.new.self.listed.arcs.arcs) s.swept c.in_ok-list.ensures.listed.listed.told Less)

-- a room that was filled, by the room's own place
record IsFilled (work all : List Node) : Type 0 where
  heavy : AllHeavy work
  distinct : IsDistinct key_eq (keys work)
  told : (f : List ℤ → ℕ) → weighted f work ≡ weighted f all

filled : (g : Over) (c : After-key-room g) → IsFilled (lift c.key-room.result.now (row_partials g.C.Count.number c.fill.new.self)) (spread_out (g.S.Stages.network c.args.stages.now) c.args.self.now.stage (all_nodes c.args.self.now.rows.rows) (bucket c.loop-target.target c.list.new.self.listed.arcs.arcs))
filled g c =
    let r = c.key-room.result.now in
    let row = c.fill.new.self in
    let partials = row_partials g.C.Count.number row in
    record {
      heavy = lift-heavy r partials (row-heavy row.lowest (pos row.stride) (map g.C.Count.number row.cells.items));
      distinct = lift-distinct r partials (row-distinct row.lowest (pos row.stride) (map g.C.Count.number row.cells.items) (omega (arith, ints, c.in_ok-fill.ensures.ready.apart)));
      told = λ f. ap (λ x. weighted f (lift x partials)) (c.key-room.ensures.key (node [] 0)) ∙ c.in_ok-fill.ensures.told (node [] 0) f;
    }

pub loop-target-init : goal.loop-target-init
loop-target-init g c =
    let s = c.requires.1.1.1.1 in
    let was = c.args.self.now in
    record {
      ahead = ap (λ (l : RowList). l.width) c.clear.ensures ∙ s.stores.ahead;
      row = s.stores.row;
      gathering = gathering-first (g.S.Stages.network c.args.stages.now) was.keep was.stage (all_nodes was.rows.rows) c.list.new.self.listed.arcs.arcs was.sums _ (ap (λ (l : RowList). all_nodes l.rows) c.clear.ensures);
    }

pub fill-requires-clause-here : goal.fill-requires-clause-here
fill-requires-clause-here g c = rows-here _ _ _ _ _ _ c.args.self.now c.requires.1.1.1.1 _ c.requires.1.1.1.0 c.requires.1.1.0

pub fill-requires-clause-light : goal.fill-requires-clause-light
fill-requires-clause-light g c =
    let here = rows-here _ _ _ _ _ _ c.args.self.now c.requires.1.1.1.1 _ c.requires.1.1.1.0 c.requires.1.1.0 in
    let s = c.requires.1.1.1.1 in
    let all = light g (goal.at.fill-requires-clause-light g c).After-len-target-end in
    record {
      limit = bucket-light _ c.args.self.now.stage _ _ _ here.nodes c.loop-target.target _ c.list.new.self.listed.arcs.arcs c.in_ok-list.ensures.listed.listed.arcs.fine (omega (arith, all, s.starts.light.limit));
      fits = bucket-light _ c.args.self.now.stage _ _ _ here.nodes c.loop-target.target _ c.list.new.self.listed.arcs.arcs c.in_ok-list.ensures.listed.listed.arcs.fine (omega (arith, all, s.starts.light.fits));
    }

pub settle-requires-clause-full : goal.settle-requires-clause-full
settle-requires-clause-full g c =
    let was = c.args.self.now in
    let here = rows-here _ _ _ _ _ _ was c.requires.1.1.1.1 _ c.requires.1.1.1.0 c.requires.1.1.0 in
    let listed = c.in_ok-list.ensures.listed.listed in
    let arcs = c.list.new.self.listed.arcs.arcs in
    let f = filled g (goal.at.settle-requires-clause-full g c).After-key-room in
    record {
      lawful = here.nodes.lawful;
      within = omega (arith, here.nodes.before);
      reached = filled-reached _ was.stage _ _ _ here.nodes c.loop-target.target arcs listed.arcs.fine _ f.heavy f.told;
      wide = c.key-room.ensures.wide ∙ listed.fitted.rooms;
      deep = c.requires.1.1.1.0.one;
      fits = omega (arith, f.told (λ k. 1), bucket-light _ was.stage _ _ _ here.nodes c.loop-target.target MAX arcs listed.arcs.fine (omega (arith, light g (goal.at.settle-requires-clause-full g c).After-len-target-end, c.requires.1.1.1.1.starts.light.fits)));
    }

pub loop-target-preserved : goal.loop-target-preserved
loop-target-preserved g c =
    let was = c.args.self.now in
    let arcs = c.list.new.self.listed in
    let low : c.loop-target.target < length arcs.rooms.nodes = omega (arith, c.loop-target-test.true, c.len-target-end.ensures.count) in
    let f = filled g (goal.at.loop-target-preserved g c).After-key-room in
    let done = c.in_ok-sums.ensures.settled in
    let ahead = all_nodes c.loop-target.ahead.rows in
    record {
      ahead = c.in_ok-keep.ensures.width ∙ c.loop-target.invariant.ahead;
      row = c.in_ok-sums.ensures.ready;
      gathering = gathering-next (g.S.Stages.network c.args.stages.now) was.keep was.stage (all_nodes was.rows.rows) arcs.arcs.arcs _ (g.S.Roomed.room_width c.args.stages.now) arcs.rooms.nodes (rows-here _ _ _ _ _ _ was c.requires.1.1.1.1 _ c.requires.1.1.1.0 c.requires.1.1.0).nodes c.in_ok-list.ensures.listed.listed.arcs.fine c.loop-target.target low c.len-target-end.ensures.apart c.loop-target.sums _ ahead _ _ c.loop-target.invariant.gathering f.heavy f.distinct f.told (c.in_ok-keep.ensures.nodes ∙ ap (λ ns. ahead ++ ns) done.nodes) done.sum done.opened;
    }

pub returns-clause-sweeping : goal.returns-clause-sweeping
returns-clause-sweeping g c =
    let n = g.S.Stages.network c.args.stages.now in
    let was = c.args.self.now in
    let s = c.requires.1.1.1.1 in
    let here = rows-here _ _ _ _ _ _ was s _ c.requires.1.1.1.0 c.requires.1.1.0 in
    let listed = c.in_ok-list.ensures.listed in
    let nodes = all_nodes was.rows.rows in
    let arcs = c.list.new.self.listed.arcs.arcs in
    let ahead = all_nodes c.loop-target.ahead.rows in
    let i = c.loop-target.invariant in
    let last : c.loop-target.target ≡ length c.list.new.self.listed.rooms.nodes = omega (arith, c.loop-target-test.false, c.loop-target.auto.target-end, c.len-target-end.ensures.count) in
    let done = all-gathered n was.keep was.stage nodes arcs was.sums _ _ here.nodes listed.listed.arcs.fine c.loop-target.target last in
    let next : HasSwept n g.course (suc s.gone) c.loop-target.sums ahead =
    swept-next n s.lawful _ g.course s.starts s.gone was.stage was.keep s.stands here.nodes.before s.keeps was.sums nodes (spread_out n was.stage nodes arcs) s.swept listed.listed.told c.loop-target.sums ahead
    (λ f. i.gathering.told f ∙ ap (λ ns. weighted f (staying n was.keep (was.stage + 1) ns)) done)
    (λ t. i.gathering.sum t ∙ ap (λ ns. (sum_for was.sums t).sum + weighted (closed_at n was.keep t (was.stage + 1)) ns) done)
    i.gathering.opened i.gathering.distinct i.gathering.heavy in
    record {
      lawful = s.lawful;
      starts = s.starts;
      stores = record {
        roomed = s.stores.roomed;
        rows = ap (λ (l : RowList). l.width) c.swap.ensures.x_after ∙ i.ahead;
        ahead = ap (λ (l : RowList). l.width) c.swap.ensures.y_after ∙ here.room_width;
        arcs = record { listed = listed.listed.fitted; step = listed.step };
        row = i.row;
      };
      keeps = s.keeps;
      gone = suc s.gone;
      stands = omega (arith, s.stands);
      within = omega (arith, here.nodes.before);
      swept = subst (λ (l : RowList). HasSwept n g.course (suc s.gone) c.loop-target.sums (all_nodes l.rows)) (sym c.swap.ensures.x_after) next;
    }
