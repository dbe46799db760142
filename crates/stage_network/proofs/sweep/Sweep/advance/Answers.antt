use Rattle.std.proofs.Common.{◌≡◌, ◌<◌, ◌≤◌, ◌+◌, ℕ, suc, List, [], length, ap, sym, subst, ◌∙◌, arith}
use Rattle.std.specs.Prelude.{ℤ}
use Rattle.node_pool.specs.Nodes.{node, weighted}
use Rattle.weights.specs.declared.tails.Tail.{Tail}
use Rattle.weights.specs.declared.tails.Tail.TheVariants.{Less}
use Rattle.networks.specs.Completions.{total_weight}
use Rattle.stage_network.specs.StageSteps.{Housed}
use Rattle.stage_network.specs.ArcSteps.{spread_out, bucket, firsts, lift}
use Rattle.networks.specs.EachTail.{sum_for}
use Rattle.stage_network.specs.SweepSteps.{closed_at, staying, HasSwept, IsShaped}
use Rattle.stage_network.proofs.Roomwise.{lift-heavy, lift-distinct}
use Rattle.stage_network.proofs.Gathered.{filled-reached, bucket-fits, bucket-light}
use Rattle.stage_network.proofs.Sweeps.{closed-le, counted-le}
use Rattle.stage_network.proofs.Gathering.{gathering-first, gathering-next, all-gathered}
use Rattle.stage_network.proofs.Courses.{sweeping-here, next-light, swept-next}
use Rattle.stage_network.proofs.sweep.Sweep.advance.Given.{Over}
use Rattle.stage_network.proofs.sweep.Sweep.advance.Goals as goal
use Rattle.stage_network.proofs.sweep.Sweep.advance.Goals.{After-len-target-end, After-key}

pub list-requires-clause-here : goal.list-requires-clause-here
list-requires-clause-here g c = sweeping-here _ _ _ _ _ _ c.requires.1.1.1 c.requires.1.1.0

-- what the arcs lead to weighs no more than the sums leave
light : (g : Over) (c : After-len-target-end g) (t : Tail) → (sum_for c.args.self.now.sums t).sum + weighted (total_weight (g.S.Stages.network c.args.stages.now) (c.args.self.now.stage + 1)) (spread_out (g.S.Stages.network c.args.stages.now) c.args.self.now.stage c.args.self.now.nodes.nodes c.list.new.self.arcs.arcs) ≤ weighted (total_weight (g.S.Stages.network c.args.stages.now) g.course.stage) g.course.nodes
light g c =
    let n = g.S.Stages.network c.args.stages.now in
    let s = c.requires.1.1.1 in
    let was = c.args.self.now in
    next-light n s.lawful _ _ s.starts s.gone was.stage was.keep s.stands c.requires.1.1.0 s.keeps was.sums was.nodes.nodes (spread_out n was.stage was.nodes.nodes c.list.new.self.arcs.arcs) s.swept c.in_ok-list.ensures.listed.told

-- a room that was filled, by the room's own place
told : (g : Over) (c : After-key g) (f : List ℤ → ℕ) → weighted f (lift c.key.result.now c.fill.new.self.partials.nodes) ≡ weighted f (spread_out (g.S.Stages.network c.args.stages.now) c.args.self.now.stage c.args.self.now.nodes.nodes (bucket c.loop-target.target c.list.new.self.arcs.arcs))
told g c f = ap (λ r. weighted f (lift r c.fill.new.self.partials.nodes)) (c.key.ensures.key (node [] 0)) ∙ c.in_ok-fill.ensures.told (node [] 0) f

pub loop-target-init : goal.loop-target-init
loop-target-init g c =
    let s = c.requires.1.1.1 in
    let was = c.args.self.now in
    record {
      ahead = record { room_width = c.clear.ensures.room_width ∙ s.stores.ahead.room_width; wide = c.clear.ensures.width ∙ s.stores.ahead.wide };
      pool = s.stores.pool;
      gathering = gathering-first (g.S.Stages.network c.args.stages.now) was.keep was.stage was.nodes.nodes c.list.new.self.arcs.arcs was.sums _ c.clear.ensures.nodes;
    }

pub fill-requires-clause-here : goal.fill-requires-clause-here
fill-requires-clause-here g c = sweeping-here _ _ _ _ _ _ c.requires.1.1.1 c.requires.1.1.0

pub fill-requires-clause-light : goal.fill-requires-clause-light
fill-requires-clause-light g c =
    let here = sweeping-here _ _ _ _ _ _ c.requires.1.1.1 c.requires.1.1.0 in
    let l = c.requires.1.1.1.starts.light in
    let all = light g (goal.at.fill-requires-clause-light g c).After-len-target-end Less in
    record {
      limit = bucket-light _ c.args.self.now.stage _ _ _ here.nodes c.loop-target.target _ c.list.new.self.arcs.arcs c.in_ok-list.ensures.listed.arcs.fine (omega (arith, all, l.limit));
      fits = bucket-light _ c.args.self.now.stage _ _ _ here.nodes c.loop-target.target _ c.list.new.self.arcs.arcs c.in_ok-list.ensures.listed.arcs.fine (omega (arith, all, l.fits));
    }

pub settle-requires : goal.settle-requires
settle-requires g c =
    let n = g.S.Stages.network c.args.stages.now in
    let w = g.S.Roomed.room_width c.args.stages.now in
    let was = c.args.self.now in
    let nodes = was.nodes.nodes in
    let arcs = c.list.new.self.arcs.arcs in
    let rooms = c.list.new.self.rooms.nodes in
    let here = sweeping-here _ _ _ _ _ _ c.requires.1.1.1 c.requires.1.1.0 in
    let listed = c.in_ok-list.ensures.listed in
    let i = c.loop-target.invariant in
    let is = told g (goal.at.settle-requires g c).After-key in
    let total : List ℤ → ℕ = total_weight n (was.stage + 1) in
    let long : length c.key.result.now ≡ w = c.key.ensures.wide ∙ listed.fitted.rooms in
    record {
      lawful = here.nodes.lawful;
      within = omega (arith, here.nodes.before);
      reached = filled-reached n was.stage w nodes rooms here.nodes c.loop-target.target arcs listed.arcs.fine _ (lift-heavy c.key.result.now c.fill.new.self.partials.nodes c.in_ok-fill.ensures.heavy) is;
      fits = λ t. omega (
        arith,
        is total,
        bucket-fits n was.stage w nodes rooms here.nodes total c.loop-target.target (weighted total (spread_out n was.stage nodes arcs)) arcs (omega arith),
        light g (goal.at.settle-requires g c).After-len-target-end t,
        c.requires.1.1.1.starts.light.fits,
        closed-le n was.keep t (was.stage + 1) (spread_out n was.stage nodes (firsts c.loop-target.target arcs)),
        i.gathering.sum t,
      );
      few = λ t. omega (arith, i.gathering.opened t, counted-le n was.keep t (was.stage + 1) c.loop-target.ahead.nodes, c.requires.1.1.1.few t, here.nodes.before, c.stages-count.ensures.count);
      room_is = long;
      long = omega (arith, long, c.in_ok-fill.ensures.fitted.wide);
      here = i.ahead.room_width ∙ sym long;
      wide = i.ahead.wide;
    }

pub loop-target-preserved : goal.loop-target-preserved
loop-target-preserved g c =
    let was = c.args.self.now in
    let arcs = c.list.new.self in
    let listed = c.in_ok-list.ensures.listed in
    let low : c.loop-target.target < length arcs.rooms.nodes = omega (arith, c.loop-target-test.true, c.len-target-end.ensures.count) in
    let r = c.key.result.now in
    let partials = c.fill.new.self.partials.nodes in
    record {
      ahead = record { room_width = c.in_ok-sums.ensures.here ∙ c.key.ensures.wide ∙ listed.fitted.rooms; wide = c.in_ok-sums.ensures.wide ∙ c.loop-target.invariant.ahead.wide };
      pool = c.in_ok-fill.ensures.fitted;
      gathering = gathering-next (g.S.Stages.network c.args.stages.now) was.keep was.stage was.nodes.nodes arcs.arcs.arcs _ (g.S.Roomed.room_width c.args.stages.now) arcs.rooms.nodes (sweeping-here _ _ _ _ _ _ c.requires.1.1.1 c.requires.1.1.0).nodes listed.arcs.fine c.loop-target.target low c.len-target-end.ensures.apart c.loop-target.sums _ c.loop-target.ahead.nodes _ (lift r partials) c.loop-target.invariant.gathering (lift-heavy r partials c.in_ok-fill.ensures.heavy) (lift-distinct r partials c.len-apart.ensures.apart) (told g (goal.at.loop-target-preserved g c).After-key) c.in_ok-sums.ensures.nodes c.in_ok-sums.ensures.sum c.in_ok-sums.ensures.opened;
    }

pub returns-clause-sweeping : goal.returns-clause-sweeping
returns-clause-sweeping g c =
    let n = g.S.Stages.network c.args.stages.now in
    let was = c.args.self.now in
    let s = c.requires.1.1.1 in
    let here = sweeping-here _ _ _ _ _ _ s c.requires.1.1.0 in
    let listed = c.in_ok-list.ensures.listed in
    let arcs = c.list.new.self.arcs.arcs in
    let ahead = c.loop-target.ahead.nodes in
    let i = c.loop-target.invariant in
    let last : c.loop-target.target ≡ length c.list.new.self.rooms.nodes = omega (arith, c.loop-target-test.false, c.loop-target.auto.target-end, c.len-target-end.ensures.count) in
    let done = all-gathered n was.keep was.stage was.nodes.nodes arcs was.sums _ _ here.nodes listed.arcs.fine c.loop-target.target last in
    let next : HasSwept n g.course (suc s.gone) c.loop-target.sums ahead =
    swept-next n s.lawful _ g.course s.starts s.gone was.stage was.keep s.stands here.nodes.before s.keeps was.sums was.nodes.nodes (spread_out n was.stage was.nodes.nodes arcs) s.swept listed.told c.loop-target.sums ahead
    (λ f. i.gathering.told f ∙ ap (λ ns. weighted f (staying n was.keep (was.stage + 1) ns)) done)
    (λ t. i.gathering.sum t ∙ ap (λ ns. (sum_for was.sums t).sum + weighted (closed_at n was.keep t (was.stage + 1)) ns) done)
    i.gathering.opened i.gathering.distinct i.gathering.heavy in
    record {
      lawful = s.lawful;
      starts = s.starts;
      stores = record {
        roomed = s.stores.roomed;
        nodes = subst (IsShaped n (g.S.Roomed.room_width c.args.stages.now)) (sym c.swap.ensures.x_after) i.ahead;
        ahead = subst (IsShaped n (g.S.Roomed.room_width c.args.stages.now)) (sym c.swap.ensures.y_after) here.shape;
        arcs = listed.fitted;
        pool = i.pool;
      };
      keeps = s.keeps;
      gone = suc s.gone;
      stands = omega (arith, s.stands);
      within = omega (arith, here.nodes.before);
      swept = subst (λ (h : Housed). HasSwept n g.course (suc s.gone) c.loop-target.sums h.nodes) (sym c.swap.ensures.x_after) next;
      few = λ t. omega (arith, i.gathering.opened t, s.few t, counted-le n was.keep t (was.stage + 1) ahead, c.len-held.ensures, ap (λ (h : Housed). length h.nodes) c.swap.ensures.x_after);
    }
