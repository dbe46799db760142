use Rattle.std.proofs.Common.{◌≡◌, ◌<◌, ◌+◌, ◌*◌, ◌++◌, ◌∷◌, ℕ, List, [], length, take, false, cond, ap, sym, ◌∙◌, arith, refl}
use Rattle.std.specs.Prelude.{ℤ}
use Rattle.std.proofs.lemmas.List.{length-append}
use Rattle.node_pool.specs.Nodes.{node}
use Rattle.networks.specs.Asked.{asked}
use Rattle.networks.specs.Network.{Network}
use Rattle.networks.specs.Completions.{is_inside}
use Rattle.weights.specs.declared.tails.Tail.{Tail}
use Rattle.weights.specs.declared.tails.Tail.TheVariants.{Less, Greater, Two}
use Rattle.networks.specs.declared.tail_sums.Verdicts.{Verdicts}
use Rattle.networks.specs.Opened.{is_open_for_some, is_undecided}
use Rattle.stage_network.specs.NodeSteps.{closed_weight, open_nodes, opened_in}
use Rattle.networks.specs.EachTail.{some_undecided, sum_for, verdict_for}
use Rattle.stage_network.specs.ArcSteps.{lift}
use Rattle.stage_network.proofs.Asked.{asked-roomed, asked-total}
use Rattle.stage_network.proofs.RoomNodes.{opened-le, next-open, next-inside, next-opened, opened-few, next-fits, in_room, first-place, all-nodes, closed_is, closed-fits}
use Rattle.stage_network.proofs.settling.settle_room.Given.{Over}
use Rattle.stage_network.proofs.settling.settle_room.Goals as goal
use Rattle.stage_network.proofs.settling.settle_room.Goals.{After-rest_of-rest}

pub outlook-requires-clause-place : goal.outlook-requires-clause-place
outlook-requires-clause-place g c =
    first-place (g.S.Stages.network c.args.stages.now) _ c.args.stage c.args.room.now c.args.nodes.now.nodes c.requires.reached c.requires.room_is (omega (arith, c.if-len-eq0.false, c.len.ensures.count))

pub verdicts_of-verdicts-requires-clause-reached : goal.verdicts_of-verdicts-requires-clause-reached
verdicts_of-verdicts-requires-clause-reached g c =
    in_room (g.S.Stages.network c.args.stages.now) c.args.stage c.args.room.now c.args.nodes.now.nodes c.loop-i.i _ c.requires.reached (omega (arith, c.loop-i-test.true, c.len-i-end.ensures.count)) c.key-partial.ensures.key

pub settle_node-requires-clause-fits : goal.settle_node-requires-clause-fits
settle_node-requires-clause-fits g c t =
    let few : c.loop-i.i < length c.args.nodes.now.nodes = omega (arith, c.loop-i-test.true, c.len-i-end.ensures.count) in
    next-fits c.args.room.now c.args.nodes.now.nodes c.loop-i.i few _ _ c.key-partial.ensures.key c.weight.ensures (asked c.args.tails (g.S.Stages.network c.args.stages.now)) t c.args.stage c.requires.lawful c.requires.within c.requires.reached (sum_for c.args.sums t).sum (sum_for c.loop-i.inside t).sum (c.requires.fits t) (c.loop-i.invariant.inside t)

pub settle_node-requires-clause-few : goal.settle_node-requires-clause-few
settle_node-requires-clause-few g c t =
    let few : c.loop-i.i < length c.args.nodes.now.nodes = omega (arith, c.loop-i-test.true, c.len-i-end.ensures.count) in
    omega (arith, opened-few c.args.room.now c.args.nodes.now.nodes c.loop-i.i few _ _ c.key-partial.ensures.key c.weight.ensures (asked c.args.tails (g.S.Stages.network c.args.stages.now)) t c.args.stage (sum_for c.loop-i.inside t).opened (c.loop-i.invariant.opened t))

-- a node's verdicts are the network's
same_some : (v : Verdicts) (n : Network) (g : ℕ) (k : List ℤ) → ((t : Tail) → verdict_for v t ≡ n.verdict t g k) → some_undecided v ≡ is_open_for_some n g k
same_some v n g k e = rw (e Less, e Greater, e Two) refl

pub loop-i-preserved : goal.loop-i-preserved
loop-i-preserved g c =
    let n = asked c.args.tails (g.S.Stages.network c.args.stages.now) in
    let r = c.args.room.now in
    let partials = c.args.nodes.now.nodes in
    let i = c.loop-i.i in
    let p = c.key-partial.result.now in
    let w = g.C.Count.number c.weight.result in
    let s = c.args.stage in
    let few : i < length partials = omega (arith, c.loop-i-test.true, c.len-i-end.ensures.count) in
    let v = c.verdicts_of-verdicts.result in
    let verdict : (t : Tail) → verdict_for v t ≡ n.verdict t s (r ++ p) = c.verdicts_of-verdicts.ensures in
    let some : some_undecided v ≡ is_open_for_some n s (r ++ p) = same_some v n s (r ++ p) verdict in
    let step : c.settle_node.new.kept.nodes ≡ c.loop-i.kept.nodes ++ cond (is_open_for_some n s (r ++ p)) (node (r ++ p) w ∷ []) [] =
    c.in_ok-settle_node.ensures.nodes
    ∙ ap (λ x. c.loop-i.kept.nodes ++ cond (some_undecided v) (node (x ++ p) w ∷ []) []) c.loop-i.invariant.kept_room
    ∙ ap (λ b. c.loop-i.kept.nodes ++ cond b (node (r ++ p) w ∷ []) []) some in
    record {
      nodes = next-open r partials i few p w c.key-partial.ensures.key c.weight.ensures n s c.loop-i.kept.nodes c.settle_node.new.kept.nodes c.args.kept.now.nodes c.loop-i.invariant.nodes step;
      inside = λ t. next-inside r partials i few p w c.key-partial.ensures.key c.weight.ensures n t s (sum_for c.loop-i.inside t).sum (sum_for c.settle_node.new.inside t).sum (c.loop-i.invariant.inside t)
          (c.in_ok-settle_node.ensures.inside t ∙ ap (λ b. (sum_for c.loop-i.inside t).sum + cond (cond b false (is_inside (verdict_for v t))) w 0) some ∙ ap (λ x. (sum_for c.loop-i.inside t).sum + cond (cond (is_open_for_some n s (r ++ p)) false (is_inside x)) w 0) (verdict t));
      opened = λ t. next-opened r partials i few p w c.key-partial.ensures.key c.weight.ensures n t s (sum_for c.loop-i.inside t).opened (sum_for c.settle_node.new.inside t).opened (c.loop-i.invariant.opened t)
          (c.in_ok-settle_node.ensures.opened t ∙ ap (λ x. (sum_for c.loop-i.inside t).opened + cond (is_undecided x) 1 0) (verdict t));
      kept_room = c.in_ok-settle_node.ensures.room ∙ c.loop-i.invariant.kept_room;
      named = rw c.in_ok-settle_node.ensures.named c.loop-i.invariant.named;
      here = c.in_ok-settle_node.ensures.room_width ∙ c.loop-i.invariant.here;
      wide = c.in_ok-settle_node.ensures.wide ∙ c.loop-i.invariant.wide;
    }

pub rest_of-rest-requires-clause-reached : goal.rest_of-rest-requires-clause-reached
rest_of-rest-requires-clause-reached g c =
    in_room (g.S.Stages.network c.args.stages.now) c.args.stage c.args.room.now c.args.nodes.now.nodes 0 _ c.requires.reached (omega (arith, c.if-len-eq0.false, c.len.ensures.count)) c.key.ensures.key

-- what the room closes, by the first node's partial
closed : (g : Over) (c : After-rest_of-rest g) (t : Tail) → closed_weight (asked c.args.tails (g.S.Stages.network c.args.stages.now)) t c.args.stage (lift c.args.room.now c.args.nodes.now.nodes) ≡ (sum_for c.loop-i.inside t).sum * c.rest_of-rest.result
closed g c t =
    let n = g.S.Stages.network c.args.stages.now in
    closed_is (asked c.args.tails n) t (g.S.Roomed.room_width c.args.stages.now) c.args.stage c.args.room.now c.args.nodes.now.nodes c.loop-i.i (sum_for c.loop-i.inside t).sum _ (asked-roomed c.args.tails n (g.S.Roomed.room_width c.args.stages.now) c.room_width-width.ensures.roomed) c.requires.room_is c.requires.within c.requires.reached (omega (arith, c.if-len-eq0.false, c.len.ensures.count)) (omega (arith, c.loop-i-test.false, c.len-i-end.ensures.count)) (c.loop-i.invariant.inside t) c.key.ensures.key
    ∙ ap (λ m. (sum_for c.loop-i.inside t).sum * m) (asked-total c.args.tails n c.args.stage (c.args.room.now ++ c.key.result.now)) ∙ sym (c.rest_of-rest.ensures t)

pub with_room-requires : goal.with_room-requires
with_room-requires g c =
    let n = asked c.args.tails (g.S.Stages.network c.args.stages.now) in
    let nodes = lift c.args.room.now c.args.nodes.now.nodes in
    let before = take c.loop-i.i nodes in
    record {
      fits = λ t. closed-fits n t c.args.stage nodes (sum_for c.args.sums t).sum _ (c.requires.fits t) (closed g (goal.at.with_room-requires g c).After-rest_of-rest t);
      few = λ t. omega (arith, c.requires.few t, c.loop-i.invariant.opened t, opened-le n t c.args.stage before, ap length c.loop-i.invariant.nodes, length-append c.args.kept.now.nodes (open_nodes n c.args.stage before), c.len-held.ensures);
    }

pub returns : goal.returns
returns g c =
    let n = asked c.args.tails (g.S.Stages.network c.args.stages.now) in
    let i = c.loop-i.invariant in
    let all = all-nodes c.args.room.now c.args.nodes.now.nodes c.loop-i.i (omega (arith, c.loop-i-test.false, c.len-i-end.ensures.count)) in
    record {
      here = i.here;
      wide = i.wide;
      nodes = i.nodes ∙ ap (λ ns. c.args.kept.now.nodes ++ open_nodes n c.args.stage ns) all;
      sum = λ t. c.with_room.ensures.sum t ∙ ap (λ m. (sum_for c.args.sums t).sum + m) (sym (closed g (goal.at.returns g c).After-rest_of-rest t));
      opened = λ t. c.with_room.ensures.opened t ∙ ap (λ m. (sum_for c.args.sums t).opened + m) (i.opened t ∙ ap (opened_in n t c.args.stage) all);
    }
