use Rattle.std.proofs.Common.{◌≡◌, ℕ, List, take, drop, ap, ◌∙◌, arith, refl}
use Rattle.std.specs.Prelude.{slice_index_or}
use Rattle.std.proofs.lemmas.List.{take_all}
use Rattle.weights.specs.declared.tails.Tail.{Tail}
use Rattle.node_pool.specs.Nodes.{Node, weighted}
use Rattle.node_pool.specs.PoolSteps.{nodes_of}
use Rattle.node_pool.specs.TableSteps.{key_at}
use Rattle.node_pool.proofs.NodeLists.{length-nodes}
use Rattle.networks.specs.declared.tail_sums.TailSum.{TailSum}
use Rattle.networks.specs.declared.tail_sums.Kept.{Kept}
use Rattle.networks.specs.declared.tail_sums.Kept.TheVariants.{Open, All}
use Rattle.networks.specs.Network.{Network}
use Rattle.networks.specs.EachTail.{sum_for}
use Rattle.stage_network.specs.SweepSteps.{closed_at, counted, staying}
use Rattle.stage_network.proofs.Starting.{roomful, nodes-next, sum-next, opened-next, light-at, row-fits}
use Rattle.stage_network.proofs.from_keys.settle_keys.Goals as goal

none-opened : (n : Network) (keep : Kept) (t : Tail) (g : ℕ) (ns : List Node) (o : ℕ) → o ≡ 0 → o ≡ counted n keep t g (take 0 ns)
none-opened n All t g ns o e = e
none-opened n (Open tails) t g ns o e = e

pub loop-i-init : goal.loop-i-init
loop-i-init g c =
    let n = g.S.Stages.network c.args.stages.now in
    record {
      nodes = c.requires.empty;
      sum = λ t. ap (λ (s : TailSum). s.sum) (c.none-sums.ensures t);
      opened = λ t. none-opened n c.args.keep t c.args.stage (nodes_of n.width c.args.keys.now c.args.weights.now) (sum_for c.none-sums.result t).opened (ap (λ (s : TailSum). s.opened) (c.none-sums.ensures t));
      pool = refl;
      here = c.requires.here;
      deep = c.requires.deep;
    }

pub key_at-key-requires : goal.key_at-key-requires
key_at-key-requires g c = row-fits (g.S.Stages.network c.args.stages.now).width c.width-key_width.result c.loop-i.i c.args.keys.now c.args.weights.now c.width-key_width.ensures c.requires.starts.long c.loop-i-test.true

pub put_one-requires-clause-limit : goal.put_one-requires-clause-limit
put_one-requires-clause-limit g c =
    let n = g.S.Stages.network c.args.stages.now in
    omega (arith, light-at n c.args.stage c.args.keys.now c.args.weights.now c.requires.starts c.loop-i.i c.loop-i-test.true c.stages-count.ensures.lawful (slice_index_or c.args.weights.now c.loop-i.i 0) refl, c.requires.limit)

pub settle-requires : goal.settle-requires
settle-requires g c =
    let n = g.S.Stages.network c.args.stages.now in
    let i = c.loop-i.invariant in
    let wide = c.room_width-width.ensures.width in
    roomful n c.stages-count.ensures.lawful (g.S.Roomed.room_width c.args.stages.now) c.args.stage c.args.keys.now c.args.weights.now c.requires.starts c.args.keep c.loop-i.i (slice_index_or c.args.weights.now c.loop-i.i 0) c.key_at-key.result.now c.front.result.now c.behind.result.now c.loop-i.sums c.loop-i-test.true refl (c.key_at-key.ensures ∙ ap (λ v. key_at v c.args.keys.now c.loop-i.i) c.width-key_width.ensures) (c.front.ensures.room ∙ ap (λ v. take v c.key_at-key.result.now) wide) (c.behind.ensures ∙ ap (λ v. drop v c.key_at-key.result.now) wide) c.put_one.new.pool c.in_ok-put_one.ensures.nodes i.sum i.opened
    c.loop-i.kept (omega (arith, c.loop-i-test.true)) (c.front.ensures.long ∙ wide) (omega (arith, c.in_ok-put_one.ensures.width, i.pool, c.requires.wide)) i.here i.deep

pub loop-i-preserved : goal.loop-i-preserved
loop-i-preserved g c =
    let n = g.S.Stages.network c.args.stages.now in
    let i = c.loop-i.invariant in
    let key = c.key_at-key.result.now in
    let wide = c.room_width-width.ensures.width in
    let w = slice_index_or c.args.weights.now c.loop-i.i 0 in
    let key_is = c.key_at-key.ensures ∙ ap (λ v. key_at v c.args.keys.now c.loop-i.i) c.width-key_width.ensures in
    let room_is = c.front.ensures.room ∙ ap (λ v. take v key) wide in
    let partial_is = c.behind.ensures ∙ ap (λ v. drop v key) wide in
    let l = c.stages-count.ensures.lawful in
    let width = g.S.Roomed.room_width c.args.stages.now in
    record {
      nodes = nodes-next n l width c.args.stage c.args.keys.now c.args.weights.now c.requires.starts c.args.keep c.loop-i.i w key c.front.result.now c.behind.result.now c.loop-i.sums c.loop-i-test.true refl key_is room_is partial_is c.put_one.new.pool c.in_ok-put_one.ensures.nodes i.sum i.opened c.loop-i.kept.nodes c.settle.new.kept.nodes i.nodes c.in_ok-sums.ensures.nodes;
      sum = λ t. sum-next n l width c.args.stage c.args.keys.now c.args.weights.now c.requires.starts c.args.keep c.loop-i.i w key c.front.result.now c.behind.result.now c.loop-i.sums c.loop-i-test.true refl key_is room_is partial_is c.put_one.new.pool c.in_ok-put_one.ensures.nodes i.sum i.opened c.in_ok-sums.sums t (c.in_ok-sums.ensures.sum t);
      opened = λ t. opened-next n l width c.args.stage c.args.keys.now c.args.weights.now c.requires.starts c.args.keep c.loop-i.i w key c.front.result.now c.behind.result.now c.loop-i.sums c.loop-i-test.true refl key_is room_is partial_is c.put_one.new.pool c.in_ok-put_one.ensures.nodes i.sum i.opened c.in_ok-sums.sums t (c.in_ok-sums.ensures.opened t);
      pool = c.in_ok-put_one.ensures.width ∙ i.pool;
      here = c.in_ok-sums.ensures.here ∙ c.front.ensures.long ∙ wide;
      deep = c.in_ok-sums.ensures.wide ∙ i.deep;
    }

pub returns : goal.returns
returns g c =
    let n = g.S.Stages.network c.args.stages.now in
    let i = c.loop-i.invariant in
    let all = take_all c.loop-i.i (nodes_of n.width c.args.keys.now c.args.weights.now) (omega (arith, c.loop-i-test.false, length-nodes n.width c.args.keys.now c.args.weights.now)) in
    record {
      pool = i.pool;
      here = i.here;
      deep = i.deep;
      nodes = i.nodes ∙ ap (staying n c.args.keep c.args.stage) all;
      sum = λ t. i.sum t ∙ ap (weighted (closed_at n c.args.keep t c.args.stage)) all;
      opened = λ t. i.opened t ∙ ap (counted n c.args.keep t c.args.stage) all;
    }
