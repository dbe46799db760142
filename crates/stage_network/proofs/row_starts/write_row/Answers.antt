use Rattle.std.proofs.Common.{◌≡◌, ◌<◌, ◌++◌, ◌∷◌, [], ℕ, List, length, take, map, get_or, ap, sym, subst, ◌∙◌, arith, rules, FitsSigned}
use Rattle.std.specs.Prelude.{ℤ, pos}
use Rattle.std.proofs.lemmas.Int.{to_z-of_z}
use mir.Syntax.{w128}
use Rattle.node_pool.specs.Nodes.{Node, node}
use Rattle.node_pool.specs.PoolSteps.{nodes_of}
use Rattle.node_pool.specs.TableSteps.{key_at}
use Rattle.node_pool.proofs.NodeLists.{length-nodes, nodes-at}
use Rattle.count_arrays.specs.Rows.{row_nodes}
use Rattle.stage_network.specs.ArcSteps.{lift}
use Rattle.stage_network.proofs.Roomwise.{heavy_at}
use Rattle.stage_network.proofs.RowStarts.{key-more}
use Rattle.stage_network.proofs.row_starts.write_row.Goals as goal

none : Node
none = node [] 0

pub push_number-requires-clause-some : goal.push_number-requires-clause-some
push_number-requires-clause-some g c =
    let kw = c.args.key_width in
    let keys = c.args.keys.now in
    let weights = c.args.weights.now in
    let i = c.loop-i.i in
    let low : i < length weights = omega (arith, c.loop-i-test.true, c.requires.within) in
    omega (
      arith,
      heavy_at (nodes_of kw keys weights) i none c.requires.heavy (omega (arith, low, length-nodes kw keys weights)),
      ap (λ (a : Node). a.weight) (nodes-at kw keys weights i none low),
    )

pub loop-i-preserved : goal.loop-i-preserved
loop-i-preserved g c =
    let num = g.C.Count.number in
    let kw = c.args.key_width in
    let keys = c.args.keys.now in
    let weights = c.args.weights.now in
    let i = c.loop-i.i in
    let all = nodes_of kw keys weights in
    let room : List ℤ = take c.args.width (key_at kw keys c.args.start) in
    let L = c.args.lowest in
    let S = pos c.args.stride in
    let z = c.number_behind-number.result in
    let w = get_or weights i 0 in
    let fz : FitsSigned w128 z = search rules in
    let l = to_z-of_z w128 L c.ranges.lowest in
    let low : i < length weights = omega (arith, c.loop-i-test.true, c.requires.within) in
    let key : key_at kw keys i ≡ room ++ z ∷ [] =
    sym c.key_at.ensures ∙ c.number_behind-number.ensures
    ∙ ap (λ r. r ++ z ∷ []) (ap (take c.args.width) c.key_at.ensures ∙ c.requires.same i c.loop-i.auto.i c.loop-i-test.true) in
    record {
      none = c.loop-i.invariant.none;
      lowest = c.loop-i.invariant.lowest;
      stride = c.loop-i.invariant.stride;
      nodes = rw l (key-more all (take c.args.start all) (row_nodes L S (map num c.loop-i.row.cells.items)) (row_nodes L S (map num c.push_number.new.cells.items)) i w room z none
          (omega (arith, low, length-nodes kw keys weights))
          (nodes-at kw keys weights i none low ∙ ap (λ k. node k w) key)
          (rw l at c.loop-i.invariant.nodes)
          (rw (l, to_z-of_z w128 z fz) at c.in_ok-push_number.ensures));
    }

pub returns-clause-ready : goal.returns-clause-ready
returns-clause-ready g c = record {
  none = c.loop-i.invariant.none;
  apart = subst (λ s. 0 < s) (sym c.loop-i.invariant.stride) c.requires.apart;
}

pub returns-clause-nodes : goal.returns-clause-nodes
returns-clause-nodes g c =
    let kw = c.args.key_width in
    let keys = c.args.keys.now in
    let all = nodes_of kw keys c.args.weights.now in
    let cells : List ℕ = map g.C.Count.number c.loop-i.row.cells.items in
    let room : List ℤ = take c.args.width (key_at kw keys c.args.start) in
    let front = take c.args.start all in
    let i = c.loop-i.invariant in
    let end : c.loop-i.i ≡ c.args.end = omega (arith, c.loop-i-test.false, c.loop-i.auto.i-end c.requires.order) in
    ap (λ j. take j all) (sym end) ∙ i.nodes
    ∙ ap (λ z. front ++ lift room (row_nodes z (pos c.args.stride) cells)) (sym i.lowest)
    ∙ ap (λ s. front ++ lift room (row_nodes c.loop-i.row.lowest (pos s) cells)) (sym i.stride)
