use Rattle.std.proofs.Common.{◌≡◌, ◌+◌, ◌*◌, ◌≤◌, ℕ, List, get_or, to_z, of_z, ap, ◌∙◌, arith, rules, FitsSigned}
use Rattle.std.specs.Prelude.{ℤ, pos, ◌+ℤ◌, slice_index_or}
use Rattle.std.proofs.lemmas.Int.{to_z-of_z}
use Rattle.std.proofs.lemmas.List.{take_all}
use mir.Syntax.{w128}
use Rattle.weights.specs.declared.TheConstants.{MAX}
use Rattle.node_pool.specs.Nodes.{weighted}
use Rattle.node_pool.specs.PoolSteps.{nodes_of}
use Rattle.node_pool.proofs.NodeLists.{length-nodes}
use Rattle.score_convolution.specs.DrawRows.{number_of}
use Rattle.score_convolution.specs.Meetings.{AreFew, pair_draws}
use Rattle.score_convolution.specs.Sides.{is_in, once}
use Rattle.score_convolution.proofs.KeyDraws.{key-fits, key-more, pairs-fit, pairs-moved}
use Rattle.score_convolution.proofs.onward.key_pairs.Given.{Over}
use Rattle.score_convolution.proofs.onward.key_pairs.Goals as goal
use Rattle.score_convolution.proofs.onward.key_pairs.Goals.{After-pairs_in}

-- the pairs that the moved row has are those of the first one with the key
with_key : (g : Over) (c : After-pairs_in g) → c.pairs_in.result ≡ pair_draws g.K.Tally.cells (λ v. once (is_in c.args.sides) (get_or c.args.keys.now c.loop-i.i (pos 0) +ℤ v)) c.args.stride c.args.one c.args.other.now
with_key g c =
    let key : ℤ = get_or c.args.keys.now c.loop-i.i (pos 0) in
    let one : FitsSigned w128 c.args.one.lowest = search rules in
    let own : FitsSigned w128 key = search rules in
    let all : FitsSigned w128 c.plus.result = search rules in
    let lowest : to_z w128 (of_z w128 c.plus.result) ≡ c.args.one.lowest +ℤ key = to_z-of_z w128 c.plus.result all ∙ (rw (to_z-of_z w128 c.args.one.lowest one, to_z-of_z w128 key own) at c.plus.ensures) in
    c.pairs_in.ensures ∙ pairs-moved g.K.Tally.cells c.args.stride (once (is_in c.args.sides)) key c.args.one c.args.other.now (to_z w128 (of_z w128 c.plus.result)) c.loop-i.one.total c.loop-i.one.tally c.loop-i.invariant.tally lowest

fits : (g : Over) (c : After-pairs_in g) → c.loop-i.sum + slice_index_or c.args.weights.now c.loop-i.i 0 * c.pairs_in.result ≤ MAX
fits g c =
    let p = is_in c.args.sides in
    let f : ℤ → ℕ = λ z. pair_draws g.K.Tally.cells (λ v. once p (z +ℤ v)) c.args.stride c.args.one c.args.other.now in
    let few : AreFew g.K.Tally.cells g.K.Tally.LIMIT c.args.one c.args.other.now = record {
      first = c.requires.one;
      second = c.requires.other;
      fits = c.requires.few;
      small = omega (arith, c.requires.small c.loop-i.i (pos 0) (omega (arith, c.loop-i-test.true, c.requires.long)));
    } in
    omega (
      arith,
      key-fits f c.args.keys.now c.args.weights.now c.loop-i.i c.loop-i-test.true c.loop-i.sum c.pairs_in.result (with_key g c) c.loop-i.invariant.sum,
      pairs-fit g.K.Tally.cells g.K.Tally.LIMIT c.args.stride c.args.one c.args.other.now few p (nodes_of 1 c.args.keys.now c.args.weights.now) c.requires.fits,
    )

pub overflow_mul-sum : goal.overflow_mul-sum
overflow_mul-sum g c = omega (arith, fits g (goal.at.overflow_mul-sum g c).After-pairs_in)

pub overflow_add-sum : goal.overflow_add-sum
overflow_add-sum g c = omega (arith, fits g (goal.at.overflow_add-sum g c).After-pairs_in)

pub loop-i-preserved : goal.loop-i-preserved
loop-i-preserved g c =
    let p = is_in c.args.sides in
    let f : ℤ → ℕ = λ z. pair_draws g.K.Tally.cells (λ v. once p (z +ℤ v)) c.args.stride c.args.one c.args.other.now in
    record {
      sum = key-more f c.args.keys.now c.args.weights.now c.loop-i.i c.loop-i-test.true c.loop-i.sum c.pairs_in.result (with_key g (goal.at.loop-i-preserved g c).After-pairs_in) c.loop-i.invariant.sum;
      tally = c.loop-i.invariant.tally;
      total = c.loop-i.invariant.total;
    }

pub returns : goal.returns
returns g c =
    let p = is_in c.args.sides in
    let f : List ℤ → ℕ = λ k. pair_draws g.K.Tally.cells (λ v. once p (number_of k +ℤ v)) c.args.stride c.args.one c.args.other.now in
    c.loop-i.invariant.sum ∙ ap (weighted f) (take_all c.loop-i.i (nodes_of 1 c.args.keys.now c.args.weights.now) (omega (arith, c.loop-i-test.false, length-nodes 1 c.args.keys.now c.args.weights.now)))
