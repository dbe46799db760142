use Rattle.std.proofs.Common.{◌≡◌, ◌∙◌, ℕ, List, length, max, ap, arith}
use Rattle.std.specs.Prelude.{ℤ, ◌+ℤ◌, pos, ◌∷◌, All, unsigned_abs, Result, IfOk}
use Rattle.std.specs.Int.{◌∣◌}
use Rattle.std.proofs.lemmas.Result.{IfOk-weaker}
use Rattle.weights.specs.declared.tails.Tail.{Tail}
use Rattle.weights.specs.declared.rules.Rule.{Rule}
use Rattle.weights.specs.Rules.{passes}
use Rattle.node_pool.specs.Nodes.{weighted}
use Rattle.node_pool.specs.PoolSteps.{nodes_of}
use Rattle.networks.specs.Completions.{extreme_weight}
use Rattle.networks.specs.Judged.{rule_in}
use Rattle.networks.specs.Network.{Network, IsReached}
use Rattle.stage_network.specs.FromKeys.{AreStarts}
use Rattle.score_convolution.specs.Draws.{draw_sum}
use Rattle.score_convolution.specs.DrawRows.{number_of}
use Rattle.score_convolution.specs.DrawnSums.{passing_onward}
use Rattle.score_convolution.specs.Sides.{AreSidesOf, is_in, once, sides_for}
use Rattle.score_convolution.specs.Subjects.{AreApart}
use Rattle.score_convolution.specs.declared.sides.Sides.{Sides}
use Rattle.score_convolution.proofs.KeyDraws.{onward-fits, onward-sum}
use Rattle.score_convolution.proofs.Strides.{divides-all}
use Rattle.score_convolution.proofs.Widths.{few-signs}
use Rattle.score_convolution.proofs.onward.sign_sum_onward.Goals as goal

each-divided : (divisor stride : ℕ) (scores : List ℤ) → stride ≡ max divisor 1 → AreApart divisor (pos 0 ∷ scores) → All (λ s. stride ∣ unsigned_abs s) scores
each-divided divisor stride scores is apart = rw is (divides-all divisor scores apart)

-- the sum that is found is that of the network
is-sum : {E : Type 0} (n : Network) (t : Tail) (g : ℕ) (row : List ℤ) (weights : List ℕ) → AreStarts n g row weights → n.width ≡ 1 → (left : List ℤ) (rule : Rule) (sides given : Sides) → given ≡ sides → AreSidesOf rule sides
    → ((k : List ℤ) → IsReached n g k → extreme_weight n t g k ≡ passing_onward rule (number_of k) left) → (found : Result ℕ E)
    → IfOk found (λ sum. sum ≡ weighted (λ k. draw_sum (λ m u. once (is_in given) (number_of k +ℤ u)) 0 (pos 0) left) (nodes_of 1 row weights))
    → IfOk found (λ sum. sum ≡ weighted (extreme_weight n t g) (nodes_of n.width row weights))
is-sum n t g row weights starts one left rule sides given same are passing found =
    IfOk-weaker found
    (λ sum. sum ≡ weighted (λ k. draw_sum (λ m u. once (is_in given) (number_of k +ℤ u)) 0 (pos 0) left) (nodes_of 1 row weights))
    (λ sum. sum ≡ weighted (extreme_weight n t g) (nodes_of n.width row weights))
    (λ sum is. is ∙ onward-sum n g row weights starts one left t (is_in given) rule pass passing)
  where
    pass : (v : ℤ) → is_in given v ≡ passes rule v
    pass v = ap (λ (s : Sides). is_in s v) same ∙ are.pass v

pub key_sums-requires-clause-apart : goal.key_sums-requires-clause-apart
key_sums-requires-clause-apart g c = each-divided c.common_divisor.result c.max-stride.result c.args.left.now c.max-stride.ensures c.common_divisor.ensures

pub key_sums-requires-clause-fits : goal.key_sums-requires-clause-fits
key_sums-requires-clause-fits g c = onward-fits (g.S.Stages.network c.args.stages.now) c.args.stage c.args.keys.now c.args.weights.now c.requires.starts c.requires.one c.args.left.now c.requires.total

pub returns-then-dense : goal.returns-then-dense
returns-then-dense g c = is-sum (g.S.Stages.network c.args.stages.now) c.args.tail c.args.stage c.args.keys.now c.args.weights.now c.requires.starts c.requires.one c.args.left.now (rule_in c.args.judge.now c.args.tail) (sides_for c.in-Some.all c.args.tail) c.of_tail-sides.result c.of_tail-sides.ensures (c.in-Some.ensures.sides c.args.tail) c.requires.same c.key_sums.result c.key_sums.ensures

pub overflow_shl-draws : goal.overflow_shl-draws
overflow_shl-draws g c = omega (arith, few-signs (length c.args.left.now) c.requires.few)

pub key_sums-requires-then-are_near_sums-clause-apart : goal.key_sums-requires-then-are_near_sums-clause-apart
key_sums-requires-then-are_near_sums-clause-apart g c = each-divided c.common_divisor.result c.max-stride.result c.args.left.now c.max-stride.ensures c.common_divisor.ensures

pub key_sums-requires-then-are_near_sums-clause-fits : goal.key_sums-requires-then-are_near_sums-clause-fits
key_sums-requires-then-are_near_sums-clause-fits g c = onward-fits (g.S.Stages.network c.args.stages.now) c.args.stage c.args.keys.now c.args.weights.now c.requires.starts c.requires.one c.args.left.now c.requires.total

pub returns-then-are_near_sums : goal.returns-then-are_near_sums
returns-then-are_near_sums g c = is-sum (g.S.Stages.network c.args.stages.now) c.args.tail c.args.stage c.args.keys.now c.args.weights.now c.requires.starts c.requires.one c.args.left.now (rule_in c.args.judge.now c.args.tail) (sides_for c.in-Some.all c.args.tail) c.of_tail-sides.result c.of_tail-sides.ensures (c.in-Some.ensures.sides c.args.tail) c.requires.same c.key_sums-then-are_near_sums.result c.key_sums-then-are_near_sums.ensures

pub key_sums-requires-2-clause-apart : goal.key_sums-requires-2-clause-apart
key_sums-requires-2-clause-apart g c = each-divided c.common_divisor.result c.max-stride.result c.args.left.now c.max-stride.ensures c.common_divisor.ensures

pub key_sums-requires-2-clause-fits : goal.key_sums-requires-2-clause-fits
key_sums-requires-2-clause-fits g c = onward-fits (g.S.Stages.network c.args.stages.now) c.args.stage c.args.keys.now c.args.weights.now c.requires.starts c.requires.one c.args.left.now c.requires.total

pub returns : goal.returns
returns g c = is-sum (g.S.Stages.network c.args.stages.now) c.args.tail c.args.stage c.args.keys.now c.args.weights.now c.requires.starts c.requires.one c.args.left.now (rule_in c.args.judge.now c.args.tail) (sides_for c.in-Some.all c.args.tail) c.of_tail-sides.result c.of_tail-sides.ensures (c.in-Some.ensures.sides c.args.tail) c.requires.same c.key_sums-2.result c.key_sums-2.ensures
