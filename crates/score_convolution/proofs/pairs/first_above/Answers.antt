use Rattle.std.proofs.Common.{◌≡◌, ◌*◌, ◌+◌, ◌/◌, ap, ◌∙◌, sym, arith}
use Rattle.std.specs.Prelude.{◌-ℤ◌, nat_le, unsigned_abs}
use Rattle.std.proofs.lemmas.Int.{to_z-of_z}
use Rattle.std.proofs.Math.Nat.{div-le_self}
use mir.Syntax.{w128}
use Rattle.score_convolution.proofs.RowPairs.{first-at, first-none, gap-small}
use Rattle.score_convolution.proofs.pairs.first_above.Goals as goal

pub overflow_add-result : goal.overflow_add-result
overflow_add-result c =
    let b = to_z-of_z w128 c.args.bound c.ranges.bound in
    let l = to_z-of_z w128 c.args.lowest c.ranges.lowest in
    let gap : c.abs_diff.result ≡ unsigned_abs (c.args.bound -ℤ c.args.lowest) = rw (b, l) at c.abs_diff.ensures in
    omega (arith, gap, div-le_self c.abs_diff.result c.args.stride, gap-small c.args.bound c.args.lowest c.ranges.bound c.requires.small (rw (b, l) at c.if-bound-lowest.false))

pub returns-then-bound-lowest : goal.returns-then-bound-lowest
returns-then-bound-lowest c = λ n.
    let b = to_z-of_z w128 c.args.bound c.ranges.bound in
    let l = to_z-of_z w128 c.args.lowest c.ranges.lowest in
    first-none c.args.bound c.args.lowest (n * c.args.stride) n (rw (b, l) at c.if-bound-lowest.true)

pub returns : goal.returns
returns c = λ n.
    let b = to_z-of_z w128 c.args.bound c.ranges.bound in
    let l = to_z-of_z w128 c.args.lowest c.ranges.lowest in
    let gap : c.abs_diff.result ≡ unsigned_abs (c.args.bound -ℤ c.args.lowest) = rw (b, l) at c.abs_diff.ensures in
    first-at c.args.bound c.args.lowest c.args.stride n c.requires.stride (rw (b, l) at c.if-bound-lowest.false) ∙ ap (λ m. nat_le (m / c.args.stride + 1) n) (sym gap)
