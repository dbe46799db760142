use Rattle.std.proofs.Common.{◌≡◌, ◌/◌, ◌∙◌, ap, arith}
use Rattle.std.specs.Prelude.{ℤ, pos, ◌-ℤ◌, unsigned_abs}
use Rattle.std.proofs.lemmas.Int.{to_z-of_z}
use Rattle.std.proofs.Math.Nat.{div-le_self}
use mir.Syntax.{w128}
use Rattle.count_arrays.specs.Rows.{stepped}
use Rattle.score_convolution.proofs.RowsOf.{placed}
use Rattle.score_convolution.proofs.rows.place_between.Goals as goal

pub returns-clause-place : goal.returns-clause-place
returns-clause-place c = λ lowest.
    let one : ℤ = c.args.one in
    let other : ℤ = c.args.other in
    let gap : c.abs_diff.result ≡ unsigned_abs (other -ℤ one) = rw (to_z-of_z w128 other c.ranges.other, to_z-of_z w128 one c.ranges.one) at c.abs_diff.ensures in
    ap (λ n. stepped lowest (pos c.args.stride) (n / c.args.stride)) gap
    ∙ placed one other c.args.stride c.requires.apart c.requires.order lowest

pub returns-clause-near : goal.returns-clause-near
returns-clause-near c =
    let one : ℤ = c.args.one in
    let other : ℤ = c.args.other in
    let gap : c.abs_diff.result ≡ unsigned_abs (other -ℤ one) = rw (to_z-of_z w128 other c.ranges.other, to_z-of_z w128 one c.ranges.one) at c.abs_diff.ensures in
    omega (arith, gap, div-le_self c.abs_diff.result c.args.stride)
