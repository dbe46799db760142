use Rattle.std.proofs.Common.{◌≡◌, ◌*◌, ap, ◌∙◌, arith}
use mir.Syntax.{w128}
use Rattle.std.specs.Prelude.{pos, ◌+ℤ◌, ◌-ℤ◌, ◌≤ℤ◌, unsigned_abs}
use Rattle.std.proofs.lemmas.Int.{ints, to_z-of_z}
use Rattle.count_arrays.specs.Rows.{stepped}
use Rattle.count_arrays.proofs.RowSums.{mapped, reach, stepped-is}
use Rattle.count_arrays.proofs.places.place_of.Goals as goal

pub returns-in-Ok : goal.returns-in-Ok
returns-in-Ok c =
    let above : c.args.lowest ≤ℤ c.args.number = omega (arith, ints, c.if-number-lowest.false) in
    let l = to_z-of_z w128 c.args.lowest c.ranges.lowest in
    let n = to_z-of_z w128 c.args.number c.ranges.number in
    let gap : c.abs_diff.result ≡ unsigned_abs (c.args.number -ℤ c.args.lowest) = rw (l, n) at c.abs_diff.ensures in
    let read : c.in-Ok.gap ≡ c.abs_diff.result = c.in-Ok.ensures.1 in
    mapped c.times_in.result (λ i. i * c.args.stride ≡ c.in-Ok.gap) (λ i. stepped c.args.lowest (pos c.args.stride) i ≡ c.args.number) (λ i e. stepped-is c.args.lowest c.args.stride i ∙ ap (λ m. c.args.lowest +ℤ pos m) (e ∙ read ∙ gap) ∙ reach c.args.lowest c.args.number above) c.times_in.ensures
