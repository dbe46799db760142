use Rattle.std.proofs.Common.{◌<◌, length, arith}
use Rattle.std.specs.List.{range_with_len}
use Rattle.std.proofs.lemmas.List.FromFn.{get_or-range_with_len, length-range_with_len}
use Rattle.record_reader.proofs.picks.Picks.field.Goals as goal

pub overflow_add-result : goal.overflow_add-result
overflow_add-result c =
    let within : c.args.place < length (range_with_len 1 c.args.width) = rw c.in-Natural.is at c.requires in
    omega (arith, length-range_with_len 1 c.args.width, within)

pub returns-in-Natural : goal.returns-in-Natural
returns-in-Natural c =
    let within : c.args.place < length (range_with_len 1 c.args.width) = rw c.in-Natural.is at c.requires in
    let low : c.args.place < c.args.width = omega (arith, length-range_with_len 1 c.args.width, within) in
    let e = get_or-range_with_len 1 c.args.width c.args.place 0 low in
    rw c.in-Natural.is (omega (arith, e))
