-- Every sum has grown by the cells before this one.
use Rattle.std.proofs.Common.{◌≡◌, ℕ, ◌+◌, ◌*◌, List, length, take, map}
use Rattle.std.specs.Prelude.{ℤ, pos}
use Rattle.count_arrays.specs.Rows.{stepped}
use Rattle.count_arrays.proofs.RowSums.{row_sum}
use Rattle.count_arrays.proofs.pouring.pour_by.Given as goal

abbrev pub invariant-loop-i : goal.invariant-loop-i
invariant-loop-i g l = record {
  long : length l.into ≡ length l.fn.into;
  told : (f : List ℤ → ℕ) (lowest stride : ℤ) → row_sum f lowest stride (map g.C.Count.number l.into) ≡ row_sum f lowest stride (map g.C.Count.number l.fn.into) + row_sum f (stepped lowest stride l.place) (stepped (pos 0) stride l.every) (take l.i (map g.C.Count.number l.from)) * l.weight;
}
