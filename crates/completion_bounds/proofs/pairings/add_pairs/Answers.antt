use Rattle.std.proofs.Common.{◌≡◌, ℕ, ◌+◌, ◌*◌, ◌≤◌, ap, ◌∙◌, arith, FitsSigned}
use Rattle.std.specs.Prelude.{ℤ, pos, ◌+ℤ◌, ◌*ℤ◌, unsigned_abs}
use Rattle.std.specs.Int.{w128}
use Rattle.std.proofs.lemmas.Int.{to_z-of_z, to_z_pos, fits_signed_from_abs, unsigned_abs-mul}
use Rattle.std.proofs.Math.Nat.{mul-le-mul_right}
use Rattle.weights.specs.declared.TheConstants.{MAX}
use Rattle.completion_bounds.proofs.Runs.{size_add}
use Rattle.completion_bounds.proofs.pairings.add_pairs.Goals as goal

record Fitting (sum : ℤ) (pairs : ℕ) (row column : ℤ) : Type 0 where
  one : FitsSigned w128 (row *ℤ column)
  some : FitsSigned w128 (pos pairs *ℤ (row *ℤ column))
  all : FitsSigned w128 (sum +ℤ (pos pairs *ℤ (row *ℤ column)))

fitting : (sum : ℤ) (pairs : ℕ) (row column : ℤ) → 1 ≤ pairs → unsigned_abs sum + pairs * (unsigned_abs row * unsigned_abs column) ≤ MAX → Fitting sum pairs row column
fitting sum pairs row column h s =
    let first : unsigned_abs (row *ℤ column) ≡ unsigned_abs row * unsigned_abs column = unsigned_abs-mul row column in
    let second : unsigned_abs (pos pairs *ℤ (row *ℤ column)) ≡ pairs * (unsigned_abs row * unsigned_abs column) = unsigned_abs-mul (pos pairs) (row *ℤ column) ∙ ap (λ n. pairs * n) first in
    let more : 1 * (unsigned_abs row * unsigned_abs column) ≤ pairs * (unsigned_abs row * unsigned_abs column) = mul-le-mul_right (unsigned_abs row * unsigned_abs column) h in
    record {
      one = fits_signed_from_abs w128 (row *ℤ column) (omega (arith, first, more, s));
      some = fits_signed_from_abs w128 (pos pairs *ℤ (row *ℤ column)) (omega (arith, second, s));
      all = fits_signed_from_abs w128 (sum +ℤ (pos pairs *ℤ (row *ℤ column))) (omega (arith, second, s, size_add sum (pos pairs *ℤ (row *ℤ column))));
    }

pub overflow_mul-result-2 : goal.overflow_mul-result-2
overflow_mul-result-2 c =
    let f = fitting c.args.sum c.args.pairs c.args.row c.args.column c.requires.some c.requires.small in
    rw (to_z_pos w128 c.args.pairs (omega (arith, c.ranges.pairs.fits)), to_z-of_z w128 c.args.row c.ranges.row, to_z-of_z w128 c.args.column c.ranges.column, to_z-of_z w128 _ f.one) f.some

pub overflow_add-result : goal.overflow_add-result
overflow_add-result c =
    let f = fitting c.args.sum c.args.pairs c.args.row c.args.column c.requires.some c.requires.small in
    rw (to_z_pos w128 c.args.pairs (omega (arith, c.ranges.pairs.fits)), to_z-of_z w128 c.args.row c.ranges.row, to_z-of_z w128 c.args.column c.ranges.column, to_z-of_z w128 _ f.one, to_z-of_z w128 _ f.some, to_z-of_z w128 c.args.sum c.ranges.sum) f.all

pub returns : goal.returns
returns c =
    let f = fitting c.args.sum c.args.pairs c.args.row c.args.column c.requires.some c.requires.small in
    rw (to_z_pos w128 c.args.pairs (omega (arith, c.ranges.pairs.fits)), to_z-of_z w128 c.args.row c.ranges.row, to_z-of_z w128 c.args.column c.ranges.column, to_z-of_z w128 _ f.one, to_z-of_z w128 _ f.some, to_z-of_z w128 c.args.sum c.ranges.sum) (to_z-of_z w128 _ f.all)
