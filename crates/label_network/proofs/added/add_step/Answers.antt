use Rattle.std.proofs.Common.{◌≡◌, ◌+◌, ◌*◌, ◌^◌, ◌<◌, arith, FitsSigned}
use Rattle.std.specs.Prelude.{ℤ, ◌+ℤ◌, ◌-ℤ◌, ◌*ℤ◌, unsigned_abs}
use Rattle.std.specs.Int.{w128}
use Rattle.std.proofs.lemmas.Int.{to_z-of_z, fits_signed_from_abs, unsigned_abs-mul}
use Rattle.later_scores.proofs.Absolute.{size-plus}
use Rattle.label_network.proofs.added.add_step.Goals as goal

record Fitting (sum d later : ℤ) : Type 0 where
  step : FitsSigned w128 d
  one : FitsSigned w128 (d *ℤ later)
  all : FitsSigned w128 (sum +ℤ (d *ℤ later))

fitting : (sum d later : ℤ) → unsigned_abs d < 2 ^ 127 → unsigned_abs sum + unsigned_abs d * unsigned_abs later < 2 ^ 127 → Fitting sum d later
fitting sum d later h s =
    let first : unsigned_abs (d *ℤ later) ≡ unsigned_abs d * unsigned_abs later = unsigned_abs-mul d later in
    record {
      step = fits_signed_from_abs w128 d h;
      one = fits_signed_from_abs w128 (d *ℤ later) (omega (arith, first, s));
      all = fits_signed_from_abs w128 (sum +ℤ (d *ℤ later)) (omega (arith, first, s, size-plus sum (d *ℤ later)));
    }

pub overflow_sub-step : goal.overflow_sub-step
overflow_sub-step c =
    rw (to_z-of_z w128 c.args.here c.ranges.here, to_z-of_z w128 c.args.before c.ranges.before) (fitting c.args.sum (c.args.here -ℤ c.args.before) c.args.later c.requires.step c.requires.small).step

pub overflow_mul-product : goal.overflow_mul-product
overflow_mul-product c =
    let f = fitting c.args.sum (c.args.here -ℤ c.args.before) c.args.later c.requires.step c.requires.small in
    rw (to_z-of_z w128 c.args.here c.ranges.here, to_z-of_z w128 c.args.before c.ranges.before, to_z-of_z w128 c.args.later c.ranges.later, to_z-of_z w128 _ f.step) f.one

pub overflow_add-result : goal.overflow_add-result
overflow_add-result c =
    let f = fitting c.args.sum (c.args.here -ℤ c.args.before) c.args.later c.requires.step c.requires.small in
    rw (to_z-of_z w128 c.args.here c.ranges.here, to_z-of_z w128 c.args.before c.ranges.before, to_z-of_z w128 c.args.later c.ranges.later, to_z-of_z w128 _ f.step, to_z-of_z w128 _ f.one, to_z-of_z w128 c.args.sum c.ranges.sum) f.all

pub returns : goal.returns
returns c =
    let f = fitting c.args.sum (c.args.here -ℤ c.args.before) c.args.later c.requires.step c.requires.small in
    rw (to_z-of_z w128 c.args.here c.ranges.here, to_z-of_z w128 c.args.before c.ranges.before, to_z-of_z w128 c.args.later c.ranges.later, to_z-of_z w128 _ f.step, to_z-of_z w128 _ f.one, to_z-of_z w128 c.args.sum c.ranges.sum) (to_z-of_z w128 _ f.all)
