use Rattle.std.proofs.Common.{◌≡◌, ◌-◌, map, take, length, cond}
use Rattle.std.specs.Prelude.{nat_abs, pos}
use Rattle.rank_assignments.proofs.leaning.write_upright.Given as goal

abbrev pub invariant-loop-i : goal.invariant-loop-i
invariant-loop-i l = record {
  long : length l.next ≡ length l.sums;
  filled : take l.i l.next ≡ take l.i (map pos (cond l.is_reflected (map (λ s. l.number - s) (map nat_abs l.sums)) (map nat_abs l.sums)));
}
