use Rattle.std.proofs.Common.{◌≡◌, ◌≤◌, ◌*◌, ◌-◌, map, take}
use Rattle.std.specs.Prelude.{nat_abs}
use Rattle.std.specs.List.{sum_by}
use Rattle.rank_assignments.specs.Upright.{cubed}
use Rattle.rank_assignments.proofs.leaning.lean.Given as goal

abbrev pub invariant-loop-i : goal.invariant-loop-i
invariant-loop-i l = record {
  over : l.over ≡ sum_by (λ s. s - l.number) (take l.i (map nat_abs l.sums));
  lacking : l.lacking ≡ sum_by (λ s. cubed (l.number - s)) (take l.i (map nat_abs l.sums));
  own : l.own ≡ sum_by cubed (take l.i (map nat_abs l.sums));
  over_small : l.over ≤ l.i * 3000000;
  lacking_small : l.lacking ≤ l.i * 27000000000000000000;
  own_small : l.own ≤ l.i * 27000000000000000000;
}
