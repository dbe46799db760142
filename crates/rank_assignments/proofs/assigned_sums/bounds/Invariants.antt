use Rattle.std.proofs.Common.{◌≡◌, ◌≤◌, ◌*◌, map, take}
use Rattle.std.specs.Prelude.{nat_abs}
use Rattle.networks.specs.Distances.{far_square, near_square, square_limit}
use Rattle.rank_assignments.specs.Assignments.{over_ends}
use Rattle.rank_assignments.proofs.assigned_sums.bounds.Given as goal

abbrev pub invariant-loop-i : goal.invariant-loop-i
invariant-loop-i l = record {
  near : l.near ≡ over_ends (near_square l.centre) l.ahead (take l.i (map nat_abs l.room)) (take l.i (map nat_abs l.partial));
  far : l.far ≡ over_ends (far_square l.centre) l.ahead (take l.i (map nat_abs l.room)) (take l.i (map nat_abs l.partial));
  near_small : l.near ≤ l.i * square_limit;
  far_small : l.far ≤ l.i * square_limit;
}
