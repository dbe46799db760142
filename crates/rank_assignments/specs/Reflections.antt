-- Where sums are reflected: after a block from a given one on, where all blocks are even. What a
-- treatment gets of later blocks is then as often so much more than the least as so much less than
-- the most, so sums and their reflection go on to the same squares.
use Rattle.std.specs.Prelude.{◌≡◌, ℕ, ◌+◌, ◌-◌, ◌*◌, ◌≤◌, ◌<◌, List, map, drop, length, Bool, ◌&&◌, true, nat_eq, nat_le, if◌then◌else◌}
use Rattle.std.specs.List.{range_with_len}
use Rattle.rank_assignments.specs.Assignments.{ahead_at, centre, given, assignment_at}
use Rattle.rank_assignments.specs.Upright.{reflection_at}
use Rattle.rank_assignments.specs.declared.assignment.Assignment.{Assignment}

-- ---- the numbers at which sums are reflected

-- At this number the centre is midway between the least that a sum may end at after an assignment
-- and the most that its reflection may.
abbrev pub number_after : ℕ → List Assignment → ℕ → ℕ
number_after k vs g =
    let next = ahead_at k vs (g + 1) in
    2 * centre k vs - ((next.least + next.later_least) + (next.most + next.later_most))

-- Sums are reflected at it where they may be, the assignment closes its block, and the number is no
-- greater than sums can be and twice their mean; elsewhere they are not, which 0 says.
abbrev pub reflection_of : Bool → ℕ → List Assignment → ℕ → ℕ
reflection_of may_be k vs g =
    let number = number_after k vs g in
    let is_mean = nat_eq (k * number + 2 * given (drop (g + 1) vs)) (2 * given vs) in
    if may_be && (assignment_at vs g).closes && nat_le number (16 * (g + 1)) && is_mean
    then number else 0

-- of each assignment, where they may be from one of them on
abbrev pub reflections_of : ℕ → ℕ → List Assignment → List ℕ
reflections_of from k vs =
    map (λ g. reflection_of (nat_le from g) k vs g) (range_with_len 0 (length vs))

-- ---- what is known of them

-- After this assignment sums may be reflected at this number, where the later blocks are even: it
-- closes its block; the number is twice the mean of the sums; and the centre is midway between the
-- ends of what they will be.
pub record IsReflection (k : ℕ) (vs : List Assignment) (g c : ℕ) : Type 0 where
  pub closes : (assignment_at vs g).closes ≡ true
  pub small : c ≤ 16 * (g + 1)
  pub half : k * c + 2 * given (drop (g + 1) vs) ≡ 2 * given vs
  pub amid : 2 * centre k vs
      ≡ c + (((ahead_at k vs (g + 1)).least + (ahead_at k vs (g + 1)).later_least)
      + ((ahead_at k vs (g + 1)).most + (ahead_at k vs (g + 1)).later_most))

-- a number for each assignment, by which sums may be reflected after it where it is not 0
pub record AreReflections (k : ℕ) (vs : List Assignment) (reflections : List ℕ) : Type 0 where
  pub long : length reflections ≡ length vs
  pub each : (g : ℕ) → g < length vs → 0 < reflection_at reflections g
      → IsReflection k vs g (reflection_at reflections g)
