-- The rooms that run for Friedman's and Cochran's tests where no key is told. A stage is a number
-- that occurs in a block, its numbers ascending; a choice says which of the treatments that have
-- no number of the block yet get it. A room tells which treatments these are, and a partial the
-- treatments' sums.
use Rattle.std.specs.Prelude.{◌≡◌, ℕ, zero, suc, ◌+◌, ◌-◌, ◌*◌, ◌/◌, ◌^◌, ◌≤◌, ◌<◌, ℤ, pos, min, max, List, [], ◌∷◌, length, map, drop, get_or, nat_abs, replicate, Bool, true, false, nat_eq, nat_lt, slice_index_or, if◌then◌else◌}
use Rattle.std.specs.List.{All, flat_map, sum, sum_by}
use Rattle.weights.specs.Grouped.{choices, minus}
use Rattle.weights.specs.Numbers.{binomial}
use Rattle.weights.specs.declared.TheConstants.{MAX}
use Rattle.networks.specs.Judged.{JudgeFits}
use Rattle.networks.specs.Network.{Network}
use Rattle.networks.specs.declared.verdicts.Judge.{Judge}
use Rattle.room_network.specs.Meanings.{Meaning}
use Rattle.room_network.specs.Plans.{Floor, Plan, Weights}
use Rattle.room_network.specs.RoomNetworks.{room_network}
use Rattle.label_network.specs.ChoiceOrder.{later_choices}
use Rattle.label_network.specs.Meanings.{sizes_in}
use Rattle.symmetry_reduction.specs.ReducedNetworks.{reduced_network}
use Rattle.symmetry_reduction.specs.declared.orders.Order.{Order}
use Rattle.symmetry_reduction.specs.declared.orders.Order.TheVariants.{Sums, SumsWhereAllRemain}
use Rattle.rank_assignments.specs.BoundSteps.{IsSmall}
use Rattle.rank_assignments.specs.Upright.{reflection_at, upright}
use Rattle.networks.specs.Distances.{correction, far_square, near_square, squared}
use Rattle.rank_assignments.specs.declared.assignment.Assignment.{Assignment}
use Rattle.rank_assignments.specs.declared.assignment.Ahead.{Ahead}

-- the numbers from i on that occur in a block, as often as the counts say
abbrev pub assignments : ℕ → List ℕ → List Assignment
assignments i [] = []
assignments i (zero ∷ counts) = assignments (i + 1) counts
assignments i (suc c ∷ counts) =
    record { value = i; count = suc c; closes = nat_eq (sum counts) 0 } ∷ assignments (i + 1) counts

-- a number that occurs so often, if at all
abbrev pub assignment_of : ℕ → ℕ → Bool → List Assignment
assignment_of i zero closes = []
assignment_of i (suc c) closes = record { value = i; count = suc c; closes = closes } ∷ []

-- of all blocks
abbrev pub all_assignments : List (List ℕ) → List Assignment
all_assignments blocks = flat_map (assignments 0) blocks

abbrev pub no_assignment : Assignment
no_assignment = record { value = 0; count = 0; closes = false }

abbrev pub assignment_at : List Assignment → ℕ → Assignment
assignment_at vs g = slice_index_or vs g no_assignment

-- ---- what is ahead

-- of an assignment that closes its block, or does not, before what is ahead after it
abbrev pub before : Bool → Assignment → Ahead → Ahead
before true v a = record {
  owed = v.count;
  ways = a.ways;
  least = v.value;
  most = v.value;
  later_least = a.least + a.later_least;
  later_most = a.most + a.later_most;
}
before false v a = record {
  owed = v.count + a.owed;
  ways = binomial (v.count + a.owed) v.count * a.ways;
  least = min v.value a.least;
  most = max v.value a.most;
  later_least = a.later_least;
  later_most = a.later_most;
}

-- with k treatments
abbrev pub ahead : ℕ → List Assignment → Ahead
ahead k [] =
    record { owed = k; ways = 1; least = 0; most = 0; later_least = 0; later_most = 0 }
ahead k (v ∷ vs) = before v.closes v (ahead k vs)

abbrev pub ahead_at : ℕ → List Assignment → ℕ → Ahead
ahead_at k vs g = ahead k (drop g vs)

-- ---- rooms

-- no treatment has a number of the block
abbrev pub unassigned : ℕ → List ℤ
unassigned k = replicate k (pos 1)

abbrev pub assignment_floor : ℕ → List Assignment → Floor
assignment_floor k vs = record {
  count = length vs;
  width = k;
  choice_width = k;
  first = unassigned k;
  choices = λ g room. choices (assignment_at vs g).count (sizes_in room);
  later = λ g room c. later_choices (assignment_at vs g).count (sizes_in room) c;
  next = λ g room c.
      if (assignment_at vs g).closes then unassigned k else map pos (minus (sizes_in room) c);
}

-- each choice is one
abbrev pub one_each : Weights
one_each g room c = 1

abbrev pub assignment_plan : ℕ → List Assignment → Plan
assignment_plan k vs = record { floor = assignment_floor k vs; weight = one_each }

-- ---- sums

-- the sums, each raised by a number as often as a choice says
abbrev pub gained : ℕ → List ℕ → List ℕ → List ℕ
gained v [] sums = sums
gained v (c ∷ cs) [] = []
gained v (c ∷ cs) (s ∷ sums) = (s + v * c) ∷ gained v cs sums

-- what is added to them
abbrev pub raises : ℕ → List ℕ → List ℤ
raises v c = map (λ n. pos (v * n)) c

-- what is said of the two numbers between which each sum ends, added over the treatments: it is
-- raised by the least (most) of the later blocks, and where the treatment is not assigned yet also
-- by the least (most) number that is left of the block
abbrev pub over_ends : (ℕ → ℕ → ℕ) → Ahead → List ℕ → List ℕ → ℕ
over_ends f a [] sums = 0
over_ends f a (r ∷ room) [] = 0
over_ends f a (r ∷ room) (s ∷ sums) =
    f (s + r * a.least + a.later_least) (s + r * a.most + a.later_most)
    + over_ends f a room sums

-- what treatments get in all
abbrev pub given : List Assignment → ℕ
given vs = sum_by (λ v. v.value * v.count) vs

-- what each of k treatments gets of it on average, rounded down
abbrev pub centre : ℕ → List Assignment → ℕ
centre k vs = given vs / k

-- what the squares of the sums are at least, and at most
abbrev pub least_squares : ℕ → List Assignment → Ahead → List ℕ → List ℕ → ℕ
least_squares k vs a room sums =
    correction k (centre k vs) (given vs) + over_ends (near_square (centre k vs)) a room sums

abbrev pub most_squares : ℕ → List Assignment → Ahead → List ℕ → List ℕ → ℕ
most_squares k vs a room sums =
    correction k (centre k vs) (given vs) + over_ends (far_square (centre k vs)) a room sums

-- after each assignment the sums are reflected where they lean
abbrev pub assigned_sums : ℕ → List Assignment → List ℕ → Judge → Meaning
assigned_sums k vs reflections judge = record {
  floor = assignment_floor k vs;
  slots = k;
  step_width = k;
  outlook_width = 0;
  first = replicate k (pos 0);
  step = λ g room c. raises (assignment_at vs g).value c;
  advance = λ g room c p.
      map pos
      (upright (reflection_at reflections g) (gained (assignment_at vs g).value c (sizes_in p)));
  outlook = λ g room. [];
  value = λ p. pos (sum_by squared (sizes_in p));
  low = λ g room p.
      pos (least_squares k vs (ahead_at k vs g) (sizes_in room) (sizes_in p));
  high = λ g room p.
      pos (most_squares k vs (ahead_at k vs g) (sizes_in room) (sizes_in p));
  judge = judge;
}

-- ---- the network

abbrev pub assignment_network : ℕ → List Assignment → List ℕ → Judge → Network
assignment_network k vs reflections judge =
    room_network (assigned_sums k vs reflections judge) one_each

-- all treatments alike
abbrev pub alike : ℕ → List ℕ
alike k = replicate k 1

-- how they are put in order by their sums: wherever all are to be assigned, which is between
-- blocks, and seven and more after each number too
abbrev pub order_for : ℕ → Order
order_for k = if nat_lt k 7 then SumsWhereAllRemain else Sums

-- with the treatments in that order
abbrev pub assigned_network : ℕ → List Assignment → List ℕ → Judge → Network
assigned_network k vs reflections judge =
    reduced_network (order_for k) (alike k) (assignment_network k vs reflections judge)

-- one number has a digit for each of k treatments that holds its sum after so many assignments
abbrev pub has_room_for : ℕ → ℕ → Bool
has_room_for k count = nat_lt (16 * count) (2 ^ (127 / k))

-- assignments of k treatments that have a lawful network
pub record AreAssignments (k : ℕ) (vs : List Assignment) (judge : Judge) : Type 0 where
  pub some : 1 ≤ k
  pub narrow : k ≤ 8
  pub few : length vs ≤ 170000
  pub small : All (λ v. v.value ≤ 16) vs
  pub begins : (ahead k vs).owed ≡ k
  pub opens : (g : ℕ) → g < length vs → (assignment_at vs g).closes ≡ true
      → (ahead_at k vs (g + 1)).owed ≡ k
  pub fits : (ahead k vs).ways ≤ MAX
  pub judge_fits : (v : ℤ) → IsSmall v → JudgeFits judge v

-- ---- tables and sizes

-- what is ahead of the last assignments: of none, of the last one, and so on
pub record AreAhead (k : ℕ) (vs : List Assignment) (done : ℕ) (table : List Ahead) : Type 0 where
  pub long : length table ≡ done + 1
  pub each : (i : ℕ) (d : Ahead) → i ≤ done
      → slice_index_or table i d ≡ ahead_at k vs (length vs - i)

pub record IsSmallAhead (a : Ahead) : Type 0 where
  pub owed : a.owed ≤ 8
  pub some : 1 ≤ a.ways
  pub fits : a.ways ≤ MAX
  pub least : a.least ≤ 16
  pub most : a.most ≤ 16
  pub later_least : a.later_least ≤ 2720000
  pub later_most : a.later_most ≤ 2720000

-- sums, and marks of treatments that are left
pub record AreSums (partial : List ℤ) : Type 0 where
  pub each : (i : ℕ) → i < length partial
      → get_or partial i (pos 0) ≡ pos (nat_abs (get_or partial i (pos 0)))
  pub small : (i : ℕ) → i < length partial → nat_abs (get_or partial i (pos 0)) ≤ 2720000

pub record AreMarks (room : List ℤ) : Type 0 where
  pub each : (i : ℕ) → i < length room
      → get_or room i (pos 0) ≡ pos (nat_abs (get_or room i (pos 0)))
  pub small : (i : ℕ) → i < length room → nat_abs (get_or room i (pos 0)) ≤ 1
