-- The rooms of assignments: what a reached room has, and in how many ways it goes on.
use Rattle.std.proofs.Common.{◌≡◌, ◌≢◌, ℕ, zero, suc, ◌+◌, ◌-◌, ◌*◌, ◌<◌, ◌≤◌, List, [], ◌∷◌, map, drop, length, min, replicate, Bool, true, false, cond, refl, sym, ◌∙◌, ap, subst, arith, add-one, drop-cons, drop_of_length-le, nat_eq, nat_le, ne_eqb}
use Rattle.std.specs.Prelude.{ℤ, pos}
use Rattle.std.specs.List.{sum_by, sum, AllByRecursion, range_with_len}
use Rattle.std.proofs.lemmas.List.{length-replicate}
use Rattle.std.proofs.lemmas.List.Sums.{sum_by-cons}
use Rattle.std.proofs.lemmas.Bool.{leb-true}
use Rattle.weights.specs.Grouped.{choices, fits, minus}
use Rattle.weights.specs.Numbers.{binomial}
use Rattle.weights.proofs.Binomials.{binomial-all, binomial-pascal, binomial-zero, binomial-over}
use Rattle.weights.proofs.ChoiceLists.{IsChoice}
use Rattle.weights.proofs.Sized.{length-minus, sum-minus, first_and}
use Rattle.weights.proofs.Sums.{sum_by-fronts, sum_by-scaled}
use Rattle.networks.specs.Completions.{total_weight}
use Rattle.networks.specs.Network.{IsReached}
use Rattle.networks.proofs.Steps.{reached-next, total_weight-last, total_weight-step}
use Rattle.networks.proofs.Lumping.{over_allowed}
use Rattle.room_network.specs.Plans.{Plan, IsPlan, alone}
use Rattle.room_network.proofs.RoomKeys.{KeepsWidth, choices_before, is_allowed}
use Rattle.label_network.specs.LabelSteps.{least}
use Rattle.label_network.specs.Meanings.{sizes_in}
use Rattle.label_network.proofs.Differing.{choices-differ}
use Rattle.label_network.proofs.LabelPlans.{sizes-back}
use Rattle.label_network.proofs.LaterChoices.{least-first}
use Rattle.label_network.proofs.Narrowing.{chosen}
use Rattle.label_network.proofs.Rows.{length-abs, length-pos}
use Rattle.networks.specs.declared.verdicts.Judge.{Judge}
use Rattle.rank_assignments.specs.Assignments.{AreAssignments, ahead, ahead_at, before, assignment_at, assignment_floor, assignment_plan, no_assignment, unassigned}
use Rattle.rank_assignments.specs.declared.assignment.Assignment.{Assignment}

-- ---- sizes of one at most

abbrev pub AreOnes : List ℕ → Type 0
AreOnes r = AllByRecursion (λ s. s ≤ 1) r

ones-minus : (r x : List ℕ) → AreOnes r → AreOnes (minus r x)
ones-minus [] x a = tt
ones-minus (r ∷ rs) [] a = a
ones-minus (r ∷ rs) (b ∷ x) a = (omega (arith, a.0), ones-minus rs x a.1)

pub ones-alike : (k : ℕ) → AreOnes (replicate k 1)
ones-alike zero = tt
ones-alike (suc k) = (omega arith, ones-alike k)

pub sum-alike : (k : ℕ) → sum (replicate k 1) ≡ k
sum-alike zero = refl
sum-alike (suc k) = sum_by-cons (λ v. v) 1 (replicate k 1) ∙ omega (arith, sum-alike k)

pub sizes-unassigned : (k : ℕ) → sizes_in (unassigned k) ≡ replicate k 1
sizes-unassigned zero = refl
sizes-unassigned (suc k) = ap (λ s. 1 ∷ s) (sizes-unassigned k)

pub pos-alike : (k : ℕ) → map pos (replicate k 1) ≡ unassigned k
pos-alike zero = refl
pos-alike (suc k) = ap (λ s. pos 1 ∷ s) (pos-alike k)

-- so many of them are chosen in as many ways as a binomial says
pub choices-many : (c : ℕ) (r : List ℕ) → AreOnes r → sum_by (λ x. 1) (choices c r) ≡ binomial (sum r) c
choices-many c [] a = by c
  where
    by : (c : ℕ) → sum_by {X = List ℕ} (λ x. 1) (cond (nat_eq c 0) ([] ∷ []) []) ≡ binomial 0 c
    by zero = sym (binomial-zero 0)
    by (suc c) = rw (ne_eqb (suc c) 0 (λ e. omega (arith, e))) (sym (binomial-over 0 (suc c) (omega arith)))
choices-many c (zero ∷ rs) a =
    sum_by-fronts (λ x. 1) (λ b. b) (λ b. choices (c - b) rs) (range_with_len 0 (min c 0 + 1))
    ∙ (let none : min c 0 + 1 ≡ 1 = omega arith in ap (λ n. sum_by (λ b. sum_by (λ x. 1) (choices (c - b) rs)) (range_with_len 0 n)) none)
    ∙ one_only (choices-many (c - 0) rs a.1)
  where
    one_only : sum_by {X = List ℕ} (λ x. 1) (choices (c - 0) rs) ≡ binomial (sum rs) (c - 0) → 0 + sum_by {X = List ℕ} (λ x. 1) (choices (c - 0) rs) ≡ binomial (sum (0 ∷ rs)) c
    one_only e =
        let all : sum (0 ∷ rs) ≡ sum rs = sum_by-cons (λ v. v) 0 rs ∙ omega arith in
        let same : c - 0 ≡ c = omega arith in
        omega (arith, e, ap (λ n. binomial n c) all, ap (binomial (sum rs)) same)
choices-many zero (suc zero ∷ rs) a =
    sum_by-fronts (λ x. 1) (λ b. b) (λ b. choices (0 - b) rs) (range_with_len 0 (min 0 1 + 1))
    ∙ omega (arith, choices-many 0 rs a.1, binomial-zero (sum rs), binomial-zero (sum (1 ∷ rs)))
choices-many (suc c) (suc zero ∷ rs) a =
    let one : min (suc c) 1 + 1 ≡ 2 = omega arith in
    sum_by-fronts (λ x. 1) (λ b. b) (λ b. choices (suc c - b) rs) (range_with_len 0 (min (suc c) 1 + 1))
    ∙ ap (λ n. sum_by (λ b. sum_by (λ x. 1) (choices (suc c - b) rs)) (range_with_len 0 n)) one
    ∙ both (choices-many (suc c) rs a.1) (choices-many c rs a.1)
  where
    both : sum_by {X = List ℕ} (λ x. 1) (choices (suc c) rs) ≡ binomial (sum rs) (suc c) → sum_by {X = List ℕ} (λ x. 1) (choices c rs) ≡ binomial (sum rs) c
        → (0 + sum_by {X = List ℕ} (λ x. 1) (choices (suc c - 0) rs)) + sum_by {X = List ℕ} (λ x. 1) (choices (suc c - (0 + 1)) rs) ≡ binomial (sum (1 ∷ rs)) (suc c)
    both e f =
        let all : sum (1 ∷ rs) ≡ suc (sum rs) = sum_by-cons (λ v. v) 1 rs ∙ omega arith in
        let first : suc c - 0 ≡ suc c = omega arith in
        let second : suc c - (0 + 1) ≡ c = omega arith in
        rw (first, second, all) (omega (arith, e, f, binomial-pascal (sum rs) c))
choices-many c (suc (suc r) ∷ rs) a = absurd (omega (arith, a.0))

-- all that can be taken is taken
pub taken-all : (x r : List ℕ) → fits x r ≡ true → sum x ≡ sum r → x ≡ r
taken-all [] [] f e = refl
taken-all [] (r ∷ rs) f e = absurd (cc f)
taken-all (a ∷ x) [] f e = absurd (cc f)
taken-all (a ∷ x) (r ∷ rs) f e =
    let both = first_and (nat_le a r) (fits x rs) f in
    let within : a ≤ r = leb-true a r both.0 in
    let less : sum x ≤ sum rs = fits-sum x rs both.1 in
    let first = sum_by-cons (λ v. v) a x in
    let second = sum_by-cons (λ v. v) r rs in
    let here : a ≡ r = omega (arith, within, less, first, second, e) in
    let later : sum x ≡ sum rs = omega (arith, here, first, second, e) in
    ap (λ b. b ∷ x) here ∙ ap (λ y. r ∷ y) (taken-all x rs both.1 later)
  where
    fits-sum : (x r : List ℕ) → fits x r ≡ true → sum x ≤ sum r
    fits-sum x r f = (let all = sum-minus r x f in omega (arith, all))

module _ (k : ℕ) (vs : List Assignment) where
  abbrev plan : Plan
  plan = assignment_plan k vs

  pub at-assignment : (g : ℕ) → g < length vs → drop g vs ≡ assignment_at vs g ∷ drop (g + 1) vs
  at-assignment g h = rw add-one (drop-cons vs g no_assignment h)

  pub ahead-here : (g : ℕ) → g < length vs → ahead_at k vs g ≡ before (assignment_at vs g).closes (assignment_at vs g) (ahead_at k vs (g + 1))
  ahead-here g h = ap (ahead k) (at-assignment g h)

  pub assignment_width : KeepsWidth (assignment_floor k vs)
  assignment_width = record {
    first_long = length-replicate k (pos 1);
    next_long = λ g room c e. by (assignment_at vs g).closes room c e;
  }
    where
      by : (b : Bool) (room : List ℤ) (c : List ℕ) → length room ≡ k → length (cond b (unassigned k) (map pos (minus (sizes_in room) c))) ≡ k
      by true room c e = length-replicate k (pos 1)
      by false room c e = length-pos (minus (sizes_in room) c) ∙ length-minus (sizes_in room) c ∙ length-abs room ∙ e

  -- what a reached room has
  pub record IsAssignedRoom (g : ℕ) (room : List ℤ) : Type 0 where
    pub within : g ≤ length vs
    pub long : length room ≡ k
    pub held : room ≡ map pos (sizes_in room)
    pub ones : AreOnes (sizes_in room)
    pub owed : sum (sizes_in room) ≡ (ahead_at k vs g).owed

  module _ (judge : Judge) (a : AreAssignments k vs judge) where
    pub room-first : IsAssignedRoom 0 (unassigned k)
    room-first = record {
      within = omega arith;
      long = length-replicate k (pos 1);
      held = sym (pos-alike k) ∙ ap (map pos) (sym (sizes-unassigned k));
      ones = subst AreOnes (sym (sizes-unassigned k)) (ones-alike k);
      owed = ap sum (sizes-unassigned k) ∙ sum-alike k ∙ sym a.begins;
    }

    pub room-next : (g : ℕ) (room : List ℤ) (c : List ℕ) → g < length vs → IsAssignedRoom g room → IsChoice (assignment_at vs g).count (sizes_in room) c → IsAssignedRoom (g + 1) (cond (assignment_at vs g).closes (unassigned k) (map pos (minus (sizes_in room) c)))
    room-next g room c h r o = by (assignment_at vs g).closes refl
      where
        left : List ℕ
        left = minus (sizes_in room) c

        by : (b : Bool) → (assignment_at vs g).closes ≡ b → IsAssignedRoom (g + 1) (cond b (unassigned k) (map pos (minus (sizes_in room) c)))
        by true e = record {
          within = omega (arith, h);
          long = length-replicate k (pos 1);
          held = sym (pos-alike k) ∙ ap (map pos) (sym (sizes-unassigned k));
          ones = subst AreOnes (sym (sizes-unassigned k)) (ones-alike k);
          owed = ap sum (sizes-unassigned k) ∙ sum-alike k ∙ sym (a.opens g h e);
        }
        by false e =
            let back : sizes_in (map pos (minus (sizes_in room) c)) ≡ minus (sizes_in room) c = sizes-back (minus (sizes_in room) c) in
            let all : (ahead_at k vs g).owed ≡ (assignment_at vs g).count + (ahead_at k vs (g + 1)).owed = ap (λ z. z.owed) (ahead-here g h ∙ ap (λ b. before b (assignment_at vs g) (ahead_at k vs (g + 1))) e) in
            record {
              within = omega (arith, h);
              long = length-pos (minus (sizes_in room) c) ∙ length-minus (sizes_in room) c ∙ length-abs room ∙ r.long;
              held = ap (map pos) (sym back);
              ones = subst AreOnes (sym back) (ones-minus (sizes_in room) c r.ones);
              owed = ap sum back ∙ omega (arith, sum-minus (sizes_in room) c o.fitting, o.whole, r.owed, all);
            }

    pub assigned_room : (g : ℕ) (room : List ℤ) → IsReached (alone plan) g room → IsAssignedRoom g room
    assigned_room zero room r = subst (IsAssignedRoom 0) (sym r) room-first
    assigned_room (suc g) room (j, c, r, h, o, e) =
        rw (e, ← add-one) (room-next g j c h (assigned_room g j r) (chosen (assignment_at vs g).count (sizes_in j) c (is_allowed plan g j c h o)))

    -- no more is to be assigned than is owed
    pub enough : (g : ℕ) (room : List ℤ) → g < length vs → IsAssignedRoom g room → (assignment_at vs g).count ≤ sum (sizes_in room)
    enough g room h r = by (assignment_at vs g).closes refl
      where
        by : (b : Bool) → (assignment_at vs g).closes ≡ b → (assignment_at vs g).count ≤ sum (sizes_in room)
        by true e =
            let all : (ahead_at k vs g).owed ≡ (assignment_at vs g).count = ap (λ z. z.owed) (ahead-here g h ∙ ap (λ b. before b (assignment_at vs g) (ahead_at k vs (g + 1))) e) in
            omega (arith, r.owed, all)
        by false e =
            let all : (ahead_at k vs g).owed ≡ (assignment_at vs g).count + (ahead_at k vs (g + 1)).owed = ap (λ z. z.owed) (ahead-here g h ∙ ap (λ b. before b (assignment_at vs g) (ahead_at k vs (g + 1))) e) in
            omega (arith, r.owed, all)

    pub first_is : (g : ℕ) (room : List ℤ) → g < length vs → IsAssignedRoom g room → plan.floor.choices g room ≡ least (assignment_at vs g).count (sizes_in room) ∷ plan.floor.later g room (least (assignment_at vs g).count (sizes_in room))
    first_is g room h r = least-first (assignment_at vs g).count (sizes_in room) (enough g room h r)

    -- what is ahead of an assignment is so many times what is ahead of the next one
    ways-here : (g : ℕ) (room : List ℤ) → g < length vs → IsAssignedRoom g room → (ahead_at k vs g).ways ≡ binomial (sum (sizes_in room)) (assignment_at vs g).count * (ahead_at k vs (g + 1)).ways
    ways-here g room h r = by (assignment_at vs g).closes refl
      where
        by : (b : Bool) → (assignment_at vs g).closes ≡ b → (ahead_at k vs g).ways ≡ binomial (sum (sizes_in room)) (assignment_at vs g).count * (ahead_at k vs (g + 1)).ways
        by true e =
            let is : ahead_at k vs g ≡ before true (assignment_at vs g) (ahead_at k vs (g + 1)) = ahead-here g h ∙ ap (λ b. before b (assignment_at vs g) (ahead_at k vs (g + 1))) e in
            let all : sum (sizes_in room) ≡ (assignment_at vs g).count = r.owed ∙ ap (λ z. z.owed) is in
            let one : binomial (sum (sizes_in room)) (assignment_at vs g).count ≡ 1 = ap (λ n. binomial n (assignment_at vs g).count) all ∙ binomial-all (assignment_at vs g).count in
            ap (λ z. z.ways) is ∙ rw one (omega arith)
        by false e =
            let is : ahead_at k vs g ≡ before false (assignment_at vs g) (ahead_at k vs (g + 1)) = ahead-here g h ∙ ap (λ b. before b (assignment_at vs g) (ahead_at k vs (g + 1))) e in
            let all : sum (sizes_in room) ≡ (assignment_at vs g).count + (ahead_at k vs (g + 1)).owed = r.owed ∙ ap (λ z. z.owed) is in
            ap (λ z. z.ways) is ∙ ap (λ n. binomial n (assignment_at vs g).count * (ahead_at k vs (g + 1)).ways) (sym all)

    -- what remains of a room goes on in so many ways
    ways-of : (m g : ℕ) (room : List ℤ) → g + m ≡ length vs → IsReached (alone plan) g room → total_weight (alone plan) g room ≡ (ahead_at k vs g).ways
    ways-of zero g room e r =
        let last : g ≡ length vs = omega (arith, e) in
        let none : drop g vs ≡ [] = drop_of_length-le vs {i = g} (omega (arith, e)) in
        ap (λ i. total_weight (alone plan) i room) last ∙ total_weight-last (alone plan) room ∙ ap (λ us. (ahead k us).ways) (sym none)
    ways-of (suc m) g room e r =
        let h : g < length vs = omega (arith, e) in
        let here : IsAssignedRoom g room = assigned_room g room r in
        let c : ℕ = (assignment_at vs g).count in
        let next : ℕ = (ahead_at k vs (g + 1)).ways in
        total_weight-step (alone plan) g room h
        ∙ over_allowed ((alone plan).choices g room) (λ x. 1 * total_weight (alone plan) (g + 1) ((alone plan).next g room x)) (λ x. next * 1)
        (λ x o. ap (λ n. 1 * n) (ways-of m (g + 1) ((alone plan).next g room x) (omega (arith, e)) (reached-next (alone plan) g room x r h o)) ∙ omega arith)
        ∙ ap (sum_by (λ x. next * 1)) (choices_before plan g room h)
        ∙ sum_by-scaled next (λ x. 1) (choices c (sizes_in room))
        ∙ ap (λ n. next * n) (choices-many c (sizes_in room) here.ones)
        ∙ omega (arith, ways-here g room h here)

    pub ways-are : (g : ℕ) (room : List ℤ) → IsReached (alone plan) g room → total_weight (alone plan) g room ≡ (ahead_at k vs g).ways
    ways-are g room r = (let within = (assigned_room g room r).within in ways-of (length vs - g) g room (omega (arith, within)) r)

    some_way : (g : ℕ) (room : List ℤ) → IsReached (alone plan) g room → g < length vs → plan.floor.choices g room ≢ []
    some_way g room r h e = (let first = first_is g room h (assigned_room g room r) in absurd (cc (first, e)))

    pub assignment_plan_sound : IsPlan plan
    assignment_plan_sound = record {
      first_long = assignment_width.first_long;
      next_long = assignment_width.next_long;
      some_choice = some_way;
      different = λ g room r h. choices-differ (assignment_at vs g).count (sizes_in room);
      weighty = λ g room c r h o. omega arith;
      fits = rw (ways-are 0 (unassigned k) refl) a.fits;
    }
