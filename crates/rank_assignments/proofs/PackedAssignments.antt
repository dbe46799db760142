-- One number holds the treatments' sums of every reached key, and within a block choices only add to it.
use Rattle.std.proofs.Common.{◌≡◌, ℕ, zero, suc, ◌+◌, ◌-◌, ◌*◌, ◌/◌, ◌^◌, ◌<◌, ◌≤◌, List, [], ◌∷◌, map, take, drop, get_or, length, Bool, true, false, cond, refl, sym, ◌∙◌, ap, subst, arith, nat_lt}
use Rattle.std.specs.Prelude.{ℤ, pos}
use Rattle.std.specs.Ordering.{int_eq}
use Rattle.std.specs.List.{AllByRecursion, list_any}
use Rattle.std.proofs.lemmas.Bool.{ltb-true}
use Rattle.weights.specs.declared.TheConstants.{MAX}
use Rattle.networks.specs.Judged.{IsJudged}
use Rattle.networks.specs.Network.{Network, IsReached}
use Rattle.networks.specs.declared.verdicts.Judge.{Judge}
use Rattle.room_network.proofs.RoomKeys.{is_key}
use Rattle.room_network.specs.Meanings.{IsMove}
use Rattle.label_network.specs.Meanings.{sizes_in}
use Rattle.label_network.proofs.Narrowing.{chosen}
use Rattle.label_network.proofs.Rows.{length-abs}
use Rattle.symmetry_reduction.specs.GroupSums.{AreHeld}
use Rattle.networks.specs.PartialSums.{plus}
use Rattle.symmetry_reduction.specs.OrderedGroups.{stay}
use Rattle.symmetry_reduction.specs.declared.orders.Order.TheVariants.{Sums, SumsWhereAllRemain}
use Rattle.packed_keys.specs.PackedGroups.{AddsSteps}
use Rattle.packed_keys.specs.PackedKeys.{IsDigit, MayBePacked}
use Rattle.packed_keys.proofs.Widths.{bits-few, bits-fit}
use Rattle.rank_assignments.specs.Reflections.{AreReflections}
use Rattle.rank_assignments.specs.Assignments.{AreAssignments, gained, has_room_for, one_each, order_for, raises, assigned_network, assigned_sums, assignment_at, assignment_network, unassigned}
use Rattle.rank_assignments.specs.Upright.{reflection_at, upright}
use Rattle.rank_assignments.specs.declared.assignment.Assignment.{Assignment}
use Rattle.rank_assignments.proofs.AssignedNarrows.{IsAssigned, assigned}
use Rattle.rank_assignments.proofs.AssignmentRooms.{assignment_width}
use Rattle.rank_assignments.proofs.AssignmentSteps.{length-raises}

are-digits : (base bound : ℕ) (zs : List ℤ) → bound < base → zs ≡ map pos (sizes_in zs) → AllByRecursion (λ z. z ≤ bound) (sizes_in zs) → AllByRecursion (IsDigit base) zs
are-digits base bound [] h e a = tt
are-digits base bound (z ∷ zs) h e a = (
  record { held = ap (λ ys. get_or ys 0 (pos 0)) e; small = omega (arith, h, a.0) },
  are-digits base bound zs h (ap (drop 1) e) a.1,
)

within : (n : Network) (g : ℕ) (key : List ℤ) → IsReached n g key → g ≤ n.count
within n zero key r = omega arith
within n (suc g) key r = omega (arith, r.3)

raises-held : (v : ℕ) (c : List ℕ) → AreHeld (raises v c)
raises-held v [] = tt
raises-held v (n ∷ c) = (refl, raises-held v c)

gained-plus : (v : ℕ) (c sums : List ℕ) → length c ≡ length sums → map pos (gained v c sums) ≡ plus (map pos sums) (raises v c)
gained-plus v [] [] l = refl
gained-plus v [] (s ∷ sums) l = absurd (omega (arith, l))
gained-plus v (n ∷ c) [] l = absurd (omega (arith, l))
gained-plus v (n ∷ c) (s ∷ sums) l = ap (λ zs. pos (s + v * n) ∷ zs) (gained-plus v c sums (omega (arith, l)))

-- between blocks no treatment is assigned
all-unassigned : (k : ℕ) → list_any (λ r. int_eq r (pos 0)) (unassigned k) ≡ false
all-unassigned zero = refl
all-unassigned (suc k) = all-unassigned k

stays-within : (k : ℕ) (closes : Bool) (room : List ℤ) → stay (order_for k) (cond closes (unassigned k) room) ≡ true → closes ≡ false
stays-within k closes room = by (nat_lt k 7) closes
  where
    by : (b closes : Bool) → stay (cond b SumsWhereAllRemain Sums) (cond closes (unassigned k) room) ≡ true → closes ≡ false
    by true true e = absurd (cc (sym e ∙ all-unassigned k))
    by true false e = refl
    by false closes e = absurd (cc e)

module _ (k : ℕ) (vs : List Assignment) (judge : Judge) (a : AreAssignments k vs judge) (reflections : List ℕ) (m : AreReflections k vs reflections) where
  -- a reached key in order is one of the assignments, whose sums are digits
  pub packed-sums : 2 ≤ k → has_room_for k (length vs) ≡ true → IsJudged (assigned_network k vs reflections judge)
      → ((g : ℕ) (key : List ℤ) → IsReached (assigned_network k vs reflections judge) g key → IsReached (assignment_network k vs reflections judge) g key) → MayBePacked k (127 / k) (assigned_network k vs reflections judge)
  packed-sums some room judged reached = record {
    room = omega (arith, a.narrow);
    within = omega arith;
    few = omega (arith, a.narrow);
    narrow = bits-few k some;
    fits = subst (λ i. (2 ^ (127 / k)) ^ i ≤ MAX + 1) (twice k) (bits-fit k);
    judged = judged;
    each = λ g key r. (let here : IsReached (assignment_network k vs reflections judge) g key = reached g key r in
        let s : IsAssigned k vs judge a g (take k key) (drop k key) = assigned k vs judge a reflections m g (take k key) (drop k key) (is_key (assigned_sums k vs reflections judge) one_each (assignment_width k vs) g key here).reached in
        are-digits (2 ^ (127 / k)) (16 * g) (drop k key) (omega (arith, within (assignment_network k vs reflections judge) g key here, ltb-true (16 * length vs) (2 ^ (127 / k)) room)) s.held s.small);
  }
    where
      twice : (k : ℕ) → k ≡ k + k - k
      twice k = omega arith

  -- within a block sums are not reflected
  no-reflection : (g : ℕ) → g < length vs → (assignment_at vs g).closes ≡ false → reflection_at reflections g ≡ 0
  no-reflection g h e = by (reflection_at reflections g) refl
    where
      by : (n : ℕ) → reflection_at reflections g ≡ n → n ≡ 0
      by zero f = refl
      by (suc n) f = absurd (cc (sym e ∙ (m.each g h (omega (arith, f))).closes))

  -- so there a choice adds a number to those that get it
  pub assigned-adds : AddsSteps (order_for k) (assigned_sums k vs reflections judge)
  assigned-adds = record {
    steps = refl;
    wide = λ g room c p v. length-raises (assignment_at vs g).value c ∙ long g room c p v;
    held = λ g room c p v. raises-held (assignment_at vs g).value c;
    moves = λ g room c p v stays. (let n : ℕ = (assignment_at vs g).value in
        let s : IsAssigned k vs judge a g room p = assigned k vs judge a reflections m g room p v.reached in
        ap (λ number. map pos (upright number (gained n c (sizes_in p)))) (no-reflection g v.before (stays-within k (assignment_at vs g).closes _ stays))
        ∙ gained-plus n c (sizes_in p) (long g room c p v ∙ sym (length-abs p ∙ s.long))
        ∙ ap (λ q. plus q (raises n c)) (sym s.held));
  }
    where
      long : (g : ℕ) (room : List ℤ) (c : List ℕ) (p : List ℤ) → IsMove (assigned_sums k vs reflections judge) g room c p → length c ≡ k
      long g room c p v = (chosen (assignment_at vs g).count (sizes_in room) c v.allowed).long ∙ length-abs room ∙ (assigned k vs judge a reflections m g room p v.reached).placed.long
