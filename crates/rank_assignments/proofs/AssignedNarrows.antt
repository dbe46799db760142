-- The intervals of the treatments' sums narrow along every choice, to the squares of the sums.
use Rattle.std.proofs.Common.{◌≡◌, ℕ, zero, suc, ◌+◌, ◌*◌, ◌<◌, ◌≤◌, List, [], map, drop, length, replicate, Bool, true, false, cond, refl, sym, ◌∙◌, ap, subst, arith, add-one, drop_of_length-le}
use Rattle.std.specs.Prelude.{ℤ, pos}
use Rattle.std.specs.List.{sum_by, sum, AllByRecursion}
use Rattle.std.proofs.lemmas.List.{length-replicate}
use Rattle.std.proofs.lemmas.List.Sums.{sum_by-cons}
use Rattle.weights.specs.Grouped.{minus}
use Rattle.weights.proofs.ChoiceLists.{IsChoice}
use Rattle.room_network.specs.Meanings.{AreReached, IsMeasure}
use Rattle.label_network.specs.Meanings.{sizes_in}
use Rattle.label_network.proofs.LabelPlans.{sizes-back}
use Rattle.label_network.proofs.Narrowing.{chosen}
use Rattle.label_network.proofs.Rows.{length-abs, length-pos}
use Rattle.networks.specs.declared.verdicts.Judge.{Judge}
use Rattle.rank_assignments.specs.Reflections.{AreReflections, IsReflection}
use Rattle.rank_assignments.specs.Assignments.{AreAssignments, ahead, ahead_at, before, gained, no_assignment, centre, given, least_squares, most_squares, over_ends, assigned_sums, assignment_at, unassigned}
use Rattle.rank_assignments.specs.Upright.{reflection_at, reflected, upright}
use Rattle.networks.specs.Distances.{correction, far_square, near_square, squared}
use Rattle.rank_assignments.specs.declared.assignment.Assignment.{Assignment}
use Rattle.rank_assignments.specs.declared.assignment.Ahead.{Ahead}
use Rattle.rank_assignments.proofs.AssignmentRooms.{IsAssignedRoom, ahead-here, at-assignment, room-first, room-next, sizes-unassigned, taken-all}
use Rattle.rank_assignments.proofs.UprightSums.{IsLeaning, IsMidway, either, length-reflected, reflected-ends, reflected-small, sum-reflected}
use Rattle.networks.proofs.SquaredDistances.{Falls, Rises, far-end, far-falls, mean-within, near-end, near-rises}
use Rattle.rank_assignments.proofs.SumEnds.{ends-rise, ends-fall, ends-closed, ends-none, near-midway, far-midway, length-gained, sum-gained, sum-zeros, gained-small, zeros-small, sizes-zeros, pos-zeros, pos-rise}

module _ (k : ℕ) (vs : List Assignment) (judge : Judge) (a : AreAssignments k vs judge) where
  -- what a reached room and partial have
  pub record IsAssigned (g : ℕ) (room partial : List ℤ) : Type 0 where
    pub placed : IsAssignedRoom k vs g room
    pub long : length partial ≡ k
    pub held : partial ≡ map pos (sizes_in partial)
    pub small : AllByRecursion (λ z. z ≤ 16 * g) (sizes_in partial)
    pub whole : sum (sizes_in partial) + given (drop g vs) ≡ given vs

  value-small : (g : ℕ) → g < length vs → (assignment_at vs g).value ≤ 16
  value-small g h = a.small g no_assignment h

  pub assigned-first : IsAssigned 0 (unassigned k) (replicate k (pos 0))
  assigned-first = record {
    placed = room-first k vs judge a;
    long = length-replicate k (pos 0);
    held = sym (pos-zeros k) ∙ ap (map pos) (sym (sizes-zeros k));
    small = subst (AllByRecursion (λ z. z ≤ 16 * 0)) (sym (sizes-zeros k)) (zeros-small k (16 * 0));
    whole = omega (arith, ap sum (sizes-zeros k), sum-zeros k);
  }

  -- a number more is given
  pub gained-next : (g : ℕ) (room partial : List ℤ) (c : List ℕ) → g < length vs → IsAssigned g room partial → IsChoice (assignment_at vs g).count (sizes_in room) c
      → IsAssigned (g + 1) (cond (assignment_at vs g).closes (unassigned k) (map pos (minus (sizes_in room) c))) (map pos (gained (assignment_at vs g).value c (sizes_in partial)))
  gained-next g room partial c h s o =
      let sums : List ℕ = gained (assignment_at vs g).value c (sizes_in partial) in
      let back : sizes_in (map pos sums) ≡ sums = sizes-back sums in
      let more : 16 * g + 16 ≡ 16 * (g + 1) = omega arith in
      let v : Assignment = assignment_at vs g in
      let level : length c ≡ length (sizes_in partial) = o.long ∙ length-abs room ∙ s.placed.long ∙ sym (length-abs partial ∙ s.long) in
      let gain : sum sums ≡ sum (sizes_in partial) + v.value * v.count = sum-gained v.value c (sizes_in partial) level ∙ ap (λ n. sum (sizes_in partial) + v.value * n) o.whole in
      let here : given (drop g vs) ≡ v.value * v.count + given (drop (g + 1) vs) = ap given (at-assignment k vs g h) ∙ sum_by-cons (λ (u : Assignment). u.value * u.count) v (drop (g + 1) vs) in
      record {
        placed = room-next k vs judge a g room c h s.placed o;
        long = length-pos sums ∙ length-gained (assignment_at vs g).value c (sizes_in partial) ∙ length-abs partial ∙ s.long;
        held = ap (map pos) (sym back);
        small = subst (AllByRecursion (λ z. z ≤ 16 * (g + 1))) (sym back) (subst (λ t. AllByRecursion (λ z. z ≤ t) sums) more (gained-small (assignment_at vs g).value (16 * g) c (sizes_in room) (sizes_in partial) (value-small g h) o.fitting s.placed.ones s.small));
        whole = omega (arith, ap sum back, gain, here, s.whole);
      }

  -- and where the sums are reflected
  upright-assigned : (g c : ℕ) (room : List ℤ) (s : List ℕ) → (0 < c → IsReflection k vs g c) → IsAssigned (g + 1) room (map pos s) → IsAssigned (g + 1) room (map pos (upright c s))
  upright-assigned g c room s i h = either (λ x. IsAssigned (g + 1) room (map pos x)) c s (λ l. over (i l.some) l.within) h
    where
      over : IsReflection k vs g c → AllByRecursion (λ n. n ≤ c) s → IsAssigned (g + 1) room (map pos (reflected c s))
      over j w =
          let back : sizes_in (map pos (reflected c s)) ≡ reflected c s = sizes-back (reflected c s) in
          let many : length s ≡ k = sym (length-pos s) ∙ h.long in
          let both : sum (reflected c s) + sum s ≡ k * c = sum-reflected c s w ∙ ap (λ n. n * c) many in
          record {
            placed = h.placed;
            long = length-pos (reflected c s) ∙ length-reflected c s ∙ many;
            held = ap (map pos) (sym back);
            small = subst (AllByRecursion (λ z. z ≤ 16 * (g + 1))) (sym back) (reflected-small c (16 * (g + 1)) s j.small);
            whole = omega (arith, ap sum back, ap sum (sizes-back s), both, h.whole, j.half);
          }

  module _ (reflections : List ℕ) (m : AreReflections k vs reflections) where
    pub assigned-next : (g : ℕ) (room partial : List ℤ) (c : List ℕ) → g < length vs → IsAssigned g room partial → IsChoice (assignment_at vs g).count (sizes_in room) c
        → IsAssigned (g + 1) (cond (assignment_at vs g).closes (unassigned k) (map pos (minus (sizes_in room) c))) (map pos (upright (reflection_at reflections g) (gained (assignment_at vs g).value c (sizes_in partial))))
    assigned-next g room partial c h s o =
        upright-assigned g (reflection_at reflections g) (cond (assignment_at vs g).closes (unassigned k) (map pos (minus (sizes_in room) c))) (gained (assignment_at vs g).value c (sizes_in partial)) (m.each g h) (gained-next g room partial c h s o)

    pub assigned : (g : ℕ) (room partial : List ℤ) → AreReached (assigned_sums k vs reflections judge) g room partial → IsAssigned g room partial
    assigned zero room partial r = rw (r.0, r.1) assigned-first
    assigned (suc g) room partial (j, q, c, r, h, o, e, f) =
        rw (e, f, ← add-one) (assigned-next g j q c h (assigned g j q r) (chosen (assignment_at vs g).count (sizes_in j) c o))

  -- what a choice leaves
  abbrev left : ℕ → List ℤ → List ℕ → List ℤ
  left g room c = cond (assignment_at vs g).closes (unassigned k) (map pos (minus (sizes_in room) c))

  -- the last number of a block goes to all that are left
  all-of : (g : ℕ) (room : List ℤ) (c : List ℕ) → g < length vs → IsAssignedRoom k vs g room → IsChoice (assignment_at vs g).count (sizes_in room) c → (assignment_at vs g).closes ≡ true → c ≡ sizes_in room
  all-of g room c h r o e =
      let is : ahead_at k vs g ≡ before true (assignment_at vs g) (ahead_at k vs (g + 1)) = ahead-here k vs g h ∙ ap (λ b. before b (assignment_at vs g) (ahead_at k vs (g + 1))) e in
      taken-all c (sizes_in room) o.fitting (o.whole ∙ sym (r.owed ∙ ap (λ (z : Ahead). z.owed) is))

  -- what a choice makes of the ends
  module _ (f : ℕ → ℕ → ℕ) (g : ℕ) (room partial : List ℤ) (c : List ℕ) (h : g < length vs) (s : IsAssigned g room partial) (o : IsChoice (assignment_at vs g).count (sizes_in room) c) where
    abbrev ends-there : List ℤ → ℕ
    ends-there next = over_ends f (ahead_at k vs (g + 1)) (sizes_in next) (gained (assignment_at vs g).value c (sizes_in partial))

    step-closed : (assignment_at vs g).closes ≡ true → over_ends f (ahead_at k vs g) (sizes_in room) (sizes_in partial) ≡ ends-there (unassigned k)
    step-closed e =
        let v : Assignment = assignment_at vs g in
        let next : Ahead = ahead_at k vs (g + 1) in
        let is : ahead_at k vs g ≡ before true v next = ahead-here k vs g h ∙ ap (λ b. before b v next) e in
        ap (λ z. over_ends f z (sizes_in room) (sizes_in partial)) is
        ∙ ends-closed f v next k (sizes_in room) (sizes_in partial) (length-abs room ∙ s.placed.long) (length-abs partial ∙ s.long)
        ∙ ap (λ r. over_ends f next r (gained v.value (sizes_in room) (sizes_in partial))) (sym (sizes-unassigned k))
        ∙ ap (λ x. over_ends f next (sizes_in (unassigned k)) (gained v.value x (sizes_in partial))) (sym (all-of g room c h s.placed o e))

    step-open : (assignment_at vs g).closes ≡ false → over_ends f (ahead_at k vs g) (sizes_in room) (sizes_in partial) ≡ over_ends f (before false (assignment_at vs g) (ahead_at k vs (g + 1))) (sizes_in room) (sizes_in partial)
    step-open e =
        let v : Assignment = assignment_at vs g in
        let next : Ahead = ahead_at k vs (g + 1) in
        ap (λ z. over_ends f z (sizes_in room) (sizes_in partial)) (ahead-here k vs g h ∙ ap (λ b. before b v next) e)

    left-back : over_ends f (ahead_at k vs (g + 1)) (minus (sizes_in room) c) (gained (assignment_at vs g).value c (sizes_in partial)) ≡ ends-there (map pos (minus (sizes_in room) c))
    left-back = ap (λ r. over_ends f (ahead_at k vs (g + 1)) r (gained (assignment_at vs g).value c (sizes_in partial))) (sym (sizes-back (minus (sizes_in room) c)))

    step-rise : Rises f → over_ends f (ahead_at k vs g) (sizes_in room) (sizes_in partial) ≤ ends-there (left g room c)
    step-rise m = by (assignment_at vs g).closes refl
      where
        by : (b : Bool) → (assignment_at vs g).closes ≡ b → over_ends f (ahead_at k vs g) (sizes_in room) (sizes_in partial) ≤ ends-there (cond b (unassigned k) (map pos (minus (sizes_in room) c)))
        by true e = omega (arith, step-closed e)
        by false e = omega (arith, step-open e, left-back, ends-rise f m (assignment_at vs g) (ahead_at k vs (g + 1)) (sizes_in room) c (sizes_in partial) o.fitting)

    step-fall : Falls f → ends-there (left g room c) ≤ over_ends f (ahead_at k vs g) (sizes_in room) (sizes_in partial)
    step-fall m = by (assignment_at vs g).closes refl
      where
        by : (b : Bool) → (assignment_at vs g).closes ≡ b → ends-there (cond b (unassigned k) (map pos (minus (sizes_in room) c))) ≤ over_ends f (ahead_at k vs g) (sizes_in room) (sizes_in partial)
        by true e = omega (arith, step-closed e)
        by false e = omega (arith, step-open e, left-back, ends-fall f m (assignment_at vs g) (ahead_at k vs (g + 1)) (sizes_in room) c (sizes_in partial) o.fitting)

  module _ (g : ℕ) (room partial : List ℤ) (c : List ℕ) (h : g < length vs) (s : IsAssigned g room partial) (o : IsChoice (assignment_at vs g).count (sizes_in room) c) where
    low-step : least_squares k vs (ahead_at k vs g) (sizes_in room) (sizes_in partial) ≤ least_squares k vs (ahead_at k vs (g + 1)) (sizes_in (left g room c)) (gained (assignment_at vs g).value c (sizes_in partial))
    low-step = omega (arith, step-rise (near_square (centre k vs)) g room partial c h s o (near-rises (centre k vs)))

    high-step : most_squares k vs (ahead_at k vs (g + 1)) (sizes_in (left g room c)) (gained (assignment_at vs g).value c (sizes_in partial)) ≤ most_squares k vs (ahead_at k vs g) (sizes_in room) (sizes_in partial)
    high-step = omega (arith, step-fall (far_square (centre k vs)) g room partial c h s o (far-falls (centre k vs)))

  -- no end changes where the sums are reflected after a choice
  module _ (g c : ℕ) (room : List ℤ) (x s : List ℕ) (i : 0 < c → IsReflection k vs g c) where
    abbrev there : (ℕ → ℕ → ℕ) → List ℕ → ℕ
    there f y = over_ends f (ahead_at k vs (g + 1)) (sizes_in (left g room x)) y

    all-wait : (f : ℕ → ℕ → ℕ) (y : List ℕ) → (assignment_at vs g).closes ≡ true → there f y ≡ over_ends f (ahead_at k vs (g + 1)) (replicate k 1) y
    all-wait f y e =
        ap (λ b. over_ends f (ahead_at k vs (g + 1)) (sizes_in (cond b (unassigned k) (map pos (minus (sizes_in room) x)))) y) e
        ∙ ap (λ r. over_ends f (ahead_at k vs (g + 1)) r y) (sizes-unassigned k)

    reflection-ends : (f : ℕ → ℕ → ℕ) → IsMidway f (centre k vs) → IsLeaning c s → there f (reflected c s) ≡ there f s
    reflection-ends f mid l =
        all-wait f (reflected c s) (i l.some).closes
        ∙ reflected-ends f (centre k vs) mid (ahead_at k vs (g + 1)) c (i l.some).amid k s l.within
        ∙ sym (all-wait f s (i l.some).closes)

    same-ends : (f : ℕ → ℕ → ℕ) → IsMidway f (centre k vs) → correction k (centre k vs) (given vs) + there f (sizes_in (map pos (upright c s))) ≡ correction k (centre k vs) (given vs) + there f s
    same-ends f mid =
        ap (λ y. correction k (centre k vs) (given vs) + there f y) (sizes-back (upright c s))
        ∙ ap (λ n. correction k (centre k vs) (given vs) + n) (either (λ y. there f y ≡ there f s) c s (reflection-ends f mid) refl)

    same-low : least_squares k vs (ahead_at k vs (g + 1)) (sizes_in (left g room x)) (sizes_in (map pos (upright c s))) ≡ least_squares k vs (ahead_at k vs (g + 1)) (sizes_in (left g room x)) s
    same-low = same-ends (near_square (centre k vs)) (near-midway (centre k vs))

    same-high : most_squares k vs (ahead_at k vs (g + 1)) (sizes_in (left g room x)) (sizes_in (map pos (upright c s))) ≡ most_squares k vs (ahead_at k vs (g + 1)) (sizes_in (left g room x)) s
    same-high = same-ends (far_square (centre k vs)) (far-midway (centre k vs))

  none-ahead : ahead_at k vs (length vs) ≡ ahead k []
  none-ahead = ap (ahead k) (drop_of_length-le vs {i = length vs} (omega arith))

  as-long : (g : ℕ) (room partial : List ℤ) → IsAssigned g room partial → length (sizes_in room) ≡ length (sizes_in partial)
  as-long g room partial s = length-abs room ∙ s.placed.long ∙ sym (length-abs partial ∙ s.long)

  all-given : (room partial : List ℤ) → IsAssigned (length vs) room partial → sum (sizes_in partial) ≡ given vs
  all-given room partial s =
      let none : given (drop (length vs) vs) ≡ 0 = ap given (drop_of_length-le vs {i = length vs} (omega arith)) in
      omega (arith, s.whole, none)

  low-end : (room partial : List ℤ) → IsAssigned (length vs) room partial → least_squares k vs (ahead_at k vs (length vs)) (sizes_in room) (sizes_in partial) ≡ sum_by squared (sizes_in partial)
  low-end room partial s =
      let level : length (sizes_in room) ≡ length (sizes_in partial) = as-long (length vs) room partial s in
      let near : over_ends (near_square (centre k vs)) (ahead k []) (sizes_in room) (sizes_in partial) ≡ sum_by (λ t. near_square (centre k vs) t t) (sizes_in partial) = ends-none (near_square (centre k vs)) k (sizes_in room) (sizes_in partial) level in
      ap (λ z. least_squares k vs z (sizes_in room) (sizes_in partial)) none-ahead
      ∙ omega (arith, near, near-end k (centre k vs) (given vs) (sizes_in partial) (mean-within k (given vs)) (length-abs partial ∙ s.long) (all-given room partial s))

  high-end : (room partial : List ℤ) → IsAssigned (length vs) room partial → most_squares k vs (ahead_at k vs (length vs)) (sizes_in room) (sizes_in partial) ≡ sum_by squared (sizes_in partial)
  high-end room partial s =
      let level : length (sizes_in room) ≡ length (sizes_in partial) = as-long (length vs) room partial s in
      let far : over_ends (far_square (centre k vs)) (ahead k []) (sizes_in room) (sizes_in partial) ≡ sum_by (λ t. far_square (centre k vs) t t) (sizes_in partial) = ends-none (far_square (centre k vs)) k (sizes_in room) (sizes_in partial) level in
      ap (λ z. most_squares k vs z (sizes_in room) (sizes_in partial)) none-ahead
      ∙ omega (arith, far, far-end k (centre k vs) (given vs) (sizes_in partial) (mean-within k (given vs)) (length-abs partial ∙ s.long) (all-given room partial s))

  module _ (reflections : List ℕ) (m : AreReflections k vs reflections) where
    after : (g : ℕ) (room partial : List ℤ) → AreReached (assigned_sums k vs reflections judge) g room partial → IsAssigned g room partial
    after g room partial x = assigned reflections m g room partial x

    pub assigned_measure : IsMeasure (assigned_sums k vs reflections judge)
    assigned_measure = record {
      wide = λ g r p x. (after g r p x).long;
      low_rises = λ g r p c x h o.
          pos-rise _ _ (subst (λ n. least_squares k vs (ahead_at k vs g) (sizes_in r) (sizes_in p) ≤ n) (sym (same-low g (reflection_at reflections g) r c (gained (assignment_at vs g).value c (sizes_in p)) (m.each g h)))
          (low-step g r p c h (after g r p x) (chosen (assignment_at vs g).count (sizes_in r) c o)));
      high_falls = λ g r p c x h o.
          pos-rise _ _ (subst (λ n. n ≤ most_squares k vs (ahead_at k vs g) (sizes_in r) (sizes_in p)) (sym (same-high g (reflection_at reflections g) r c (gained (assignment_at vs g).value c (sizes_in p)) (m.each g h)))
          (high-step g r p c h (after g r p x) (chosen (assignment_at vs g).count (sizes_in r) c o)));
      low_ends = λ r p x. ap pos (low-end r p (after (length vs) r p x));
      high_ends = λ r p x. ap pos (high-end r p (after (length vs) r p x));
    }
