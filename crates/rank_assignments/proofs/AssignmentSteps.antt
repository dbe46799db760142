-- Steps of the bodies that build assignments and look them up.
use Rattle.std.proofs.Common.{◌≡◌, ℕ, zero, suc, ◌+◌, ◌-◌, ◌*◌, ◌<◌, ◌≤◌, List, [], ◌∷◌, ◌++◌, map, take, drop, length, get_or, Bool, true, false, inl, inr, refl, sym, ◌∙◌, ap, subst, arith, add-one, length-append, nat_le, div-le_self}
use Rattle.std.specs.Prelude.{ℤ, pos, nat_abs, All}
use Rattle.std.specs.List.{sum, AllByRecursion}
use Rattle.std.proofs.Math.Nat.{mul-le-mul}
use Rattle.std.proofs.Math.Seq.{get_or-append_seam}
use Rattle.std.proofs.lemmas.Bool.{cases_lt}
use Rattle.std.proofs.lemmas.Int.{ints}
use Rattle.std.proofs.lemmas.List.{get_or_append_left, get_or_default, take_all, length-drop}
use Rattle.std.proofs.lemmas.List.Elements.{All-from_recursion, recursion_from_All}
use Rattle.std.proofs.lemmas.List.Sums.{sum_by-cons, sum_by_more}
use Rattle.weights.specs.declared.TheConstants.{MAX}
use Rattle.weights.specs.Grouped.{fits}
use Rattle.weights.specs.Numbers.{binomial}
use Rattle.weights.proofs.Binomials.{binomial-positive}
use Rattle.weights.proofs.ChoiceLists.{IsChoice}
use Rattle.weights.proofs.Sized.{first_and}
use Rattle.networks.specs.declared.verdicts.Judge.{Judge}
use Rattle.label_network.specs.LabelSteps.{AreSizes}
use Rattle.label_network.specs.Meanings.{sizes_in}
use Rattle.label_network.proofs.Rows.{abs-at, length-abs, pos-at, get-within}
use Rattle.label_network.proofs.Sizes.{sizes-of_pos}
use Rattle.rank_assignments.specs.BoundSteps.{IsSmall}
use Rattle.networks.specs.Distances.{correction, correction_limit, square_limit}
use Rattle.rank_assignments.specs.Assignments.{AreAhead, AreMarks, AreAssignments, AreSums, IsSmallAhead, ahead, ahead_at, before, centre, gained, given, no_assignment, over_ends, raises, assignment_at, assignments}
use Rattle.rank_assignments.specs.declared.assignment.Assignment.{Assignment}
use Rattle.rank_assignments.specs.declared.assignment.Ahead.{Ahead}
use Rattle.rank_assignments.proofs.AssignmentRooms.{AreOnes, IsAssignedRoom, ahead-here}
use Rattle.rank_assignments.proofs.AssignedNarrows.{IsAssigned}

-- ---- what is ahead is small

before-some : (b : Bool) (v : Assignment) (a : Ahead) → 1 ≤ a.ways → 1 ≤ (before b v a).ways
before-some true v a h = h
before-some false v a h =
    let one : 1 ≤ binomial (v.count + a.owed) v.count = binomial-positive (v.count + a.owed) v.count (omega arith) in
    let all : 1 * 1 ≤ binomial (v.count + a.owed) v.count * a.ways = mul-le-mul one h in
    omega (arith, all)

ways-some : (k : ℕ) (vs : List Assignment) → 1 ≤ (ahead k vs).ways
ways-some k [] = omega arith
ways-some k (v ∷ vs) = before-some v.closes v (ahead k vs) (ways-some k vs)

-- there are no fewer ways before a number than after it
before-more : (b : Bool) (v : Assignment) (a : Ahead) → a.ways ≤ (before b v a).ways
before-more true v a = omega arith
before-more false v a =
    let one : 1 ≤ binomial (v.count + a.owed) v.count = binomial-positive (v.count + a.owed) v.count (omega arith) in
    let same : a.ways ≤ a.ways = omega arith in
    let all : 1 * a.ways ≤ binomial (v.count + a.owed) v.count * a.ways = mul-le-mul one same in
    omega (arith, all)

record AreEnds (n : ℕ) (a : Ahead) : Type 0 where
  least : a.least ≤ 16
  most : a.most ≤ 16
  later_least : a.later_least ≤ 16 * n
  later_most : a.later_most ≤ 16 * n

before-ends : (b : Bool) (v : Assignment) (a : Ahead) (n : ℕ) → v.value ≤ 16 → AreEnds n a → AreEnds (suc n) (before b v a)
before-ends true v a n h e = record { least = h; most = h; later_least = omega (arith, e.least, e.later_least); later_most = omega (arith, e.most, e.later_most) }
before-ends false v a n h e = record { least = omega (arith, h, e.least); most = omega (arith, h, e.most); later_least = omega (arith, e.later_least); later_most = omega (arith, e.later_most) }

ends-small : (k : ℕ) (vs : List Assignment) → AllByRecursion (λ (v : Assignment). v.value ≤ 16) vs → AreEnds (length vs) (ahead k vs)
ends-small k [] a = record { least = omega arith; most = omega arith; later_least = omega arith; later_most = omega arith }
ends-small k (v ∷ vs) a = before-ends v.closes v (ahead k vs) (length vs) a.0 (ends-small k vs a.1)

dropped : {X : Type 0} (P : X → Type 0) (g : ℕ) (xs : List X) → AllByRecursion P xs → AllByRecursion P (drop g xs)
dropped P zero xs a = a
dropped P (suc g) [] a = tt
dropped P (suc g) (x ∷ xs) a = dropped P g xs a.1

module _ (k : ℕ) (vs : List Assignment) (judge : Judge) (a : AreAssignments k vs judge) where
  record AreBounded (z : Ahead) : Type 0 where
    owed : z.owed ≤ k
    ways : z.ways ≤ MAX

  bounded-next : (g : ℕ) → g < length vs → AreBounded (ahead_at k vs g) → AreBounded (ahead_at k vs (g + 1))
  bounded-next g h b = by (assignment_at vs g).closes refl
    where
      next : Ahead
      next = ahead_at k vs (g + 1)

      by : (c : Bool) → (assignment_at vs g).closes ≡ c → AreBounded (ahead_at k vs (g + 1))
      by true e =
          let is : ahead_at k vs g ≡ before true (assignment_at vs g) (ahead_at k vs (g + 1)) = ahead-here k vs g h ∙ ap (λ c. before c (assignment_at vs g) (ahead_at k vs (g + 1))) e in
          record {
            owed = omega (arith, a.opens g h e);
            ways = omega (arith, b.ways, ap (λ (z : Ahead). z.ways) is);
          }
      by false e =
          let is : ahead_at k vs g ≡ before false (assignment_at vs g) (ahead_at k vs (g + 1)) = ahead-here k vs g h ∙ ap (λ c. before c (assignment_at vs g) (ahead_at k vs (g + 1))) e in
          record {
            owed = omega (arith, b.owed, ap (λ (z : Ahead). z.owed) is);
            ways = omega (arith, b.ways, ap (λ (z : Ahead). z.ways) is, before-more false (assignment_at vs g) (ahead_at k vs (g + 1)));
          }

  bounded-at : (g : ℕ) → g ≤ length vs → AreBounded (ahead_at k vs g)
  bounded-at zero h = record { owed = omega (arith, a.begins); ways = a.fits }
  bounded-at (suc g) h = subst (λ i. AreBounded (ahead_at k vs i)) (add-one g) (bounded-next g (omega (arith, h)) (bounded-at g (omega (arith, h))))

  pub small-ahead : (g : ℕ) → g ≤ length vs → IsSmallAhead (ahead_at k vs g)
  small-ahead g h =
      let b : AreBounded (ahead_at k vs g) = bounded-at g h in
      let e : AreEnds (length (drop g vs)) (ahead_at k vs g) = ends-small k (drop g vs) (dropped (λ (v : Assignment). v.value ≤ 16) g vs (recursion_from_All (λ (v : Assignment). v.value ≤ 16) vs a.small)) in
      let less : length (drop g vs) ≤ 170000 = omega (arith, length-drop g vs, a.few) in
      record {
        owed = omega (arith, b.owed, a.narrow);
        some = ways-some k (drop g vs);
        fits = b.ways;
        least = e.least;
        most = e.most;
        later_least = omega (arith, e.later_least, less);
        later_most = omega (arith, e.later_most, less);
      }

  -- ---- the table

  pub found-ahead : (done i : ℕ) (table : List Ahead) (z : Ahead) → AreAhead k vs done table → i ≤ done → z ≡ get_or table i z → z ≡ ahead_at k vs (length vs - i)
  found-ahead done i table z t h e = e ∙ t.each i z h

  -- the stage whose turn it is
  abbrev stage : ℕ → ℕ
  stage done = length vs - done - 1

  here-is : (done : ℕ) → done < length vs → ahead_at k vs (length vs - (done + 1)) ≡ before (assignment_at vs (stage done)).closes (assignment_at vs (stage done)) (ahead_at k vs (length vs - done))
  here-is done h =
      let before_it : length vs - (done + 1) ≡ stage done = omega arith in
      let after_it : stage done + 1 ≡ length vs - done = omega (arith, h) in
      ap (ahead_at k vs) before_it ∙ ahead-here k vs (stage done) (omega (arith, h)) ∙ ap (λ g. before (assignment_at vs (stage done)).closes (assignment_at vs (stage done)) (ahead_at k vs g)) after_it

  pub ahead-small : (done : ℕ) → done < length vs → IsSmallAhead (before (assignment_at vs (stage done)).closes (assignment_at vs (stage done)) (ahead_at k vs (length vs - done)))
  ahead-small done h = subst IsSmallAhead (here-is done h) (small-ahead (length vs - (done + 1)) (omega arith))

  pub ahead-more : (done : ℕ) (table : List Ahead) (z : Ahead) → done < length vs → AreAhead k vs done table → z ≡ before (assignment_at vs (stage done)).closes (assignment_at vs (stage done)) (ahead_at k vs (length vs - done)) → AreAhead k vs (done + 1) (table ++ z ∷ [])
  ahead-more done table z h t e = record {
    long = omega (arith, length-append table (z ∷ []), t.long);
    each = λ i d l. elim (cases_lt i (done + 1)) [
      | inl earlier ↦ get_or_append_left table (z ∷ []) d i (omega (arith, t.long, earlier)) ∙ t.each i d (omega (arith, earlier))
      | inr at ↦
          (let here : i ≡ done + 1 = omega (arith, l, at) in
          ap (λ n. get_or (table ++ z ∷ []) n d) (here ∙ sym t.long) ∙ get_or-append_seam table z [] d ∙ e ∙ sym (here-is done h) ∙ ap (λ n. ahead_at k vs (length vs - n)) (sym here))
    ];
  }

-- ---- assignments are added

-- one count more of a block
pub record IsAdding (counts : List ℕ) (old items : List Assignment) (value left : ℕ) : Type 0 where
  pub within : value ≤ length counts
  pub left_is : left ≡ sum (drop value counts)
  pub all : items ++ assignments value (drop value counts) ≡ old ++ assignments 0 counts

-- ---- sums and marks

pub held-at : (zs : List ℤ) (i : ℕ) → zs ≡ map pos (sizes_in zs) → i < length zs → get_or zs i (pos 0) ≡ pos (nat_abs (get_or zs i (pos 0)))
held-at zs i e h =
    let there : i < length (sizes_in zs) = omega (arith, h, length-abs zs) in
    ap (λ xs. get_or xs i (pos 0)) e ∙ pos-at (sizes_in zs) i there ∙ ap pos (abs-at zs i h)

module _ (k : ℕ) (vs : List Assignment) (judge : Judge) (a : AreAssignments k vs judge) where
  pub marks-of : (g : ℕ) (room : List ℤ) → IsAssignedRoom k vs g room → AreMarks room
  marks-of g room r = record {
    each = λ i h. held-at room i r.held h;
    small = λ i h. (let one : get_or (sizes_in room) i 0 ≤ 1 = All-from_recursion (λ s. s ≤ 1) (sizes_in room) r.ones i 0 (omega (arith, h, length-abs room)) in omega (arith, one, abs-at room i h));
  }

  pub sums-of : (g : ℕ) (room partial : List ℤ) → IsAssigned k vs judge a g room partial → AreSums partial
  sums-of g room partial s = record {
    each = λ i h. held-at partial i s.held h;
    small = λ i h. (let one : get_or (sizes_in partial) i 0 ≤ 16 * g = All-from_recursion (λ z. z ≤ 16 * g) (sizes_in partial) s.small i 0 (omega (arith, h, length-abs partial)) in omega (arith, one, abs-at partial i h, s.placed.within, a.few));
  }

  pub room-small : (g : ℕ) (room : List ℤ) → IsAssignedRoom k vs g room → sum (sizes_in room) ≤ 8
  room-small g room r = (let small : IsSmallAhead (ahead_at k vs g) = small-ahead k vs judge a g r.within in omega (arith, r.owed, small.owed))

  pub room-sizes : (g : ℕ) (room : List ℤ) → IsAssignedRoom k vs g room → AreSizes room
  room-sizes g room r = (let few : sum (sizes_in room) ≤ 8 = room-small g room r in sizes-of_pos (sizes_in room) (omega (arith, few)) room r.held)

-- counts of a choice
pub ones-of : (c : ℕ) (r x : List ℕ) → AreOnes r → IsChoice c r x → All (λ n. n ≤ 1) x
ones-of c r x a o = All-from_recursion (λ n. n ≤ 1) x (by r x a o.fitting)
  where
    by : (r x : List ℕ) → AreOnes r → fits x r ≡ true → AllByRecursion (λ n. n ≤ 1) x
    by r [] a f = tt
    by [] (b ∷ x) a f = absurd (cc f)
    by (r ∷ rs) (b ∷ x) a f =
        let within : get_or (b ∷ x) 0 0 ≤ get_or (r ∷ rs) 0 0 = get-within (r ∷ rs) (b ∷ x) 0 f in
        (omega (arith, a.0, within), by rs x a.1 (later b r x rs f))
      where
        later : (b r : ℕ) (x rs : List ℕ) → fits (b ∷ x) (r ∷ rs) ≡ true → fits x rs ≡ true
        later b r x rs f = (first_and (nat_le b r) (fits x rs) f).1

pub gained-at : (v i : ℕ) (c s : List ℕ) → i < length s → length c ≡ length s → get_or (gained v c s) i 0 ≡ get_or s i 0 + v * get_or c i 0
gained-at v i [] [] h e = absurd (omega (arith, h))
gained-at v i [] (s ∷ ss) h e = absurd (omega (arith, e))
gained-at v i (a ∷ c) [] h e = absurd (omega (arith, h))
gained-at v zero (a ∷ c) (s ∷ ss) h e = refl
gained-at v (suc i) (a ∷ c) (s ∷ ss) h e = gained-at v i c ss (omega (arith, h)) (omega (arith, e))

pub length-raises : (v : ℕ) (c : List ℕ) → length (raises v c) ≡ length c
length-raises v [] = refl
length-raises v (n ∷ c) = ap suc (length-raises v c)

pub raise-at : (v : ℕ) (c : List ℕ) (i : ℕ) → i < length c → get_or (raises v c) i (pos 0) ≡ pos (v * get_or c i 0)
raise-at v [] i h = absurd (omega (arith, h))
raise-at v (n ∷ c) zero h = refl
raise-at v (n ∷ c) (suc i) h = raise-at v c i (omega (arith, h))

pub ends-more : (f : ℕ → ℕ → ℕ) (z : Ahead) (i : ℕ) (r s : List ℕ) → i < length s → length r ≡ length s → over_ends f z (take (i + 1) r) (take (i + 1) s) ≡ over_ends f z (take i r) (take i s) + f (get_or s i 0 + get_or r i 0 * z.least + z.later_least) (get_or s i 0 + get_or r i 0 * z.most + z.later_most)
ends-more f z i r s h e = rw add-one (by i r s h e)
  where
    by : (i : ℕ) (r s : List ℕ) → i < length s → length r ≡ length s → over_ends f z (take (suc i) r) (take (suc i) s) ≡ over_ends f z (take i r) (take i s) + f (get_or s i 0 + get_or r i 0 * z.least + z.later_least) (get_or s i 0 + get_or r i 0 * z.most + z.later_most)
    by i r [] h e = absurd (omega (arith, h))
    by i [] (s ∷ ss) h e = absurd (omega (arith, e))
    by zero (r ∷ rs) (s ∷ ss) h e = omega arith
    by (suc i) (r ∷ rs) (s ∷ ss) h e = (let rest = by i rs ss (omega (arith, h)) (omega (arith, e)) in omega (arith, rest))

-- one treatment more
pub ends-at : (f : ℕ → ℕ → ℕ) (z : Ahead) (room partial : List ℤ) (i low high square all : ℕ) → i < length partial → length room ≡ length partial
    → low ≡ nat_abs (get_or partial i (pos 0)) + nat_abs (get_or room i (pos 0)) * z.least + z.later_least
    → high ≡ nat_abs (get_or partial i (pos 0)) + nat_abs (get_or room i (pos 0)) * z.most + z.later_most
    → square ≡ f low high → all ≡ over_ends f z (take i (sizes_in room)) (take i (sizes_in partial)) → all + square ≡ over_ends f z (take (i + 1) (sizes_in room)) (take (i + 1) (sizes_in partial))
ends-at f z room partial i low high square all h e l m q a =
    let within : i < length (sizes_in partial) = omega (arith, h, length-abs partial) in
    let level : length (sizes_in room) ≡ length (sizes_in partial) = length-abs room ∙ e ∙ sym (length-abs partial) in
    let mark : get_or (sizes_in room) i 0 ≡ nat_abs (get_or room i (pos 0)) = abs-at room i (omega (arith, h, e)) in
    let sum_is : get_or (sizes_in partial) i 0 ≡ nat_abs (get_or partial i (pos 0)) = abs-at partial i h in
    let end : (here later : ℕ) → get_or (sizes_in partial) i 0 + get_or (sizes_in room) i 0 * here + later ≡ nat_abs (get_or partial i (pos 0)) + nat_abs (get_or room i (pos 0)) * here + later = (λ here later. ap (λ n. n + get_or (sizes_in room) i 0 * here + later) sum_is ∙ ap (λ n. nat_abs (get_or partial i (pos 0)) + n * here + later) mark) in
    let now : square ≡ f (get_or (sizes_in partial) i 0 + get_or (sizes_in room) i 0 * z.least + z.later_least) (get_or (sizes_in partial) i 0 + get_or (sizes_in room) i 0 * z.most + z.later_most) = q ∙ ap (λ n. f n high) (l ∙ sym (end z.least z.later_least)) ∙ ap (f (get_or (sizes_in partial) i 0 + get_or (sizes_in room) i 0 * z.least + z.later_least)) (m ∙ sym (end z.most z.later_most)) in
    omega (arith, a, now, ends-more f z i (sizes_in room) (sizes_in partial) within level)

pub all-taken : (f : ℕ → ℕ → ℕ) (z : Ahead) (room partial : List ℤ) (i : ℕ) → length partial ≤ i → length room ≡ length partial → over_ends f z (take i (sizes_in room)) (take i (sizes_in partial)) ≡ over_ends f z (sizes_in room) (sizes_in partial)
all-taken f z room partial i h e =
    ap (λ r. over_ends f z r (take i (sizes_in partial))) (take_all i (sizes_in room) (omega (arith, h, e, length-abs room)))
    ∙ ap (over_ends f z (sizes_in room)) (take_all i (sizes_in partial) (omega (arith, h, length-abs partial)))

pub end-small : (s r here later : ℕ) → s ≤ 2720000 → r ≤ 1 → here ≤ 16 → later ≤ 2720000 → s + r * here + later ≤ 5440016
end-small s r here later a b c d = (let part : r * here ≤ 1 * 16 = mul-le-mul b c in omega (arith, a, part, d))

-- an end of a sum is small
pub end-within : (here later : ℕ) (room partial : List ℤ) (i end : ℕ) → AreMarks room → AreSums partial → i < length partial → length room ≡ length partial → here ≤ 16 → later ≤ 2720000
    → end ≡ nat_abs (get_or partial i (pos 0)) + nat_abs (get_or room i (pos 0)) * here + later → end ≤ 5440016
end-within here later room partial i end marks sums h e p q is =
    let mark : nat_abs (get_or room i (pos 0)) ≤ 1 = marks.small i (omega (arith, h, e)) in
    omega (arith, is, end-small (nat_abs (get_or partial i (pos 0))) (nat_abs (get_or room i (pos 0))) here later (sums.small i h) mark p q)

-- a sum of a few squares is small
pub squares-small : (n : ℕ) → n ≤ 16 * square_limit → IsSmall (pos n)
squares-small n h = (omega (arith, ints), omega (arith, ints, h))

-- ---- what is given

module _ (k : ℕ) (vs : List Assignment) (judge : Judge) (a : AreAssignments k vs judge) where
  pub count-small : (g : ℕ) → g < length vs → (assignment_at vs g).count ≤ 8
  count-small g h = by (assignment_at vs g).closes refl
    where
      by : (c : Bool) → (assignment_at vs g).closes ≡ c → (assignment_at vs g).count ≤ 8
      by true e =
          let is : ahead_at k vs g ≡ before true (assignment_at vs g) (ahead_at k vs (g + 1)) = ahead-here k vs g h ∙ ap (λ c. before c (assignment_at vs g) (ahead_at k vs (g + 1))) e in
          omega (arith, (small-ahead k vs judge a g (omega (arith, h))).owed, ap (λ (z : Ahead). z.owed) is)
      by false e =
          let is : ahead_at k vs g ≡ before false (assignment_at vs g) (ahead_at k vs (g + 1)) = ahead-here k vs g h ∙ ap (λ c. before c (assignment_at vs g) (ahead_at k vs (g + 1))) e in
          omega (arith, (small-ahead k vs judge a g (omega (arith, h))).owed, ap (λ (z : Ahead). z.owed) is)

  pub gift-small : (g : ℕ) → g < length vs → (assignment_at vs g).value * (assignment_at vs g).count ≤ 128
  gift-small g h =
      let value : (assignment_at vs g).value ≤ 16 = a.small g no_assignment h in
      let all : (assignment_at vs g).value * (assignment_at vs g).count ≤ 16 * 8 = mul-le-mul value (count-small g h) in
      omega (arith, all)

  pub given-more : (i : ℕ) → i < length vs → given (take (i + 1) vs) ≡ given (take i vs) + (assignment_at vs i).value * (assignment_at vs i).count
  given-more i h = sum_by_more (λ (v : Assignment). v.value * v.count) vs i no_assignment h

  pub centre-less : centre k vs ≤ given vs
  centre-less = div-le_self (given vs) k

  pub correction-small : given vs ≤ 21760000 → correction k (centre k vs) (given vs) ≤ correction_limit
  correction-small h =
      let less : centre k vs ≤ 21760000 = omega (arith, h, centre-less) in
      let times : centre k vs * given vs ≤ 21760000 * 21760000 = mul-le-mul less h in
      omega (arith, times)

-- all that is given passes no limit
given-within : (vs : List Assignment) → AllByRecursion (λ (v : Assignment). v.value * v.count ≤ 128) vs → given vs ≤ 128 * length vs
given-within [] a = omega arith
given-within (v ∷ vs) a = omega (arith, sum_by-cons (λ (u : Assignment). u.value * u.count) v vs, a.0, given-within vs a.1)

pub given-small : (k : ℕ) (vs : List Assignment) (judge : Judge) → AreAssignments k vs judge → given vs ≤ 21760000
given-small k vs judge a =
    let each : AllByRecursion (λ (v : Assignment). v.value * v.count ≤ 128) vs = recursion_from_All (λ (v : Assignment). v.value * v.count ≤ 128) vs (λ g d h. subst (λ (v : Assignment). v.value * v.count ≤ 128) (get_or_default vs g no_assignment d h) (gift-small k vs judge a g h)) in
    omega (arith, given-within vs each, a.few)
