-- Treatments may change places in every key of the network of assignments.
use Rattle.std.proofs.Common.{◌≡◌, ℕ, zero, suc, ◌+◌, ◌*◌, ◌<◌, List, [], ◌∷◌, ◌++◌, length, map, take, drop, replicate, Bool, true, false, cond, refl, sym, ◌∙◌, ap, subst, arith}
use Rattle.std.specs.Prelude.{ℤ, pos, nat_abs, ◌≤ℤ◌}
use Rattle.std.specs.List.{sum_by, Contains}
use Rattle.std.proofs.lemmas.List.{length-replicate}
use Rattle.weights.specs.Grouped.{choices, minus}
use Rattle.weights.proofs.ChoiceLists.{IsChoice}
use Rattle.weights.proofs.Sized.{length-minus}
use Rattle.networks.specs.declared.verdicts.Judge.{Judge}
use Rattle.networks.specs.Network.{Network, IsReached}
use Rattle.networks.specs.Judged.{HasIntervals}
use Rattle.networks.specs.Completions.{over_arcs}
use Rattle.networks.specs.Symmetries.{IsSymmetry}
use Rattle.networks.proofs.Lumping.{over_allowed}
use Rattle.networks.proofs.Steps.{reached-next}
use Rattle.networks.proofs.Swaps.{length-swap, map-swap, swap_at}
use Rattle.room_network.specs.Meanings.{Meaning}
use Rattle.room_network.proofs.RoomKeys.{IsKey, choices_before, is_key, partial-next, room-next}
use Rattle.label_network.specs.Meanings.{sizes_in}
use Rattle.label_network.proofs.ChoiceSwaps.{minus-swap, swapped_choices, swapped_member}
use Rattle.label_network.proofs.Narrowing.{chosen}
use Rattle.label_network.proofs.Rows.{length-abs, length-pos}
use Rattle.symmetry_reduction.specs.OrderedGroups.{IsExchange, exchange}
use Rattle.symmetry_reduction.specs.ReducedNetworks.{AreItsRooms, MayBeReduced}
use Rattle.symmetry_reduction.proofs.PlaceOrder.{back-key, front-key}
use Rattle.rank_assignments.specs.Reflections.{AreReflections}
use Rattle.rank_assignments.specs.Assignments.{AreAssignments, ahead_at, alike, centre, gained, given, one_each, over_ends, assigned_sums, assignment_at, assignment_network, assignment_plan, unassigned}
use Rattle.rank_assignments.specs.Upright.{reflection_at, upright}
use Rattle.networks.specs.Distances.{correction, far_square, near_square, squared}
use Rattle.rank_assignments.specs.declared.assignment.Assignment.{Assignment}
use Rattle.rank_assignments.specs.declared.assignment.Ahead.{Ahead}
use Rattle.rank_assignments.proofs.AssignmentRooms.{assignment_width}
use Rattle.rank_assignments.proofs.AssignedNarrows.{IsAssigned, assigned, assigned_measure}
use Rattle.rank_assignments.proofs.UprightSums.{sums-swap, upright-swap}

swap-replicate : {X : Type 0} (i n : ℕ) (x : X) → swap_at i (replicate n x) ≡ replicate n x
swap-replicate i zero x = refl
swap-replicate zero (suc zero) x = refl
swap-replicate zero (suc (suc n)) x = refl
swap-replicate (suc i) (suc n) x = ap (λ xs. x ∷ xs) (swap-replicate i n x)

gained-swap : (v i : ℕ) (c s : List ℕ) → length c ≡ length s → gained v (swap_at i c) (swap_at i s) ≡ swap_at i (gained v c s)
gained-swap v i [] [] e = refl
gained-swap v i [] (s ∷ ss) e = absurd (omega (arith, e))
gained-swap v i (a ∷ c) [] e = absurd (omega (arith, e))
gained-swap v zero (a ∷ []) (s ∷ []) e = refl
gained-swap v zero (a ∷ []) (s ∷ t ∷ ss) e = absurd (omega (arith, e))
gained-swap v zero (a ∷ b ∷ c) (s ∷ []) e = absurd (omega (arith, e))
gained-swap v zero (a ∷ b ∷ c) (s ∷ t ∷ ss) e = refl
gained-swap v (suc i) (a ∷ c) (s ∷ ss) e = ap (λ zs. (s + v * a) ∷ zs) (gained-swap v i c ss (omega (arith, e)))

ends-swap : (f : ℕ → ℕ → ℕ) (z : Ahead) (i : ℕ) (r s : List ℕ) → length r ≡ length s → over_ends f z (swap_at i r) (swap_at i s) ≡ over_ends f z r s
ends-swap f z i [] [] e = refl
ends-swap f z i [] (s ∷ ss) e = absurd (omega (arith, e))
ends-swap f z i (r ∷ rs) [] e = absurd (omega (arith, e))
ends-swap f z zero (r ∷ []) (s ∷ []) e = refl
ends-swap f z zero (r ∷ []) (s ∷ t ∷ ss) e = absurd (omega (arith, e))
ends-swap f z zero (r ∷ q ∷ rs) (s ∷ []) e = absurd (omega (arith, e))
ends-swap f z zero (r ∷ q ∷ rs) (s ∷ t ∷ ss) e = three (f (t + q * z.least + z.later_least) (t + q * z.most + z.later_most)) (f (s + r * z.least + z.later_least) (s + r * z.most + z.later_most)) (over_ends f z rs ss)
  where
    three : (a b c : ℕ) → a + (b + c) ≡ b + (a + c)
    three a b c = omega arith
ends-swap f z (suc i) (r ∷ rs) (s ∷ ss) e = ap (λ n. f (s + r * z.least + z.later_least) (s + r * z.most + z.later_most) + n) (ends-swap f z i rs ss (omega (arith, e)))

module _ (k : ℕ) (vs : List Assignment) (judge : Judge) (a : AreAssignments k vs judge) (reflections : List ℕ) (reflections_are : AreReflections k vs reflections) where
  abbrev n : Network
  n = assignment_network k vs reflections judge

  abbrev room : List ℤ → List ℤ
  room key = take k key

  abbrev partial : List ℤ → List ℤ
  partial key = drop k key

  wide : length (alike k) ≡ k
  wide = length-replicate {A = ℕ} k 1

  key-of : (g : ℕ) (key : List ℤ) → IsReached n g key → IsAssigned k vs judge a g (room key) (partial key)
  key-of g key r = assigned k vs judge a reflections reflections_are g (room key) (partial key) (is_key (assigned_sums k vs reflections judge) one_each (assignment_width k vs) g key r).reached

  exchange-room : (i g : ℕ) (key : List ℤ) → IsReached n g key → room (exchange k i key) ≡ swap_at i (room key)
  exchange-room i g key r = front-key k (swap_at i (room key)) (swap_at i (partial key)) (length-swap i (room key) ∙ (key-of g key r).placed.long)

  exchange-partial : (i g : ℕ) (key : List ℤ) → IsReached n g key → partial (exchange k i key) ≡ swap_at i (partial key)
  exchange-partial i g key r = back-key k (swap_at i (room key)) (swap_at i (partial key)) (length-swap i (room key) ∙ (key-of g key r).placed.long)

  exchange-sizes : (i g : ℕ) (key : List ℤ) → IsReached n g key → sizes_in (room (exchange k i key)) ≡ swap_at i (sizes_in (room key))
  exchange-sizes i g key r = ap sizes_in (exchange-room i g key r) ∙ map-swap nat_abs i (room key)

  exchange-sums : (i g : ℕ) (key : List ℤ) → IsReached n g key → sizes_in (partial (exchange k i key)) ≡ swap_at i (sizes_in (partial key))
  exchange-sums i g key r = ap sizes_in (exchange-partial i g key r) ∙ map-swap nat_abs i (partial key)

  -- the treatments that a choice leaves
  abbrev left : ℕ → List ℕ → List ℕ → List ℤ
  left g sizes c = cond (assignment_at vs g).closes (unassigned k) (map pos (minus sizes c))

  left-swap : (i g : ℕ) (sizes c : List ℕ) → length c ≡ length sizes → left g (swap_at i sizes) (swap_at i c) ≡ swap_at i (left g sizes c)
  left-swap i g sizes c l = by (assignment_at vs g).closes
    where
      by : (b : Bool) → cond b (unassigned k) (map pos (minus (swap_at i sizes) (swap_at i c))) ≡ swap_at i (cond b (unassigned k) (map pos (minus sizes c)))
      by true = sym (swap-replicate i k (pos 1))
      by false = ap (map pos) (minus-swap i sizes c l) ∙ map-swap pos i (minus sizes c)

  left-long : (g : ℕ) (sizes c : List ℕ) → length sizes ≡ k → length (left g sizes c) ≡ k
  left-long g sizes c l = by (assignment_at vs g).closes
    where
      by : (b : Bool) → length (cond b (unassigned k) (map pos (minus sizes c))) ≡ k
      by true = length-replicate k (pos 1)
      by false = length-pos (minus sizes c) ∙ length-minus sizes c ∙ l

  -- the sums after a choice
  abbrev after : ℕ → List ℕ → List ℕ → List ℕ
  after g c sums = upright (reflection_at reflections g) (gained (assignment_at vs g).value c sums)

  after-swap : (i g : ℕ) (c sums : List ℕ) → length c ≡ length sums → map pos (after g (swap_at i c) (swap_at i sums)) ≡ swap_at i (map pos (after g c sums))
  after-swap i g c sums l =
      ap (λ s. map pos (upright (reflection_at reflections g) s)) (gained-swap (assignment_at vs g).value i c sums l)
      ∙ ap (map pos) (upright-swap (reflection_at reflections g) i (gained (assignment_at vs g).value c sums))
      ∙ map-swap pos i (after g c sums)

  -- where choices lead that change places with the treatments
  exchange-next : (i g : ℕ) (key : List ℤ) (c : List ℕ) → IsReached n g key → length c ≡ k → n.next g (exchange k i key) (swap_at i c) ≡ exchange k i (n.next g key c)
  exchange-next i g key c r l =
      let s : IsAssigned k vs judge a g (room key) (partial key) = key-of g key r in
      let sizes : List ℕ = sizes_in (room key) in
      let sums : List ℕ = sizes_in (partial key) in
      let sizes_long : length sizes ≡ k = length-abs (room key) ∙ s.placed.long in
      let sums_long : length sums ≡ k = length-abs (partial key) ∙ s.long in
      let next : List ℤ = map pos (after g c sums) in
      ap (λ q. left g q (swap_at i c) ++ map pos (after g (swap_at i c) (sizes_in (partial (exchange k i key))))) (exchange-sizes i g key r)
      ∙ ap (λ q. left g (swap_at i sizes) (swap_at i c) ++ map pos (after g (swap_at i c) q)) (exchange-sums i g key r)
      ∙ ap (λ q. q ++ map pos (after g (swap_at i c) (swap_at i sums))) (left-swap i g sizes c (l ∙ sym sizes_long))
      ∙ ap (λ q. swap_at i (left g sizes c) ++ q) (after-swap i g c sums (l ∙ sym sums_long))
      ∙ sym (
      ap (λ q. swap_at i q ++ swap_at i (partial (left g sizes c ++ next))) (front-key k (left g sizes c) next (left-long g sizes c sizes_long))
      ∙ ap (λ q. swap_at i (left g sizes c) ++ swap_at i q) (back-key k (left g sizes c) next (left-long g sizes c sizes_long)))

  exchange-first : (i : ℕ) → exchange k i n.first ≡ n.first
  exchange-first i =
      ap (λ q. swap_at i q ++ swap_at i (partial n.first)) (front-key k (unassigned k) (replicate k (pos 0)) (length-replicate k (pos 1)))
      ∙ ap (λ q. swap_at i (unassigned k) ++ swap_at i q) (back-key k (unassigned k) (replicate k (pos 0)) (length-replicate k (pos 1)))
      ∙ ap (λ q. q ++ swap_at i (replicate k (pos 0))) (swap-replicate i k (pos 1))
      ∙ ap (λ q. unassigned k ++ q) (swap-replicate i k (pos 0))

  choices-at : (g : ℕ) (key : List ℤ) → g < length vs → n.choices g key ≡ choices (assignment_at vs g).count (sizes_in (room key))
  choices-at g key h = choices_before (assignment_plan k vs) g (room key) h

  choice-at : (g : ℕ) (key : List ℤ) (c : List ℕ) → g < length vs → Contains (n.choices g key) c → IsChoice (assignment_at vs g).count (sizes_in (room key)) c
  choice-at g key c h o = chosen (assignment_at vs g).count (sizes_in (room key)) c (subst (λ cs. Contains cs c) (choices-at g key h) o)

  choice-long : (g : ℕ) (key : List ℤ) (c : List ℕ) → IsReached n g key → g < length vs → Contains (n.choices g key) c → length c ≡ k
  choice-long g key c r h o = (choice-at g key c h o).long ∙ length-abs (room key) ∙ (key-of g key r).placed.long

  exchange-member : (i g : ℕ) (key : List ℤ) (c : List ℕ) → IsReached n g key → g < length vs → Contains (n.choices g key) c → Contains (n.choices g (exchange k i key)) (swap_at i c)
  exchange-member i g key c r h o =
      subst (λ cs. Contains cs (swap_at i c)) (sym (choices-at g (exchange k i key) h ∙ ap (choices (assignment_at vs g).count) (exchange-sizes i g key r)))
      (swapped_member i (assignment_at vs g).count (sizes_in (room key)) c (subst (λ cs. Contains cs c) (choices-at g key h) o))

  exchange-stays : (i g : ℕ) (key : List ℤ) → IsReached n g key → IsReached n g (exchange k i key)
  exchange-stays i zero key r = ap (exchange k i) r ∙ exchange-first i
  exchange-stays i (suc g) key (j, c, r, h, o, e) = (
    exchange k i j,
    swap_at i c,
    exchange-stays i g j r,
    h,
    exchange-member i g j c r h o,
    ap (exchange k i) e ∙ sym (exchange-next i g j c r (choice-long g j c r h o)),
  )

  -- where no treatment has a number of the block, the sums may change places alone
  pub sums-exchanged : (i g : ℕ) (sums : List ℤ) → IsReached n g (unassigned k ++ sums) → IsReached n g (unassigned k ++ swap_at i sums)
  sums-exchanged i g sums r =
      subst (IsReached n g)
      (ap (λ q. swap_at i q ++ swap_at i (partial (unassigned k ++ sums))) (front-key k (unassigned k) sums (length-replicate k (pos 1)))
      ∙ ap (λ q. swap_at i (unassigned k) ++ swap_at i q) (back-key k (unassigned k) sums (length-replicate k (pos 1)))
      ∙ ap (λ q. q ++ swap_at i sums) (swap-replicate i k (pos 1)))
      (exchange-stays i g (unassigned k ++ sums) r)

  -- an exchange of as many numbers as there are treatments
  exchange-is : (i : ℕ) (key other : List ℤ) → other ≡ exchange (length (alike k)) i key → other ≡ exchange k i key
  exchange-is i key other e = e ∙ ap (λ w. exchange w i key) wide

  -- what a choice of who is assigned adds to a sum over arcs
  abbrev term : (List ℤ → ℕ) → ℕ → List ℕ → List ℕ → List ℕ → ℕ
  term f g sizes sums c = 1 * f (left g sizes c ++ map pos (after g c sums))

  exchange-arcs : (f : List ℤ → ℕ) (g : ℕ) (key j : List ℤ) → ((l i : List ℤ) → IsReached n (g + 1) l → IsExchange (alike k) l i → f i ≡ f l) → IsReached n g key → IsExchange (alike k) key j → g < n.count → over_arcs n f g j ≡ over_arcs n f g key
  exchange-arcs f g key j even_f r (i, s, e) h =
      let here : List ℤ = exchange k i key in
      let sizes : List ℕ = sizes_in (room key) in
      let c : ℕ = (assignment_at vs g).count in
      ap (over_arcs n f g) (exchange-is i key j e)
      ∙ ap (sum_by (term f g (sizes_in (room here)) (sizes_in (partial here)))) (choices-at g here h ∙ ap (choices c) (exchange-sizes i g key r))
      ∙ swapped_choices (term f g (sizes_in (room here)) (sizes_in (partial here))) i c sizes
      ∙ over_allowed (choices c sizes) _ (term f g sizes (sizes_in (partial key))) (λ x o.
      let allowed : Contains (n.choices g key) x = subst (λ cs. Contains cs x) (sym (choices-at g key h)) o in
      ap (λ q. 1 * f q) (exchange-next i g key x r (choice-long g key x r h allowed))
      ∙ ap (λ w. 1 * w) (even_f (n.next g key x) (exchange k i (n.next g key x)) (reached-next n g key x r h allowed) (i, s, ap (λ w. exchange w i (n.next g key x)) (sym wide))))
      ∙ sym (ap (sum_by (term f g sizes (sizes_in (partial key)))) (choices-at g key h))

  exchange-ends : (key j : List ℤ) → IsReached n n.count key → IsExchange (alike k) key j → n.value j ≡ n.value key
  exchange-ends key j r (i, s, e) =
      ap n.value (exchange-is i key j e)
      ∙ ap (λ q. pos (sum_by squared q)) (exchange-sums i n.count key r)
      ∙ ap pos (sums-swap squared i (sizes_in (partial key)))

  pub assigned-exchanged : IsSymmetry n (IsExchange (alike k))
  assigned-exchanged = record {
    stays = λ g key j r t. subst (IsReached n g) (sym (exchange-is t.0 key j t.2)) (exchange-stays t.0 g key r);
    arcs = exchange-arcs;
    ends = exchange-ends;
  }

  -- ---- intervals

  abbrev m : Meaning
  m = assigned_sums k vs reflections judge

  is-key : (g : ℕ) (key : List ℤ) → IsReached n g key → IsKey m one_each (assignment_width k vs) g key
  is-key g key r = is_key m one_each (assignment_width k vs) g key r

  rises : (g : ℕ) (key : List ℤ) (c : List ℕ) → IsReached n g key → g < n.count → Contains (n.choices g key) c → m.low g (room key) (partial key) ≤ℤ m.low (g + 1) (room (n.next g key c)) (partial (n.next g key c))
  rises g key c r h o =
      let here : IsKey m one_each (assignment_width k vs) g key = is-key g key r in
      rw (room-next m one_each (assignment_width k vs) g key c here.long, partial-next m one_each (assignment_width k vs) g key c here.long)
      ((assigned_measure k vs judge a reflections reflections_are).low_rises g (room key) (partial key) c here.reached h (subst (λ cs. Contains cs c) (choices-at g key h) o))

  falls : (g : ℕ) (key : List ℤ) (c : List ℕ) → IsReached n g key → g < n.count → Contains (n.choices g key) c → m.high (g + 1) (room (n.next g key c)) (partial (n.next g key c)) ≤ℤ m.high g (room key) (partial key)
  falls g key c r h o =
      let here : IsKey m one_each (assignment_width k vs) g key = is-key g key r in
      rw (room-next m one_each (assignment_width k vs) g key c here.long, partial-next m one_each (assignment_width k vs) g key c here.long)
      ((assigned_measure k vs judge a reflections reflections_are).high_falls g (room key) (partial key) c here.reached h (subst (λ cs. Contains cs c) (choices-at g key h) o))

  abbrev intervals : HasIntervals n judge
  intervals = record {
    low = λ g key. m.low g (room key) (partial key);
    high = λ g key. m.high g (room key) (partial key);
    verdicts = λ t g key r. refl;
    low_rises = rises;
    high_falls = falls;
    low_ends = λ key r. (assigned_measure k vs judge a reflections reflections_are).low_ends (room key) (partial key) (is-key n.count key r).reached;
    high_ends = λ key r. (assigned_measure k vs judge a reflections reflections_are).high_ends (room key) (partial key) (is-key n.count key r).reached;
  }

  ends-exchange : (f : ℕ → ℕ → ℕ) (i g : ℕ) (key : List ℤ) → IsReached n g key → over_ends f (ahead_at k vs g) (sizes_in (room (exchange k i key))) (sizes_in (partial (exchange k i key))) ≡ over_ends f (ahead_at k vs g) (sizes_in (room key)) (sizes_in (partial key))
  ends-exchange f i g key r =
      let s : IsAssigned k vs judge a g (room key) (partial key) = key-of g key r in
      ap (λ q. over_ends f (ahead_at k vs g) q (sizes_in (partial (exchange k i key)))) (exchange-sizes i g key r)
      ∙ ap (over_ends f (ahead_at k vs g) (swap_at i (sizes_in (room key)))) (exchange-sums i g key r)
      ∙ ends-swap f (ahead_at k vs g) i (sizes_in (room key)) (sizes_in (partial key)) (length-abs (room key) ∙ s.placed.long ∙ sym (length-abs (partial key) ∙ s.long))

  low-exchanged : (g : ℕ) (key j : List ℤ) → IsReached n g key → IsExchange (alike k) key j → intervals.low g j ≡ intervals.low g key
  low-exchanged g key j r (i, s, e) =
      ap (intervals.low g) (exchange-is i key j e)
      ∙ ap (λ x. pos (correction k (centre k vs) (given vs) + x)) (ends-exchange (near_square (centre k vs)) i g key r)

  high-exchanged : (g : ℕ) (key j : List ℤ) → IsReached n g key → IsExchange (alike k) key j → intervals.high g j ≡ intervals.high g key
  high-exchanged g key j r (i, s, e) =
      ap (intervals.high g) (exchange-is i key j e)
      ∙ ap (λ x. pos (correction k (centre k vs) (given vs) + x)) (ends-exchange (far_square (centre k vs)) i g key r)

  -- so treatments may be put in order
  pub treatments-reduced : MayBeReduced (alike k) n judge
  treatments-reduced = record {
    few = rw wide a.narrow;
    wide = rw wide refl;
    symmetry = assigned-exchanged;
    intervals = intervals;
    low = low-exchanged;
    high = high-exchanged;
  }

-- as the network of assignments asks for
pub treatments-housed : (k : ℕ) (vs : List Assignment) (judge : Judge) → AreAssignments k vs judge → (reflections : List ℕ) → (j : ℕ) (us : List Assignment) → AreItsRooms (assignment_plan k vs) (assignment_plan j us) (assigned_sums k vs reflections judge) (alike k)
treatments-housed k vs judge a reflections j us = record {
  weights = refl;
  housed = record { floor_is = refl; some = omega (arith, a.some); few = omega (arith, a.narrow) };
  width = sym (length-replicate {A = ℕ} k 1);
  small_steps = omega (arith, a.narrow);
}
