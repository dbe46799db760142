-- From the end of a block on, the network of assignments goes on for that of blocks, where it reflects no sums before.
use Rattle.std.proofs.Common.{◌≡◌, ℕ, zero, suc, ◌+◌, ◌-◌, ◌*◌, ◌<◌, ◌≤◌, ◌⊎◌, inl, inr, List, [], ◌∷◌, ◌++◌, length, map, take, drop, replicate, Bool, true, false, cond, refl, sym, ◌∙◌, ap, subst, arith, add-one, append_assoc, drop-cons}
use Rattle.std.specs.Prelude.{ℤ, pos, int_le}
use Rattle.std.specs.List.{filter, list_all, list_any, sum_by, AllByRecursion, Contains}
use Rattle.std.specs.Ordering.{int_eq}
use Rattle.std.proofs.Math.Seq.{drop-append_seam, take-length}
use Rattle.std.proofs.lemmas.List.{length-append, length-drop, length-map, length-replicate}
use Rattle.std.proofs.lemmas.List.Elements.{All-contains, All-from_recursion, recursion_from_All}
use Rattle.weights.specs.declared.tails.Tail.{Tail}
use Rattle.weights.specs.InOrder.{put_in}
use Rattle.weights.specs.Labellings.{labellings}
use Rattle.weights.specs.Rules.{passes}
use Rattle.weights.proofs.Filters.{filter-same_where}
use Rattle.weights.proofs.Members.{IsLabelling}
use Rattle.weights.proofs.Sums.{sum_by-map, sum_by-same_where}
use Rattle.enumerate.proofs.JoinedMembers.{each-labelling}
use Rattle.networks.specs.Addends.{additive_network, from_zero, square}
use Rattle.networks.specs.Completions.{completions, ends_inside, extreme_weight, is_inside, path_end, path_weight, total_weight}
use Rattle.networks.specs.Distances.{squared}
use Rattle.networks.specs.GoesOn.{GoesOn, GoesOnAlike}
use Rattle.networks.specs.Judged.{HasIntervals, judge_of, rule_in}
use Rattle.networks.specs.Network.{Network, IsReached}
use Rattle.networks.specs.PartialSums.{ascending, plus}
use Rattle.networks.specs.declared.additive.CentredSquares.{CentredSquares}
use Rattle.networks.specs.declared.verdicts.Judge.{Judge}
use Rattle.networks.proofs.AdditiveKeys.{allowed-before, reached_length}
use Rattle.networks.proofs.AdditiveLaws.{additive_intervals}
use Rattle.networks.proofs.Bridge.{bridge_from, gathered-cons}
use Rattle.networks.proofs.GoingOn.{goes_on-then}
use Rattle.networks.proofs.Judging.{EndsBetween, end_verdict, values_between, verdict-point}
use Rattle.networks.proofs.Parts.{gathered, product_weight}
use Rattle.networks.proofs.Steps.{passing}
use Rattle.networks.proofs.Swaps.{length-ascending, length-swap, map-swap, sum_by-swap_at, swap_at}
use Rattle.room_network.proofs.RoomLaws.{room_intervals, room_lawful}
use Rattle.label_network.specs.Meanings.{sizes_in}
use Rattle.label_network.proofs.LabelPlans.{sizes-back}
use Rattle.label_network.proofs.Rows.{length-pos}
use Rattle.rank_assignments.specs.Assignments.{AreAssignments, ahead, ahead_at, alike, all_assignments, assigned_network, assigned_sums, assignment_network, assignment_plan, assignments, one_each, order_for, unassigned}
use Rattle.rank_assignments.specs.Reflections.{AreReflections}
use Rattle.rank_assignments.specs.Upright.{reflection_at}
use Rattle.rank_assignments.specs.declared.assignment.Assignment.{Assignment}
use Rattle.rank_assignments.proofs.AssignedFold.{sums-exchanged, treatments-housed, treatments-reduced}
use Rattle.rank_assignments.proofs.ReflectionSteps.{reflections-from}
use Rattle.rank_assignments.proofs.AssignedNarrows.{assigned_measure}
use Rattle.rank_assignments.proofs.AssignmentRooms.{assignment_plan_sound, assignment_width, pos-alike}
use Rattle.rank_assignments.proofs.SumEnds.{pos-zeros}
use Rattle.symmetry_reduction.specs.OrderedGroups.{groups_in_order, stay}
use Rattle.symmetry_reduction.specs.declared.orders.Order.{Order}
use Rattle.symmetry_reduction.specs.declared.orders.Order.TheVariants.{Sums, SumsWhereAllRemain}
use Rattle.symmetry_reduction.proofs.ReducedKeys.{reduced-goes_on}
use Rattle.block_tests.specs.BlockNetworks.{block_at, network_by, running_addends, square_addends}
use Rattle.block_tests.specs.BlockSteps.{AreSquares, AreStages, IsWhole}
use Rattle.block_tests.specs.BlockTests.{BlockTests, added, block_counts, block_test}
use Rattle.block_tests.specs.EvenBlocks.{assigned_before, block_reflections, is_even, reflected_from}
use Rattle.block_tests.specs.PreparedSteps.{AreFitting}
use Rattle.block_tests.specs.BlockStages.{AreTreatmentSums, IsOnward}
use Rattle.block_tests.specs.declared.kinds.BlockKind.{BlockKind}
use Rattle.block_tests.specs.declared.kinds.BlockKind.TheVariants.{Friedman, Page, Cochran}
use Rattle.block_tests.proofs.AssignedKeys.{arranged, between, room-free, passing-ways, sums-of, told-of}
use Rattle.block_tests.proofs.AssignmentFollows.{are-assignments, blocks-ahead, even-assignments, reflections-are, said-untold, stages}
use Rattle.block_tests.proofs.Fitting.{bound-fits, bounded}
use Rattle.block_tests.proofs.AssignmentLaw.{block-first, over_ways}
use Rattle.block_tests.proofs.ReflectedWays.{AreEvenAssignments, IsUntold, same-ways}
use Rattle.block_tests.proofs.SquareLaws.{plus-pos, square_additive, square_pieces, squares-from-zero, stage-parts}
use Rattle.block_tests.proofs.Staged.{whole-at}
use Rattle.block_tests.proofs.TreatmentSums.{length-added}

-- ---- stages

joined : (blocks : List (List ℕ)) (g : ℕ) → all_assignments (take g blocks) ++ all_assignments (drop g blocks) ≡ all_assignments blocks
joined blocks zero = refl
joined [] (suc g) = refl
joined (b ∷ blocks) (suc g) =
    append_assoc (assignments 0 b) (all_assignments (take g blocks)) (all_assignments (drop g blocks))
    ∙ ap (λ us. assignments 0 b ++ us) (joined blocks g)

pub left-there : (blocks : List (List ℕ)) (g : ℕ) → drop (assigned_before blocks g) (all_assignments blocks) ≡ all_assignments (drop g blocks)
left-there blocks g =
    ap (drop (assigned_before blocks g)) (sym (joined blocks g))
    ∙ drop-append_seam (all_assignments (take g blocks)) (all_assignments (drop g blocks))

pub many-there : (blocks : List (List ℕ)) (g : ℕ) → assigned_before blocks g + length (all_assignments (drop g blocks)) ≡ length (all_assignments blocks)
many-there blocks g = sym (length-append (all_assignments (take g blocks)) (all_assignments (drop g blocks))) ∙ ap length (joined blocks g)

all-drop : (k g : ℕ) (blocks : List (List ℕ)) → AllByRecursion (IsWhole k) blocks → AllByRecursion (IsWhole k) (drop g blocks)
all-drop k zero blocks w = w
all-drop k (suc g) [] w = tt
all-drop k (suc g) (b ∷ blocks) w = all-drop k g blocks w.1

-- ---- what is true of sums is true of them in order

-- two neighbours may change places
abbrev MaySwap : ℕ → (List ℤ → Type 0) → Type 0
MaySwap n P = (i : ℕ) (k : List ℤ) → length k ≡ n → P k → P (swap_at i k)

true-put_in : (n : ℕ) (P : List ℤ → Type 0) → MaySwap n P → (x : ℤ) (ys : List ℤ) → suc (length ys) ≡ n → P (x ∷ ys) → P (put_in int_le x ys)
true-put_in n P e x [] l p = p
true-put_in n P e x (y ∷ ys) l p = by (int_le x y) (true-put_in (suc (length ys)) (λ zs. P (y ∷ zs)) (λ i k h. e (suc i) (y ∷ k) (omega (arith, h, l))) x ys refl (e zero (x ∷ y ∷ ys) l p))
  where
    by : (b : Bool) → P (y ∷ put_in int_le x ys) → P (cond b (x ∷ y ∷ ys) (y ∷ put_in int_le x ys))
    by true h = p
    by false h = h

true-ascending : (n : ℕ) (P : List ℤ → Type 0) → MaySwap n P → (k : List ℤ) → length k ≡ n → P k → P (ascending k)
true-ascending n P e [] l p = p
true-ascending n P e (x ∷ xs) l p =
    true-put_in n P e x (ascending xs) (ap suc (length-ascending xs) ∙ l)
    (true-ascending (length xs) (λ zs. P (x ∷ zs)) (λ i k h. e (suc i) (x ∷ k) (omega (arith, h, l))) xs refl p)

-- ---- what weighs of a key's completions

every : {X : Type 0} (xs : List X) → filter (λ x. true) xs ≡ xs
every [] = refl
every (x ∷ xs) = ap (λ ys. x ∷ ys) (every xs)

all-pass : (n : Network) (g : ℕ) (k : List ℤ) → total_weight n g k ≡ passing n (λ e. true) (n.count - g) g k
unfolding total_weight
all-pass n g k = ap (sum_by (path_weight n g k)) (sym (every (completions n g k)))

-- the extreme completions are those whose value passes the rule
extreme-from : (n : Network) (judge : Judge) → HasIntervals n judge → (t : Tail) (g : ℕ) (k : List ℤ) → IsReached n g k → g ≤ n.count → extreme_weight n t g k ≡ passing n (λ e. passes (rule_in judge t) (n.value e)) (n.count - g) g k
unfolding extreme_weight
extreme-from n judge h t g k r l =
    ap (sum_by (path_weight n g k))
    (filter-same_where (λ cs. EndsBetween n judge h (h.low g k) (h.high g k) (path_end n g k cs)) (ends_inside n t g k) (λ cs. passes (rule_in judge t) (n.value (path_end n g k cs)))
    (λ cs w. ap is_inside (end_verdict n judge h t (path_end n g k cs) w.reached) ∙ verdict-point (rule_in judge t) (n.value (path_end n g k cs))) (completions n g k) (values_between n judge h g k r l))

-- ---- the two networks

module _ (k : ℕ) (blocks : List (List ℕ)) (judge : Judge) (stages : AreStages k blocks judge) (reflections : List ℕ) (m : AreReflections k (all_assignments blocks) reflections) where
  abbrev vs : List Assignment
  vs = all_assignments blocks

  a : AreAssignments k vs judge
  a = are-assignments k blocks judge stages

  abbrev n : Network
  n = assignment_network k vs reflections judge

  abbrev at : ℕ → ℕ
  at g = assigned_before blocks g

  whole : AllByRecursion (IsWhole k) blocks
  whole = recursion_from_All (IsWhole k) blocks stages.whole

  owed-there : (g : ℕ) → (ahead_at k vs (at g)).owed ≡ k
  owed-there g = ap (λ us. (ahead k us).owed) (left-there blocks g) ∙ (blocks-ahead k (drop g blocks) stages.some (all-drop k g blocks whole)).owed

  -- a key of sums that is reached with no treatment assigned
  record IsThere (h : ℕ) (z : List ℤ) : Type 0 where
    sums : List ℕ
    is : z ≡ map pos sums
    long : length sums ≡ k
    there : IsReached n h (unassigned k ++ map pos sums)

  there-swap : (h : ℕ) → MaySwap k (IsThere h)
  there-swap h i z l w = record {
    sums = swap_at i w.sums;
    is = ap (swap_at i) w.is ∙ sym (map-swap pos i w.sums);
    long = length-swap i w.sums ∙ w.long;
    there = subst (λ t. IsReached n h (unassigned k ++ t)) (sym (map-swap pos i w.sums)) (sums-exchanged k vs judge a reflections m i h (map pos w.sums) w.there);
  }

  block-drop : (g : ℕ) → g < length blocks → drop g blocks ≡ block_at blocks g ∷ drop (g + 1) blocks
  block-drop g h = rw add-one (drop-cons blocks g [] h)

  one-more : (g : ℕ) → g < length blocks → at g + length (assignments 0 (block_at blocks g)) ≡ at (g + 1)
  one-more g h = omega (arith, many-there blocks g, many-there blocks (g + 1), ap (λ bs. length (all_assignments bs)) (block-drop g h), length-append (assignments 0 (block_at blocks g)) (all_assignments (drop (g + 1) blocks)))

  module _ (x : CentredSquares) where
    abbrev w : Network
    w = additive_network (square_addends x k blocks judge)

    -- one block more
    there-next : (g : ℕ) (j : List ℤ) (c : List ℕ) → g < length blocks → ((i : ℕ) → i < at (g + 1) → reflection_at reflections i ≡ 0) → Contains (labellings (block_at blocks g)) c → IsThere (at g) j → IsThere (at (g + 1)) (ascending (plus j (map pos c)))
    there-next g j c h none o p =
        let b : List ℕ = block_at blocks g in
        let own : IsWhole k b = whole-at k blocks g stages.whole h in
        let over : IsLabelling b c = All-contains (IsLabelling b) (labellings b) c (All-from_recursion (IsLabelling b) (labellings b) (each-labelling b)) o in
        let wide : length c ≡ k = over.over.long ∙ own.treatments in
        let us : List Assignment = assignments 0 b in
        let rest : List Assignment = all_assignments (drop (g + 1) blocks) in
        let parts : drop (at g) vs ≡ us ++ rest = left-there blocks g ∙ ap all_assignments (block-drop g h) in
        let count : at g + length us ≡ at (g + 1) = one-more g h in
        let start : IsReached n (at g) (map pos (replicate k 1) ++ map pos p.sums) = subst (λ room. IsReached n (at g) (room ++ map pos p.sums)) (sym (pos-alike k)) p.there in
        let next = arranged k vs judge a reflections m b rest (at g) p.sums c parts (λ i e. none (at g + i) (omega (arith, e, count))) stages.some own.treatments p.long start o in
        let here : IsReached n (at (g + 1)) (map pos next.0 ++ map pos (added p.sums c)) = subst (λ i. IsReached n i (map pos next.0 ++ map pos (added p.sums c))) count next.2 in
        let free : map pos next.0 ≡ unassigned k = between k vs judge a reflections m (at (g + 1)) next.0 (added p.sums c) next.1 here (owed-there (g + 1)) in
        let long : length (added p.sums c) ≡ k = length-added k p.sums c (omega (arith, p.long)) wide in
        let plain : plus j (map pos c) ≡ map pos (added p.sums c) = ap (λ z. plus z (map pos c)) p.is ∙ plus-pos p.sums c (p.long ∙ sym wide) in
        true-ascending k (IsThere (at (g + 1))) (there-swap (at (g + 1))) (plus j (map pos c)) (ap length plain ∙ length-pos (added p.sums c) ∙ long)
        (record { sums = added p.sums c; is = plain; long = long; there = subst (λ room. IsReached n (at (g + 1)) (room ++ map pos (added p.sums c))) free here })

    there-at : (g : ℕ) (z : List ℤ) → ((i : ℕ) → i < at g → reflection_at reflections i ≡ 0) → IsReached w g z → IsThere (at g) z
    there-at zero z none e = record {
      sums = replicate k 0;
      is = e ∙ sym (pos-zeros k);
      long = length-replicate {A = ℕ} k 0;
      there = ap (λ t. unassigned k ++ t) (pos-zeros k);
    }
    there-at (suc g) z none (j, c, r, h, o, e) =
        let all : (i : ℕ) → i < at (g + 1) → reflection_at reflections i ≡ 0 = rw add-one none in
        let past : IsThere (at g) j = there-at g j (λ i f. all i (omega (arith, f, one-more g h))) r in
        let own : Contains (labellings (block_at blocks g)) c = allowed-before (square_addends x k blocks judge) g j c h o in
        subst (IsThere (at (suc g))) (sym e) (rw (← add-one) (there-next g j c h all own past))

    -- ---- both end alike

    module _ (P : ℤ → Bool) where
      -- what is said of the sums at the end
      abbrev f : List ℕ → ℕ
      f s = cond (P (pos (sum_by squared s))) 1 0

      abbrev ends : List ℤ → Bool
      ends e = P (pos (sum_by square e))

      gathered-ways : (bs : List (List ℕ)) (g : ℕ) (s : List ℕ) → AllByRecursion (IsWhole k) bs → length s ≡ k → gathered square_pieces ends g (map pos s) (map labellings bs) ≡ over_ways k f (all_assignments bs) (replicate k 1) s
      gathered-ways [] g s all l = last (ends (map pos s)) ∙ ap (λ v. cond (P (pos v)) 1 0) (sum_by-map square pos s)
        where
          last : (b : Bool) → sum_by (product_weight square_pieces.mass g) (cond b ([] ∷ []) []) ≡ cond b 1 0
          last true = refl
          last false = refl
      gathered-ways (b ∷ bs) g s all l =
          gathered-cons square_pieces ends g (map pos s) (labellings b) (map labellings bs)
          ∙ sum_by-same_where (IsLabelling b) (λ c. 1 * gathered square_pieces ends (g + 1) (plus (map pos s) (map pos c)) (map labellings bs)) (λ c. over_ways k f (all_assignments bs) (replicate k 1) (added s c))
          (λ c o. each c (o.over.long ∙ all.0.treatments) (gathered-ways bs (g + 1) (added s c) all.1 (length-added k s c (omega (arith, l)) (o.over.long ∙ all.0.treatments)))) (labellings b) (each-labelling b)
          ∙ sym (block-first k f b (all_assignments bs) s stages.some all.0.treatments l)
        where
          each : (c : List ℕ) → length c ≡ k → gathered square_pieces ends (g + 1) (map pos (added s c)) (map labellings bs) ≡ over_ways k f (all_assignments bs) (replicate k 1) (added s c)
              → 1 * gathered square_pieces ends (g + 1) (plus (map pos s) (map pos c)) (map labellings bs) ≡ over_ways k f (all_assignments bs) (replicate k 1) (added s c)
          each c e rest =
              let once : (v : ℕ) → 1 * v ≡ v = λ v. omega arith in
              once (gathered square_pieces ends (g + 1) (plus (map pos s) (map pos c)) (map labellings bs))
              ∙ ap (λ y. gathered square_pieces ends (g + 1) y (map labellings bs)) (plus-pos s c (l ∙ sym e)) ∙ rest

      -- from sums that are reached
      module _ (untold : IsUntold k f) (even : (i : ℕ) → i < length vs → 0 < reflection_at reflections i → AreEvenAssignments k vs) where
        same-passing : (g : ℕ) (z : List ℤ) → g ≤ length blocks → IsThere (at g) z → passing n (λ e. P (n.value e)) (length vs - at g) (at g) (unassigned k ++ z) ≡ passing w (λ e. P (w.value e)) (length blocks - g) g z
        same-passing g z h p =
            let bs : List (List ℕ) = drop g blocks in
            let left : at g + (length vs - at g) ≡ length vs = omega (arith, many-there blocks g) in
            let ones : List ℕ = replicate k 1 in
            let one_each : length ones ≡ k = length-replicate {A = ℕ} k 1 in
            let start : IsReached n (at g) (map pos ones ++ map pos p.sums) = subst (λ room. IsReached n (at g) (room ++ map pos p.sums)) (sym (pos-alike k)) p.there in
            let many : length (map labellings bs) ≡ length blocks - g = length-map bs labellings ∙ length-drop g blocks in
            ap (λ y. passing n (λ e. P (n.value e)) (length vs - at g) (at g) (unassigned k ++ y)) p.is
            ∙ ap (λ room. passing n (λ e. P (n.value e)) (length vs - at g) (at g) (room ++ map pos p.sums)) (sym (pos-alike k))
            ∙ passing-ways k vs judge a reflections m (λ e. P (n.value e)) f (λ r s l. told r s l) (length vs - at g) (at g) ones p.sums left one_each
            ∙ same-ways k f stages.some untold vs reflections judge a m even (length vs - at g) (at g) ones p.sums left (told-of k vs judge a reflections m (at g) ones p.sums one_each start)
            ∙ ap (λ us. over_ways k f us ones p.sums) (left-there blocks g)
            ∙ sym (gathered-ways bs g p.sums (all-drop k g blocks whole) p.long)
            ∙ sym (bridge_from (square_addends x k blocks judge) square_pieces ends (λ s i y l. ap (λ v. P (pos v)) (sum_by-swap_at square i y)) g (map pos p.sums) (map labellings bs)
            (omega (arith, many, h)) (length-pos p.sums ∙ p.long) (stage-parts x k blocks judge stages.whole bs g refl))
            ∙ ap (λ i. passing w ends i g (map pos p.sums)) many
            ∙ ap (passing w ends (length blocks - g) g) (sym p.is)
          where
            told : (r s : List ℕ) → length r ≡ k → cond (P (n.value (map pos r ++ map pos s))) 1 0 ≡ f s
            told r s l = ap (λ y. cond (P (pos (sum_by squared (sizes_in y)))) 1 0) (sums-of k vs judge a reflections m r s l) ∙ ap f (sizes-back s)

    -- so the one goes on for the other
    pub assignments-go_on : AreSquares k blocks x → (even : (i : ℕ) → i < length vs → 0 < reflection_at reflections i → AreEvenAssignments k vs) → ((P : ℤ → Bool) → IsUntold k (f P))
        → (g : ℕ) → g ≤ length blocks → ((i : ℕ) → i < at g → reflection_at reflections i ≡ 0) → GoesOn w n g (at g) (λ z. unassigned k ++ z)
    assignments-go_on squares even untold g h none =
        let own : HasIntervals n judge = room_intervals (assigned_sums k vs reflections judge) one_each (assignment_width k vs) (assigned_measure k vs judge a reflections m) in
        let written : HasIntervals w judge = additive_intervals (square_addends x k blocks judge) (square_additive x k blocks judge stages squares) in
        let there : (z : List ℤ) → IsReached w g z → IsThere (at g) z = λ z r. there-at g z none r in
        let reached : (z : List ℤ) → IsReached w g z → IsReached n (at g) (unassigned k ++ z) = λ z r. subst (λ y. IsReached n (at g) (unassigned k ++ y)) (sym (there z r).is) (there z r).there in
        let within : at g ≤ length vs = omega (arith, many-there blocks g) in
        record {
          within = within;
          reached = reached;
          total = λ z r. all-pass n (at g) (unassigned k ++ z) ∙ same-passing (λ v. true) (untold (λ v. true)) even g z h (there z r) ∙ sym (all-pass w g z);
          extreme = λ t z r.
              extreme-from n judge own t (at g) (unassigned k ++ z) (reached z r) within
              ∙ same-passing (passes (rule_in judge t)) (untold (passes (rule_in judge t))) even g z h (there z r)
              ∙ sym (extreme-from w judge written t g z r h);
        }

-- ---- of a test

module _ (tests : BlockTests) (f : AreFitting tests) (squares : (tests.kind ≡ Friedman) ⊎ (tests.kind ≡ Cochran)) (tail : Tail) (cut : ℕ) where
  abbrev treatments : ℕ
  treatments = tests.blocks.treatments

  abbrev counts : List (List ℕ)
  counts = block_counts tests

  abbrev judged : Judge
  judged = judge_of (block_test tests)

  abbrev numbers : List ℕ
  numbers = block_reflections treatments counts cut

  -- none before the stage
  none-before : (i : ℕ) → i < assigned_before counts cut → reflection_at numbers i ≡ 0
  none-before i h = by (reflection_at numbers i) refl
    where
      inside : (g : ℕ) → assigned_before counts g ≤ length (all_assignments counts)
      inside g = omega (arith, many-there counts g)

      late : (b : Bool) → assigned_before counts cut ≤ assigned_before counts (cond b cut (length counts))
      late true = omega arith
      late false = omega (arith, inside cut, ap (λ bs. length (all_assignments bs)) (take-length counts))

      by : (v : ℕ) → reflection_at numbers i ≡ v → reflection_at numbers i ≡ 0
      by zero e = e
      by (suc v) e =
          let from : reflected_from counts cut ≤ i = reflections-from (reflected_from counts cut) treatments (all_assignments counts) i (omega (arith, h, inside cut)) (omega (arith, e)) in
          absurd (omega (arith, h, from, late (list_all is_even counts)))

  abbrev assigned : Network
  assigned = assignment_network treatments (all_assignments counts) numbers judged

  pub tests-go_on : cut ≤ length counts → GoesOn (network_by running_addends tests) assigned cut (assigned_before counts cut) (λ z. unassigned treatments ++ z)
  tests-go_on h = by squares
    where
      bound : ℕ
      bound = (block_test tests).bound

      own : (tests.kind ≡ Friedman) ⊎ (tests.kind ≡ Cochran) → GoesOn (additive_network (square_addends (from_zero (block_test tests).bound) treatments counts judged)) assigned cut (assigned_before counts cut) (λ z. unassigned treatments ++ z)
      own e = assignments-go_on treatments counts judged (stages tests f squares tail) numbers (reflections-are tests f squares tail cut) (from_zero (block_test tests).bound)
          (squares-from-zero treatments (block_test tests).bound counts (bounded tests f.blocks e) (bound-fits tests f))
          (even-assignments tests f squares tail cut) (said-untold tests f squares tail) cut h none-before

      by : (tests.kind ≡ Friedman) ⊎ (tests.kind ≡ Cochran) → GoesOn (network_by running_addends tests) assigned cut (assigned_before counts cut) (λ z. unassigned treatments ++ z)
      by (inl e) = subst (λ kind. GoesOn (additive_network (running_addends kind (block_test tests).bound treatments counts judged)) assigned cut (assigned_before counts cut) (λ z. unassigned treatments ++ z)) (sym e) (own (inl e))
      by (inr e) = subst (λ kind. GoesOn (additive_network (running_addends kind (block_test tests).bound treatments counts judged)) assigned cut (assigned_before counts cut) (λ z. unassigned treatments ++ z)) (sym e) (own (inr e))

  -- and so does the one with its treatments in order
  pub ordered-go_on : cut ≤ length counts → GoesOn (network_by running_addends tests) (assigned_network treatments (all_assignments counts) numbers judged) cut (assigned_before counts cut) (λ z. groups_in_order (order_for treatments) (alike treatments) (unassigned treatments ++ z))
  ordered-go_on h =
      let vs : List Assignment = all_assignments counts in
      let a : AreAssignments treatments vs judged = are-assignments treatments counts judged (stages tests f squares tail) in
      let m : AreReflections treatments vs numbers = reflections-are tests f squares tail cut in
      let reduced = treatments-reduced treatments vs judged a numbers m in
      let lawful = room_lawful (assignment_plan treatments vs) (assigned_sums treatments vs numbers judged) (assignment_plan_sound treatments vs judged a) (treatments-housed treatments vs judged a numbers treatments vs).housed (assigned_measure treatments vs judged a numbers m) in
      let one = tests-go_on h in
      goes_on-then one (reduced-goes_on (order_for treatments) reduced lawful (assigned_before counts cut) one.within (λ z r.
      let wide : length (alike treatments) ≡ treatments = length-replicate {A = ℕ} treatments 1 in
      ap (λ i. stay (order_for treatments) (take i z)) wide
      ∙ ap (stay (order_for treatments)) (room-free treatments vs judged a numbers m (assigned_before counts cut) z r (owed-there treatments counts judged (stages tests f squares tail) numbers m cut))
      ∙ none-stays (order_for treatments) treatments))
    where
      none-zero : (k : ℕ) → list_any (λ r. int_eq r (pos 0)) (replicate k (pos 1)) ≡ false
      none-zero zero = refl
      none-zero (suc k) = none-zero k

      none-stays : (order : Order) (k : ℕ) → stay order (unassigned k) ≡ false
      none-stays Sums k = refl
      none-stays SumsWhereAllRemain k = none-zero k

-- ---- the networks that run

-- they have a stage for each block
stages-many : (tests : BlockTests) → (network_by running_addends tests).count ≡ length (block_counts tests)
stages-many tests = by tests.kind refl
  where
    by : (kind : BlockKind) → tests.kind ≡ kind → (network_by running_addends tests).count ≡ length (block_counts tests)
    by kind e = subst (λ d. (additive_network (running_addends d (block_test tests).bound tests.blocks.treatments (block_counts tests) (judge_of (block_test tests)))).count ≡ length (block_counts tests)) (sym e) (own kind)
      where
        own : (d : BlockKind) → (additive_network (running_addends d (block_test tests).bound tests.blocks.treatments (block_counts tests) (judge_of (block_test tests)))).count ≡ length (block_counts tests)
        own Friedman = refl
        own Page = refl
        own Cochran = refl

pub stage-within : (tests : BlockTests) (g : ℕ) → g ≤ (network_by running_addends tests).count → g ≤ length (block_counts tests)
stage-within tests g h = omega (arith, h, stages-many tests)

-- a key of squared sums has a number for each treatment
pub sums-long : (tests : BlockTests) → AreFitting tests → (tests.kind ≡ Friedman) ⊎ (tests.kind ≡ Cochran) → (g : ℕ) (z : List ℤ) → IsReached (network_by running_addends tests) g z
    → AreTreatmentSums tests.blocks.treatments z (length (unassigned tests.blocks.treatments ++ z) ≡ length (alike tests.blocks.treatments) + length (alike tests.blocks.treatments))
sums-long tests f kind g z r =
    let k : ℕ = tests.blocks.treatments in
    let long : length z ≡ k = reached_length (running_addends tests.kind (block_test tests).bound k (block_counts tests) (judge_of (block_test tests))) g z r ∙ slots kind in
    record {
      few = f.blocks.at_most_eight;
      long = long;
      holds = omega (arith, length-append (unassigned k) z, length-replicate k (pos 1), length-replicate {A = ℕ} k 1, long);
    }
  where
    slots : (tests.kind ≡ Friedman) ⊎ (tests.kind ≡ Cochran) → (running_addends tests.kind (block_test tests).bound tests.blocks.treatments (block_counts tests) (judge_of (block_test tests))).slots ≡ tests.blocks.treatments
    slots (inl e) = ap (λ d. (running_addends d (block_test tests).bound tests.blocks.treatments (block_counts tests) (judge_of (block_test tests))).slots) e
    slots (inr e) = ap (λ d. (running_addends d (block_test tests).bound tests.blocks.treatments (block_counts tests) (judge_of (block_test tests))).slots) e

-- what goes on from keys as they are
pub alike-onward : (tests : BlockTests) (q : Network) → GoesOnAlike (network_by running_addends tests) q → (g : ℕ) → g ≤ length (block_counts tests) → IsOnward (network_by running_addends tests) g q g (λ z. length z ≡ q.width) (λ z. z)
alike-onward tests q on g h = record {
  goes_on = on.goes_on g (omega (arith, h, stages-many tests));
  taken = λ z r. reached_length (running_addends tests.kind (block_test tests).bound tests.blocks.treatments (block_counts tests) (judge_of (block_test tests))) g z r ∙ sym on.wide;
}
