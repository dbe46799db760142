-- From keys between blocks the network of assignments goes on for that of blocks, where no sums were reflected before.
use Rattle.std.proofs.Common.{◌≡◌, ℕ, zero, suc, ◌+◌, ◌*◌, ◌<◌, ◌≤◌, List, [], ◌∷◌, ◌++◌, length, map, take, drop, replicate, Bool, true, false, cond, refl, sym, ◌∙◌, ap, subst, arith, drop_of_length-le}
use Rattle.std.specs.Prelude.{ℤ, pos}
use Rattle.std.specs.List.{sum, sum_by, Contains}
use Rattle.std.proofs.lemmas.List.{length-replicate}
use Rattle.std.proofs.lemmas.List.Sums.{sum_by-cons}
use Rattle.weights.specs.Grouped.{choices, minus}
use Rattle.weights.specs.Labellings.{labellings}
use Rattle.weights.proofs.Sized.{length-minus}
use Rattle.weights.proofs.Sums.{sum_by-same}
use Rattle.node_pool.specs.Nodes.{key_eq}
use Rattle.networks.specs.Completions.{path_weight}
use Rattle.networks.specs.Network.{Network, IsReached}
use Rattle.networks.specs.declared.verdicts.Judge.{Judge}
use Rattle.networks.proofs.Elements.{term-le-sum_by}
use Rattle.networks.proofs.Steps.{passing, passing-step, reached-next}
use Rattle.networks.proofs.Writing.{leads, led, one_where, some_term}
use Rattle.room_network.proofs.RoomKeys.{back_is, choices_before, front_is, is_key}
use Rattle.label_network.specs.Meanings.{sizes_in}
use Rattle.label_network.proofs.LabelPlans.{sizes-back}
use Rattle.label_network.proofs.Rows.{length-abs, length-pos}
use Rattle.rank_assignments.specs.Assignments.{AreAssignments, ahead_at, assigned_sums, assignment_at, assignment_network, assignment_plan, assignments, gained, no_assignment, one_each, unassigned}
use Rattle.rank_assignments.specs.Reflections.{AreReflections}
use Rattle.rank_assignments.specs.Upright.{reflection_at, upright}
use Rattle.rank_assignments.specs.declared.assignment.Assignment.{Assignment}
use Rattle.rank_assignments.proofs.AssignedNarrows.{IsAssigned, assigned}
use Rattle.rank_assignments.proofs.AssignmentRooms.{AreOnes, IsAssignedRoom, assignment_width, at-assignment, pos-alike}
use Rattle.block_tests.specs.BlockTests.{added}
use Rattle.block_tests.proofs.AssignmentLaw.{block-first, left_after, next-is, over_reflected, over_ways}
use Rattle.block_tests.proofs.Staged.{at-head}

once : (n : ℕ) → n ≡ 1 * n
once n = omega arith

none-after : {X : Type 0} (xs : List X) → xs ≡ xs ++ []
none-after [] = refl
none-after (x ∷ xs) = ap (λ ys. x ∷ ys) (none-after xs)

ones-few : (r : List ℕ) → AreOnes r → sum r ≤ length r
ones-few [] a = omega arith
ones-few (x ∷ r) a = omega (arith, a.0, ones-few r a.1, sum_by-cons (λ v. v) x r)

-- as many ones as there are places are one each
all-ones : (k : ℕ) (r : List ℕ) → length r ≡ k → AreOnes r → sum r ≡ k → r ≡ replicate k 1
all-ones zero [] l a e = refl
all-ones zero (x ∷ r) l a e = absurd (omega (arith, l))
all-ones (suc k) [] l a e = absurd (omega (arith, l))
all-ones (suc k) (x ∷ r) l a e =
    let all : sum (x ∷ r) ≡ x + sum r = sum_by-cons (λ v. v) x r in
    let few : sum r ≤ length r = ones-few r a.1 in
    let one : x ≡ 1 = omega (arith, l, a.0, e, all, few) in
    ap (λ v. v ∷ r) one ∙ ap (λ rs. 1 ∷ rs) (all-ones k r (omega (arith, l)) a.1 (omega (arith, e, all, one)))

left-long : (b : Bool) (k : ℕ) (r c : List ℕ) → length r ≡ k → length (cond b (replicate k 1) (minus r c)) ≡ k
left-long true k r c l = length-replicate {A = ℕ} k 1
left-long false k r c l = length-minus r c ∙ l

module _ (k : ℕ) (vs : List Assignment) (judge : Judge) (a : AreAssignments k vs judge) (reflections : List ℕ) (m : AreReflections k vs reflections) where
  abbrev n : Network
  n = assignment_network k vs reflections judge

  -- a key of these rooms and sums
  abbrev key : List ℕ → List ℕ → List ℤ
  key r s = map pos r ++ map pos s

  -- the sums after a choice
  abbrev raised : ℕ → List ℕ → List ℕ → List ℕ
  raised g c s = upright (reflection_at reflections g) (gained (assignment_at vs g).value c s)

  abbrev left : ℕ → List ℕ → List ℕ → List ℕ
  left g r c = left_after k (assignment_at vs g) r c

  room-of : (r s : List ℕ) → length r ≡ k → take k (key r s) ≡ map pos r
  room-of r s l = front_is k (map pos r) (map pos s) (length-pos r ∙ l)

  pub sums-of : (r s : List ℕ) → length r ≡ k → drop k (key r s) ≡ map pos s
  sums-of r s l = back_is k (map pos r) (map pos s) (length-pos r ∙ l)

  choices-are : (g : ℕ) (r s : List ℕ) → g < length vs → length r ≡ k → n.choices g (key r s) ≡ choices (assignment_at vs g).count r
  choices-are g r s h l =
      choices_before (assignment_plan k vs) g (take k (key r s)) h
      ∙ ap (λ q. choices (assignment_at vs g).count (sizes_in q)) (room-of r s l)
      ∙ ap (choices (assignment_at vs g).count) (sizes-back r)

  led-to : (g : ℕ) (r s c : List ℕ) → length r ≡ k → n.next g (key r s) c ≡ key (left g r c) (raised g c s)
  led-to g r s c l =
      ap (λ q. cond (assignment_at vs g).closes (unassigned k) (map pos (minus (sizes_in q) c)) ++ map pos (raised g c (sizes_in (drop k (key r s))))) (room-of r s l)
      ∙ ap (λ p. cond (assignment_at vs g).closes (unassigned k) (map pos (minus (sizes_in (map pos r)) c)) ++ map pos (raised g c (sizes_in p))) (sums-of r s l)
      ∙ ap (λ q. q ++ map pos (raised g c (sizes_in (map pos s)))) (next-is k vs reflections judge (λ t. 0) (assignment_at vs g) r c)
      ∙ ap (λ t. map pos (left g r c) ++ map pos (raised g c t)) (sizes-back s)

  -- the ways on from a key, where what is said at the end is said of the treatments' sums
  module _ (p : List ℤ → Bool) (f : List ℕ → ℕ) (told : (r s : List ℕ) → length r ≡ k → cond (p (key r s)) 1 0 ≡ f s) where
    pub passing-ways : (i g : ℕ) (r s : List ℕ) → g + i ≡ length vs → length r ≡ k → passing n p i g (key r s) ≡ over_reflected k f reflections g (drop g vs) r s
    passing-ways zero g r s e l =
        let none : drop g vs ≡ [] = drop_of_length-le vs {i = g} (omega (arith, e)) in
        last (p (key r s)) ∙ told r s l ∙ sym (ap (λ us. over_reflected k f reflections g us r s) none)
      where
        last : (b : Bool) → sum_by (path_weight n g (key r s)) (cond b ([] ∷ []) []) ≡ cond b 1 0
        last true = refl
        last false = refl
    passing-ways (suc i) g r s e l =
        let h : g < length vs = omega (arith, e) in
        passing-step n p i g (key r s)
        ∙ ap (sum_by (λ c. 1 * passing n p i (g + 1) (n.next g (key r s) c))) (choices-are g r s h l)
        ∙ sum_by-same (λ c. 1 * passing n p i (g + 1) (n.next g (key r s) c)) (λ c. over_reflected k f reflections (g + 1) (drop (g + 1) vs) (left g r c) (raised g c s))
        (λ c. sym (once (passing n p i (g + 1) (n.next g (key r s) c)))
        ∙ ap (passing n p i (g + 1)) (led-to g r s c l)
        ∙ passing-ways i (g + 1) (left g r c) (raised g c s) (omega (arith, e)) (left-long (assignment_at vs g).closes k r c l))
        (choices (assignment_at vs g).count r)
        ∙ sym (ap (λ us. over_reflected k f reflections g us r s) (at-assignment k vs g h))

  -- ---- what is reached

  -- a key whose sums say something
  record Reaches (f : List ℕ → ℕ) (g : ℕ) : Type 0 where
    room : List ℕ
    sums : List ℕ
    long : length room ≡ k
    told : 1 ≤ f sums
    there : IsReached n g (key room sums)

  unreflected : (v : Assignment) (g : ℕ) (r s c : List ℕ) → g < length vs → assignment_at vs g ≡ v → reflection_at reflections g ≡ 0 → length r ≡ k → IsReached n g (key r s) → Contains (choices v.count r) c → IsReached n (g + 1) (key (left_after k v r c) (gained v.value c s))
  unreflected v g r s c h is none l t o =
      subst (λ z. IsReached n (g + 1) (key (left_after k v r c) (upright z (gained v.value c s)))) none
      (subst (λ (u : Assignment). IsReached n (g + 1) (key (left_after k u r c) (upright (reflection_at reflections g) (gained u.value c s)))) is
      (subst (IsReached n (g + 1)) (led-to g r s c l) (reached-next n g (key r s) c t h
      (subst (λ cs. Contains cs c) (sym (choices-are g r s h l)) (subst (λ (u : Assignment). Contains (choices u.count r) c) (sym is) o)))))

  -- where the ways to serve some assignments come to something, one of them is gone
  served : (f : List ℕ → ℕ) (us rest : List Assignment) (g : ℕ) (r s : List ℕ) → drop g vs ≡ us ++ rest → ((i : ℕ) → i < length us → reflection_at reflections (g + i) ≡ 0) → length r ≡ k → IsReached n g (key r s) → 1 ≤ over_ways k f us r s → Reaches f (g + length us)
  served f [] rest g r s e none l t some =
      let same : g ≡ g + 0 = omega arith in
      record { room = r; sums = s; long = l; told = some; there = subst (λ i. IsReached n i (key r s)) same t }
  served f (v ∷ us) rest g r s e none l t some =
      let here = at-head vs g v (us ++ rest) no_assignment e in
      let found = some_term (λ c. over_ways k f us (left_after k v r c) (gained v.value c s)) (choices v.count r) some in
      let at : g + 0 ≡ g = omega arith in
      let plain : reflection_at reflections g ≡ 0 = ap (reflection_at reflections) (sym at) ∙ none 0 (omega arith) in
      let later : g + 1 + length us ≡ g + suc (length us) = omega arith in
      subst (Reaches f) later
      (served f us rest (g + 1) (left_after k v r found.0) (gained v.value found.0 s) here.1
      (λ i h. (let there : g + 1 + i ≡ g + suc i = omega arith in ap (reflection_at reflections) there ∙ none (suc i) (omega (arith, h))))
      (left-long v.closes k r found.0 l)
      (unreflected v g r s found.0 here.2 here.0 plain l t found.1) found.2)

  -- so each arrangement of the next block is
  pub arranged : (counts : List ℕ) (rest : List Assignment) (g : ℕ) (s x : List ℕ) → drop g vs ≡ assignments 0 counts ++ rest → ((i : ℕ) → i < length (assignments 0 counts) → reflection_at reflections (g + i) ≡ 0) → 1 ≤ k → sum counts ≡ k → length s ≡ k → IsReached n g (key (replicate k 1) s) → Contains (labellings counts) x
      → (q : List ℕ) × (length q ≡ k) × IsReached n (g + length (assignments 0 counts)) (key q (added s x))
  arranged counts rest g s x e none some whole l t o =
      let us : List Assignment = assignments 0 counts in
      let f : List ℕ → ℕ = λ y. one_where (key_eq (map pos y) (map pos (added s x))) in
      let law : over_ways k f (us ++ []) (replicate k 1) s ≡ sum_by (λ y. f (added s y)) (labellings counts) = block-first k f counts [] s some whole l in
      let plain : over_ways k f us (replicate k 1) s ≡ over_ways k f (us ++ []) (replicate k 1) s = ap (λ zs. over_ways k f zs (replicate k 1) s) (none-after us) in
      let one : 1 ≤ 1 * f (added s x) = leads 1 (map pos (added s x)) (map pos (added s x)) (omega arith) refl in
      let among : f (added s x) ≤ sum_by (λ y. f (added s y)) (labellings counts) = term-le-sum_by (λ y. f (added s y)) (labellings counts) x o in
      let there : Reaches f (g + length us) = served f us rest g (replicate k 1) s e none (length-replicate {A = ℕ} k 1) t (omega (arith, one, among, law, plain)) in
      let same : map pos there.sums ≡ map pos (added s x) = led 1 (map pos there.sums) (map pos (added s x)) (omega (arith, there.told)) in
      (there.room, there.long, subst (λ z. IsReached n (g + length us) (map pos there.room ++ z)) same there.there)

  pub told-of : (g : ℕ) (r s : List ℕ) → length r ≡ k → IsReached n g (key r s) → IsAssigned k vs judge a g (map pos r) (map pos s)
  told-of g r s l t =
      subst (λ room. IsAssigned k vs judge a g room (map pos s)) (room-of r s l)
      (subst (IsAssigned k vs judge a g (take k (key r s))) (sums-of r s l)
      (assigned k vs judge a reflections m g (take k (key r s)) (drop k (key r s)) (is_key (assigned_sums k vs reflections judge) one_each (assignment_width k vs) g (key r s) t).reached))

  -- between blocks no treatment has a number
  pub room-free : (g : ℕ) (z : List ℤ) → IsReached n g z → (ahead_at k vs g).owed ≡ k → take k z ≡ unassigned k
  room-free g z t e =
      let room : IsAssignedRoom k vs g (take k z) = (assigned k vs judge a reflections m g (take k z) (drop k z) (is_key (assigned_sums k vs reflections judge) one_each (assignment_width k vs) g z t).reached).placed in
      room.held ∙ ap (map pos) (all-ones k (sizes_in (take k z)) (length-abs (take k z) ∙ room.long) room.ones (room.owed ∙ e)) ∙ pos-alike k

  pub between : (g : ℕ) (r s : List ℕ) → length r ≡ k → IsReached n g (key r s) → (ahead_at k vs g).owed ≡ k → map pos r ≡ unassigned k
  between g r s l t e = sym (room-of r s l) ∙ room-free g (key r s) t e
