-- Sums and their reflection go on to the same values where the later blocks are even, so that sums which are reflected on the way end as often at each value.
use Rattle.std.proofs.Common.{◌≡◌, ℕ, zero, suc, ◌+◌, ◌*◌, ◌<◌, ◌≤◌, List, [], ◌∷◌, ◌++◌, map, drop, length, replicate, true, refl, sym, ◌∙◌, ap, subst, arith, add-one, cond, drop_of_length-le}
use Rattle.std.proofs.lemmas.Bool.{eqb-true}
use Rattle.std.specs.Prelude.{pos}
use Rattle.std.specs.List.{sum, AllByRecursion}
use Rattle.weights.specs.Grouped.{choices, minus}
use Rattle.weights.specs.Labellings.{labellings}
use Rattle.weights.proofs.ChoiceLists.{IsChoice, choices-each}
use Rattle.weights.proofs.Members.{IsLabelling}
use Rattle.weights.proofs.Sums.{sum_by-same_where}
use Rattle.enumerate.proofs.JoinedMembers.{each-labelling}
use Rattle.networks.specs.declared.verdicts.Judge.{Judge}
use Rattle.label_network.specs.Meanings.{sizes_in}
use Rattle.label_network.proofs.LabelPlans.{sizes-back}
use Rattle.label_network.proofs.Rows.{length-pos}
use Rattle.rank_assignments.specs.Reflections.{AreReflections, IsReflection}
use Rattle.rank_assignments.specs.Assignments.{AreAssignments, all_assignments, gained, assignment_at, assignments, unassigned}
use Rattle.rank_assignments.specs.Upright.{reflection_at, reflected, upright}
use Rattle.rank_assignments.specs.declared.assignment.Assignment.{Assignment}
use Rattle.rank_assignments.proofs.AssignedNarrows.{IsAssigned, gained-next, assigned-next}
use Rattle.rank_assignments.proofs.AssignmentRooms.{at-assignment}
use Rattle.rank_assignments.proofs.UprightSums.{IsLeaning, either, length-reflected}
use Rattle.block_tests.specs.BlockSteps.{IsWhole}
use Rattle.block_tests.specs.BlockTests.{added}
use Rattle.block_tests.specs.EvenBlocks.{end_sum}
use Rattle.block_tests.proofs.EvenBlocks.{IsEven, cells-within, even-sum, opposite_label, labellings-opposite, reflection-is}
use Rattle.block_tests.proofs.AssignmentLaw.{block-first, left_after, next-is, over_reflected, over_ways, assignments-none}
use Rattle.block_tests.proofs.TreatmentSums.{added-within, length-added, reflected-added, sum-added}

-- the assignments of even blocks of k treatments
pub record AreEvenAssignments (k : ℕ) (vs : List Assignment) : Type 0 where
  pub blocks : List (List ℕ)
  pub are : vs ≡ all_assignments blocks
  pub whole : AllByRecursion (IsWhole k) blocks
  pub even : AllByRecursion IsEven blocks

-- what closes a block is followed by the later blocks
in-block : (k : ℕ) (rest : List Assignment) → AreEvenAssignments k rest → ((g : ℕ) → g < length rest → (assignment_at rest g).closes ≡ true → AreEvenAssignments k (drop (suc g) rest))
    → (i : ℕ) (counts : List ℕ) (g : ℕ) → g < length (assignments i counts ++ rest) → (assignment_at (assignments i counts ++ rest) g).closes ≡ true → AreEvenAssignments k (drop (suc g) (assignments i counts ++ rest))
in-block k rest r later i [] g h c = later g h c
in-block k rest r later i (zero ∷ counts) g h c = in-block k rest r later (i + 1) counts g h c
in-block k rest r later i (suc n ∷ counts) zero h c =
    subst (λ us. AreEvenAssignments k (us ++ rest)) (sym (assignments-none (i + 1) counts (eqb-true (sum counts) 0 c))) r
in-block k rest r later i (suc n ∷ counts) (suc g) h c = in-block k rest r later (i + 1) counts g (omega (arith, h)) c

all-later : (k : ℕ) (blocks : List (List ℕ)) → AllByRecursion (IsWhole k) blocks → AllByRecursion IsEven blocks → (g : ℕ) → g < length (all_assignments blocks) → (assignment_at (all_assignments blocks) g).closes ≡ true → AreEvenAssignments k (drop (suc g) (all_assignments blocks))
all-later k [] w e g h c = absurd (omega (arith, h))
all-later k (counts ∷ blocks) w e g h c =
    in-block k (all_assignments blocks) (record { blocks = blocks; are = refl; whole = w.1; even = e.1 }) (λ i. all-later k blocks w.1 e.1 i) 0 counts g h c

later-even : (k : ℕ) (vs : List Assignment) → AreEvenAssignments k vs → (g : ℕ) → g < length vs → (assignment_at vs g).closes ≡ true → AreEvenAssignments k (drop (g + 1) vs)
later-even k vs e g h c =
    rw add-one (subst (λ us. g < length us → (assignment_at us g).closes ≡ true → AreEvenAssignments k (drop (suc g) us)) (sym e.are) (all-later k e.blocks e.whole e.even g) h c)

-- what does not tell sums from their reflection
abbrev pub IsUntold : ℕ → (List ℕ → ℕ) → Type 0
IsUntold k f = (c : ℕ) (s : List ℕ) → length s ≡ k → AllByRecursion (λ n. n ≤ c) s → k * c ≡ 2 * sum s → f (reflected c s) ≡ f s

module _ (k : ℕ) (f : List ℕ → ℕ) (some : 1 ≤ k) (untold : IsUntold k f) where
  abbrev ways : List (List ℕ) → List ℕ → ℕ
  ways blocks s = over_ways k f (all_assignments blocks) (replicate k 1) s

  pub reflected-ways : (blocks : List (List ℕ)) (c : ℕ) (s : List ℕ) → AllByRecursion (IsWhole k) blocks → AllByRecursion IsEven blocks → length s ≡ k → AllByRecursion (λ n. n ≤ c) s → k * c ≡ 2 * sum s
      → over_ways k f (all_assignments blocks) (replicate k 1) (reflected c s) ≡ over_ways k f (all_assignments blocks) (replicate k 1) s
  reflected-ways [] c s w e l a h = untold c s l a h
  reflected-ways (counts ∷ blocks) c s w e l a h =
      block-first k f counts (all_assignments blocks) (reflected c s) some w.0.treatments (length-reflected c s ∙ l)
      ∙ labellings-opposite counts e.0 (λ x. ways blocks (added (reflected c s) x))
      ∙ sum_by-same_where (IsLabelling counts) (λ x. ways blocks (added (reflected c s) (map (λ i. opposite_label (length counts) (end_sum counts) i) x))) (λ x. ways blocks (added s x)) (each (λ d t. reflected-ways blocks d t w.1 e.1)) (labellings counts) (each-labelling counts)
      ∙ sym (block-first k f counts (all_assignments blocks) s some w.0.treatments l)
    where
      each : ((d : ℕ) (t : List ℕ) → length t ≡ k → AllByRecursion (λ n. n ≤ d) t → k * d ≡ 2 * sum t → over_ways k f (all_assignments blocks) (replicate k 1) (reflected d t) ≡ over_ways k f (all_assignments blocks) (replicate k 1) t)
          → (x : List ℕ) → IsLabelling counts x → ways blocks (added (reflected c s) (map (λ i. opposite_label (length counts) (end_sum counts) i) x)) ≡ ways blocks (added s x)
      each later x o =
          let many : length x ≡ k = o.over.long ∙ w.0.treatments in
          let within : AllByRecursion (λ n. n ≤ end_sum counts) x = cells-within counts e.0 x o in
          let level : length s ≡ length x = l ∙ sym many in
          let twice : 2 * sum x ≡ k * end_sum counts = even-sum counts e.0 x o ∙ ap (λ n. n * end_sum counts) many in
          let parts : k * (c + end_sum counts) ≡ k * c + k * end_sum counts = split k c (end_sum counts) in
          ap (λ y. ways blocks (added (reflected c s) y)) (reflection-is counts e.0 x o)
          ∙ ap (ways blocks) (reflected-added c (end_sum counts) s x level a within)
          ∙ later (c + end_sum counts) (added s x) (length-added k s x (omega (arith, l)) many) (added-within c (end_sum counts) s x a within) (omega (arith, parts, h, twice, sum-added s x level))
        where
          split : (k a b : ℕ) → k * (a + b) ≡ k * a + k * b
          split k a b = grind arith

  -- ---- sums that are reflected on the way

  module _ (vs : List Assignment) (reflections : List ℕ) (judge : Judge) (a : AreAssignments k vs judge) (m : AreReflections k vs reflections)
      (even : (g : ℕ) → g < length vs → 0 < reflection_at reflections g → AreEvenAssignments k vs) where
    pub same-ways : (n g : ℕ) (r s : List ℕ) → g + n ≡ length vs → IsAssigned k vs judge a g (map pos r) (map pos s) → over_reflected k f reflections g (drop g vs) r s ≡ over_ways k f (drop g vs) r s
    same-ways zero g r s e o =
        let none : drop g vs ≡ [] = drop_of_length-le vs {i = g} (omega (arith, e)) in
        ap (λ us. over_reflected k f reflections g us r s) none ∙ sym (ap (λ us. over_ways k f us r s) none)
    same-ways (suc n) g r s e o =
        let h : g < length vs = omega (arith, e) in
        ap (λ us. over_reflected k f reflections g us r s) (at-assignment k vs g h)
        ∙ sum_by-same_where (IsChoice (assignment_at vs g).count r)
        (λ c. over_reflected k f reflections (g + 1) (drop (g + 1) vs) (left_after k (assignment_at vs g) r c) (upright (reflection_at reflections g) (gained (assignment_at vs g).value c s)))
        (λ c. over_ways k f (drop (g + 1) vs) (left_after k (assignment_at vs g) r c) (gained (assignment_at vs g).value c s))
        (λ c d. same-ways n (g + 1) (left_after k (assignment_at vs g) r c) (upright (reflection_at reflections g) (gained (assignment_at vs g).value c s)) (omega (arith, e)) (next h c d) ∙ kept h c d)
        (choices (assignment_at vs g).count r) (choices-each (assignment_at vs g).count r)
        ∙ sym (ap (λ us. over_ways k f us r s) (at-assignment k vs g h))
      where
        as-choice : (c : List ℕ) → IsChoice (assignment_at vs g).count r c → IsChoice (assignment_at vs g).count (sizes_in (map pos r)) c
        as-choice c d = subst (λ q. IsChoice (assignment_at vs g).count q c) (sym (sizes-back r)) d

        -- after a choice, reflected or not
        next : g < length vs → (c : List ℕ) → IsChoice (assignment_at vs g).count r c → IsAssigned k vs judge a (g + 1) (map pos (left_after k (assignment_at vs g) r c)) (map pos (upright (reflection_at reflections g) (gained (assignment_at vs g).value c s)))
        next h c d =
            subst (λ room. IsAssigned k vs judge a (g + 1) room (map pos (upright (reflection_at reflections g) (gained (assignment_at vs g).value c s)))) (next-is k vs reflections judge f (assignment_at vs g) r c)
            (subst (λ q. IsAssigned k vs judge a (g + 1) (cond (assignment_at vs g).closes (unassigned k) (map pos (minus (sizes_in (map pos r)) c))) (map pos (upright (reflection_at reflections g) (gained (assignment_at vs g).value c q)))) (sizes-back s)
            (assigned-next k vs judge a reflections m g (map pos r) (map pos s) c h o (as-choice c d)))

        plain : g < length vs → (c : List ℕ) → IsChoice (assignment_at vs g).count r c → IsAssigned k vs judge a (g + 1) (cond (assignment_at vs g).closes (unassigned k) (map pos (minus (sizes_in (map pos r)) c))) (map pos (gained (assignment_at vs g).value c s))
        plain h c d =
            subst (λ q. IsAssigned k vs judge a (g + 1) (cond (assignment_at vs g).closes (unassigned k) (map pos (minus (sizes_in (map pos r)) c))) (map pos (gained (assignment_at vs g).value c q))) (sizes-back s)
            (gained-next k vs judge a g (map pos r) (map pos s) c h o (as-choice c d))

        kept : g < length vs → (c : List ℕ) → IsChoice (assignment_at vs g).count r c
            → over_ways k f (drop (g + 1) vs) (left_after k (assignment_at vs g) r c) (upright (reflection_at reflections g) (gained (assignment_at vs g).value c s)) ≡ over_ways k f (drop (g + 1) vs) (left_after k (assignment_at vs g) r c) (gained (assignment_at vs g).value c s)
        kept h c d =
            either (λ y. over_ways k f (drop (g + 1) vs) (left_after k (assignment_at vs g) r c) y ≡ over_ways k f (drop (g + 1) vs) (left_after k (assignment_at vs g) r c) (gained (assignment_at vs g).value c s)) (reflection_at reflections g) (gained (assignment_at vs g).value c s)
            (λ l. over (m.each g h l.some) (later-even k vs (even g h l.some) g h (m.each g h l.some).closes) l (plain h c d)) refl
          where
            sums : List ℕ
            sums = gained (assignment_at vs g).value c s

            -- the block is closed, and even blocks follow
            closed : IsReflection k vs g (reflection_at reflections g) → (y : List ℕ) → over_ways k f (drop (g + 1) vs) (left_after k (assignment_at vs g) r c) y ≡ over_ways k f (drop (g + 1) vs) (replicate k 1) y
            closed i y = ap (λ b. over_ways k f (drop (g + 1) vs) (cond b (replicate k 1) (minus r c)) y) i.closes

            over : IsReflection k vs g (reflection_at reflections g) → AreEvenAssignments k (drop (g + 1) vs) → IsLeaning (reflection_at reflections g) sums → IsAssigned k vs judge a (g + 1) (cond (assignment_at vs g).closes (unassigned k) (map pos (minus (sizes_in (map pos r)) c))) (map pos sums)
                → over_ways k f (drop (g + 1) vs) (left_after k (assignment_at vs g) r c) (reflected (reflection_at reflections g) sums) ≡ over_ways k f (drop (g + 1) vs) (left_after k (assignment_at vs g) r c) sums
            over i v l p =
                let half : k * reflection_at reflections g ≡ 2 * sum sums = omega (arith, i.half, p.whole, ap sum (sizes-back sums)) in
                closed i (reflected (reflection_at reflections g) sums)
                ∙ ap (λ us. over_ways k f us (replicate k 1) (reflected (reflection_at reflections g) sums)) v.are
                ∙ reflected-ways v.blocks (reflection_at reflections g) sums v.whole v.even (sym (length-pos sums) ∙ p.long) l.within half
                ∙ sym (ap (λ us. over_ways k f us (replicate k 1) sums) v.are)
                ∙ sym (closed i sums)
