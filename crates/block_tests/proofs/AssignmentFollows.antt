-- The network of assignments follows the tests of squares, and blocks have assignments that a lawful network is made of.
use Rattle.std.proofs.Common.{◌≡◌, ℕ, zero, suc, ◌+◌, ◌-◌, ◌*◌, ◌<◌, ◌≤◌, ◌⊎◌, inl, inr, List, [], ◌∷◌, ◌++◌, map, drop, length, replicate, Bool, true, false, cond, refl, sym, ◌∙◌, ap, subst, arith, add-one, nat_eq, length-append}
use Rattle.std.specs.Prelude.{ℤ, pos}
use Rattle.std.specs.List.{sum_by, sum, concat, AllByRecursion, list_all}
use Rattle.std.proofs.Math.Seq.{take-length}
use Rattle.std.proofs.lemmas.Bool.{eqb-true}
use Rattle.std.proofs.lemmas.List.{length-replicate}
use Rattle.std.proofs.lemmas.List.Elements.{All-from_recursion, recursion_from_All}
use Rattle.std.proofs.lemmas.List.Sums.{sum_by-cons}
use Rattle.weights.specs.declared.tails.Tail.{Tail}
use Rattle.weights.specs.Conditional.{unit_weight}
use Rattle.weights.specs.Labellings.{labellings, number_of_labellings, product}
use Rattle.weights.specs.Numbers.{binomial}
use Rattle.weights.specs.Rules.{measured}
use Rattle.weights.proofs.Binomials.{binomial-all, binomial-zero, number_of_labellings-cons}
use Rattle.weights.proofs.Chosen.{one_if}
use Rattle.weights.proofs.Filters.{all_append}
use Rattle.weights.proofs.FirstLabel.{labellings-none}
use Rattle.weights.proofs.Members.{IsLabelling, all_fronts}
use Rattle.weights.proofs.Sums.{sum_by-filter, sum_by-map, sum_by-same_where}
use Rattle.enumerate.proofs.JoinedMembers.{each-labelling}
use Rattle.networks.specs.Completions.{value_weights, paths, path_weight}
use Rattle.networks.specs.Follows.{Follows, measured_weight}
use Rattle.networks.specs.Judged.{judge_of}
use Rattle.networks.specs.declared.verdicts.Judge.{Judge}
use Rattle.room_network.specs.Meanings.{Meaning, partial_after}
use Rattle.room_network.specs.Plans.{Plan, alone}
use Rattle.room_network.proofs.RoomKeys.{room_ending}
use Rattle.room_network.proofs.RoomLaws.{room_intervals}
use Rattle.label_network.specs.Meanings.{sizes_in}
use Rattle.rank_assignments.specs.Reflections.{AreReflections}
use Rattle.rank_assignments.specs.Assignments.{AreAssignments, ahead, all_assignments, one_each, assigned_sums, assignment_at, assignment_network, assignment_plan, assignments, unassigned}
use Rattle.rank_assignments.specs.Upright.{reflection_at}
use Rattle.networks.specs.Distances.{squared}
use Rattle.rank_assignments.specs.declared.assignment.Assignment.{Assignment}
use Rattle.rank_assignments.proofs.ReflectionSteps.{are-reflections, reflections-from}
use Rattle.rank_assignments.proofs.AssignedNarrows.{IsAssigned, assigned-first, assigned_measure}
use Rattle.rank_assignments.proofs.SumEnds.{pos-zeros}
use Rattle.rank_assignments.proofs.AssignmentRooms.{pos-alike, assignment_width}
use Rattle.rank_assignments.proofs.UprightSums.{squares-reflected}
use Rattle.block_tests.specs.BlockSteps.{AreStages, IsWhole, ways_of}
use Rattle.block_tests.specs.BlockTests.{BlockTests, added, block_counts, block_statistic, block_test, cut, rearrangements, square_sum, treatment_sums}
use Rattle.block_tests.specs.EvenBlocks.{assigned_before, block_reflections, is_even, reflected_from}
use Rattle.block_tests.specs.PreparedSteps.{AreFitting}
use Rattle.block_tests.specs.declared.kinds.BlockKind.TheVariants.{Friedman, Cochran}
use Rattle.block_tests.proofs.EvenBlocks.{each-even}
use Rattle.block_tests.proofs.Fitting.{are-stages, blocks-many, measured_at}
use Rattle.block_tests.proofs.ReflectedWays.{AreEvenAssignments, IsUntold, same-ways}
use Rattle.block_tests.proofs.AssignmentLaw.{blocks-arranged, network-ways, assignments-none, summed}
use Rattle.block_tests.proofs.TreatmentSums.{added-assoc, added-zeros, length-added, length-sums, sums-front, zeros-added}

-- ---- the sums of a rearrangement

added-left : (k : ℕ) (xs ys zs : List ℕ) → length xs ≡ k → length ys ≡ k → length zs ≡ k → added xs (added ys zs) ≡ added ys (added xs zs)
added-left k [] [] zs e f g = refl
added-left k [] (y ∷ ys) zs e f g = absurd (omega (arith, e, f))
added-left k (x ∷ xs) [] zs e f g = absurd (omega (arith, e, f))
added-left k (x ∷ xs) (y ∷ ys) [] e f g = absurd (omega (arith, e, g))
added-left zero (x ∷ xs) (y ∷ ys) (z ∷ zs) e f g = absurd (omega (arith, e))
added-left (suc k) (x ∷ xs) (y ∷ ys) (z ∷ zs) e f g =
    let same : x + (y + z) ≡ y + (x + z) = omega arith in
    ap (λ v. v ∷ added xs (added ys zs)) same ∙ ap (λ vs. (y + (x + z)) ∷ vs) (added-left k xs ys zs (omega (arith, e)) (omega (arith, f)) (omega (arith, g)))

summed-is : (k : ℕ) (xs : List (List ℕ)) (s : List ℕ) → AllByRecursion (λ x. length x ≡ k) xs → length s ≡ k → summed xs s ≡ added (treatment_sums k (cut k (length xs) (concat xs))) s
summed-is k [] s a l = sym (zeros-added k s l)
summed-is k (x ∷ xs) s a l =
    let rest : List ℕ = treatment_sums k (cut k (length xs) (concat xs)) in
    let rest_long : length rest ≡ k = length-sums k (length xs) (concat xs) in
    summed-is k xs (added s x) a.1 (length-added k s x (omega (arith, l)) a.0)
    ∙ ap (added rest) (added-comm k s x l a.0)
    ∙ added-left k rest x s rest_long a.0 l
    ∙ sym (added-assoc x rest s)
    ∙ ap (λ t. added t s) (sym (sums-front k (length xs) x (concat xs) a.0))
  where
    added-comm : (k : ℕ) (xs ys : List ℕ) → length xs ≡ k → length ys ≡ k → added xs ys ≡ added ys xs
    added-comm k [] [] e f = refl
    added-comm k [] (y ∷ ys) e f = absurd (omega (arith, e, f))
    added-comm k (x ∷ xs) [] e f = absurd (omega (arith, e, f))
    added-comm zero (x ∷ xs) (y ∷ ys) e f = absurd (omega (arith, e))
    added-comm (suc k) (x ∷ xs) (y ∷ ys) e f =
        let same : x + y ≡ y + x = omega arith in
        ap (λ v. v ∷ added xs ys) same ∙ ap (λ vs. (y + x) ∷ vs) (added-comm k xs ys (omega (arith, e)) (omega (arith, f)))

-- one arrangement of each block
record AreParts (k n : ℕ) (xs : List (List ℕ)) : Type 0 where
  many : length xs ≡ n
  each : AllByRecursion (λ x. length x ≡ k) xs

product-parts : (k : ℕ) (blocks : List (List ℕ)) → AllByRecursion (IsWhole k) blocks → AllByRecursion (AreParts k (length blocks)) (product (map labellings blocks))
product-parts k [] a = (record { many = refl; each = tt }, tt)
product-parts k (counts ∷ blocks) a =
    all_fronts (AreParts k (suc (length blocks))) (IsLabelling counts) (λ x. product (map labellings blocks))
    (λ x h. weaker x (h.over.long ∙ a.0.treatments) (product (map labellings blocks)) (product-parts k blocks a.1))
    (labellings counts) (each-labelling counts)
  where
    weaker : (x : List ℕ) → length x ≡ k → (xss : List (List (List ℕ))) → AllByRecursion (AreParts k (length blocks)) xss → AllByRecursion (λ rest. AreParts k (suc (length blocks)) (x ∷ rest)) xss
    weaker x e [] b = tt
    weaker x e (xs ∷ xss) b = (record { many = ap suc b.0.many; each = (e, b.0.each) }, weaker x e xss b.1)

-- ---- assignments of blocks

-- what closes a block is followed by a block of k treatments, or by nothing
AreOpened : ℕ → List Assignment → Type 0
AreOpened k [] = Unit {0}
AreOpened k (v ∷ vs) = (v.closes ≡ true → (ahead k vs).owed ≡ k) × AreOpened k vs

opened-at : (k : ℕ) (vs : List Assignment) → AreOpened k vs → (g : ℕ) → g < length vs → (assignment_at vs g).closes ≡ true → (ahead k (drop (suc g) vs)).owed ≡ k
unfolding AreOpened
opened-at k [] a g h e = absurd (omega (arith, h))
opened-at k (v ∷ vs) a zero h e = a.0 e
opened-at k (v ∷ vs) a (suc g) h e = opened-at k vs a.1 g (omega (arith, h)) e

abbrev assigned_when : ℕ → ℕ → Bool → Assignment
assigned_when i c b = record { value = i; count = suc c; closes = b }

-- of one block before the others
module _ (k : ℕ) (rest : List Assignment) (after : (ahead k rest).owed ≡ k) (opened : AreOpened k rest) where
  record IsBlockAhead (i : ℕ) (counts : List ℕ) : Type 0 where
    owed : (ahead k (assignments i counts ++ rest)).owed ≡ sum counts
    ways : (ahead k (assignments i counts ++ rest)).ways ≡ number_of_labellings counts * (ahead k rest).ways
    opens : AreOpened k (assignments i counts ++ rest)

  block-ahead : (i : ℕ) (counts : List ℕ) → 1 ≤ sum counts → IsBlockAhead i counts
  unfolding AreOpened
  block-ahead i [] some = absurd (omega (arith, some))
  block-ahead i (zero ∷ cs) some =
      let all : sum (0 ∷ cs) ≡ sum cs = sum_by-cons (λ v. v) 0 cs ∙ omega arith in
      let later : IsBlockAhead (i + 1) cs = block-ahead (i + 1) cs (omega (arith, some, all)) in
      let one : binomial (0 + sum cs) 0 ≡ 1 = binomial-zero (0 + sum cs) in
      let number : number_of_labellings (0 ∷ cs) ≡ number_of_labellings cs = number_of_labellings-cons 0 cs ∙ ap (λ n. n * number_of_labellings cs) one ∙ omega arith in
      record {
        owed = later.owed ∙ sym all;
        ways = later.ways ∙ ap (λ n. n * (ahead k rest).ways) (sym number);
        opens = later.opens;
      }
  block-ahead i (suc c ∷ cs) some = by (nat_eq (sum cs) 0) refl (block-ahead (i + 1) cs)
    where
      all : sum (suc c ∷ cs) ≡ suc c + sum cs
      all = sum_by-cons (λ v. v) (suc c) cs

      number : number_of_labellings (suc c ∷ cs) ≡ binomial (suc c + sum cs) (suc c) * number_of_labellings cs
      number = number_of_labellings-cons (suc c) cs

      left : (n : ℕ) → nat_eq n 0 ≡ false → 1 ≤ n
      left zero t = absurd (cc t)
      left (suc n) t = omega arith

      regroup : (a b d : ℕ) → a * (b * d) ≡ a * b * d
      regroup a b d = omega arith

      by : (b : Bool) → nat_eq (sum cs) 0 ≡ b → (1 ≤ sum cs → IsBlockAhead (i + 1) cs) → IsBlockAhead i (suc c ∷ cs)
      by true t later =
          let none : sum cs ≡ 0 = eqb-true (sum cs) 0 t in
          let gone : assignments (i + 1) cs ≡ [] = assignments-none (i + 1) cs none in
          let list : assignments i (suc c ∷ cs) ++ rest ≡ assigned_when i c true ∷ rest = ap (λ b. (assigned_when i c b ∷ assignments (i + 1) cs) ++ rest) t ∙ ap (λ us. (assigned_when i c true ∷ us) ++ rest) gone in
          let whole : suc c + sum cs ≡ suc c = omega (arith, none) in
          let one : number_of_labellings (suc c ∷ cs) ≡ 1 = number ∙ ap (λ n. binomial n (suc c) * number_of_labellings cs) whole ∙ ap (λ n. n * number_of_labellings cs) (binomial-all (suc c)) ∙ ap (λ n. 1 * n) (ap length (labellings-none cs none)) in
          record {
            owed = ap (λ us. (ahead k us).owed) list ∙ omega (arith, all, none);
            ways = ap (λ us. (ahead k us).ways) list ∙ sym (ap (λ n. n * (ahead k rest).ways) one ∙ omega arith);
            opens = subst (AreOpened k) (sym list) (λ e. after, opened);
          }
      by false t later =
          let next : IsBlockAhead (i + 1) cs = later (left (sum cs) t) in
          let us : List Assignment = assignments (i + 1) cs ++ rest in
          let list : assignments i (suc c ∷ cs) ++ rest ≡ assigned_when i c false ∷ us = ap (λ b. assigned_when i c b ∷ us) t in
          record {
            owed = ap (λ us. (ahead k us).owed) list ∙ omega (arith, next.owed, all);
            ways = ap (λ us. (ahead k us).ways) list ∙ ap (λ n. binomial (suc c + n) (suc c) * (ahead k us).ways) next.owed ∙ ap (λ n. binomial (suc c + sum cs) (suc c) * n) next.ways ∙ regroup (binomial (suc c + sum cs) (suc c)) (number_of_labellings cs) (ahead k rest).ways ∙ ap (λ n. n * (ahead k rest).ways) (sym number);
            opens = subst (AreOpened k) (sym list) (λ e. absurd (cc e), next.opens);
          }

pub record AreBlocksAhead (k : ℕ) (blocks : List (List ℕ)) : Type 0 where
  pub owed : (ahead k (all_assignments blocks)).owed ≡ k
  ways : (ahead k (all_assignments blocks)).ways ≡ ways_of blocks
  opens : AreOpened k (all_assignments blocks)

pub blocks-ahead : (k : ℕ) (blocks : List (List ℕ)) → 1 ≤ k → AllByRecursion (IsWhole k) blocks → AreBlocksAhead k blocks
unfolding AreOpened
blocks-ahead k [] some a = record { owed = refl; ways = refl; opens = tt }
blocks-ahead k (counts ∷ blocks) some a =
    let later : AreBlocksAhead k blocks = blocks-ahead k blocks some a.1 in
    let whole : sum counts ≡ k = a.0.treatments in
    let here : IsBlockAhead k (all_assignments blocks) later.owed later.opens 0 counts = block-ahead k (all_assignments blocks) later.owed later.opens 0 counts (omega (arith, some, whole)) in
    record {
      owed = here.owed ∙ whole;
      ways = here.ways ∙ ap (λ n. number_of_labellings counts * n) later.ways;
      opens = here.opens;
    }

assignments-small : (i : ℕ) (counts : List ℕ) → i + length counts ≤ 17 → AllByRecursion (λ (v : Assignment). v.value ≤ 16) (assignments i counts)
assignments-small i [] h = tt
assignments-small i (zero ∷ counts) h = assignments-small (i + 1) counts (omega (arith, h))
assignments-small i (suc c ∷ counts) h = (omega (arith, h), assignments-small (i + 1) counts (omega (arith, h)))

assignments-few : (i : ℕ) (counts : List ℕ) → length (assignments i counts) ≤ length counts
assignments-few i [] = omega arith
assignments-few i (zero ∷ counts) = (let later = assignments-few (i + 1) counts in omega (arith, later))
assignments-few i (suc c ∷ counts) = (let later = assignments-few (i + 1) counts in omega (arith, later))

all-small : (k : ℕ) (blocks : List (List ℕ)) → AllByRecursion (IsWhole k) blocks → AllByRecursion (λ (v : Assignment). v.value ≤ 16) (all_assignments blocks)
all-small k [] a = tt
all-small k (counts ∷ blocks) a = all_append (λ (v : Assignment). v.value ≤ 16) (assignments 0 counts) (all_assignments blocks) (assignments-small 0 counts (omega (arith, a.0.few))) (all-small k blocks a.1)

all-few : (k : ℕ) (blocks : List (List ℕ)) → AllByRecursion (IsWhole k) blocks → length (all_assignments blocks) ≤ length blocks * 17
all-few k [] a = omega arith
all-few k (counts ∷ blocks) a = omega (arith, length-append (assignments 0 counts) (all_assignments blocks), assignments-few 0 counts, a.0.few, all-few k blocks a.1)

-- blocks have assignments that a lawful network is made of
pub are-assignments : (k : ℕ) (blocks : List (List ℕ)) (judge : Judge) → AreStages k blocks judge → AreAssignments k (all_assignments blocks) judge
are-assignments k blocks judge s =
    let whole : AllByRecursion (IsWhole k) blocks = recursion_from_All (IsWhole k) blocks s.whole in
    let all : AreBlocksAhead k blocks = blocks-ahead k blocks s.some whole in
    record {
      some = s.some;
      narrow = s.narrow;
      few = omega (arith, all-few k blocks whole, s.few);
      small = All-from_recursion (λ (v : Assignment). v.value ≤ 16) (all_assignments blocks) (all-small k blocks whole);
      begins = all.owed;
      opens = λ g h e. (rw add-one (opened-at k (all_assignments blocks) all.opens g h e));
      fits = omega (arith, all.ways, s.ways_fit);
      judge_fits = s.judge_fits;
    }

-- ---- the network of assignments ends as the rearrangements are measured

module _ (tests : BlockTests) (f : AreFitting tests) (squares : (tests.kind ≡ Friedman) ⊎ (tests.kind ≡ Cochran)) (tail : Tail) where
  abbrev k : ℕ
  k = tests.blocks.treatments

  abbrev blocks : List (List ℕ)
  blocks = block_counts tests

  abbrev vs : List Assignment
  vs = all_assignments blocks

  abbrev judge : Judge
  judge = judge_of (block_test tests)

  abbrev plan : Plan
  plan = assignment_plan k vs

  squared-is : (tests.kind ≡ Friedman) ⊎ (tests.kind ≡ Cochran) → (r : List ℕ) → block_statistic tests.kind tests.blocks.blocks tests.blocks.treatments r ≡ pos (square_sum (treatment_sums tests.blocks.treatments (cut tests.blocks.treatments tests.blocks.blocks r)))
  squared-is (inl e) r = rw e refl
  squared-is (inr e) r = rw e refl

  pub stages : AreStages k blocks judge
  stages = are-stages tests f

  whole : AllByRecursion (IsWhole k) blocks
  whole = recursion_from_All (IsWhole k) blocks stages.whole

  pub tests-assignments : AreAssignments k vs judge
  tests-assignments = are-assignments k blocks judge stages

  -- what is said of the sums at the end
  abbrev said : (ℤ → Bool) → List ℕ → ℕ
  said p s = one_if (p (pos (sum_by squared s)))

  part-said : (p : ℤ → Bool) (xs : List (List ℕ)) → AreParts k (length blocks) xs → said p (summed xs (replicate k 0)) ≡ cond (p (measured (block_test tests) tail (concat xs))) (unit_weight (concat xs)) 0
  part-said p xs h =
      let sums : List ℕ = treatment_sums k (cut k (length xs) (concat xs)) in
      let is : summed xs (replicate k 0) ≡ sums = summed-is k xs (replicate k 0) h.each (length-replicate {A = ℕ} k 0) ∙ added-zeros k sums (length-sums k (length xs) (concat xs)) in
      let many : length xs ≡ tests.blocks.blocks = h.many ∙ blocks-many tests f.blocks in
      ap (λ s. one_if (p (pos (sum_by squared s)))) is
      ∙ ap (λ n. one_if (p (pos (square_sum (treatment_sums k (cut k n (concat xs))))))) many
      ∙ ap (λ z. one_if (p z)) (sym (measured_at tests tail (concat xs) ∙ squared-is squares (concat xs)))

  -- sums and their reflection have the same squares
  pub said-untold : (p : ℤ → Bool) → IsUntold k (said p)
  said-untold p c s l a e = ap (λ n. one_if (p (pos n))) (squares-reflected c s a (ap (λ n. n * c) l ∙ e))

  -- ---- reflected from a stage on

  module _ (cut : ℕ) where
    -- the numbers at which sums are reflected
    abbrev reflections : List ℕ
    reflections = block_reflections k blocks cut

    pub reflections-are : AreReflections k vs reflections
    reflections-are = are-reflections (reflected_from blocks cut) k vs

    abbrev m : Meaning
    m = assigned_sums k vs reflections judge

    -- where they are, the blocks are even
    pub even-assignments : (g : ℕ) → g < length vs → 0 < reflection_at reflections g → AreEvenAssignments k vs
    even-assignments g h some = record { blocks = blocks; are = refl; whole = whole; even = each-even blocks (told (list_all is_even blocks) refl (reflections-from (reflected_from blocks cut) k vs g h some)) }
      where
        told : (b : Bool) → list_all is_even blocks ≡ b → assigned_before blocks (cond b cut (length blocks)) ≤ g → list_all is_even blocks ≡ true
        told true e l = e
        told false e l = absurd (omega (arith, l, h, ap (λ bs. length (all_assignments bs)) (take-length blocks)))

    -- no number is given yet
    begun : IsAssigned k vs judge tests-assignments 0 (map pos (replicate k 1)) (map pos (replicate k 0))
    begun =
        subst (λ room. IsAssigned k vs judge tests-assignments 0 room (map pos (replicate k 0))) (sym (pos-alike k))
        (subst (IsAssigned k vs judge tests-assignments 0 (unassigned k)) (sym (pos-zeros k)) (assigned-first k vs judge tests-assignments))

    assignment-ends : (p : ℤ → Bool) → value_weights (assignment_network k vs reflections judge) p ≡ measured_weight (block_test tests) tail p
    assignment-ends p =
        room_ending m one_each (assignment_width k vs) p
        ∙ ap (λ room. sum_by (λ w. path_weight (alone plan) 0 room w * said p (sizes_in (partial_after m 0 room (replicate k (pos 0)) w))) (paths (alone plan) (length vs - 0) 0 room)) (sym (pos-alike k))
        ∙ ap (λ q. sum_by (λ w. path_weight (alone plan) 0 (map pos (replicate k 1)) w * said p (sizes_in (partial_after m 0 (map pos (replicate k 1)) q w))) (paths (alone plan) (length vs - 0) 0 (map pos (replicate k 1)))) (sym (pos-zeros k))
        ∙ network-ways k vs reflections judge (said p) (length vs - 0) 0 (replicate k 1) (replicate k 0) (omega arith)
        ∙ same-ways k (said p) stages.some (said-untold p) vs reflections judge tests-assignments reflections-are even-assignments (length vs - 0) 0 (replicate k 1) (replicate k 0) (omega arith) begun
        ∙ blocks-arranged k (said p) blocks (replicate k 0) stages.some whole (length-replicate {A = ℕ} k 0)
        ∙ sum_by-same_where (AreParts k (length blocks)) (λ xs. said p (summed xs (replicate k 0))) (λ xs. cond (p (measured (block_test tests) tail (concat xs))) (unit_weight (concat xs)) 0) (part-said p) (product (map labellings blocks)) (product-parts k blocks whole)
        ∙ sym (sum_by-map (λ r. cond (p (measured (block_test tests) tail r)) (unit_weight r) 0) concat (product (map labellings blocks)))
        ∙ sym (sum_by-filter unit_weight (λ r. p (measured (block_test tests) tail r)) (rearrangements blocks))

    pub tests-follow : Follows (block_test tests) tail (assignment_network k vs reflections judge)
    tests-follow = record {
      intervals = room_intervals m one_each (assignment_width k vs) (assigned_measure k vs judge tests-assignments reflections reflections-are);
      ends = assignment-ends;
    }
