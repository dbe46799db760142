-- The law of assignments: the ways to serve the numbers of blocks one after another are the arrangements of the blocks, each once. For every function of the treatments' sums, its sum over the ways is that over the arrangements.
use Rattle.std.proofs.Common.{◌≡◌, ℕ, zero, suc, ◌+◌, ◌-◌, ◌*◌, ◌<◌, ◌≤◌, List, [], ◌∷◌, ◌++◌, map, take, drop, length, min, replicate, Bool, true, false, cond, refl, sym, ◌∙◌, ap, arith, drop_of_length-le, nat_eq, zero-add}
use Rattle.std.specs.Prelude.{ℤ, pos}
use Rattle.std.specs.List.{sum_by, sum, count_by, AllByRecursion, range_with_len}
use Rattle.std.proofs.lemmas.Bool.{eqb-true}
use Rattle.std.proofs.lemmas.List.{length-replicate}
use Rattle.std.proofs.lemmas.List.Sums.{sum_by-cons}
use Rattle.weights.specs.Grouped.{choices, columns_of, minus, tables, table_weight}
use Rattle.weights.specs.Labellings.{counts_of, labellings, product}
use Rattle.weights.proofs.ChoiceLists.{IsChoice, choices-each}
use Rattle.weights.proofs.GroupingLaw.{grouping}
use Rattle.weights.proofs.Members.{IsLabelling}
use Rattle.weights.proofs.Ranges.{range-one}
use Rattle.weights.proofs.Sized.{length-counts_of, length-minus, sum-minus}
use Rattle.weights.proofs.Sums.{sum_by-fronts, sum_by-same, sum_by-same_where}
use Rattle.weights.proofs.Tables.{IsTable, tables-each}
use Rattle.enumerate.proofs.JoinedMembers.{each-labelling}
use Rattle.networks.specs.Completions.{paths, path_weight}
use Rattle.room_network.specs.Meanings.{partial_after}
use Rattle.room_network.specs.Plans.{Plan, alone}
use Rattle.room_network.proofs.RoomKeys.{choices_before}
use Rattle.label_network.specs.Meanings.{sizes_in}
use Rattle.label_network.proofs.LabelPlans.{sizes-back}
use Rattle.label_network.proofs.Sizes.{one-labelling}
use Rattle.transposed_tables.specs.Transposed.{fronted, transposed}
use Rattle.transposed_tables.proofs.Bijection.{transposing}
use Rattle.networks.specs.declared.verdicts.Judge.{Judge}
use Rattle.rank_assignments.specs.Assignments.{all_assignments, gained, assigned_sums, assignment_at, assignment_plan, assignments, unassigned}
use Rattle.rank_assignments.specs.Upright.{reflection_at, upright}
use Rattle.rank_assignments.specs.declared.assignment.Assignment.{Assignment}
use Rattle.rank_assignments.proofs.SumEnds.{length-gained}
use Rattle.rank_assignments.proofs.AssignmentRooms.{at-assignment, pos-alike, sum-alike}
use Rattle.block_tests.specs.BlockSteps.{IsWhole}
use Rattle.block_tests.specs.BlockTests.{added}
use Rattle.block_tests.proofs.TreatmentSums.{length-added}

-- ---- what is assigned, over all ways

-- the treatments that are left after a choice
abbrev pub left_after : ℕ → Assignment → List ℕ → List ℕ → List ℕ
left_after k v r c = cond v.closes (replicate k 1) (minus r c)

-- what is said of the sums at the end, added over all ways to serve the numbers
abbrev pub over_ways : ℕ → (List ℕ → ℕ) → List Assignment → List ℕ → List ℕ → ℕ
over_ways k f [] r s = f s
over_ways k f (v ∷ vs) r s = sum_by (λ c. over_ways k f vs (left_after k v r c) (gained v.value c s)) (choices v.count r)

-- the same where the sums are reflected on the way, from a stage on
abbrev pub over_reflected : ℕ → (List ℕ → ℕ) → List ℕ → ℕ → List Assignment → List ℕ → List ℕ → ℕ
over_reflected k f reflections g [] r s = f s
over_reflected k f reflections g (v ∷ vs) r s =
    sum_by (λ c. over_reflected k f reflections (g + 1) vs (left_after k v r c) (upright (reflection_at reflections g) (gained v.value c s))) (choices v.count r)

once : (n : ℕ) → n ≡ 1 * n
once n = omega arith

-- ---- the network's ways

module _ (k : ℕ) (vs : List Assignment) (reflections : List ℕ) (judge : Judge) (f : List ℕ → ℕ) where
  abbrev plan : Plan
  plan = assignment_plan k vs

  pub next-is : (v : Assignment) (r c : List ℕ) → cond v.closes (unassigned k) (map pos (minus (sizes_in (map pos r)) c)) ≡ map pos (left_after k v r c)
  next-is v r c = by v.closes
    where
      by : (b : Bool) → cond b (unassigned k) (map pos (minus (sizes_in (map pos r)) c)) ≡ map pos (cond b (replicate k 1) (minus r c))
      by true = sym (pos-alike k)
      by false = ap (λ q. map pos (minus q c)) (sizes-back r)

  abbrev term : ℕ → List ℤ → List ℤ → List (List ℕ) → ℕ
  term g room p w = path_weight (alone plan) g room w * f (sizes_in (partial_after (assigned_sums k vs reflections judge) g room p w))

  pub network-ways : (n g : ℕ) (r s : List ℕ) → g + n ≡ length vs → sum_by (term g (map pos r) (map pos s)) (paths (alone plan) n g (map pos r)) ≡ over_reflected k f reflections g (drop g vs) r s
  network-ways zero g r s e =
      let none : drop g vs ≡ [] = drop_of_length-le vs {i = g} (omega (arith, e)) in
      omega (arith, ap f (sizes-back s), ap (λ us. over_reflected k f reflections g us r s) none)
  network-ways (suc n) g r s e =
      let h : g < length vs = omega (arith, e) in
      let v : Assignment = assignment_at vs g in
      sum_by-fronts (term g (map pos r) (map pos s)) (λ c. c) (λ c. paths (alone plan) n (g + 1) ((alone plan).next g (map pos r) c)) ((alone plan).choices g (map pos r))
      ∙ ap (sum_by (λ c. sum_by (λ w. term g (map pos r) (map pos s) (c ∷ w)) (paths (alone plan) n (g + 1) ((alone plan).next g (map pos r) c)))) (choices_before plan g (map pos r) h ∙ ap (choices v.count) (sizes-back r))
      ∙ sum_by-same _ (λ c. over_reflected k f reflections (g + 1) (drop (g + 1) vs) (left_after k v r c) (upright (reflection_at reflections g) (gained v.value c s))) (λ c. each c h (network-ways n (g + 1) (left_after k v r c) (upright (reflection_at reflections g) (gained v.value c s)) (omega (arith, e)))) (choices v.count r)
      ∙ sym (ap (λ us. over_reflected k f reflections g us r s) (at-assignment k vs g h))
    where
      each : (c : List ℕ) → g < length vs
          → sum_by (term (g + 1) (map pos (left_after k (assignment_at vs g) r c)) (map pos (upright (reflection_at reflections g) (gained (assignment_at vs g).value c s)))) (paths (alone plan) n (g + 1) (map pos (left_after k (assignment_at vs g) r c))) ≡ over_reflected k f reflections (g + 1) (drop (g + 1) vs) (left_after k (assignment_at vs g) r c) (upright (reflection_at reflections g) (gained (assignment_at vs g).value c s))
          → sum_by (λ w. term g (map pos r) (map pos s) (c ∷ w)) (paths (alone plan) n (g + 1) ((alone plan).next g (map pos r) c)) ≡ over_reflected k f reflections (g + 1) (drop (g + 1) vs) (left_after k (assignment_at vs g) r c) (upright (reflection_at reflections g) (gained (assignment_at vs g).value c s))
      each c h rest =
          let v : Assignment = assignment_at vs g in
          sum_by-same (λ w. term g (map pos r) (map pos s) (c ∷ w)) (λ w. term (g + 1) ((alone plan).next g (map pos r) c) (map pos (upright (reflection_at reflections g) (gained v.value c (sizes_in (map pos s))))) w) (λ w.
          ap (λ n. n * f (sizes_in (partial_after (assigned_sums k vs reflections judge) (g + 1) ((alone plan).next g (map pos r) c) (map pos (upright (reflection_at reflections g) (gained v.value c (sizes_in (map pos s))))) w))) (sym (once (path_weight (alone plan) (g + 1) ((alone plan).next g (map pos r) c) w))))
          (paths (alone plan) n (g + 1) ((alone plan).next g (map pos r) c))
          ∙ ap (λ room. sum_by (term (g + 1) room (map pos (upright (reflection_at reflections g) (gained v.value c (sizes_in (map pos s)))))) (paths (alone plan) n (g + 1) room)) (next-is v r c)
          ∙ ap (λ q. sum_by (term (g + 1) (map pos (left_after k v r c)) (map pos (upright (reflection_at reflections g) (gained v.value c q)))) (paths (alone plan) n (g + 1) (map pos (left_after k v r c)))) (sizes-back s)
          ∙ rest

-- ---- numbers that do not occur

choices-zero : (f : List ℕ → ℕ) (r : List ℕ) → sum_by f (choices 0 r) ≡ f (replicate (length r) 0)
choices-zero f [] = zero-add (f [])
choices-zero f (r ∷ rs) =
    let one : min 0 r + 1 ≡ 1 = omega arith in
    sum_by-fronts f (λ a. a) (λ a. choices (0 - a) rs) (range_with_len 0 (min 0 r + 1))
    ∙ ap (λ n. sum_by (λ a. sum_by (λ x. f (a ∷ x)) (choices (0 - a) rs)) (range_with_len 0 n)) one
    ∙ zero-add (sum_by (λ x. f (0 ∷ x)) (choices 0 rs))
    ∙ choices-zero (λ x. f (0 ∷ x)) rs

minus-zero : (r : List ℕ) → minus r (replicate (length r) 0) ≡ r
minus-zero [] = refl
minus-zero (r ∷ rs) = (let same : r - 0 ≡ r = omega arith in ap (λ z. z ∷ minus rs (replicate (length rs) 0)) same ∙ ap (λ q. r ∷ q) (minus-zero rs))

gained-zero : (v n : ℕ) (s : List ℕ) → n ≤ length s → gained v (replicate n 0) s ≡ s
gained-zero v zero s h = refl
gained-zero v (suc n) [] h = absurd (omega (arith, h))
gained-zero v (suc n) (s ∷ ss) h =
    let same : s + v * 0 ≡ s = omega arith in
    ap (λ z. z ∷ gained v (replicate n 0) ss) same ∙ ap (λ zs. s ∷ zs) (gained-zero v n ss (omega (arith, h)))

-- ---- one block

-- the sums, raised by the numbers from i on, each with its line of a table
abbrev pub assigned_by : ℕ → List (List ℕ) → List ℕ → List ℕ
assigned_by i [] s = s
assigned_by i (x ∷ table) s = assigned_by (i + 1) table (gained i x s)

pub assignments-none : (i : ℕ) (counts : List ℕ) → sum counts ≡ 0 → assignments i counts ≡ []
assignments-none i [] e = refl
assignments-none i (zero ∷ counts) e = assignments-none (i + 1) counts (omega (arith, e, sum_by-cons (λ v. v) 0 counts))
assignments-none i (suc c ∷ counts) e = absurd (omega (arith, e, sum_by-cons (λ v. v) (suc c) counts))

abbrev table-fronts : (f : List (List ℕ) → ℕ) (c : ℕ) (cs r : List ℕ) → sum_by f (tables (c ∷ cs) r) ≡ sum_by (λ x. sum_by (λ w. f (x ∷ w)) (tables cs (minus r x))) (choices c r)
table-fronts f c cs r = sum_by-fronts f (λ x. x) (λ x. tables cs (minus r x)) (choices c r)

-- a number that does not occur is passed over
zero-tables : (g : List ℕ → ℕ) (i : ℕ) (cs r s : List ℕ) → length r ≤ length s → sum_by (λ w. g (assigned_by i w s)) (tables (0 ∷ cs) r) ≡ sum_by (λ w. g (assigned_by (i + 1) w s)) (tables cs r)
zero-tables g i cs r s h =
    table-fronts (λ w. g (assigned_by i w s)) 0 cs r
    ∙ choices-zero (λ x. sum_by (λ w. g (assigned_by (i + 1) w (gained i x s))) (tables cs (minus r x))) r
    ∙ ap (λ q. sum_by (λ w. g (assigned_by (i + 1) w (gained i (replicate (length r) 0) s))) (tables cs q)) (minus-zero r)
    ∙ ap (λ t. sum_by (λ w. g (assigned_by (i + 1) w t)) (tables cs r)) (gained-zero i (length r) s h)

none-tables : (g : List ℕ → ℕ) (i : ℕ) (cs r s : List ℕ) → sum cs ≡ 0 → length r ≤ length s → sum_by (λ w. g (assigned_by i w s)) (tables cs r) ≡ g s
none-tables g i [] r s e h = zero-add (g s)
none-tables g i (zero ∷ cs) r s e h = zero-tables g i cs r s h ∙ none-tables g (i + 1) cs r s (omega (arith, e, sum_by-cons (λ v. v) 0 cs)) h
none-tables g i (suc c ∷ cs) r s e h = absurd (omega (arith, e, sum_by-cons (λ v. v) (suc c) cs))

-- the ways to serve a block are the tables of who is assigned when
pub block-ways : (k : ℕ) (f : List ℕ → ℕ) (rest : List Assignment) (i : ℕ) (counts r s : List ℕ) → 1 ≤ sum counts → sum counts ≡ sum r → length r ≤ length s
    → over_ways k f (assignments i counts ++ rest) r s ≡ sum_by (λ w. over_ways k f rest (replicate k 1) (assigned_by i w s)) (tables counts r)
block-ways k f rest i [] r s some e h = absurd (omega (arith, some))
block-ways k f rest i (zero ∷ cs) r s some e h =
    let all : sum (0 ∷ cs) ≡ 0 + sum cs = sum_by-cons (λ v. v) 0 cs in
    block-ways k f rest (i + 1) cs r s (omega (arith, some, all)) (omega (arith, e, all)) h
    ∙ sym (zero-tables (over_ways k f rest (replicate k 1)) i cs r s h)
block-ways k f rest i (suc c ∷ cs) r s some e h = by (nat_eq (sum cs) 0) refl (λ x more level long. block-ways k f rest (i + 1) cs (minus r x) (gained i x s) more level long)
  where
    all : sum (suc c ∷ cs) ≡ suc c + sum cs
    all = sum_by-cons (λ v. v) (suc c) cs

    by : (b : Bool) → nat_eq (sum cs) 0 ≡ b
        → ((x : List ℕ) → 1 ≤ sum cs → sum cs ≡ sum (minus r x) → length (minus r x) ≤ length (gained i x s) → over_ways k f (assignments (i + 1) cs ++ rest) (minus r x) (gained i x s) ≡ sum_by (λ w. over_ways k f rest (replicate k 1) (assigned_by (i + 1) w (gained i x s))) (tables cs (minus r x)))
        → sum_by (λ x. over_ways k f (assignments (i + 1) cs ++ rest) (cond b (replicate k 1) (minus r x)) (gained i x s)) (choices (suc c) r)
        ≡ sum_by (λ w. over_ways k f rest (replicate k 1) (assigned_by i w s)) (tables (suc c ∷ cs) r)
    by true t later =
        let none : sum cs ≡ 0 = eqb-true (sum cs) 0 t in
        sum_by-same _ (λ x. sum_by (λ w. over_ways k f rest (replicate k 1) (assigned_by (i + 1) w (gained i x s))) (tables cs (minus r x))) (λ x.
        ap (λ us. over_ways k f (us ++ rest) (replicate k 1) (gained i x s)) (assignments-none (i + 1) cs none)
        ∙ sym (none-tables (over_ways k f rest (replicate k 1)) (i + 1) cs (minus r x) (gained i x s) none (omega (arith, h, length-minus r x, length-gained i x s)))) (choices (suc c) r)
        ∙ sym (table-fronts (λ w. over_ways k f rest (replicate k 1) (assigned_by i w s)) (suc c) cs r)
    by false t later =
        let more : 1 ≤ sum cs = some_left (sum cs) t in
        sum_by-same_where (IsChoice (suc c) r) _ (λ x. sum_by (λ w. over_ways k f rest (replicate k 1) (assigned_by (i + 1) w (gained i x s))) (tables cs (minus r x))) (λ x o.
        later x more (omega (arith, e, all, o.whole, sum-minus r x o.fitting)) (omega (arith, h, length-minus r x, length-gained i x s))) (choices (suc c) r) (choices-each (suc c) r)
        ∙ sym (table-fronts (λ w. over_ways k f rest (replicate k 1) (assigned_by i w s)) (suc c) cs r)
      where
        some_left : (n : ℕ) → nat_eq n 0 ≡ false → 1 ≤ n
        some_left zero t = absurd (cc t)
        some_left (suc n) t = omega arith

-- ---- the tables are the arrangements

weight-one : (k : ℕ) (r : List ℕ) (w : List (List ℕ)) → IsTable (replicate k 1) r w → table_weight w ≡ 1
weight-one zero r [] t = refl
weight-one zero r (x ∷ w) t = absurd t
weight-one (suc k) r [] t = absurd t
weight-one (suc k) r (x ∷ w) t =
    ap (λ n. n * table_weight w) (one-labelling x t.0.whole) ∙ ap (λ n. 1 * n) (weight-one k (minus r x) w t.1)

-- a line of counts from number i on, each count times its number, added
abbrev told : ℕ → List ℕ → ℕ
told i [] = 0
told i (a ∷ x) = i * a + told (i + 1) x

assigned-fronted : (i : ℕ) (x : List ℕ) (lines : List (List ℕ)) (s : ℕ) (ss : List ℕ) → length x ≡ length lines → assigned_by i (fronted x lines) (s ∷ ss) ≡ (s + told i x) ∷ assigned_by i lines ss
assigned-fronted i [] [] s ss e = (let same : s + 0 ≡ s = omega arith in ap (λ z. z ∷ ss) (sym same))
assigned-fronted i [] (line ∷ lines) s ss e = absurd (omega (arith, e))
assigned-fronted i (a ∷ x) [] s ss e = absurd (omega (arith, e))
assigned-fronted i (a ∷ x) (line ∷ lines) s ss e =
    let same : (s + i * a) + told (i + 1) x ≡ s + (i * a + told (i + 1) x) = omega arith in
    assigned-fronted (i + 1) x lines (s + i * a) (gained i line ss) (omega (arith, e))
    ∙ ap (λ z. z ∷ assigned_by (i + 1) lines (gained i line ss)) same

assigned-empty : (i n : ℕ) → assigned_by i (replicate n []) [] ≡ []
assigned-empty i zero = refl
assigned-empty i (suc n) = assigned-empty (i + 1) n

told-range : (x i n : ℕ) → told i (map (λ j. count_by (λ l. nat_eq l j) (x ∷ [])) (range_with_len i n)) ≡ sum_by (λ a. cond (nat_eq x a) a 0) (range_with_len i n)
told-range x i zero = refl
told-range x i (suc n) =
    by (nat_eq x i) (sum_by-cons (λ a. cond (nat_eq x a) a 0) i (range_with_len (i + 1) n)) (told-range x (i + 1) n)
  where
    later : ℕ
    later = told (i + 1) (map (λ j. count_by (λ l. nat_eq l j) (x ∷ [])) (range_with_len (i + 1) n))

    by : (b : Bool) → sum_by (λ a. cond (nat_eq x a) a 0) (range_with_len i (suc n)) ≡ cond b i 0 + sum_by (λ a. cond (nat_eq x a) a 0) (range_with_len (i + 1) n)
        → told (i + 1) (map (λ j. count_by (λ l. nat_eq l j) (x ∷ [])) (range_with_len (i + 1) n)) ≡ sum_by (λ a. cond (nat_eq x a) a 0) (range_with_len (i + 1) n)
        → i * (0 + cond b 1 0) + told (i + 1) (map (λ j. count_by (λ l. nat_eq l j) (x ∷ [])) (range_with_len (i + 1) n)) ≡ sum_by (λ a. cond (nat_eq x a) a 0) (range_with_len i (suc n))
    by true e f = omega (arith, e, f)
    by false e f = omega (arith, e, f)

told-one : (x n : ℕ) → x < n → told 0 (counts_of n (x ∷ [])) ≡ x
told-one x n h = told-range x 0 n ∙ range-one (λ a. a) x 0 n (omega arith) (omega (arith, h))

length-lines : (n k : ℕ) (xs : List ℕ) → length (transposed n (columns_of n (replicate k 1) xs)) ≡ n
length-lines n zero xs = length-replicate n []
length-lines n (suc k) xs = length-fronted (counts_of n (take 1 xs)) (transposed n (columns_of n (replicate k 1) (drop 1 xs))) (length-counts_of n (take 1 xs) ∙ sym (length-lines n k (drop 1 xs))) ∙ length-lines n k (drop 1 xs)
  where
    length-fronted : (x : List ℕ) (lines : List (List ℕ)) → length x ≡ length lines → length (fronted x lines) ≡ length lines
    length-fronted [] [] e = refl
    length-fronted [] (line ∷ lines) e = absurd (omega (arith, e))
    length-fronted (a ∷ x) [] e = absurd (omega (arith, e))
    length-fronted (a ∷ x) (line ∷ lines) e = ap suc (length-fronted x lines (omega (arith, e)))

assigned-cells : (n k : ℕ) (xs s : List ℕ) → length xs ≡ k → length s ≡ k → AllByRecursion (λ x. x < n) xs → assigned_by 0 (transposed n (columns_of n (replicate k 1) xs)) s ≡ added s xs
assigned-cells n zero [] [] e l b = assigned-empty 0 n
assigned-cells n zero [] (s ∷ ss) e l b = absurd (omega (arith, l))
assigned-cells n zero (x ∷ xs) s e l b = absurd (omega (arith, e))
assigned-cells n (suc k) [] s e l b = absurd (omega (arith, e))
assigned-cells n (suc k) (x ∷ xs) [] e l b = absurd (omega (arith, l))
assigned-cells n (suc k) (x ∷ xs) (s ∷ ss) e l b =
    assigned-fronted 0 (counts_of n (x ∷ [])) (transposed n (columns_of n (replicate k 1) xs)) s ss (length-counts_of n (x ∷ []) ∙ sym (length-lines n k xs))
    ∙ ap (λ z. (s + z) ∷ assigned_by 0 (transposed n (columns_of n (replicate k 1) xs)) ss) (told-one x n b.0)
    ∙ ap (λ zs. (s + x) ∷ zs) (assigned-cells n k xs ss (omega (arith, e)) (omega (arith, l)) b.1)

-- the ways to serve a block are its arrangements
pub block-arranged : (k : ℕ) (counts s : List ℕ) (g : List ℕ → ℕ) → sum counts ≡ k → length s ≡ k
    → sum_by (λ w. g (assigned_by 0 w s)) (tables counts (replicate k 1)) ≡ sum_by (λ xs. g (added s xs)) (labellings counts)
block-arranged k counts s g e l =
    let n : ℕ = length counts in
    let f : List (List ℕ) → ℕ = λ w. g (assigned_by 0 w s) in
    sym (transposing (replicate k 1) counts (sum-alike k ∙ sym e) f)
    ∙ sum_by-same_where (IsTable (replicate k 1) counts) (λ t. f (transposed n t)) (λ t. table_weight t * f (transposed n t)) (λ t h. once (f (transposed n t)) ∙ ap (λ m. m * f (transposed n t)) (sym (weight-one k counts t h))) (tables (replicate k 1) counts) (tables-each (replicate k 1) counts)
    ∙ grouping (replicate k 1) counts (λ t. f (transposed n t)) (sum-alike k ∙ sym e)
    ∙ sum_by-same_where (IsLabelling counts) (λ xs. f (transposed n (columns_of n (replicate k 1) xs))) (λ xs. g (added s xs)) (λ xs h.
    ap g (assigned-cells n k xs s (h.over.long ∙ e) l h.over.below)) (labellings counts) (each-labelling counts)

-- ---- all blocks

-- the ways to serve a block and what follows it
pub block-first : (k : ℕ) (f : List ℕ → ℕ) (counts : List ℕ) (rest : List Assignment) (s : List ℕ) → 1 ≤ k → sum counts ≡ k → length s ≡ k
    → over_ways k f (assignments 0 counts ++ rest) (replicate k 1) s ≡ sum_by (λ x. over_ways k f rest (replicate k 1) (added s x)) (labellings counts)
block-first k f counts rest s some whole l =
    block-ways k f rest 0 counts (replicate k 1) s (omega (arith, some, whole)) (whole ∙ sym (sum-alike k)) (omega (arith, l, length-replicate {A = ℕ} k 1))
    ∙ block-arranged k counts s (over_ways k f rest (replicate k 1)) whole l

-- the sums, raised by each of some lists
abbrev pub summed : List (List ℕ) → List ℕ → List ℕ
summed [] s = s
summed (x ∷ xs) s = summed xs (added s x)

-- the ways to serve all blocks are their arrangements
pub blocks-arranged : (k : ℕ) (f : List ℕ → ℕ) (blocks : List (List ℕ)) (s : List ℕ) → 1 ≤ k → AllByRecursion (IsWhole k) blocks → length s ≡ k
    → over_ways k f (all_assignments blocks) (replicate k 1) s ≡ sum_by (λ xs. f (summed xs s)) (product (map labellings blocks))
blocks-arranged k f [] s some a l = sym (zero-add (f s))
blocks-arranged k f (counts ∷ blocks) s some a l =
    let rest : List (List (List ℕ)) = product (map labellings blocks) in
    let whole : sum counts ≡ k = a.0.treatments in
    block-first k f counts (all_assignments blocks) s some whole l
    ∙ sum_by-same_where (IsLabelling counts) _ (λ x. sum_by (λ xs. f (summed xs (added s x))) rest) (λ x h. blocks-arranged k f blocks (added s x) some a.1 (length-added k s x (omega (arith, l)) (h.over.long ∙ whole))) (labellings counts) (each-labelling counts)
    ∙ sym (sum_by-fronts (λ xs. f (summed xs s)) (λ x. x) (λ x. rest) (labellings counts))
