-- Kendall's K of a labelling is what its stages add one after another.
use Rattle.std.proofs.Common.{◌≡◌, ℕ, ◌+◌, ◌-◌, ◌<◌, ◌≤◌, List, [], ◌∷◌, ◌++◌, map, length, take, drop, Bool, true, false, cond, refl, sym, ◌∙◌, ap, arith, length-append, drop-drop}
use Rattle.std.specs.Prelude.{ℤ, pos, ◌+ℤ◌, ◌-ℤ◌, ◌<ℤ◌, replicate, int_lt}
use Rattle.std.specs.List.{sum, sum_by, AllByRecursion}
use Rattle.std.proofs.lemmas.Int.{ints}
use Rattle.std.proofs.lemmas.List.{length-drop, length-replicate, length-take, take-append-drop}
use Rattle.std.proofs.lemmas.List.Sums.{sum_by-cons, sum_by-append}
use Rattle.weights.specs.Grouped.{columns_of, fits, minus}
use Rattle.weights.specs.Labellings.{counts_of}
use Rattle.weights.proofs.Filters.{all_append, all_replicate}
use Rattle.weights.proofs.Sized.{counts_of-append, length-counts_of, length-minus, sum-counts_of, plus-left}
use Rattle.weights.proofs.Sums.{sum_by-plus, sum_by-same, sum_by-same_where, sum_by-zero}
use Rattle.weights.proofs.Tables.{all_take, all_drop}
use Rattle.midranks.specs.Ties.{IsAscending}
use Rattle.midranks.specs.declared.ties.Tie.{Tie}
use Rattle.midranks.proofs.TieLemmas.{test-less, test-not_less}
use Rattle.sample_reader.specs.PooledSample.{paired_subjects}
use Rattle.sample_reader.specs.declared.subjects.Subject.{Subject}
use Rattle.sample_reader.proofs.PooledLemmas.{paired-block, paired-all}
use Rattle.networks.specs.declared.verdicts.Judge.{Judge}
use Rattle.room_network.specs.Meanings.{partial_after, way_value}
use Rattle.later_scores.specs.LaterSums.{subjects}
use Rattle.room_network.specs.Numbers.{so_far}
use Rattle.label_network.proofs.Narrowing.{fits-self, minus-within}
use Rattle.kendall_test.specs.Kendall.{kendall_statistic, one_where_greater, one_where_less, over_pairs}
use Rattle.kendall_test.specs.KendallNetwork.{concordance_added, kendall_meaning, concordant_pairs, concordance}
use Rattle.kendall_test.specs.KendallRooms.{room_of_counts}
use Rattle.kendall_test.proofs.Arranged.{arranged, minus-arranged, concordant-arranged}
use Rattle.kendall_test.proofs.CodeLaws.{sum-first}
use Rattle.kendall_test.proofs.CountedPairs.{crossed, discordant-are, concordant-are}
use Rattle.kendall_test.proofs.KendallPlans.{AreFor, counts-are, moved, next-is}

-- ---- subjects in two parts

over-parts : (f : ℕ → ℕ → ℕ) (ps bs : List Subject) → over_pairs f (ps ++ bs) (ps ++ bs) ≡ (over_pairs f ps ps + over_pairs f ps bs) + (over_pairs f bs ps + over_pairs f bs bs)
over-parts f ps bs =
    sum_by-append (λ (a : Subject). sum_by (λ (b : Subject). cond (int_lt a.value b.value) (f a.label b.label) 0) (ps ++ bs)) ps bs
    ∙ cc (split ps, split bs)
  where
    split : (cs : List Subject) → over_pairs f cs (ps ++ bs) ≡ over_pairs f cs ps + over_pairs f cs bs
    split cs =
        sum_by-same _ (λ (a : Subject). sum_by (λ (b : Subject). cond (int_lt a.value b.value) (f a.label b.label) 0) ps + sum_by (λ (b : Subject). cond (int_lt a.value b.value) (f a.label b.label) 0) bs)
        (λ a. sum_by-append (λ (b : Subject). cond (int_lt a.value b.value) (f a.label b.label) 0) ps bs) cs
        ∙ sum_by-plus (λ (a : Subject). sum_by (λ (b : Subject). cond (int_lt a.value b.value) (f a.label b.label) 0) ps) (λ (a : Subject). sum_by (λ (b : Subject). cond (int_lt a.value b.value) (f a.label b.label) 0) bs) cs

-- no pair has a lesser first value, or each pair has
over-alike : (b : Bool) (P Q : ℤ → Type 0) → ((v w : ℤ) → P v → Q w → int_lt v w ≡ b) → (f : ℕ → ℕ → ℕ) (ps bs : List Subject) → AllByRecursion (λ t. P t.value) ps → AllByRecursion (λ t. Q t.value) bs
    → over_pairs f ps bs ≡ cond b (sum_by (λ (x : Subject). sum_by (λ (y : Subject). f x.label y.label) bs) ps) 0
over-alike b P Q each f ps bs one other =
    sum_by-same_where (λ (x : Subject). P x.value) _ (λ (x : Subject). cond b (sum_by (λ (y : Subject). f x.label y.label) bs) 0) inner ps one
    ∙ out b
  where
    inner : (x : Subject) → P x.value → sum_by (λ (y : Subject). cond (int_lt x.value y.value) (f x.label y.label) 0) bs ≡ cond b (sum_by (λ (y : Subject). f x.label y.label) bs) 0
    inner x p =
        sum_by-same_where (λ (y : Subject). Q y.value) _ (λ (y : Subject). cond b (f x.label y.label) 0) (λ y q. rw (each x.value y.value p q) refl) bs other
        ∙ inside b
      where
        inside : (b : Bool) → sum_by (λ (y : Subject). cond b (f x.label y.label) 0) bs ≡ cond b (sum_by (λ (y : Subject). f x.label y.label) bs) 0
        inside true = refl
        inside false = sum_by-zero bs

    out : (b : Bool) → sum_by (λ (x : Subject). cond b (sum_by (λ (y : Subject). f x.label y.label) bs) 0) ps ≡ cond b (sum_by (λ (x : Subject). sum_by (λ (y : Subject). f x.label y.label) bs) ps) 0
    out true = refl
    out false = sum_by-zero ps

-- sums over the second values
seconds : (h : ℕ → ℕ) (firsts : List ℤ) (xs : List ℕ) → length xs ≡ length firsts → sum_by (λ (t : Subject). h t.label) (paired_subjects firsts xs) ≡ sum_by h xs
unfolding paired_subjects
seconds h [] [] e = refl
seconds h [] (x ∷ xs) e = absurd (omega (arith, e))
seconds h (v ∷ firsts) [] e = absurd (omega (arith, e))
seconds h (v ∷ firsts) (x ∷ xs) e =
    sum_by-cons (λ (t : Subject). h t.label) (record { value = v; label = x }) (paired_subjects firsts xs)
    ∙ ap (λ n. h x + n) (seconds h firsts xs (omega (arith, e)))
    ∙ sym (sum_by-cons h x xs)

all-crossed : (f : ℕ → ℕ → ℕ) (firsts lasts : List ℤ) (xs ys : List ℕ) → length xs ≡ length firsts → length ys ≡ length lasts
    → sum_by (λ (a : Subject). sum_by (λ (b : Subject). f a.label b.label) (paired_subjects lasts ys)) (paired_subjects firsts xs) ≡ crossed f xs ys
all-crossed f firsts lasts xs ys e g =
    sum_by-same _ (λ (a : Subject). sum_by (λ y. f a.label y) ys) (λ a. seconds (λ y. f a.label y) lasts ys g) (paired_subjects firsts xs)
    ∙ seconds (λ x. sum_by (λ y. f x y) ys) firsts xs e

-- ---- from one stage to the next

-- the values of ascending groups, each as often as it occurs
abbrev pub counts_in : List Tie → List ℕ
counts_in ts = map (λ t. t.count) ts

abbrev pub values_of_ties : List Tie → List ℤ
values_of_ties ts = subjects (map (λ t. t.value) ts) (counts_in ts)

all-later : (P : ℤ → Type 0) (ts : List Tie) → AllByRecursion (λ t. P t.value) ts → AllByRecursion P (values_of_ties ts)
all-later P [] a = tt
all-later P (t ∷ ts) a = all_append P (replicate t.count t.value) (values_of_ties ts) (all_replicate P t.count t.value a.0) (all-later P ts a.1)

pub length-values : (ts : List Tie) → length (values_of_ties ts) ≡ sum (counts_in ts)
length-values [] = refl
length-values (t ∷ ts) = omega (arith, length-append (replicate t.count t.value) (values_of_ties ts), length-replicate t.count t.value, length-values ts, sum-first t.count (counts_in ts))

-- what pairs of two stages add, stage by stage
abbrev pub by_stages : (ℕ → ℕ → ℕ) → List ℕ → List ℕ → ℕ
by_stages f [] xs = 0
by_stages f (c ∷ columns) xs = crossed f (take c xs) (drop c xs) + by_stages f columns (drop c xs)

pub pairs-are : (f : ℕ → ℕ → ℕ) (ts : List Tie) (xs : List ℕ) → IsAscending ts → length xs ≡ sum (counts_in ts) → over_pairs f (paired_subjects (values_of_ties ts) xs) (paired_subjects (values_of_ties ts) xs) ≡ by_stages f (counts_in ts) xs
unfolding paired_subjects
pairs-are f [] xs up long = refl
pairs-are f (t ∷ ts) xs up long =
    let c : ℕ = t.count in
    let enough : c + sum (counts_in ts) ≡ length xs = omega (arith, long, sum-first c (counts_in ts)) in
    let here : List Subject = paired_subjects (replicate c t.value) (take c xs) in
    let there : List Subject = paired_subjects (values_of_ties ts) (drop c xs) in
    let alike = paired-all (λ v. v ≡ t.value) (replicate c t.value) (take c xs) (all_replicate (λ v. v ≡ t.value) c t.value refl) in
    let later = paired-all (λ w. t.value <ℤ w) (values_of_ties ts) (drop c xs) (all-later (λ w. t.value <ℤ w) ts up.0) in
    let tied = over-alike false (λ v. v ≡ t.value) (λ v. v ≡ t.value) (λ v w p q. test-not_less v w (omega (arith, ints, p, q))) f here here alike alike in
    let risen = over-alike true (λ v. v ≡ t.value) (λ w. t.value <ℤ w) (λ v w p q. test-less v w (rw p q)) f here there alike later in
    let fallen = over-alike false (λ w. t.value <ℤ w) (λ v. v ≡ t.value) (λ v w p q. test-not_less v w (omega (arith, ints, p, q))) f there here later alike in
    let here_long : length (take c xs) ≡ length (replicate c t.value) = omega (arith, enough, length-take c xs, length-replicate c t.value) in
    let there_long : length (drop c xs) ≡ length (values_of_ties ts) = omega (arith, enough, length-drop c xs, length-values ts) in
    let rest_long : length (drop c xs) ≡ sum (counts_in ts) = omega (arith, enough, length-drop c xs) in
    ap (λ tw. over_pairs f tw tw) (paired-block c t.value (values_of_ties ts) xs (omega (arith, enough)))
    ∙ over-parts f here there
    ∙ omega (arith, tied, risen ∙ all-crossed f (replicate c t.value) (values_of_ties ts) (take c xs) (drop c xs) here_long there_long, fallen, pairs-are f ts (drop c xs) up.1 rest_long)

-- ---- the network

-- what is added by counts that stand as the room's do
pub left-concordance : (r c : List ℕ) → length c ≡ length r → fits c r ≡ true → concordance (arranged r c) (minus (arranged r r) (arranged r c)) ≡ concordance c (minus r c)
left-concordance r c e f =
    let left : minus (arranged r r) (arranged r c) ≡ arranged r (minus r c) = minus-arranged r r c refl e in
    let within : fits (minus r c) r ≡ true = minus-within r c r f (fits-self r) in
    let up : concordant_pairs (arranged r c) (arranged r (minus r c)) ≡ concordant_pairs c (minus r c) = concordant-arranged r c (minus r c) e (length-minus r c) f within in
    let down : concordant_pairs (arranged r (minus r c)) (arranged r c) ≡ concordant_pairs (minus r c) c = concordant-arranged r (minus r c) c (length-minus r c) e within f in
    ap (concordance (arranged r c)) left ∙ rw (up, down) refl

module _ (columns rows : List ℕ) (judge : Judge) where
  abbrev k : ℕ
  k = length rows

  concordance-is : (xs ys : List ℕ) → AllByRecursion (λ x. x < k) xs → AllByRecursion (λ y. y < k) ys → concordance (counts_of k xs) (counts_of k ys) ≡ pos (crossed one_where_less xs ys) -ℤ pos (crossed one_where_greater xs ys)
  concordance-is xs ys a b = rw (concordant-are k xs ys a b, discordant-are k xs ys a b) refl

  value-from : (cs : List ℕ) (g : ℕ) (q : List ℤ) (xs : List ℕ) → drop g columns ≡ cs → length xs ≡ sum cs → length xs ≤ 120 → AllByRecursion (λ x. x < k) xs
      → so_far (partial_after (kendall_meaning columns rows judge) g (room_of_counts (counts_of k xs)) q (moved (counts_of k xs) (columns_of k cs xs))) ≡ so_far q +ℤ (pos (by_stages one_where_less cs xs) -ℤ pos (by_stages one_where_greater cs xs))
  value-from [] g q xs d long few a = omega (arith, ints)
  value-from (c ∷ cs) g q xs d long few a =
      let r : List ℕ = counts_of k xs in
      let x : List ℕ = counts_of k (take c xs) in
      let z : List ℕ = counts_of k (drop c xs) in
      let enough : c + sum cs ≡ length xs = omega (arith, long, sum-first c cs) in
      let x_long : length x ≡ length r = length-counts_of k (take c xs) ∙ sym (length-counts_of k xs) in
      let both : (fits x r ≡ true) × (minus r x ≡ z) = plus-left x z r (sym (counts_of-append k (take c xs) (drop c xs)) ∙ ap (counts_of k) (take-append-drop c xs)) (length-counts_of k (take c xs) ∙ sym (length-counts_of k (drop c xs))) in
      let whole : sum r ≡ length xs = sum-counts_of (length xs) k xs (record { long = refl; below = a }) in
      let for : AreFor columns rows g r = record { long = length-counts_of k xs; whole = ap sum d ∙ sym long ∙ sym whole; few = omega (arith, whole, few) } in
      let next = next-is columns rows g r x for x_long both.0 ∙ ap room_of_counts both.1 in
      let add : concordance_added columns k g (room_of_counts r) (arranged r x) ≡ pos (crossed one_where_less (take c xs) (drop c xs)) -ℤ pos (crossed one_where_greater (take c xs) (drop c xs)) =
      ap (λ s. concordance (arranged r x) (minus s (arranged r x))) (counts-are columns rows g r for) ∙ left-concordance r x x_long both.0 ∙ ap (concordance x) both.1 ∙ concordance-is (take c xs) (drop c xs) (all_take (λ x. x < k) c xs a) (all_drop (λ x. x < k) c xs a) in
      let t : ℤ = concordance_added columns k g (room_of_counts r) (arranged r x) in
      ap (λ room. so_far (partial_after (kendall_meaning columns rows judge) (g + 1) room ((so_far q +ℤ t) ∷ []) (moved (minus r x) (columns_of k cs (drop c xs))))) next
      ∙ ap (λ s. so_far (partial_after (kendall_meaning columns rows judge) (g + 1) (room_of_counts z) ((so_far q +ℤ t) ∷ []) (moved s (columns_of k cs (drop c xs))))) both.1
      ∙ value-from cs (g + 1) ((so_far q +ℤ t) ∷ []) (drop c xs) (sym (drop-drop 1 g columns) ∙ ap (drop 1) d) (omega (arith, enough, length-drop c xs)) (omega (arith, few, length-drop c xs)) (all_drop (λ x. x < k) c xs a)
      ∙ omega (arith, ints, add)

  pub value-is : (ts : List Tie) (xs : List ℕ) → columns ≡ counts_in ts → IsAscending ts → length xs ≡ sum (counts_in ts) → length xs ≤ 120 → AllByRecursion (λ x. x < k) xs → counts_of k xs ≡ rows
      → kendall_statistic (values_of_ties ts) xs ≡ way_value (kendall_meaning columns rows judge) (moved rows (columns_of k columns xs))
  value-is ts xs e up long few below counted =
      ap (λ n. pos n -ℤ pos (over_pairs one_where_greater (paired_subjects (values_of_ties ts) xs) (paired_subjects (values_of_ties ts) xs))) (pairs-are one_where_less ts xs up long)
      ∙ ap (λ n. pos (by_stages one_where_less (counts_in ts) xs) -ℤ pos n) (pairs-are one_where_greater ts xs up long)
      ∙ sym (ap (λ r. so_far (partial_after (kendall_meaning columns rows judge) 0 (room_of_counts r) (pos 0 ∷ []) (moved r (columns_of k columns xs)))) (sym counted)
      ∙ ap (λ cs. so_far (partial_after (kendall_meaning columns rows judge) 0 (room_of_counts (counts_of k xs)) (pos 0 ∷ []) (moved (counts_of k xs) (columns_of k cs xs)))) e
      ∙ value-from (counts_in ts) 0 (pos 0 ∷ []) xs e long few below
      ∙ omega (arith, ints))
