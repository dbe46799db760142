-- The subjects of strata that were read: each stratum is as its test needs it.
use Rattle.std.proofs.Common.{◌≡◌, ℕ, zero, suc, ◌+◌, ◌*◌, ◌<◌, ◌≤◌, Bool, true, false, cond, List, [], ◌∷◌, length, map, nat_eq, refl, sym, ◌∙◌, ap, subst, arith}
use Rattle.std.specs.Prelude.{ℤ}
use Rattle.std.specs.List.{All, AllByRecursion, range_with_len, sum, sum_by}
use Rattle.std.proofs.lemmas.List.{length-map}
use Rattle.std.proofs.lemmas.List.Elements.{All-from_recursion, recursion_from_All}
use Rattle.std.proofs.lemmas.List.Sums.{count_by-le-length, sum_by-cons}
use Rattle.weights.specs.InOrder.{in_order}
use Rattle.weights.specs.Labellings.{counts_of}
use Rattle.weights.specs.declared.TheConstants.{MAX}
use Rattle.weights.proofs.Counted.{count_of}
use Rattle.weights.proofs.Filters.{all_weaker}
use Rattle.weights.proofs.Sized.{sum-counts_of}
use Rattle.sample_reader.specs.Data.{strata_data_of}
use Rattle.sample_reader.specs.Groups.{GroupData}
use Rattle.sample_reader.specs.PooledSample.{labels_of, may_precede, paired_subjects, pooled, values_of}
use Rattle.sample_reader.specs.StrataGroups.{StrataGroupData}
use Rattle.sample_reader.specs.declared.samples.StrataGroups.{StrataGroups}
use Rattle.sample_reader.specs.declared.subjects.Subject.{Subject}
use Rattle.pooled_columns.proofs.PooledLabels.{pooled-labels}
use Rattle.pooled_columns.proofs.PooledValues.{Rises, length-pooled, pooled-rises}
use Rattle.stratified_ranks.specs.RankNetworks.{AreUsable}
use Rattle.stratified_ranks.specs.StratifiedRanks.{at_place, ranked_strata_test, strata_subjects, stratum_subjects}
use Rattle.stratified_ranks.proofs.RankColumns.{IsStratum}

-- ---- items at a place

-- the subjects at a place, by their parts
paired-at : (k : ℕ) (places : List ℕ) (values : List ℤ) (members : List ℕ) → length members ≡ length values → at_place k places (paired_subjects values members) ≡ paired_subjects (at_place k places values) (at_place k places members)
unfolding paired_subjects
paired-at k [] values members e = refl
paired-at k (p ∷ places) [] [] e = refl
paired-at k (p ∷ places) [] (m ∷ members) e = absurd (omega (arith, e))
paired-at k (p ∷ places) (v ∷ values) [] e = absurd (omega (arith, e))
paired-at k (p ∷ places) (v ∷ values) (m ∷ members) e = by (nat_eq p k) (paired-at k places values members (omega (arith, e)))
  where
    by : (b : Bool) → at_place k places (paired_subjects values members) ≡ paired_subjects (at_place k places values) (at_place k places members)
        → cond b (record { value = v; label = m } ∷ at_place k places (paired_subjects values members)) (at_place k places (paired_subjects values members)) ≡ paired_subjects (cond b (v ∷ at_place k places values) (at_place k places values)) (cond b (m ∷ at_place k places members) (at_place k places members))
    by true h = ap (λ (s : List Subject). record { value = v; label = m } ∷ s) h
    by false h = h

-- each item of a place is one of all
at-each : {X : Type 0} (P : X → Type 0) (k : ℕ) (places : List ℕ) (xs : List X) → AllByRecursion P xs → AllByRecursion P (at_place k places xs)
at-each P k [] xs a = tt
at-each P k (p ∷ places) [] a = tt
at-each P k (p ∷ places) (x ∷ xs) a = by (nat_eq p k) (at-each P k places xs a.1)
  where
    by : (b : Bool) → AllByRecursion P (at_place k places xs) → AllByRecursion P (cond b (x ∷ at_place k places xs) (at_place k places xs))
    by true h = (a.0, h)
    by false h = h

length-at : {X : Type 0} (k : ℕ) (places : List ℕ) (xs : List X) → length xs ≡ length places → length (at_place k places xs) ≡ count_of k places
length-at k [] xs e = refl
length-at k (p ∷ places) [] e = absurd (omega (arith, e))
length-at k (p ∷ places) (x ∷ xs) e = by (nat_eq p k) (length-at k places xs (omega (arith, e))) (sum_by-cons (λ l. cond (nat_eq l k) 1 0) p places)
  where
    by : (b : Bool) → length (at_place k places xs) ≡ count_of k places → count_of k (p ∷ places) ≡ cond b 1 0 + count_of k places → length (cond b (x ∷ at_place k places xs) (at_place k places xs)) ≡ count_of k (p ∷ places)
    by true h c = omega (arith, h, c)
    by false h c = omega (arith, h, c)

-- of labels below two, each is one of the first two
two-counts : (ls : List ℕ) → AllByRecursion (λ l. l < 2) ls → count_of 0 ls + count_of 1 ls ≡ length ls
two-counts [] a = refl
two-counts (l ∷ ls) a = omega (arith, two-counts ls a.1, one l a.0, sum_by-cons (λ m. cond (nat_eq m 0) 1 0) l ls, sum_by-cons (λ m. cond (nat_eq m 1) 1 0) l ls)
  where
    one : (l : ℕ) → l < 2 → ◌≡◌ {A = ℕ} (cond (nat_eq l 0) 1 0 + cond (nat_eq l 1) 1 0) 1
    one zero h = refl
    one (suc zero) h = refl
    one (suc (suc l)) h = absurd (omega (arith, h))

-- ---- of samples that were read

module _ (samples : StrataGroupData) (u : AreUsable samples) where
  abbrev groups : ℕ → GroupData
  groups k = record { labels = []; members = at_place k samples.places samples.members; values = at_place k samples.places samples.values }

  pub members-at : (k : ℕ) → length (at_place k samples.places samples.members) ≡ count_of k samples.places
  members-at k = length-at k samples.places samples.members (u.one_group_each ∙ sym u.one_stratum_each)

  pub values-at : (k : ℕ) → length (at_place k samples.places samples.values) ≡ count_of k samples.places
  values-at k = length-at k samples.places samples.values (sym u.one_stratum_each)

  -- a stratum as the pooled sample of its groups
  pub pooled-at : (k : ℕ) → in_order may_precede (paired_subjects (groups k).values (groups k).members) ≡ stratum_subjects samples k
  pooled-at k = ap (in_order may_precede) (sym (paired-at k samples.places samples.values samples.members u.one_group_each))

  labels-at : (P : ℕ → Type 0) → AllByRecursion P samples.members → (k : ℕ) → AllByRecursion P (labels_of (stratum_subjects samples k))
  labels-at P a k = subst (λ (s : List Subject). AllByRecursion P (labels_of s)) (pooled-at k) (pooled-labels P (groups k) (members-at k ∙ sym (values-at k)) (at-each P k samples.places samples.members a))

  members-two : AllByRecursion (λ m. m < 2) samples.members
  members-two = recursion_from_All (λ m. m < 2) samples.members u.two_groups

  pub labels-small : (k : ℕ) → All (λ l. l < 256) (labels_of (stratum_subjects samples k))
  labels-small k = All-from_recursion (λ l. l < 256) (labels_of (stratum_subjects samples k)) (labels-at (λ l. l < 256) (all_weaker (λ m. m < 2) (λ m. m < 256) (λ m h. omega (arith, h)) samples.members members-two) k)

  long : (k : ℕ) → length (stratum_subjects samples k) ≡ count_of k samples.places
  long k = ap length (sym (pooled-at k)) ∙ sym (length-map (pooled (groups k)) (λ (s : Subject). s.value)) ∙ length-pooled (groups k) (members-at k ∙ sym (values-at k)) ∙ values-at k

  places-few : length samples.places ≤ 10000
  places-few = omega (arith, u.one_stratum_each, u.few_enough)

  pub few : (k : ℕ) → length (stratum_subjects samples k) ≤ 10000
  few k = omega (arith, long k, count_by-le-length (λ p. nat_eq p k) samples.places, places-few)

  is-stratum : (k : ℕ) → 1 ≤ count_of k samples.places → IsStratum (stratum_subjects samples k)
  is-stratum k some = record {
    rises = subst (λ (s : List Subject). Rises (values_of s)) (pooled-at k) (pooled-rises (groups k));
    some = omega (arith, long k, some);
    few = few k;
    level = two-counts (labels_of (stratum_subjects samples k)) (labels-at (λ l. l < 2) members-two k) ∙ length-map (stratum_subjects samples k) (λ (s : Subject). s.label);
  }

  pub strata-are : AllByRecursion IsStratum (strata_subjects samples)
  strata-are = from 0 (length samples.strata) (recursion_from_All (λ c. 1 ≤ c) (counts_of (length samples.strata) samples.places) u.no_stratum_empty)
    where
      from : (s n : ℕ) → AllByRecursion (λ c. 1 ≤ c) (map (λ i. count_of i samples.places) (range_with_len s n)) → AllByRecursion IsStratum (map (stratum_subjects samples) (range_with_len s n))
      from s zero a = tt
      from s (suc n) a = (is-stratum s a.0, from (s + 1) n a.1)

  -- all ranks together
  one-square : (n : ℕ) → n ≤ 10000 → n * (n + 1) ≤ 10001 * n
  one-square n h = grind arith

  pub bound-fits : (ranked_strata_test (strata_subjects samples)).bound ≤ MAX
  bound-fits = omega (arith, from 0 (length samples.strata), sum-counts_of (length samples.places) (length samples.strata) samples.places (record { long = refl; below = recursion_from_All (λ p. p < length samples.strata) samples.places u.strata_exist }), places-few)
    where
      from : (s n : ℕ) → sum_by (λ xs. length xs * (length xs + 1)) (map (stratum_subjects samples) (range_with_len s n)) ≤ 10001 * sum (map (λ i. count_of i samples.places) (range_with_len s n))
      from s zero = omega arith
      from s (suc n) =
          omega (arith, from (s + 1) n, long s, one-square (length (stratum_subjects samples s)) (few s), sum_by-cons (λ v. v) (count_of s samples.places) (map (λ i. count_of i samples.places) (range_with_len (s + 1) n)), sum_by-cons (λ (xs : List Subject). length xs * (length xs + 1)) (stratum_subjects samples s) (map (stratum_subjects samples) (range_with_len (s + 1) n)))

pub usable-from : (samples : StrataGroups) → AreUsable (strata_data_of samples)
usable-from samples = record {
  few_enough = samples.few_enough;
  one_group_each = samples.one_group_each;
  two_groups = rw samples.two at samples.groups_exist;
  one_stratum_each = samples.one_stratum_each;
  strata_exist = samples.strata_exist;
  no_stratum_empty = samples.no_stratum_empty;
}
