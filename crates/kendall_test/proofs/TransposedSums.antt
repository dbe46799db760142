-- How many labellings have a K that passes: as many in the test transposed, in the ratio of the totals.
use Rattle.std.proofs.Common.{◌≡◌, ℕ, ◌+◌, ◌*◌, List, [], ◌∷◌, length, map, Bool, cond, refl, sym, ◌∙◌, ap, subst, arith}
use Rattle.std.specs.Prelude.{Contains, ℤ}
use Rattle.std.specs.List.{sum, sum_by}
use Rattle.std.proofs.lemmas.List.{length-map, map-id}
use Rattle.std.proofs.lemmas.List.Elements.{All-contains_itself, recursion_from_All}
use Rattle.std.proofs.lemmas.List.Sums.{sum_by-cons}
use Rattle.weights.specs.Conditional.{total}
use Rattle.weights.specs.Grouped.{columns_of}
use Rattle.weights.specs.Labellings.{labellings, number_of_labellings}
use Rattle.weights.proofs.Chosen.{one_if}
use Rattle.weights.proofs.GroupingLaw.{by_columns, grouping}
use Rattle.weights.proofs.Members.{IsLabelling, labelling_from}
use Rattle.weights.proofs.OneOrder.{sum_by-in_order}
use Rattle.weights.proofs.Sums.{sum_by-filter, sum_by-map, sum_by-same_where}
use Rattle.midranks.specs.Ties.{tie_groups}
use Rattle.midranks.specs.declared.ties.Tie.{Tie}
use Rattle.midranks.proofs.OneGrouping.{groups-are}
use Rattle.midranks.proofs.TieLemmas.{groups-ascend, groups-counts, sum_by-groups}
use Rattle.sample_reader.specs.Twins.{TwinData}
use Rattle.sample_reader.specs.Groups.{GroupData}
use Rattle.sample_reader.specs.PooledSample.{may_precede, paired_subjects, values_of}
use Rattle.sample_reader.specs.declared.subjects.Subject.{Subject}
use Rattle.networks.specs.Follows.{statistic_sums}
use Rattle.labelled.proofs.LabelLaws.{total-of}
use Rattle.pooled_columns.specs.PooledColumns.{column_sizes}
use Rattle.pooled_columns.proofs.PooledValues.{pooled-rises}
use Rattle.pooled_columns.proofs.TieColumns.{columns-sum, grouped}
use Rattle.transposed_tables.specs.Transposed.{transposed}
use Rattle.transposed_tables.proofs.Bijection.{sums}
use Rattle.transposed_tables.proofs.Shapes.{wide-table}
use Rattle.transposed_tables.proofs.Weighed.{weighed-transposed}
use Rattle.kendall_test.specs.Kendall.{kendall_says, kendall_statistic, kendall_subjects, kendall_test, place_among, places_of}
use Rattle.kendall_test.specs.TransposedKendall.{transposed_twins}
use Rattle.kendall_test.proofs.KendallValues.{values_of_ties}
use Rattle.kendall_test.proofs.TableSums.{sum-transposed, table-is, table_sum}

-- ---- sums over tables

-- whether the K of a table of so many rows passes
abbrev passing : (ℤ → Bool) → ℕ → List (List ℕ) → ℕ
passing p k w = one_if (p (table_sum k w))

passing-transposed : (p : ℤ → Bool) (columns rows : List ℕ) → sum columns ≡ sum rows → by_columns columns rows (passing p (length rows)) * number_of_labellings columns ≡ by_columns rows columns (passing p (length columns)) * number_of_labellings rows
passing-transposed p columns rows level =
    weighed-transposed columns rows (passing p (length rows)) (passing p (length columns)) level (λ w t.
    let s = sums columns rows level w t in
    ap (λ z. one_if (p z)) (sym (subst (λ n. table_sum n (transposed (length rows) w) ≡ table_sum (length rows) w) (wide-table columns rows w s) (sum-transposed (length rows) w s.long))))

-- ---- the subjects' first values

values-paired : (f : ℤ → ℕ) (vs : List ℤ) (xs : List ℕ) → length xs ≡ length vs → sum_by (λ (s : Subject). f s.value) (paired_subjects vs xs) ≡ sum_by f vs
unfolding paired_subjects
values-paired f [] xs e = refl
values-paired f (v ∷ vs) [] e = absurd (omega (arith, e))
values-paired f (v ∷ vs) (x ∷ xs) e =
    sum_by-cons (λ (s : Subject). f s.value) (record { value = v; label = x }) (paired_subjects vs xs)
    ∙ ap (λ n. f v + n) (values-paired f vs xs (omega (arith, e)))
    ∙ sym (sum_by-cons f v vs)

module _ (t : TwinData) where
  abbrev firsts : List ℤ
  firsts = values_of (kendall_subjects t)

  abbrev columns : List ℕ
  columns = column_sizes t.first

  abbrev rows : List ℕ
  rows = column_sizes t.second

  module _ (long : length t.second ≡ length t.first) where
    first-sums : (f : ℤ → ℕ) → sum_by f firsts ≡ sum_by f t.first
    first-sums f =
        sum_by-map f (λ (s : Subject). s.value) (kendall_subjects t)
        ∙ sum_by-in_order may_precede (λ (s : Subject). f s.value) (paired_subjects t.first (places_of t.second))
        ∙ values-paired f t.first (places_of t.second) (length-map t.second (place_among (tie_groups t.second)) ∙ long)

    same-groups : tie_groups firsts ≡ tie_groups t.first
    same-groups = groups-are t.first (tie_groups firsts) (groups-ascend firsts) (groups-counts firsts) (λ f. sum_by-groups f firsts ∙ first-sums f)

    -- as many subjects have each distinct first value
    pub first-columns : column_sizes firsts ≡ columns
    first-columns = ap (map (λ (t : Tie). t.count)) same-groups

    pub level : sum columns ≡ sum rows
    level = columns-sum t.first ∙ sym long ∙ sym (columns-sum t.second)

    -- ---- K of a labelling

    abbrev as_groups : GroupData
    as_groups = record { labels = []; members = places_of t.second; values = t.first }

    statistic-is : (xs : List ℕ) → Contains (labellings rows) xs → kendall_statistic firsts xs ≡ table_sum (length rows) (columns_of (length rows) columns xs)
    statistic-is xs m =
        let l : IsLabelling rows xs = labelling_from rows xs m in
        let same : values_of_ties (tie_groups firsts) ≡ firsts = grouped (λ v. v) firsts (pooled-rises as_groups) ∙ map-id firsts in
        ap (λ vs. kendall_statistic vs xs) (sym same)
        ∙ table-is (tie_groups firsts) (length rows) xs (groups-ascend firsts) (l.over.long ∙ sym level ∙ sym (ap sum first-columns)) l.over.below
        ∙ ap (λ cs. table_sum (length rows) (columns_of (length rows) cs xs)) first-columns

    sums-are : (p : ℤ → Bool) → statistic_sums (kendall_test t) p ≡ by_columns columns rows (passing p (length rows))
    sums-are p =
        sum_by-filter (λ xs. 1) (λ xs. p (kendall_statistic firsts xs)) (labellings rows)
        ∙ sum_by-same_where (Contains (labellings rows)) (λ xs. cond (p (kendall_statistic firsts xs)) 1 0) (λ xs. passing p (length rows) (columns_of (length rows) columns xs)) (λ xs m. ap (λ z. one_if (p z)) (statistic-is xs m)) (labellings rows)
        (recursion_from_All (Contains (labellings rows)) (labellings rows) (All-contains_itself (labellings rows)))
        ∙ sym (grouping columns rows (passing p (length rows)) level)

  pub total-is : total (kendall_test t) ≡ number_of_labellings rows
  total-is = total-of (kendall_says t)

-- the sums of the test transposed
pub sums-transposed : (t : TwinData) → length t.second ≡ length t.first → (p : ℤ → Bool) → statistic_sums (kendall_test t) p * total (kendall_test (transposed_twins t)) ≡ statistic_sums (kendall_test (transposed_twins t)) p * total (kendall_test t)
sums-transposed t long p =
    ap (λ n. statistic_sums (kendall_test t) p * n) (total-is (transposed_twins t))
    ∙ ap (λ n. n * number_of_labellings (column_sizes t.first)) (sums-are t long p)
    ∙ passing-transposed p (column_sizes t.first) (column_sizes t.second) (level t long)
    ∙ sym (ap (λ n. n * total (kendall_test t)) (sums-are (transposed_twins t) (sym long) p) ∙ ap (λ n. by_columns (column_sizes t.second) (column_sizes t.first) (passing p (length (column_sizes t.first))) * n) (total-is t))
