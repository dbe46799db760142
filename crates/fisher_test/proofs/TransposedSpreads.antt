-- The distribution of Fisher's test of a table is that of the table transposed, each line in the ratio
-- of the totals.
use Rattle.std.proofs.Common.{◌≡◌, ℕ, ◌*◌, ◌/◌, ◌<◌, ◌≤◌, List, [], ◌∷◌, map, Bool, true, false, cond, refl, sym, ◌∙◌, ap, subst, arith, inl, inr, length}
use Rattle.std.specs.Prelude.{All, ℤ, pos, nat_abs, ◌<ℤ◌, Contains}
use Rattle.std.specs.List.{AllByRecursion, filter, sum_by}
use Rattle.std.specs.Ordering.{int_eq}
use Rattle.std.proofs.Math.Nat.{mul-le-mul_right, mul_comm}
use Rattle.std.proofs.lemmas.Bool.{cases_lt}
use Rattle.std.proofs.lemmas.Int.{ints}
use Rattle.std.proofs.lemmas.List.Elements.{All-contains_itself, All-from_recursion, recursion_from_All}
use Rattle.weights.specs.declared.TheConstants.{MAX}
use Rattle.weights.specs.declared.lines.Line.{Line}
use Rattle.weights.specs.Conditional.{ascending_values, distribution, total, unit_weight, value_weight}
use Rattle.weights.specs.Grouped.{columns_of, table_weight}
use Rattle.weights.specs.Labellings.{labellings, number_of_labellings}
use Rattle.weights.proofs.Filters.{all_map, all_weaker}
use Rattle.weights.proofs.Sums.{sum_by-filter-≤, sum_by-map, sum_by-same_where, sum_by-times}
use Rattle.weights.proofs.Centred.{all-weigh}
use Rattle.completion_bounds.proofs.TableWeights.{table-all}
use Rattle.completion_bounds.proofs.Factorials.{cancel as cancel-≤}
use Rattle.networks.specs.Follows.{statistic_sums}
use Rattle.networks.specs.Lines.{IsAscending, TailsFit, WeightsFit, line_sum}
use Rattle.stage_network.proofs.DistributionLines.{distribution-is, spread-is, values-each}
use Rattle.stage_network.proofs.FittingLines.{tails-fit, test-weighs}
use Rattle.table_reader.specs.TableLayout.{TableData}
use Rattle.transposed_tables.specs.Transposed.{transposed}
use Rattle.transposed_tables.proofs.Reduced.{no-rest, quotient}
use Rattle.transposed_tables.proofs.Weighed.{cancel, weights-transposed}
use Rattle.table_sums.specs.Tables.{column_sums, is_two_by_two, row_sums}
use Rattle.table_sums.proofs.MarginSums.{level}
use Rattle.fisher_test.specs.FisherExact.{first_cell, fisher_test, rarity}
use Rattle.fisher_test.specs.Transposed.{AreInRatio, AreTransposed, IsScalable, IsServedBy, scaled_line}
use Rattle.fisher_test.proofs.FisherTests.{given-table, rarity-is, rules-fit, total-is, total-some}
use Rattle.fisher_test.proofs.TransposedData.{transposed-columns, transposed-rows}
use Rattle.fisher_test.proofs.TransposedTests.{PassesTransposed, lines-transposed, numerators-transposed, rare, rare-ratio, total-transposed, transposed-shape, weight_of}

lesser : (a b c d of all : ℕ) → 0 < of → 0 < all → a * of ≡ b * all → c * of ≡ d * all → b < d → a < c
lesser a b c d of all some other e f l = elim (cases_lt a c) [
  | inl h ↦ h
  | inr h ↦ absurd (omega (arith, l, cancel-≤ d b all other (omega (arith, mul-le-mul_right of h, e, f))))
]

-- lines in the ratio of totals

module _ (all of : ℕ) (some : 0 < of) (other : 0 < all) where
  -- a value whose part of the other total is a whole number
  pub record IsRatio (v : ℤ) : Type 0 where
    pub part : ℕ
    pub number : ℕ
    pub value : v ≡ pos number
    pub ratio : part * of ≡ number * all
    pub within : number ≤ of

  pub record IsPart (l : Line) : Type 0 where
    pub value : IsRatio l.value
    pub count : ℕ
    pub weight : count * of ≡ l.weight * all
    pub within : l.weight ≤ of

  scaled-value : (v : ℤ) (i : IsRatio v) → pos (nat_abs v * all / of) ≡ pos i.part
  scaled-value v i = ap (λ z. pos (nat_abs z * all / of)) i.value ∙ ap pos (quotient i.part of (i.number * all) some i.ratio)

  scaled-weight : (l : Line) → IsPart l → (l.weight * all / of) * of ≡ l.weight * all
  scaled-weight l i = ap (λ n. n * of) (quotient i.count of (l.weight * all) some i.weight) ∙ i.weight

  scaled-above : (l m : Line) → IsPart l → IsPart m → l.value <ℤ m.value → pos (nat_abs l.value * all / of) <ℤ pos (nat_abs m.value * all / of)
  scaled-above l m i j h =
      let less : pos i.value.number <ℤ pos j.value.number = rw (i.value.value, j.value.value) at h in
      let parts : i.value.part < j.value.part = lesser i.value.part i.value.number j.value.part j.value.number of all some other i.value.ratio j.value.ratio (omega (arith, ints, less)) in
      rw (scaled-value l.value i.value, scaled-value m.value j.value) (omega (arith, ints, parts))

  each-above : (l : Line) (lines : List Line) → IsPart l → AllByRecursion IsPart lines → AllByRecursion (λ m. l.value <ℤ m.value) lines
      → AllByRecursion (λ m. pos (nat_abs l.value * all / of) <ℤ m.value) (map (scaled_line all of) lines)
  each-above l [] i a h = tt
  each-above l (m ∷ lines) i a h = (scaled-above l m i a.0 h.0, each-above l lines i a.1 h.1)

  scaled-ascending : (lines : List Line) → AllByRecursion IsPart lines → IsAscending lines → IsAscending (map (scaled_line all of) lines)
  scaled-ascending [] a h = tt
  scaled-ascending (l ∷ lines) a h = (each-above l lines a.0 a.1 h.0, scaled-ascending lines a.1 h.1)

  scaled-positive : (lines : List Line) → AllByRecursion IsPart lines → AllByRecursion (λ l. 1 ≤ l.weight) lines → AllByRecursion (λ l. 1 ≤ l.weight) (map (scaled_line all of) lines)
  scaled-positive [] a h = tt
  scaled-positive (l ∷ lines) a h = (least (l.weight * all / of) l.weight (scaled-weight l a.0) h.0, scaled-positive lines a.1 h.1)
    where
      least : (n w : ℕ) → n * of ≡ w * all → 1 ≤ w → 1 ≤ n
      least n w e h = lesser 0 0 n w of all some other (omega arith) e (omega (arith, h))

  scaled-told : (p : ℤ → Bool) (lines : List Line) → AllByRecursion IsPart lines → line_sum p (map (scaled_line all of) lines) * of ≡ line_sum (λ z. p (pos (nat_abs z * all / of))) lines * all
  scaled-told p lines a =
      ap (λ n. n * of) (sum_by-map (λ (l : Line). cond (p l.value) l.weight 0) (scaled_line all of) lines)
      ∙ sym (sum_by-times of (λ (l : Line). cond (p (pos (nat_abs l.value * all / of))) (l.weight * all / of) 0) lines)
      ∙ sum_by-same_where IsPart (λ (l : Line). cond (p (pos (nat_abs l.value * all / of))) (l.weight * all / of) 0 * of) (λ (l : Line). cond (p (pos (nat_abs l.value * all / of))) l.weight 0 * all) (λ l i. both (p (pos (nat_abs l.value * all / of))) (l.weight * all / of) l.weight (scaled-weight l i)) lines a
      ∙ sum_by-times all (λ (l : Line). cond (p (pos (nat_abs l.value * all / of))) l.weight 0) lines
    where
      both : (b : Bool) (n w : ℕ) → n * of ≡ w * all → cond b n 0 * of ≡ cond b w 0 * all
      both true n w e = e
      both false n w e = omega arith

-- the sums of a test that is not of a table of 2 by 2

abbrev sums_by : Bool → TableData → (ℤ → Bool) → ℕ
sums_by two_by_two t p = sum_by (λ xs. 1) (filter (λ xs. p (cond two_by_two (pos (first_cell (column_sums t) xs)) (pos (rarity t xs)))) (labellings (row_sums t)))

sums-are : (t : TableData) (p : ℤ → Bool) → is_two_by_two t ≡ false → statistic_sums (fisher_test t) p ≡ rare (λ n. p (pos n)) t
sums-are t p e = ap (λ b. sums_by b t p) e

abbrev statistic_by : Bool → TableData → List ℕ → ℤ
statistic_by two_by_two t xs = cond two_by_two (pos (first_cell (column_sums t) xs)) (pos (rarity t xs))

module _ (t u : TableData) (a : AreTransposed t u) (shape : is_two_by_two t ≡ false) where
  abbrev all : ℕ
  all = total (fisher_test t)

  abbrev of : ℕ
  of = total (fisher_test u)

  some : 0 < of
  some = omega (arith, total-some u)

  other : 0 < all
  other = omega (arith, total-some t)

  by-totals : (m n : ℕ) → m * number_of_labellings (column_sums t) ≡ n * number_of_labellings (row_sums t) → m * of ≡ n * all
  by-totals m n e = ap (λ k. m * k) (total-transposed t u a) ∙ e ∙ ap (λ k. n * k) (sym (total-is t))

  labelled : (xs : List ℕ) → Contains (labellings (row_sums u)) xs → IsRatio all of some other (pos (rarity u xs))
  labelled xs m =
      let w = columns_of u.rows (column_sums u) xs in
      let table = given-table u xs m in
      let back = transposed (length (row_sums u)) w in
      let e : table_weight w * number_of_labellings (column_sums u) ≡ table_weight back * number_of_labellings (row_sums u) = weights-transposed (column_sums u) (row_sums u) w (sym (level u)) table in
      let f : table_weight w * number_of_labellings (row_sums t) ≡ table_weight back * number_of_labellings (column_sums t) =
      ap (λ columns. table_weight w * number_of_labellings columns) (sym (transposed-columns t u a)) ∙ e ∙ ap (λ rows. table_weight back * number_of_labellings rows) (transposed-rows t u a) in
      record {
        part = table_weight back;
        number = rarity u xs;
        value = refl;
        ratio = by-totals (table_weight back) (rarity u xs) (sym f ∙ ap (λ n. n * number_of_labellings (row_sums t)) (sym (rarity-is u xs m)));
        within = omega (arith, rarity-is u xs m, total-is u, table-all (row_sums u) (column_sums u) w table);
      }

  statistic-ratio : (xs : List ℕ) → Contains (labellings (row_sums u)) xs → IsRatio all of some other (statistic_by (is_two_by_two u) u xs)
  statistic-ratio xs m = subst (λ b. IsRatio all of some other (statistic_by b u xs)) (sym (transposed-shape t u a ∙ shape)) (labelled xs m)

  value-part : (v : ℤ) → IsRatio all of some other v → IsPart all of some other (value_weight (fisher_test u) v)
  value-part v i = record {
    value = i;
    count = weight_of t i.part;
    weight = lines-transposed t u a shape i.part i.number i.ratio ∙ ap (λ z. the_weight (value_weight (fisher_test u) z) * all) (sym i.value);
    within = sum_by-filter-≤ unit_weight (λ xs. int_eq (statistic_by (is_two_by_two u) u xs) v) (labellings (row_sums u));
  }
    where
      the_weight : Line → ℕ
      the_weight l = l.weight

  each-part : AllByRecursion (IsPart all of some other) (distribution (fisher_test u))
  each-part =
      all_map (IsPart all of some other) (value_weight (fisher_test u)) (ascending_values (map (statistic_by (is_two_by_two u) u) (labellings (row_sums u))))
      (all-parts (ascending_values (map (statistic_by (is_two_by_two u) u) (labellings (row_sums u))))
      (values-each (IsRatio all of some other) (map (statistic_by (is_two_by_two u) u) (labellings (row_sums u)))
      (all_map (IsRatio all of some other) (statistic_by (is_two_by_two u) u) (labellings (row_sums u))
      (all_weaker (Contains (labellings (row_sums u))) (λ xs. IsRatio all of some other (statistic_by (is_two_by_two u) u xs)) statistic-ratio (labellings (row_sums u))
      (recursion_from_All (Contains (labellings (row_sums u))) (labellings (row_sums u)) (All-contains_itself (labellings (row_sums u))))))))
    where
      all-parts : (vs : List ℤ) → AllByRecursion (IsRatio all of some other) vs → AllByRecursion (λ v. IsPart all of some other (value_weight (fisher_test u) v)) vs
      all-parts [] h = tt
      all-parts (v ∷ vs) h = (value-part v h.0, all-parts vs h.1)

  passes : (p : ℤ → Bool) → PassesTransposed (column_sums t) (row_sums t) (λ n. p (pos n)) (λ n. p (pos (n * all / of)))
  passes p m n e = ap (λ k. p (pos k)) (sym (quotient m of (n * all) some (by-totals m n e)))

  told : (p : ℤ → Bool) → line_sum p (map (scaled_line all of) (distribution (fisher_test u))) ≡ statistic_sums (fisher_test t) p
  told p =
      let d = distribution-is (fisher_test u) (all-weigh (labellings (row_sums u))) in
      cancel (line_sum p (map (scaled_line all of) (distribution (fisher_test u)))) (statistic_sums (fisher_test t) p) of some
      (scaled-told all of some other p (distribution (fisher_test u)) each-part
      ∙ ap (λ n. n * all) (d.told (λ z. p (pos (nat_abs z * all / of))) ∙ sums-are u (λ z. p (pos (nat_abs z * all / of))) (transposed-shape t u a ∙ shape))
      ∙ sym (rare-ratio t u a (λ n. p (pos n)) (λ n. p (pos (n * all / of))) (passes p))
      ∙ ap (λ n. n * of) (sym (sums-are t p shape)))

  pub spread-transposed : distribution (fisher_test t) ≡ map (scaled_line all of) (distribution (fisher_test u))
  spread-transposed =
      let d = distribution-is (fisher_test u) (all-weigh (labellings (row_sums u))) in
      sym (spread-is (fisher_test t) (map (scaled_line all of) (distribution (fisher_test u))) (all-weigh (labellings (row_sums t))) (record {
        ascending = scaled-ascending all of some other (distribution (fisher_test u)) each-part d.ascending;
        positive = scaled-positive all of some other (distribution (fisher_test u)) each-part d.positive;
        told = told;
      }))

-- what a body that scales the lines needs
pub record ScalesTo (t : TableData) (all of : ℕ) (lines : List Line) : Type 0 where
  pub scalable : All (IsScalable all of) lines
  pub ascending : IsAscending (map (scaled_line all of) lines)
  pub law : map (scaled_line all of) lines ≡ distribution (fisher_test t)

part-scalable : (all of : ℕ) (some : 0 < of) (other : 0 < all) (l : Line) → IsPart all of some other l → IsScalable all of l
part-scalable all of some other l i =
    let size : nat_abs l.value ≡ i.value.number = ap nat_abs i.value.value in
    record {
      natural = i.value.value ∙ ap (λ z. pos (nat_abs z)) (sym i.value.value);
      value_within = omega (arith, size, i.value.within);
      value_whole = no-rest i.value.part of (all * nat_abs l.value) some (i.value.ratio ∙ mul_comm i.value.number all ∙ ap (λ n. all * n) (sym size));
      weight_within = i.within;
      weight_whole = no-rest i.count of (all * l.weight) some (i.weight ∙ mul_comm l.weight all);
    }

pub scales-to : {t u : TableData} {all of : ℕ} {lines : List Line} → IsServedBy t u → all ≡ total (fisher_test t) → of ≡ total (fisher_test u) → lines ≡ distribution (fisher_test u) → ScalesTo t all of lines
scales-to {t = t} {u = u} s e f g = let a = s.transposed in let shape = s.shape in rw (e, f, g) (record {
  scalable = All-from_recursion (IsScalable (total (fisher_test t)) (total (fisher_test u))) (distribution (fisher_test u))
      (all_weaker (IsPart (total (fisher_test t)) (total (fisher_test u)) (some t u a shape) (other t u a shape)) (IsScalable (total (fisher_test t)) (total (fisher_test u)))
      (part-scalable (total (fisher_test t)) (total (fisher_test u)) (some t u a shape) (other t u a shape)) (distribution (fisher_test u)) (each-part t u a shape));
  ascending = subst IsAscending (spread-transposed t u a shape) (distribution-is (fisher_test t) (all-weigh (labellings (row_sums t)))).ascending;
  law = sym (spread-transposed t u a shape);
})

pub in-ratio-of-totals : (t u : TableData) → AreTransposed t u → AreInRatio t u
in-ratio-of-totals t u a = record { numerators = numerators-transposed t u a; distributions = spread-transposed t u a }

-- the weights of the lines are those of the labellings
pub weights-fit : (t : TableData) → total (fisher_test t) ≤ MAX → (lines : List Line) → lines ≡ distribution (fisher_test t) → WeightsFit lines
weights-fit t few lines e = rw e (test-weighs (fisher_test t) few (distribution (fisher_test t)) (distribution-is (fisher_test t) (all-weigh (labellings (row_sums t)))))

pub rules-fit-lines : (t : TableData) (lines : List Line) → lines ≡ distribution (fisher_test t) → TailsFit (fisher_test t) lines
rules-fit-lines t lines e = rw e (tails-fit (fisher_test t) (rules-fit t))
