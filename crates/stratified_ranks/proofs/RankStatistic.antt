-- What the network of ranks measures of a labelling is the statistic, and its rooms give the labellings of the test.
use Rattle.std.proofs.Common.{◌≡◌, ℕ, zero, suc, ◌+◌, ◌-◌, ◌*◌, Bool, true, false, cond, List, [], ◌∷◌, ◌++◌, map, take, drop, length, nat_eq, refl, sym, ◌∙◌, ap, arith}
use Rattle.std.specs.Prelude.{ℤ, pos, ◌+ℤ◌, replicate}
use Rattle.std.specs.List.{AllByRecursion, sum_by}
use Rattle.std.proofs.lemmas.Int.{ints}
use Rattle.std.proofs.lemmas.List.Sums.{sum_by-cons}
use Rattle.weights.proofs.Sums.{sum_by-same}
use Rattle.enumerate.specs.Joined.{joined_labellings}
use Rattle.scores.specs.Scores.{labelled_sum}
use Rattle.scores.proofs.LabelledSums.{labelled-none}
use Rattle.sample_reader.specs.declared.subjects.Subject.{Subject}
use Rattle.networks.specs.declared.verdicts.Judge.{Judge}
use Rattle.room_network.specs.Meanings.{partial_after, way_value}
use Rattle.room_network.specs.Plans.{Gives, alone}
use Rattle.count_rooms.specs.OneCount.{chosen}
use Rattle.count_rooms.proofs.WaySums.{gather}
use Rattle.room_network.specs.Numbers.{so_far}
use Rattle.stratified_ranks.specs.RankRooms.{column_at, column_ranks, rank_columns, rank_floor, rank_meaning, rank_plan, second_of}
use Rattle.stratified_ranks.specs.StratifiedRanks.{ranked_strata_test, two_sizes}
use Rattle.stratified_ranks.specs.declared.rank_columns.Column.{Column}
use Rattle.stratified_ranks.proofs.RankColumns.{IsStratum, columns-ranks, columns-sizes, columns-sound, second-within}
use Rattle.stratified_ranks.proofs.RankLabellings.{at-drop, none-behind, rest-drop, second_counts, ways_give}
use Rattle.stratified_ranks.proofs.TwoParts.{ones}

-- ---- the sum of the labelled ranks

plus-none : (z : ℤ) → z ≡ z +ℤ pos 0
plus-none z = omega (arith, ints)

none-plus : (z : ℤ) → pos 0 +ℤ z ≡ z
none-plus z = omega (arith, ints)

grouped : (a b c : ℤ) → (a +ℤ b) +ℤ c ≡ a +ℤ (b +ℤ c)
grouped a b c = omega (arith, ints)

one-taken : (v n : ℕ) (r : ℤ) (k : ℕ) → k ≡ 1 + n → pos v +ℤ (pos (n * v) +ℤ r) ≡ pos (k * v) +ℤ r
one-taken v n r k e =
    let m : k * v ≡ v + n * v = ap (λ i. i * v) e ∙ (let t : (1 + n) * v ≡ v + n * v = omega arith in t) in
    rw m (omega (arith, ints))

one-passed : (v n : ℕ) (r : ℤ) (k : ℕ) → k ≡ 0 + n → pos 0 +ℤ (pos (n * v) +ℤ r) ≡ pos (k * v) +ℤ r
one-passed v n r k e = let m : k ≡ n = omega (arith, e) in rw m (omega (arith, ints))

column-labelled : (c v : ℕ) (ys xs : List ℕ) → labelled_sum 1 (map pos (replicate c v ++ ys)) xs ≡ pos (ones (take c xs) * v) +ℤ labelled_sum 1 (map pos ys) (drop c xs)
column-labelled zero v ys xs = let none : 0 * v ≡ 0 = omega arith in rw none (sym (none-plus (labelled_sum 1 (map pos ys) xs)))
column-labelled (suc c) v ys [] = let none : 0 * v ≡ 0 = omega arith in rw (none, labelled-none 1 (map pos ys)) refl
column-labelled (suc c) v ys (x ∷ xs) = by (nat_eq x 1) (column-labelled c v ys xs) (sum_by-cons (λ l. cond (nat_eq l 1) 1 0) x (take c xs))
  where
    by : (b : Bool) → labelled_sum 1 (map pos (replicate c v ++ ys)) xs ≡ pos (ones (take c xs) * v) +ℤ labelled_sum 1 (map pos ys) (drop c xs)
        → ones (x ∷ take c xs) ≡ cond b 1 0 + ones (take c xs) → cond b (pos v) (pos 0) +ℤ labelled_sum 1 (map pos (replicate c v ++ ys)) xs ≡ pos (ones (x ∷ take c xs) * v) +ℤ labelled_sum 1 (map pos ys) (drop c xs)
    by true h e = ap (λ z. pos v +ℤ z) h ∙ one-taken v (ones (take c xs)) (labelled_sum 1 (map pos ys) (drop c xs)) (ones (x ∷ take c xs)) e
    by false h e = ap (λ z. pos 0 +ℤ z) h ∙ one-passed v (ones (take c xs)) (labelled_sum 1 (map pos ys) (drop c xs)) (ones (x ∷ take c xs)) e

module _ (columns : List Column) (judge : Judge) where
  abbrev meaning : Rattle.room_network.specs.Meanings.Meaning
  meaning = rank_meaning columns judge

  after-is : (ts : List Column) (g : ℕ) (room p : List ℤ) (xs : List ℕ) → drop g columns ≡ ts → g + length ts ≡ length columns
      → so_far (partial_after meaning g room p (second_counts ts xs)) ≡ so_far p +ℤ labelled_sum 1 (map pos (column_ranks ts)) xs
  after-is [] g room p xs d e = plus-none (so_far p)
  after-is (t ∷ ts) g room p xs d e =
      let x : List ℕ = ones (take t.size xs) ∷ [] in
      let here : column_at columns g ≡ t = at-drop columns g t _ ts (omega (arith, e)) d in
      let added : ℤ = pos (chosen x * (column_at columns g).rank) in
      after-is ts (g + 1) ((rank_floor columns).next g room x) ((so_far p +ℤ added) ∷ []) (drop t.size xs) (rest-drop columns g t t ts (omega (arith, e)) d) (omega (arith, e))
      ∙ grouped (so_far p) added (labelled_sum 1 (map pos (column_ranks ts)) (drop t.size xs))
      ∙ ap (λ (c : Column). so_far p +ℤ (pos (ones (take t.size xs) * c.rank) +ℤ labelled_sum 1 (map pos (column_ranks ts)) (drop t.size xs))) here
      ∙ ap (λ z. so_far p +ℤ z) (sym (column-labelled t.size t.rank (column_ranks ts) xs))

  pub value-is : (xs : List ℕ) → way_value meaning (second_counts columns xs) ≡ labelled_sum 1 (map pos (column_ranks columns)) xs
  value-is xs = after-is columns 0 (pos (second_of columns) ∷ []) (pos 0 ∷ []) xs refl (omega arith) ∙ none-plus (labelled_sum 1 (map pos (column_ranks columns)) xs)

-- ---- the labellings of the test

once : (n : ℕ) → n ≡ 1 * n
once n = omega arith

module _ (strata : List (List Subject)) (all : AllByRecursion IsStratum strata) where
  pub gives : Gives (rank_plan (rank_columns strata)) (joined_labellings (map two_sizes strata)) (λ xs. 1) (second_counts (rank_columns strata))
  gives = record {
    law = λ f.
        (let columns : List Column = rank_columns strata in
        let e : length columns - 0 ≡ length columns = omega arith in
        let g : List ℕ → ℕ = λ xs. f (second_counts columns xs) in
        ap (λ m. gather (alone (rank_plan columns)) m 0 (pos (second_of columns) ∷ []) f) e
        ∙ ways_give columns columns 0 (second_of columns) f refl (omega arith) (columns-sound strata all) (second-within strata all)
        ∙ ap (λ ss. sum_by g (joined_labellings ss)) (columns-sizes strata all)
        ∙ none-behind (map two_sizes strata) g
        ∙ sum_by-same g (λ xs. 1 * g xs) (λ xs. once (g xs)) (joined_labellings (map two_sizes strata)));
  }

  pub statistic-is : (judge : Judge) (xs : List ℕ) → (ranked_strata_test strata).statistic xs ≡ way_value (rank_meaning (rank_columns strata) judge) (second_counts (rank_columns strata) xs)
  statistic-is judge xs = ap (λ zs. labelled_sum 1 zs xs) (sym (columns-ranks strata all)) ∙ sym (value-is (rank_columns strata) judge xs)
