-- K of a labelling is K of its table, and K of a table is K of the table transposed.
use Rattle.sample_reader.specs.PooledSample.{paired_subjects}
use Rattle.std.proofs.Common.{◌≡◌, ℕ, zero, suc, ◌+◌, ◌*◌, ◌<◌, List, [], ◌∷◌, length, map, take, drop, refl, sym, ◌∙◌, ap, arith}
use Rattle.std.specs.Prelude.{ℤ, pos, ◌-ℤ◌, replicate}
use Rattle.std.specs.List.{AllByRecursion, range_with_len, sum}
use Rattle.std.proofs.lemmas.List.{length-drop, take-append-drop}
use Rattle.std.proofs.lemmas.List.Folds.{sum_by-replicate}
use Rattle.completion_bounds.proofs.Factorials.{total, total-is}
use Rattle.midranks.specs.Ties.{IsAscending}
use Rattle.midranks.specs.declared.ties.Tie.{Tie}
use Rattle.weights.specs.Grouped.{columns_of}
use Rattle.weights.specs.Labellings.{counts_of}
use Rattle.weights.proofs.Counted.{count_of}
use Rattle.weights.proofs.Sized.{counts_of-append, plus}
use Rattle.weights.proofs.Tables.{all_take, all_drop}
use Rattle.transposed_tables.specs.Transposed.{fronted, transposed}
use Rattle.transposed_tables.proofs.Shapes.{length-across}
use Rattle.transposed_tables.proofs.TransposedLines.{AreLong, across, across-fronted, level-transposed, long-transposed, totals-transposed}
use Rattle.kendall_test.specs.Kendall.{kendall_statistic, one_where_greater, one_where_less, over_pairs}
use Rattle.kendall_test.specs.KendallNetwork.{concordant_pairs}
use Rattle.kendall_test.proofs.CodeLaws.{sum-first}
use Rattle.kendall_test.proofs.CountedPairs.{crossed, discordant-are, concordant-are}
use Rattle.kendall_test.proofs.KendallValues.{by_stages, counts_in, pairs-are, values_of_ties}

-- what each column and the later ones add, of a table of so many rows
abbrev over_later : (List ℕ → List ℕ → ℕ) → ℕ → List (List ℕ) → ℕ
over_later f k [] = 0
over_later f k (x ∷ w) = f x (across k w) + over_later f k w

-- the pairs whose row is less for the later subject
abbrev discordant_pairs : List ℕ → List ℕ → ℕ
discordant_pairs x y = concordant_pairs y x

abbrev pub table_sum : ℕ → List (List ℕ) → ℤ
table_sum k w = pos (over_later concordant_pairs k w) -ℤ pos (over_later discordant_pairs k w)

-- ---- of a labelling

zeros : (s n : ℕ) → map (λ i. count_of i []) (range_with_len s n) ≡ replicate n 0
zeros s zero = refl
zeros s (suc n) = ap (λ v. 0 ∷ v) (zeros (s + 1) n)

rest-long : (c : ℕ) (cs xs : List ℕ) → length xs ≡ sum (c ∷ cs) → length (drop c xs) ≡ sum cs
rest-long c cs xs e = omega (arith, e, sum-first c cs, length-drop c xs)

across-columns : (k : ℕ) (cs xs : List ℕ) → length xs ≡ sum cs → across k (columns_of k cs xs) ≡ counts_of k xs
across-columns k [] [] e = sym (zeros 0 k)
across-columns k [] (x ∷ xs) e = absurd (omega (arith, e))
across-columns k (c ∷ cs) xs e =
    ap (plus (counts_of k (take c xs))) (across-columns k cs (drop c xs) (rest-long c cs xs e))
    ∙ sym (counts_of-append k (take c xs) (drop c xs)) ∙ ap (counts_of k) (take-append-drop c xs)

over-columns : (f : List ℕ → List ℕ → ℕ) (h : ℕ → ℕ → ℕ) (k : ℕ) → ((xs ys : List ℕ) → AllByRecursion (λ x. x < k) xs → AllByRecursion (λ y. y < k) ys → f (counts_of k xs) (counts_of k ys) ≡ crossed h xs ys)
    → (cs xs : List ℕ) → length xs ≡ sum cs → AllByRecursion (λ x. x < k) xs → by_stages h cs xs ≡ over_later f k (columns_of k cs xs)
over-columns f h k each [] xs e a = refl
over-columns f h k each (c ∷ cs) xs e a =
    let long = rest-long c cs xs e in
    let later = all_drop (λ x. x < k) c xs a in
    ap (λ n. n + by_stages h cs (drop c xs)) (sym (ap (f (counts_of k (take c xs))) (across-columns k cs (drop c xs) long) ∙ each (take c xs) (drop c xs) (all_take (λ x. x < k) c xs a) later))
    ∙ ap (λ n. f (counts_of k (take c xs)) (across k (columns_of k cs (drop c xs))) + n) (over-columns f h k each cs (drop c xs) long later)

-- of subjects in ascending groups of first values
pub table-is : (ts : List Tie) (k : ℕ) (xs : List ℕ) → IsAscending ts → length xs ≡ sum (counts_in ts) → AllByRecursion (λ x. x < k) xs → kendall_statistic (values_of_ties ts) xs ≡ table_sum k (columns_of k (counts_in ts) xs)
table-is ts k xs up long below =
    ap (λ n. pos n -ℤ pos (over_pairs one_where_greater (paired_subjects (values_of_ties ts) xs) (paired_subjects (values_of_ties ts) xs))) (pairs-are one_where_less ts xs up long ∙ over-columns concordant_pairs one_where_less k (concordant-are k) (counts_in ts) xs long below)
    ∙ ap (λ n. pos (over_later concordant_pairs k (columns_of k (counts_in ts) xs)) -ℤ pos n) (pairs-are one_where_greater ts xs up long ∙ over-columns discordant_pairs one_where_greater k (discordant-are k) (counts_in ts) xs long below)

-- ---- of a table transposed

sum-plus : (x y : List ℕ) → length x ≡ length y → sum (plus x y) ≡ sum x + sum y
sum-plus [] [] e = refl
sum-plus [] (b ∷ y) e = absurd (omega (arith, e))
sum-plus (a ∷ x) [] e = absurd (omega (arith, e))
sum-plus (a ∷ x) (b ∷ y) e = omega (arith, sum-first (a + b) (plus x y), sum-first a x, sum-first b y, sum-plus x y (omega (arith, e)))

-- all cells by the rows and by the columns
sum-across : (n : ℕ) (lines : List (List ℕ)) → AreLong n lines → sum (across n lines) ≡ sum (map total lines)
sum-across n [] a = omega (arith, sum_by-replicate (λ v. v) n 0)
sum-across n (line ∷ lines) a =
    sum-plus line (across n lines) (a.0 ∙ sym (length-across n lines a.1))
    ∙ omega (arith, total-is line, sum-across n lines a.1, sum-first (total line) (map total lines))

concordant-fronted : (n : ℕ) (x : List ℕ) (lines : List (List ℕ)) → length x ≡ length lines → AreLong n lines → over_later concordant_pairs (suc n) (fronted x lines) ≡ concordant_pairs x (map total lines) + over_later concordant_pairs n lines
concordant-fronted n [] [] e a = refl
concordant-fronted n [] (line ∷ lines) e a = absurd (omega (arith, e))
concordant-fronted n (b ∷ x) [] e a = absurd (omega (arith, e))
concordant-fronted n (b ∷ x) (line ∷ lines) e a =
    ap (λ v. concordant_pairs (b ∷ line) v + over_later concordant_pairs (suc n) (fronted x lines)) (across-fronted n x lines (omega (arith, e)))
    ∙ regroup b (sum (across n lines)) (sum (map total lines)) (concordant_pairs line (across n lines)) (concordant_pairs x (map total lines)) (over_later concordant_pairs n lines) (over_later concordant_pairs (suc n) (fronted x lines)) (sum-across n lines a.1) (concordant-fronted n x lines (omega (arith, e)) a.1)
  where
    regroup : (b s t u v r q : ℕ) → s ≡ t → q ≡ v + r → (b * s + u) + q ≡ (b * t + v) + (u + r)
    regroup b s t u v r q e f = rw (e, f) (omega arith)

discordant-fronted : (n : ℕ) (x : List ℕ) (lines : List (List ℕ)) → length x ≡ length lines → AreLong n lines → over_later discordant_pairs (suc n) (fronted x lines) ≡ concordant_pairs (map total lines) x + over_later discordant_pairs n lines
discordant-fronted n [] [] e a = refl
discordant-fronted n [] (line ∷ lines) e a = absurd (omega (arith, e))
discordant-fronted n (b ∷ x) [] e a = absurd (omega (arith, e))
discordant-fronted n (b ∷ x) (line ∷ lines) e a =
    ap (λ v. concordant_pairs v (b ∷ line) + over_later discordant_pairs (suc n) (fronted x lines)) (across-fronted n x lines (omega (arith, e)))
    ∙ regroup (total x) (sum x) (total line) (sum line) (concordant_pairs (across n lines) line) (concordant_pairs (map total lines) x) (over_later discordant_pairs n lines) (over_later discordant_pairs (suc n) (fronted x lines)) (total-is x) (total-is line) (discordant-fronted n x lines (omega (arith, e)) a.1)
  where
    regroup : (p q s t u v r m : ℕ) → p ≡ q → s ≡ t → m ≡ v + r → (p * t + u) + m ≡ (s * q + v) + (u + r)
    regroup p q s t u v r m e f g = rw (e, f, g) (grind arith)

none-concordant : (x : List ℕ) → concordant_pairs x [] ≡ 0
none-concordant [] = refl
none-concordant (a ∷ x) = refl

over-none : (f : List ℕ → List ℕ → ℕ) → ((x : List ℕ) → f [] x ≡ 0) → (k : ℕ) → over_later f 0 (replicate k []) ≡ 0
over-none f none zero = refl
over-none f none (suc k) = omega (arith, none (across 0 (replicate k [])), over-none f none k)

over-transposed : (f : List ℕ → List ℕ → ℕ) → ((x : List ℕ) → f [] x ≡ 0) → ((n : ℕ) (x : List ℕ) (lines : List (List ℕ)) → length x ≡ length lines → AreLong n lines → over_later f (suc n) (fronted x lines) ≡ f x (map total lines) + over_later f n lines)
    → (k : ℕ) (w : List (List ℕ)) → AreLong k w → over_later f (length w) (transposed k w) ≡ over_later f k w
over-transposed f none front k [] a = over-none f none k
over-transposed f none front k (x ∷ w) a =
    front (length w) x (transposed k w) (level-transposed k x w a) (long-transposed k w)
    ∙ ap (λ v. f x v + over_later f (length w) (transposed k w)) (totals-transposed k w a.1)
    ∙ ap (λ n. f x (across k w) + n) (over-transposed f none front k w a.1)

pub sum-transposed : (k : ℕ) (w : List (List ℕ)) → AreLong k w → table_sum (length w) (transposed k w) ≡ table_sum k w
sum-transposed k w a = ap (λ n. pos n -ℤ pos (over_later discordant_pairs (length w) (transposed k w))) (over-transposed concordant_pairs (λ x. refl) concordant-fronted k w a) ∙ ap (λ n. pos (over_later concordant_pairs k w) -ℤ pos n) (over-transposed discordant_pairs none-concordant discordant-fronted k w a)
