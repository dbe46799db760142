-- Each labelling's columns are a table, each table is listed exactly once, and its weight is the number of its labellings.
use Rattle.std.proofs.Common.{◌≡◌, ℕ, zero, suc, ◌+◌, ◌*◌, ◌<◌, List, [], ◌∷◌, length, take, drop, Bool, true, false, cond, ◌&&◌, refl, sym, ◌∙◌, ap, arith, nat_eq, nat_le, eq-eqb, take-append-drop, length-take, length-drop, one-mul}
use Rattle.std.specs.List.{sum_by, sum, count_by, AllByRecursion}
use Rattle.std.specs.Cmp.Lexicographic.{pointwise, same_text}
use Rattle.std.proofs.lemmas.List.Sums.{sum_by-cons, length-filter}
use Rattle.weights.specs.Labellings.{counts_of, labellings}
use Rattle.weights.specs.Grouped.{fits, minus, choices, tables, table_weight, columns_of, same_table, labellings_giving}
use Rattle.weights.proofs.ChoiceLists.{IsChoice, choices-each}
use Rattle.weights.proofs.Chosen.{one_if, cond-and, chosen_once}
use Rattle.weights.proofs.Filters.{all_weaker}
use Rattle.weights.proofs.GroupingLaw.{grouping, one-times}
use Rattle.weights.proofs.Members.{IsOver, all_fronts}
use Rattle.weights.proofs.Sized.{same-plus, counts_of-append, length-counts_of, sum-counts_of, length-minus, sum-minus, first_and}
use Rattle.weights.proofs.Sums.{sum_by-same, sum_by-times, sum_by-cond, sum_by-fronts}

-- a choice for each column, within what the earlier ones leave
abbrev pub IsTable : List ℕ → List ℕ → List (List ℕ) → Type 0
IsTable [] r [] = Unit {0}
IsTable [] r (x ∷ w) = ⊥
IsTable (c ∷ cs) r [] = ⊥
IsTable (c ∷ cs) r (x ∷ w) = IsChoice c r x × IsTable cs (minus r x) w

pub all_take : (P : ℕ → Type 0) (n : ℕ) (xs : List ℕ) → AllByRecursion P xs → AllByRecursion P (take n xs)
all_take P zero xs a = tt
all_take P (suc n) [] a = tt
all_take P (suc n) (x ∷ xs) a = (a.0, all_take P n xs a.1)

pub all_drop : (P : ℕ → Type 0) (n : ℕ) (xs : List ℕ) → AllByRecursion P xs → AllByRecursion P (drop n xs)
all_drop P zero xs a = a
all_drop P (suc n) [] a = tt
all_drop P (suc n) (x ∷ xs) a = all_drop P n xs a.1

-- the columns of a labelling are a table
pub columns-table : (k : ℕ) (cs r xs : List ℕ) → length r ≡ k → sum cs ≡ sum r → IsOver (sum r) k xs → pointwise nat_eq (counts_of k xs) r ≡ true → IsTable cs r (columns_of k cs xs)
columns-table k [] r xs l e o h = tt
columns-table k (c ∷ cs) r xs l e o h =
    let whole : c + sum cs ≡ sum r = sym (sum_by-cons (λ v. v) c cs) ∙ e in
    let front : IsOver c k (take c xs) = record { long = length-take c xs ∙ omega (arith, o.long); below = all_take (λ i. i < k) c xs o.below } in
    let parts : (pointwise nat_le (counts_of k (take c xs)) r && pointwise nat_eq (counts_of k (drop c xs)) (minus r (counts_of k (take c xs)))) ≡ true =
    sym (same-plus r (counts_of k (take c xs)) (counts_of k (drop c xs)) (length-counts_of k (take c xs) ∙ sym l) (length-counts_of k (drop c xs) ∙ sym l))
    ∙ ap (λ x. pointwise nat_eq x r) (sym (counts_of-append k (take c xs) (drop c xs)) ∙ ap (counts_of k) (take-append-drop c xs))
    ∙ h in
    let both = first_and (fits (counts_of k (take c xs)) r) (pointwise nat_eq (counts_of k (drop c xs)) (minus r (counts_of k (take c xs)))) parts in
    let some : sum (counts_of k (take c xs)) ≡ c = sum-counts_of c k (take c xs) front in
    let rest : sum (minus r (counts_of k (take c xs))) ≡ sum cs = omega (arith, sum-minus r (counts_of k (take c xs)) both.0) in (
      record { long = length-counts_of k (take c xs) ∙ sym l; whole = some; fitting = both.0 },
      columns-table k cs (minus r (counts_of k (take c xs))) (drop c xs) (length-minus r (counts_of k (take c xs)) ∙ l) (sym rest)
          (record { long = omega (arith, length-drop {A = ℕ}, o.long); below = all_drop (λ i. i < k) c xs o.below }) both.1,
    )

pub same_table-true : (w u : List (List ℕ)) → same_table w u ≡ true → w ≡ u
same_table-true [] [] e = refl
same_table-true [] (y ∷ u) e = absurd (cc e)
same_table-true (x ∷ w) [] e = absurd (cc e)
same_table-true (x ∷ w) (y ∷ u) e =
    let both = first_and (pointwise nat_eq x y) (same_table w u) e in
    let head : x ≡ y = same_text x y (sym both.0) in
    let tail : w ≡ u = same_table-true w u both.1 in
    cc

-- terms that count where two are the same
kept : {X : Type 0} (same : X → X → Bool) → ((v x : X) → same v x ≡ true → v ≡ x) → (v : X) (g : X → ℕ) (x : X) → cond (same v x) (g x) 0 ≡ one_if (same v x) * g v
kept same tells v g x = by (same v x) refl
  where
    by : (b : Bool) → same v x ≡ b → cond b (g x) 0 ≡ one_if b * g v
    by true e = ap g (sym (tells v x e)) ∙ sym (one-mul (g v))
    by false e = omega arith

pub listed : {X : Type 0} (same : X → X → Bool) → ((v x : X) → same v x ≡ true → v ≡ x) → (v : X) (g : X → ℕ) (xs : List X) → count_by (same v) xs ≡ 1 → sum_by (λ x. cond (same v x) (g x) 0) xs ≡ g v
listed same tells v g xs once =
    sum_by-same _ _ (kept same tells v g) xs
    ∙ sum_by-times (g v) (λ x. one_if (same v x)) xs
    ∙ rw once (one-mul (g v))

same_counts : (v x : List ℕ) → pointwise nat_eq v x ≡ true → v ≡ x
same_counts v x e = same_text v x (sym e)

-- each table is listed exactly once
pub listed_once : (cs r : List ℕ) (w : List (List ℕ)) → IsTable cs r w → count_by (same_table w) (tables cs r) ≡ 1
listed_once [] r [] t = refl
listed_once [] r (x ∷ w) t = absurd t
listed_once (c ∷ cs) r [] t = absurd t
listed_once (c ∷ cs) r (x ∷ w) t =
    sum_by-fronts (λ u. cond (same_table (x ∷ w) u) 1 0) (λ y. y) (λ y. tables cs (minus r y)) (choices c r)
    ∙ sum_by-same _ (λ y. cond (pointwise nat_eq x y) (count_by (same_table w) (tables cs (minus r y))) 0) (λ y.
    sum_by-same _ _ (λ u. cond-and (pointwise nat_eq x y) (same_table w u)) (tables cs (minus r y))
    ∙ sum_by-cond (pointwise nat_eq x y) (λ u. cond (same_table w u) 1 0) (tables cs (minus r y))) (choices c r)
    ∙ listed (pointwise nat_eq) same_counts x (λ y. count_by (same_table w) (tables cs (minus r y))) (choices c r) (chosen_once c r x t.0.long ∙ rw (t.0.whole, eq-eqb c c refl, t.0.fitting) refl)
    ∙ listed_once cs (minus r x) w t.1

-- each listed table is one
pub tables-each : (cs r : List ℕ) → AllByRecursion (IsTable cs r) (tables cs r)
tables-each [] r = (tt, tt)
tables-each (c ∷ cs) r =
    all_fronts (IsTable (c ∷ cs) r) (IsChoice c r) (λ x. tables cs (minus r x))
    (λ x o. all_weaker (IsTable cs (minus r x)) (λ w. IsTable (c ∷ cs) r (x ∷ w)) (λ w t. (o, t)) (tables cs (minus r x)) (tables-each cs (minus r x)))
    (choices c r) (choices-each c r)

-- the weight of a table is the number of labellings that give it
pub table_weight_is : (cs r : List ℕ) (w : List (List ℕ)) → sum cs ≡ sum r → IsTable cs r w → table_weight w ≡ labellings_giving w cs r
table_weight_is cs r w e t =
    sym (listed same_table same_table-true w table_weight (tables cs r) (listed_once cs r w t))
    ∙ sym (sum_by-same _ _ (λ u. one-times (table_weight u) (same_table w u)) (tables cs r))
    ∙ grouping cs r (λ u. one_if (same_table w u)) e
    ∙ sym (length-filter (λ xs. same_table w (columns_of (length r) cs xs)) (labellings r))
