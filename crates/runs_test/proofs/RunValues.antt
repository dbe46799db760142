-- The number of runs, label by label, and what the measure makes of a labelling.
use Rattle.std.proofs.Common.{◌≡◌, ℕ, zero, suc, ◌+◌, ◌<◌, ◌≤◌, Bool, true, false, cond, List, [], ◌∷◌, length, drop, drop_of_length-le, refl, sym, ◌∙◌, ap, arith, nat_eq}
use Rattle.std.specs.Prelude.{ℤ, pos, ◌+ℤ◌, replicate}
use Rattle.std.specs.List.{AllByRecursion}
use Rattle.std.proofs.lemmas.Int.{ints}
use Rattle.weights.specs.Grouped.{columns_of, minus}
use Rattle.weights.specs.Labellings.{counts_of}
use Rattle.networks.specs.declared.verdicts.Judge.{Judge}
use Rattle.label_network.proofs.Endings.{labelling_value, partial_after}
use Rattle.label_network.specs.Meanings.{Meaning}
use Rattle.runs_test.specs.RunNetwork.{begins_run, chosen_label, runs_meaning, runs_so_far}
use Rattle.runs_test.proofs.RunNarrows.{begins-few}
use Rattle.runs_test.specs.Runs.{blocks, put_before, runs}

-- the runs that labels begin after a label
abbrev pub runs_after : ℕ → List ℕ → ℕ
runs_after last [] = 0
runs_after last (x ∷ xs) = begins_run last x + runs_after x xs

-- ---- blocks

put-first : (x : ℕ) (bs : List (List ℕ)) → (ys : List ℕ) × (cs : List (List ℕ)) × (put_before x bs ≡ (x ∷ ys) ∷ cs)
put-first x [] = ([], [], refl)
put-first x ([] ∷ bs) = ([], [] ∷ bs, refl)
put-first x ((y ∷ ys) ∷ bs) = by (nat_eq x y)
  where
    by : (b : Bool) → (zs : List ℕ) × (cs : List (List ℕ)) × (cond b ((x ∷ y ∷ ys) ∷ bs) ((x ∷ []) ∷ (y ∷ ys) ∷ bs) ≡ (x ∷ zs) ∷ cs)
    by true = (y ∷ ys, bs, refl)
    by false = ([], (y ∷ ys) ∷ bs, refl)

put-count : (w x : ℕ) (ys : List ℕ) (bs : List (List ℕ)) → length (put_before w ((x ∷ ys) ∷ bs)) ≡ begins_run w x + suc (length bs)
put-count w x ys bs = by (nat_eq w x)
  where
    by : (b : Bool) → length (cond b ((w ∷ x ∷ ys) ∷ bs) ((w ∷ []) ∷ (x ∷ ys) ∷ bs)) ≡ cond b 0 1 + suc (length bs)
    by true = omega arith
    by false = omega arith

put-few : (x : ℕ) (bs : List (List ℕ)) → length (put_before x bs) ≤ suc (length bs)
put-few x [] = omega arith
put-few x ([] ∷ bs) = omega arith
put-few x ((y ∷ ys) ∷ bs) = omega (arith, put-count x y ys bs, begins-few x y)

-- there are no more runs than rows
pub runs-few : (xs : List ℕ) → runs xs ≤ length xs
runs-few [] = omega arith
runs-few (x ∷ xs) = omega (arith, put-few x (blocks xs), runs-few xs)

-- the first label begins a run, and then each that differs from the one before
runs-from : (x : ℕ) (xs : List ℕ) → length (put_before x (blocks xs)) ≡ 1 + runs_after x xs
runs-from x [] = omega arith
runs-from x (y ∷ ys) = (
    let f = put-first y (blocks ys) in
    omega (arith, ap (λ bs. length (put_before x bs)) f.2, put-count x y f.0 f.1, ap length f.2, runs-from y ys)
    )

first-begins : (x : ℕ) → x < 2 → begins_run 2 x ≡ 1
first-begins zero h = refl
first-begins (suc zero) h = refl
first-begins (suc (suc n)) h = absurd (omega (arith, h))

pub runs-are : (xs : List ℕ) → AllByRecursion (λ x. x < 2) xs → runs_after 2 xs ≡ runs xs
runs-are [] a = refl
runs-are (x ∷ xs) a = omega (arith, first-begins x a.0, runs-from x xs)

-- ---- the measure

-- the count of one row for the second label is its label
label-of : (x : ℕ) → x < 2 → chosen_label (counts_of 2 (x ∷ [])) ≡ x
label-of zero h = refl
label-of (suc zero) h = refl
label-of (suc (suc n)) h = absurd (omega (arith, h))

module _ (a b : ℕ) (judge : Judge) where
  abbrev m : Meaning
  m = runs_meaning a b judge

  value-from : (xs : List ℕ) (g : ℕ) (r : List ℕ) (last : ℕ) (s : ℤ) → AllByRecursion (λ x. x < 2) xs
      → runs_so_far (partial_after m g r (pos last ∷ s ∷ []) (columns_of 2 (replicate (length xs) 1) xs)) ≡ s +ℤ pos (runs_after last xs)
  value-from [] g r last s e = omega (arith, ints)
  value-from (x ∷ xs) g r last s e =
      ap (λ l. runs_so_far (partial_after m (g + 1) (minus r (counts_of 2 (x ∷ []))) (pos l ∷ (s +ℤ pos (begins_run last l)) ∷ []) (columns_of 2 (replicate (length xs) 1) xs))) (label-of x e.0)
      ∙ value-from xs (g + 1) (minus r (counts_of 2 (x ∷ []))) x (s +ℤ pos (begins_run last x)) e.1
      ∙ omega (arith, ints)

  -- its value is the number of runs
  pub value-is : (xs : List ℕ) → length xs ≡ a + b → AllByRecursion (λ x. x < 2) xs → pos (runs xs) ≡ labelling_value m xs
  value-is xs e below =
      sym (ap (λ n. runs_so_far (partial_after m 0 (a ∷ b ∷ []) (pos 2 ∷ pos 0 ∷ []) (columns_of 2 (replicate n 1) xs))) (sym e)
      ∙ value-from xs 0 (a ∷ b ∷ []) 2 (pos 0) below
      ∙ omega (arith, ints, runs-are xs below))

-- past the last label none begins
pub none-to-come : (n last i : ℕ) (xs : List ℕ) → length xs ≤ i → n ≡ n + runs_after last (drop i xs)
none-to-come n last i xs h = rw (drop_of_length-le xs {i = i} h) (omega arith)
