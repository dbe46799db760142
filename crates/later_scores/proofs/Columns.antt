-- One subject of a column after another, and all of them.
use Rattle.std.proofs.Common.{◌≡◌, ℕ, zero, suc, ◌+◌, ◌-◌, ◌*◌, ◌<◌, ◌≤◌, ◌^◌, ◌⊎◌, inl, inr, List, ◌∷◌, ◌++◌, length, Bool, true, false, cond, refl, sym, ◌∙◌, ap, subst, arith, add-one, length-append, lt-ltb}
use Rattle.std.specs.Prelude.{ℤ, pos, ◌+ℤ◌, ◌*ℤ◌, unsigned_abs, replicate, min, nat_lt}
use Rattle.std.proofs.lemmas.Bool.{cases_lt}
use Rattle.std.proofs.lemmas.Int.{ints, clamps}
use Rattle.std.proofs.lemmas.List.{length-replicate}
use Rattle.std.proofs.Math.Nat.{mul-le-mul, le_refl}
use Rattle.weights.specs.declared.TheConstants.{MAX}
use Rattle.later_scores.specs.declared.ends.End.{End}
use Rattle.later_scores.specs.declared.ends.End.TheVariants.{Least, Greatest}
use Rattle.later_scores.specs.LaterSums.{total_score, part_sum}
use Rattle.weights.specs.Numbers.{absolute_sum}
use Rattle.later_scores.specs.LaterSteps.{IsRow, better_of}
use Rattle.later_scores.proofs.Absolute.{total-size, sizes-block}
use Rattle.later_scores.proofs.LaterArcs.{total-block}

-- a sum of j scores is the same with one more of j equal ones
again : (e : End) (b : Bool) (a d : ℤ) → better_of e a (cond b (better_of e a d) a) ≡ cond b (better_of e a d) a
again Least true a d = omega (arith, ints, clamps)
again Least false a d = omega (arith, ints, clamps)
again Greatest true a d = omega (arith, ints, clamps)
again Greatest false a d = omega (arith, ints, clamps)

one-copy : (e : End) (j c : ℕ) (x : ℤ) (xs : List ℤ) → j ≤ c → part_sum (better_of e) j (replicate (suc c) x ++ xs) ≡ part_sum (better_of e) j (replicate c x ++ xs)
one-copy e zero c x xs h = refl
one-copy e (suc j) zero x xs h = absurd (omega (arith, h))
one-copy e (suc j) (suc c) x xs h =
    let rest = one-copy e j c x xs (omega (arith, h)) in
    let long : length (replicate (suc c) x ++ xs) ≡ suc c + length xs = omega (arith, length-append (replicate (suc c) x) xs, length-replicate (suc c) x) in
    rw (lt-ltb j (length (replicate (suc c) x ++ xs)) (omega (arith, h, long)), rest) (again e (nat_lt j (length (replicate c x ++ xs))) (x +ℤ part_sum (better_of e) j (replicate c x ++ xs)) (part_sum (better_of e) (suc j) (replicate c x ++ xs)))

copies-tell : (e : End) (j n count : ℕ) (x : ℤ) (xs : List ℤ) → j ≤ n → n ≤ count → part_sum (better_of e) j (replicate count x ++ xs) ≡ part_sum (better_of e) j (replicate n x ++ xs)
copies-tell e j n count x xs h k =
    let more : count ≡ (count - n) + n = omega (arith, k) in
    ap (λ c. part_sum (better_of e) j (replicate c x ++ xs)) more ∙ go (count - n)
  where
    go : (d : ℕ) → part_sum (better_of e) j (replicate (d + n) x ++ xs) ≡ part_sum (better_of e) j (replicate n x ++ xs)
    go zero = ap (λ k. part_sum (better_of e) j (replicate k x ++ xs)) (none n)
      where
        none : (n : ℕ) → 0 + n ≡ n
        none n = omega arith
    go (suc d) = ap (λ k. part_sum (better_of e) j (replicate k x ++ xs)) (one d n) ∙ one-copy e j (d + n) x xs (omega (arith, h)) ∙ go d
      where
        one : (d n : ℕ) → suc d + n ≡ suc (d + n)
        one d n = omega arith

module _ (x : ℤ) (xs : List ℤ) where
  placed-count : (i n : ℕ) → n ≡ length xs → (n + i) - length xs ≡ i
  placed-count i n e = omega (arith, e)

  long : (i : ℕ) → length (replicate i x ++ xs) ≡ i + length xs
  long i = omega (arith, length-append (replicate i x) xs, length-replicate i x)

  room : (i count : ℕ) → i < count → absolute_sum (replicate count x ++ xs) < 2 ^ 127 → unsigned_abs x + absolute_sum (replicate i x ++ xs) < 2 ^ 127
  room i count h small =
      let three : (i + 1) * unsigned_abs x ≤ count * unsigned_abs x = mul-le-mul (omega (arith, h)) (le_refl (unsigned_abs x)) in
      omega (arith, small, (sizes-block i x xs), (sizes-block count x xs), three, (more i (unsigned_abs x)))
    where
      more : (i n : ℕ) → (i + 1) * n ≡ i * n + n
      more i n = omega arith

  pub row-ready : (better : ℤ → ℤ → ℤ) (low : List ℤ) (i n count : ℕ) → n ≡ length xs → i < count → absolute_sum (replicate count x ++ xs) < 2 ^ 127 → IsRow better (replicate i x ++ xs) low → (n + i ≡ length (replicate ((n + i) - length xs) x ++ xs)) × (IsRow better (replicate ((n + i) - length xs) x ++ xs) low × (unsigned_abs x + absolute_sum (replicate ((n + i) - length xs) x ++ xs) < 2 ^ 127))
  row-ready better low i n count e h small r = rw (placed-count i n e) (omega (arith, e, long i), (r, room i count h small))

  -- a further unit, or enough of them
  pub units-more : (better : ℤ → ℤ → ℤ) (i n : ℕ) (row : List ℤ) → n ≡ length xs → IsRow better (x ∷ (replicate ((n + i) - length xs) x ++ xs)) row → IsRow better (replicate (i + 1) x ++ xs) row
  units-more better i n row e r = rw add-one (subst (λ k. IsRow better (x ∷ (replicate k x ++ xs)) row) (placed-count i n e) r)

  pub units-enough : (e : End) (n count : ℕ) (row : List ℤ) → n ≡ min count (length row) → IsRow (better_of e) (replicate n x ++ xs) row → IsRow (better_of e) (replicate count x ++ xs) row
  units-enough e n count row f r = record { each = λ j h. r.each j h ∙ place j h (cases_lt n count) }
    where
      place : (j : ℕ) → j < length row → (n < count) ⊎ (count ≤ n) → part_sum (better_of e) j (replicate n x ++ xs) ≡ part_sum (better_of e) j (replicate count x ++ xs)
      place j h (inl few) = sym (copies-tell e j n count x xs (omega (arith, f, h, few)) (omega (arith, few)))
      place j h (inr all) = ap (λ k. part_sum (better_of e) j (replicate k x ++ xs)) (omega (arith, f, all))

  pub total-more : (count : ℕ) (t s : ℤ) → t ≡ total_score xs → s ≡ t +ℤ (pos count *ℤ x) → s ≡ total_score (replicate count x ++ xs)
  total-more count t s e f =
      omega (arith, ints, e, f, (total-block count x xs))

  pub total-fits : (count : ℕ) (t : ℤ) → t ≡ total_score xs → absolute_sum (replicate count x ++ xs) < 2 ^ 127 → unsigned_abs t + count * unsigned_abs x ≤ MAX
  total-fits count t e small = rw e (omega (arith, small, total-size xs, sizes-block count x xs))
