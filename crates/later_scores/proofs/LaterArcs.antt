-- What taking some of the next scores does to the least and the greatest sum.
use Rattle.std.proofs.Common.{◌≡◌, ℕ, zero, suc, ◌+◌, ◌-◌, ◌≤◌, List, [], ◌∷◌, ◌++◌, length, Bool, true, false, cond, refl, ◌∙◌, ap, arith, length-append, lt-ltb, le-ltb}
use Rattle.std.specs.Prelude.{ℤ, pos, ◌+ℤ◌, ◌*ℤ◌, ◌≤ℤ◌, replicate, nat_lt}
use Rattle.std.specs.Int.{int_min, int_max}
use Rattle.std.proofs.Math.IntN.{zero-*ℤ, suc_ℤ-*ℤ}
use Rattle.std.proofs.lemmas.Int.{ints, clamps}
use Rattle.later_scores.specs.LaterSums.{total_score, part_sum, least_sum, greatest_sum}
use Rattle.later_scores.specs.LaterSteps.{better_of}
use Rattle.later_scores.specs.declared.ends.End.{End}
use Rattle.later_scores.specs.declared.ends.End.TheVariants.{Least, Greatest}
use Rattle.completion_bounds.proofs.Products.{suc-out}

-- no farther from an end
abbrev pub Nearer : End → ℤ → ℤ → Type 0
Nearer Least a b = a ≤ℤ b
Nearer Greatest a b = b ≤ℤ a

pub near-same : (e : End) (a : ℤ) → Nearer e a a
near-same Least a = omega (arith, ints)
near-same Greatest a = omega (arith, ints)

near-left : (e : End) (a b : ℤ) → Nearer e (better_of e a b) a
near-left Least a b = omega (arith, ints, clamps)
near-left Greatest a b = omega (arith, ints, clamps)

near-right : (e : End) (a b : ℤ) → Nearer e (better_of e a b) b
near-right Least a b = omega (arith, ints, clamps)
near-right Greatest a b = omega (arith, ints, clamps)

near-none : (e : End) (a : ℤ) → Nearer e a (pos 0 +ℤ a)
near-none Least a = omega (arith, ints)
near-none Greatest a = omega (arith, ints)

near-chain : (e : End) (a b c : ℤ) → Nearer e a b → Nearer e b c → Nearer e a c
near-chain Least a b c h k = omega (arith, ints, h, k)
near-chain Greatest a b c h k = omega (arith, ints, h, k)

near-plus : (e : End) (a b p q v : ℤ) → Nearer e a (v +ℤ b) → Nearer e b (p +ℤ q) → Nearer e a ((p +ℤ v) +ℤ q)
near-plus Least a b p q v h k = omega (arith, ints, h, k)
near-plus Greatest a b p q v h k = omega (arith, ints, h, k)

-- one score taken, or passed over
taken : (e : End) (j : ℕ) (x : ℤ) (xs : List ℤ) → Nearer e (part_sum (better_of e) (suc j) (x ∷ xs)) (x +ℤ part_sum (better_of e) j xs)
taken e j x xs = by (nat_lt j (length xs))
  where
    by : (b : Bool) → Nearer e (cond b (better_of e (x +ℤ part_sum (better_of e) j xs) (part_sum (better_of e) (suc j) xs)) (x +ℤ part_sum (better_of e) j xs)) (x +ℤ part_sum (better_of e) j xs)
    by true = near-left e (x +ℤ part_sum (better_of e) j xs) (part_sum (better_of e) (suc j) xs)
    by false = near-same e (x +ℤ part_sum (better_of e) j xs)

passed : (e : End) (j : ℕ) (x : ℤ) (xs : List ℤ) → j ≤ length xs → Nearer e (part_sum (better_of e) j (x ∷ xs)) (part_sum (better_of e) j xs)
passed e zero x xs h = near-same e (pos 0)
passed e (suc j) x xs h = rw (lt-ltb j (length xs) (omega (arith, h))) (near-right e (x +ℤ part_sum (better_of e) j xs) (part_sum (better_of e) (suc j) xs))

none-times : (v : ℤ) → pos 0 *ℤ v ≡ pos 0
none-times v = zero-*ℤ v

pub more-times : (k : ℕ) (v : ℤ) → pos (suc k) *ℤ v ≡ (pos k *ℤ v) +ℤ v
more-times k v = ap (λ a. a *ℤ v) (suc-out k) ∙ suc_ℤ-*ℤ (pos k) v

-- k of c equal scores taken
pub part-arc : (e : End) (c k j : ℕ) (v : ℤ) (xs : List ℤ) → k ≤ c → k ≤ j → j - k ≤ length xs → Nearer e (part_sum (better_of e) j (replicate c v ++ xs)) ((pos k *ℤ v) +ℤ part_sum (better_of e) (j - k) xs)
part-arc e zero zero j v xs h i l = let same : j - 0 ≡ j = omega arith in rw (same, none-times v) (near-none e (part_sum (better_of e) j xs))
part-arc e zero (suc k) j v xs h i l = absurd (omega (arith, h))
part-arc e (suc c) zero j v xs h i l =
    let rest = part-arc e c zero j v xs (omega arith) (omega arith) l in
    near-chain e _ _ _ (passed e j v (replicate c v ++ xs) (omega (arith, l, (length-append (replicate c v) xs)))) rest
part-arc e (suc c) (suc k) zero v xs h i l = absurd (omega (arith, i))
part-arc e (suc c) (suc k) (suc j) v xs h i l =
    let less : suc j - suc k ≡ j - k = omega arith in
    let rest = part-arc e c k j v xs (omega (arith, h)) (omega (arith, i)) (omega (arith, l)) in
    rw (less, more-times k v) (near-plus e _ _ _ _ v (taken e j v (replicate c v ++ xs)) rest)

-- all of the scores
all-taken : (better : ℤ → ℤ → ℤ) (j : ℕ) (xs : List ℤ) → length xs ≤ j → part_sum better j xs ≡ total_score xs
all-taken better zero [] h = refl
all-taken better zero (x ∷ xs) h = absurd (omega (arith, h))
all-taken better (suc j) [] h = refl
all-taken better (suc j) (x ∷ xs) h = rw (le-ltb j (length xs) (omega (arith, h))) (ap (λ s. x +ℤ s) (all-taken better j xs (omega (arith, h))))

-- the least are all but the others' greatest
pub complement : (n j i : ℕ) (xs : List ℤ) → length xs ≡ n → j + i ≡ n → least_sum j xs +ℤ greatest_sum i xs ≡ total_score xs
complement n zero i xs e s = ap (λ t. pos 0 +ℤ t) (all-taken int_max i xs (omega (arith, e, s))) ∙ plain (total_score xs)
  where
    plain : (t : ℤ) → pos 0 +ℤ t ≡ t
    plain t = omega (arith, ints)
complement n (suc j) zero xs e s = ap (λ t. t +ℤ pos 0) (all-taken int_min (suc j) xs (omega (arith, e, s))) ∙ plain (total_score xs)
  where
    plain : (t : ℤ) → t +ℤ pos 0 ≡ t
    plain t = omega (arith, ints)
complement n (suc j) (suc i) [] e s = absurd (omega (arith, e, s))
complement zero (suc j) (suc i) (x ∷ xs) e s = absurd (omega (arith, s))
complement (suc n) (suc j) (suc i) (x ∷ xs) e s =
    let one = complement n j (suc i) xs (omega (arith, e)) (omega (arith, s)) in
    let two = complement n (suc j) i xs (omega (arith, e)) (omega (arith, s)) in
    rw (lt-ltb j (length xs) (omega (arith, e, s)), lt-ltb i (length xs) (omega (arith, e, s)))
    (both x (least_sum j xs) (least_sum (suc j) xs) (greatest_sum i xs) (greatest_sum (suc i) xs) (total_score xs) one two)
  where
    both : (x a b c d t : ℤ) → a +ℤ d ≡ t → b +ℤ c ≡ t → int_min (x +ℤ a) b +ℤ int_max (x +ℤ c) d ≡ x +ℤ t
    both x a b c d t p q = omega (arith, ints, clamps, p, q)

pub total-block : (c : ℕ) (v : ℤ) (later : List ℤ) → total_score (replicate c v ++ later) ≡ (pos c *ℤ v) +ℤ total_score later
total-block zero v later = rw (zero-*ℤ v) (plain (total_score later))
  where
    plain : (t : ℤ) → t ≡ pos 0 +ℤ t
    plain t = omega (arith, ints)
total-block (suc c) v later = rw (more-times c v) (ap (λ t. v +ℤ t) (total-block c v later) ∙ grouped v (pos c *ℤ v) (total_score later))
  where
    grouped : (a b t : ℤ) → a +ℤ (b +ℤ t) ≡ (b +ℤ a) +ℤ t
    grouped a b t = omega (arith, ints)

-- nothing is added where no scores are left
pub part-none : (better : ℤ → ℤ → ℤ) (j : ℕ) → part_sum better j [] ≡ pos 0
part-none better zero = refl
part-none better (suc j) = refl
