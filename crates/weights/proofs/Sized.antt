-- Counts of lists put together, and counts that fit sizes.
use Rattle.std.proofs.Common.{◌≡◌, ℕ, suc, ◌+◌, ◌-◌, ◌<◌, ◌≤◌, List, [], ◌∷◌, ◌++◌, map, length, Bool, true, false, cond, ◌&&◌, refl, ◌∙◌, ap, arith, nat_eq, nat_le, eq-eqb, ne_eqb, inl, inr}
use Rattle.std.specs.List.{sum_by, sum, count_by}
use Rattle.std.specs.Cmp.Lexicographic.{pointwise}
use Rattle.std.proofs.lemmas.List.Sums.{sum_by-cons, sum_by-append, sum-map}
use Rattle.std.proofs.lemmas.List.FromFn.{length-map-range_with_len}
use Rattle.std.proofs.lemmas.Bool.Decides.{eqb_tells, leb_tells}
use Rattle.std.proofs.lemmas.Bool.{le-leb, leb-true}
use Rattle.weights.specs.Labellings.{labels, counts_of, has_counts}
use Rattle.weights.specs.Grouped.{fits, minus}
use Rattle.weights.proofs.Members.{IsOver}
use Rattle.weights.proofs.Ranges.{range-one}
use Rattle.weights.proofs.Sums.{sum_by-one, sum_by-same_where, sum_by-swap}

abbrev pub plus : List ℕ → List ℕ → List ℕ
plus [] y = []
plus (a ∷ x) [] = []
plus (a ∷ x) (b ∷ y) = (a + b) ∷ plus x y

plus-maps : (f g h : ℕ → ℕ) → ((i : ℕ) → f i ≡ g i + h i) → (is : List ℕ) → map f is ≡ plus (map g is) (map h is)
plus-maps f g h e [] = refl
plus-maps f g h e (i ∷ is) = rw (e i, plus-maps f g h e is) refl

pub counts_of-append : (k : ℕ) (ys zs : List ℕ) → counts_of k (ys ++ zs) ≡ plus (counts_of k ys) (counts_of k zs)
counts_of-append k ys zs = plus-maps _ _ _ (λ i. sum_by-append (λ l. cond (nat_eq l i) 1 0) ys zs) (labels k)

pub length-counts_of : (k : ℕ) (xs : List ℕ) → length (counts_of k xs) ≡ k
length-counts_of k xs = length-map-range_with_len (λ i. count_by (λ l. nat_eq l i) xs) 0 k

-- the counts of labels below k sum to the length
pub sum-counts_of : (n k : ℕ) (xs : List ℕ) → IsOver n k xs → sum (counts_of k xs) ≡ n
sum-counts_of n k xs o =
    sum-map (λ i. count_by (λ l. nat_eq l i) xs) (labels k)
    ∙ sum_by-swap (λ i l. cond (nat_eq l i) 1 0) (labels k) xs
    ∙ sum_by-same_where (λ l. l < k) (λ l. sum_by (λ i. cond (nat_eq l i) 1 0) (labels k)) (λ l. 1) (λ l h. range-one (λ i. 1) l 0 k (omega arith) (omega arith)) xs o.below
    ∙ sum_by-one xs
    ∙ o.long

-- what remains of the sizes

pub length-minus : (r x : List ℕ) → length (minus r x) ≡ length r
length-minus [] x = refl
length-minus (r ∷ rs) [] = refl
length-minus (r ∷ rs) (a ∷ x) = ap suc (length-minus rs x)

pub first_and : (a b : Bool) → (a && b) ≡ true → (a ≡ true) × (b ≡ true)
first_and true b e = (refl, e)
first_and false b e = absurd (cc e)

pub sum-minus : (r x : List ℕ) → fits x r ≡ true → sum x + sum (minus r x) ≡ sum r
sum-minus [] [] f = refl
sum-minus [] (a ∷ x) f = absurd (cc f)
sum-minus (r ∷ rs) [] f = absurd (cc f)
sum-minus (r ∷ rs) (a ∷ x) f =
    let both = first_and (nat_le a r) (fits x rs) f in
    let within : a ≤ r = leb-true a r both.0 in
    rw (sum_by-cons (λ v. v) a x, sum_by-cons (λ v. v) r rs, sum_by-cons (λ v. v) (r - a) (minus rs x)) (omega (arith, sum-minus rs x both.1))

-- a part and the rest are the sizes exactly where the part fits and the rest is what remains
one_size : (a b r : ℕ) → nat_eq (a + b) r ≡ (nat_le a r && nat_eq b (r - a))
one_size a b r = elim (leb_tells a r) [
  | inl l ↦ rw (l.0) (elim (eqb_tells (a + b) r) [
    | inl e ↦ rw (e.0, eq-eqb b (r - a) (omega (arith, l.1, e.1))) refl
    | inr e ↦ rw (e.0, ne_eqb b (r - a) (λ s. e.1 (omega (arith, l.1, s)))) refl
  ])
  | inr l ↦ rw (l.0, ne_eqb (a + b) r (λ s. omega (arith, l.1, s))) refl
]

four : (a b c d : Bool) → ((a && b) && (c && d)) ≡ ((a && c) && (b && d))
four true true c d = refl
four true false true d = refl
four true false false d = refl
four false b c d = refl

pub same-plus : (r x z : List ℕ) → length x ≡ length r → length z ≡ length r → pointwise nat_eq (plus x z) r ≡ (fits x r && pointwise nat_eq z (minus r x))
same-plus [] [] [] p q = refl
same-plus [] [] (b ∷ z) p q = absurd (omega arith)
same-plus [] (a ∷ x) z p q = absurd (omega arith)
same-plus (r ∷ rs) [] z p q = absurd (omega arith)
same-plus (r ∷ rs) (a ∷ x) [] p q = absurd (omega arith)
same-plus (r ∷ rs) (a ∷ x) (b ∷ z) p q = rw (one_size a b r, same-plus rs x z (omega arith) (omega arith)) (four (nat_le a r) (nat_eq b (r - a)) (fits x rs) (pointwise nat_eq z (minus rs x)))

-- a list in two parts has the sizes exactly where the first part's counts fit and the second has what remains
pub has_counts-append : (r ys zs : List ℕ) → has_counts r (ys ++ zs) ≡ (fits (counts_of (length r) ys) r && has_counts (minus r (counts_of (length r) ys)) zs)
has_counts-append r ys zs =
    ap (λ x. pointwise nat_eq x r) (counts_of-append (length r) ys zs)
    ∙ same-plus r (counts_of (length r) ys) (counts_of (length r) zs) (length-counts_of (length r) ys) (length-counts_of (length r) zs)
    ∙ rw (length-minus r (counts_of (length r) ys)) refl

pub plus-left : (x z r : List ℕ) → plus x z ≡ r → length x ≡ length z → (fits x r ≡ true) × (minus r x ≡ z)
plus-left [] [] r e l = rw (← e) (refl, refl)
plus-left [] (b ∷ z) r e l = absurd (omega (arith, l))
plus-left (a ∷ x) [] r e l = absurd (omega (arith, l))
plus-left (a ∷ x) (b ∷ z) r e l =
    let rest = plus-left x z (plus x z) refl (omega (arith, l)) in
    let back : a + b - a ≡ b = omega arith in
    rw (← e, le-leb a (a + b) (omega arith), rest.0, back, rest.1) (refl, refl)
