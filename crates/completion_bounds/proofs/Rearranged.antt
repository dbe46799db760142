-- The rearrangement inequality.
use Rattle.std.proofs.Common.{◌≡◌, ℕ, zero, suc, ◌+◌, ◌≤◌, List, [], ◌∷◌, ◌++◌, length, Bool, true, false, cond, refl, ◌∙◌, ap, sym, subst, arith, length-append}
use Rattle.std.specs.Prelude.{ℤ, ◌+ℤ◌, ◌*ℤ◌, ◌≤ℤ◌}
use Rattle.std.specs.List.{sum_by, AllByRecursion}
use Rattle.std.specs.Int.Signed.{le_z}
use Rattle.std.proofs.lemmas.Int.{ints}
use Rattle.std.proofs.lemmas.List.Sums.{sum_by-append, sum_by-cons}
use Rattle.std.specs.Prelude.{reverse}
use Rattle.std.proofs.lemmas.List.{length-reverse, reverse-append}
use Rattle.std.proofs.lemmas.List.Sorted.{IsPermutation-reverse, IsPermutation-refl, sum_by-IsPermutation}
use Rattle.completion_bounds.specs.Pairings.{paired, IsLeastPairing, IsGreatestPairing}
use Rattle.completion_bounds.proofs.Products.{exchange}

-- no number is below one that stands before it
abbrev pub Ascends : List ℤ → Type 0
Ascends [] = Unit {0}
Ascends (x ∷ xs) = AllByRecursion (λ y. x ≤ℤ y) xs × Ascends xs

-- no number is above one that stands before it
abbrev pub Descends : List ℤ → Type 0
Descends [] = Unit {0}
Descends (x ∷ xs) = AllByRecursion (λ y. y ≤ℤ x) xs × Descends xs

-- what stands below y is moved past it at no gain
pub front : (x : ℤ) (xs pre : List ℤ) (y : ℤ) (post : List ℤ) → Ascends (x ∷ xs) → AllByRecursion (λ w. y ≤ℤ w) pre → length pre + length post ≤ length xs → paired (x ∷ xs) (pre ++ y ∷ post) ≤ℤ ((x *ℤ y) +ℤ paired xs (pre ++ post))
front x xs [] y post a l e = omega (arith, ints)
front x [] (p ∷ pre) y post a l e = absurd (omega (arith, e))
front x (x' ∷ xs) (p ∷ pre) y post a l e = omega (arith, ints, front x' xs pre y post a.1 l.1 (omega (arith, e)), exchange x x' y p a.0.0 l.0)

pub back : (x : ℤ) (xs pre : List ℤ) (y : ℤ) (post : List ℤ) → Ascends (x ∷ xs) → AllByRecursion (λ w. w ≤ℤ y) pre → length pre + length post ≤ length xs → ((x *ℤ y) +ℤ paired xs (pre ++ post)) ≤ℤ paired (x ∷ xs) (pre ++ y ∷ post)
back x xs [] y post a l e = omega (arith, ints)
back x [] (p ∷ pre) y post a l e = absurd (omega (arith, e))
back x (x' ∷ xs) (p ∷ pre) y post a l e = omega (arith, ints, back x' xs pre y post a.1 l.1 (omega (arith, e)), exchange x x' p y a.0.0 l.0)

-- the same numbers, each as often
abbrev pub SameSums : List ℤ → List ℤ → Type 0
SameSums ys zs = (f : ℤ → ℕ) → sum_by f zs ≡ sum_by f ys

abbrev is_it : ℤ → ℤ → ℕ
is_it y w = cond (le_z y w) (cond (le_z w y) 1 0) 0

is_it-same : (y w : ℤ) → 1 ≤ is_it y w → w ≡ y
is_it-same y w h = grind (arith, ints)

is_it-self : (y : ℤ) → is_it y y ≡ 1
is_it-self y = grind (arith, ints)

found : (y : ℤ) (zs : List ℤ) → 1 ≤ sum_by (is_it y) zs → (pre : List ℤ) × (post : List ℤ) × (zs ≡ pre ++ y ∷ post)
found y [] h = absurd (omega (arith, h))
found y (z ∷ zs) h = by (is_it y z) refl (found y zs)
  where
    by : (n : ℕ) → is_it y z ≡ n → (1 ≤ sum_by (is_it y) zs → (pre : List ℤ) × (post : List ℤ) × (zs ≡ pre ++ y ∷ post)) → (pre : List ℤ) × (post : List ℤ) × ((z ∷ zs) ≡ pre ++ y ∷ post)
    by zero e more = let r = more (omega (arith, h, e, sum_by-cons (is_it y) z zs)) in (z ∷ r.0, r.1, ap (λ ws. z ∷ ws) r.2)
    by (suc n) e more = ([], zs, ap (λ w. w ∷ zs) (is_it-same y z (omega (arith, e))))

-- a test that all pass
none_fail : (p : ℤ → Bool) (xs : List ℤ) → AllByRecursion (λ w. p w ≡ true) xs → sum_by (λ w. cond (p w) 0 1) xs ≡ 0
none_fail p [] a = refl
none_fail p (x ∷ xs) a = rw (sum_by-cons (λ w. cond (p w) 0 1) x xs, a.0) (omega (arith, none_fail p xs a.1))

passes : (b : Bool) (n : ℕ) → cond b 0 1 + n ≡ 0 → (b ≡ true) × (n ≡ 0)
passes true n h = (refl, omega (arith, h))
passes false n h = absurd (omega (arith, h))

all_pass : (p : ℤ → Bool) (xs : List ℤ) → sum_by (λ w. cond (p w) 0 1) xs ≡ 0 → AllByRecursion (λ w. p w ≡ true) xs
all_pass p [] h = tt
all_pass p (x ∷ xs) h = let both = passes (p x) (sum_by (λ w. cond (p w) 0 1) xs) (sym (sum_by-cons (λ w. cond (p w) 0 1) x xs) ∙ h) in (both.0, all_pass p xs both.1)

all_same : (p : ℤ → Bool) (xs ys : List ℤ) → SameSums xs ys → AllByRecursion (λ w. p w ≡ true) xs → AllByRecursion (λ w. p w ≡ true) ys
all_same p xs ys s a = all_pass p ys (s (λ w. cond (p w) 0 1) ∙ none_fail p xs a)

pub all_imp : {P Q : ℤ → Type 0} → ((w : ℤ) → P w → Q w) → (xs : List ℤ) → AllByRecursion P xs → AllByRecursion Q xs
all_imp f [] a = tt
all_imp f (x ∷ xs) a = (f x a.0, all_imp f xs a.1)

all_left : (P : ℤ → Type 0) (xs ys : List ℤ) → AllByRecursion P (xs ++ ys) → AllByRecursion P xs
all_left P [] ys a = tt
all_left P (x ∷ xs) ys a = (a.0, all_left P xs ys a.1)

to_test : (y w : ℤ) → y ≤ℤ w → le_z y w ≡ true
to_test y w h = grind (arith, ints)

from_test : (y w : ℤ) → le_z y w ≡ true → y ≤ℤ w
from_test y w h = grind (arith, ints)

-- the first of a list is found in a rearrangement, and the rest is rearranged too
record Split (y : ℤ) (ys zs : List ℤ) : Type 0 where
  pub pre : List ℤ
  pub post : List ℤ
  pub is : zs ≡ pre ++ y ∷ post
  pub rest : SameSums ys (pre ++ post)
  pub long : length pre + length post ≡ length ys

ones : (xs : List ℤ) → sum_by (λ w. 1) xs ≡ length xs
ones [] = refl
ones (x ∷ xs) = rw (sum_by-cons (λ w. 1) x xs, ones xs) (omega arith)

split : (y : ℤ) (ys zs : List ℤ) → SameSums (y ∷ ys) zs → Split y ys zs
split y ys zs s =
    let r = found y zs (omega (arith, s (is_it y), sum_by-cons (is_it y) y ys, is_it-self y)) in
    let rest : SameSums ys (r.0 ++ r.1) = λ f. omega (arith, s f, ap (sum_by f) r.2, sum_by-append f r.0 (y ∷ r.1), sum_by-append f r.0 r.1, sum_by-cons f y r.1, sum_by-cons f y ys) in
    record {
      pre = r.0;
      post = r.1;
      is = r.2;
      rest = rest;
      long = omega (arith, rest (λ w. 1), ones (r.0 ++ r.1), ones ys, length-append r.0 r.1);
    }

pub most : (xs ys zs : List ℤ) → Ascends xs → Ascends ys → length xs ≡ length ys → SameSums ys zs → paired xs zs ≤ℤ paired xs ys
most [] ys zs a b e s = omega (arith, ints)
most (x ∷ xs) [] zs a b e s = absurd (omega (arith, e))
most (x ∷ xs) (y ∷ ys) zs a b e s =
    let t = split y ys zs s in
    let above = all_imp (from_test y) (t.pre ++ y ∷ t.post) (all_same (le_z y) (y ∷ ys) (t.pre ++ y ∷ t.post) (λ f. sym (ap (sum_by f) t.is) ∙ s f) (to_test y y (omega (arith, ints)), all_imp (to_test y) ys b.0)) in
    let first = front x xs t.pre y t.post a (all_left (λ w. y ≤ℤ w) t.pre (y ∷ t.post) above) (omega (arith, t.long, e)) in
    let later = most xs ys (t.pre ++ t.post) a.1 b.1 (omega (arith, e)) t.rest in
    rw t.is (omega (arith, ints, first, later))

pub least : (xs ys zs : List ℤ) → Ascends xs → Descends ys → length xs ≡ length ys → SameSums ys zs → paired xs ys ≤ℤ paired xs zs
least [] ys zs a b e s = omega (arith, ints)
least (x ∷ xs) [] zs a b e s = absurd (omega (arith, e))
least (x ∷ xs) (y ∷ ys) zs a b e s =
    let t = split y ys zs s in
    let below = all_imp (λ w. from_test w y) (t.pre ++ y ∷ t.post) (all_same (λ w. le_z w y) (y ∷ ys) (t.pre ++ y ∷ t.post) (λ f. sym (ap (sum_by f) t.is) ∙ s f) (to_test y y (omega (arith, ints)), all_imp (λ w. to_test w y) ys b.0)) in
    let first = back x xs t.pre y t.post a (all_left (λ w. w ≤ℤ y) t.pre (y ∷ t.post) below) (omega (arith, t.long, e)) in
    let later = least xs ys (t.pre ++ t.post) a.1 b.1 (omega (arith, e)) t.rest in
    rw t.is (omega (arith, ints, first, later))

-- a list that ascends, turned round
pub same_sums_reverse : (xs : List ℤ) → SameSums xs (reverse xs)
same_sums_reverse xs f = sum_by-IsPermutation f xs (reverse xs) (IsPermutation-reverse xs)

pub all_push : (P : ℤ → Type 0) (xs : List ℤ) (y : ℤ) → AllByRecursion P xs → P y → AllByRecursion P (xs ++ y ∷ [])
all_push P [] y a h = (h, tt)
all_push P (w ∷ ws) y a h = (a.0, all_push P ws y a.1 h)

descends_push : (xs : List ℤ) (y : ℤ) → Descends xs → AllByRecursion (λ w. y ≤ℤ w) xs → Descends (xs ++ y ∷ [])
descends_push [] y d a = (tt, tt)
descends_push (x ∷ xs) y d a = (all_push (λ w. w ≤ℤ x) xs y d.0 a.0, descends_push xs y d.1 a.1)

pub descends_reverse : (xs : List ℤ) → Ascends xs → Descends (reverse xs)
descends_reverse [] a = tt
descends_reverse (x ∷ xs) a = subst Descends (sym (reverse-append (x ∷ []) xs)) (descends_push (reverse xs) x (descends_reverse xs a.1) (all_imp (from_test x) (reverse xs) (all_same (le_z x) xs (reverse xs) (same_sums_reverse xs) (all_imp (to_test x) xs a.0))))

-- the two pairings in order are the least and the greatest
pub is_least : (xs ys : List ℤ) → Ascends xs → Ascends ys → length xs ≡ length ys → IsLeastPairing xs ys (paired xs (reverse ys))
is_least xs ys a b e = record {
  attained = (reverse ys, IsPermutation-reverse ys, refl);
  lower = λ zs p. least xs (reverse ys) zs a (descends_reverse ys b) (omega (arith, e, length-reverse ys)) (λ f. sum_by-IsPermutation f ys zs p ∙ sym (same_sums_reverse ys f));
}

pub is_greatest : (xs ys : List ℤ) → Ascends xs → Ascends ys → length xs ≡ length ys → IsGreatestPairing xs ys (paired xs ys)
is_greatest xs ys a b e = record {
  attained = (ys, IsPermutation-refl ys, refl);
  upper = λ zs p. most xs ys zs a b e (λ f. sum_by-IsPermutation f ys zs p);
}
