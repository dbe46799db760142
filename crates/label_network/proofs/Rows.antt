-- Loops over the rows of a key.
use Rattle.std.proofs.Common.{◌≡◌, ℕ, zero, suc, ◌+◌, ◌-◌, ◌<◌, ◌≤◌, List, [], ◌∷◌, ◌++◌, map, take, drop, length, get_or, set, true, min, refl, sym, ◌∙◌, ap, arith, add-one, max, nat_le, ◌⊎◌, inl, inr}
use Rattle.std.specs.Prelude.{ℤ, pos, nat_abs, slice_index}
use Rattle.std.specs.List.{sum}
use Rattle.std.proofs.lemmas.List.Sums.{sum_by-drop_more, sum_by-take-drop}
use Rattle.std.proofs.lemmas.Bool.{cases_lt, leb-true}
use Rattle.networks.proofs.Totals.{any_default}
use Rattle.weights.specs.Grouped.{fits, minus}
use Rattle.weights.proofs.Sized.{first_and}

-- one place more is written
pub write-more : {X : Type 0} (xs : List X) (i : ℕ) (x : X) → i < length xs → take (i + 1) (set xs i x) ≡ take i xs ++ x ∷ []
write-more {X = X} xs i x h = rw add-one (by xs i h)
  where
    by : (xs : List X) (i : ℕ) → i < length xs → take (suc i) (set xs i x) ≡ take i xs ++ x ∷ []
    by [] i h = absurd (omega (arith, h))
    by (y ∷ ys) zero h = refl
    by (y ∷ ys) (suc i) h = ap (λ zs. y ∷ zs) (by ys i (omega (arith, h)))

pub front-more : {X : Type 0} (xs : List X) (i : ℕ) (d : X) → i < length xs → take (i + 1) xs ≡ take i xs ++ get_or xs i d ∷ []
front-more {X = X} xs i d h = rw add-one (by xs i h)
  where
    by : (xs : List X) (i : ℕ) → i < length xs → take (suc i) xs ≡ take i xs ++ get_or xs i d ∷ []
    by [] i h = absurd (omega (arith, h))
    by (y ∷ ys) zero h = refl
    by (y ∷ ys) (suc i) h = ap (λ zs. y ∷ zs) (by ys i (omega (arith, h)))

pub abs-at : (zs : List ℤ) (i : ℕ) → i < length zs → get_or (map nat_abs zs) i 0 ≡ nat_abs (get_or zs i (pos 0))
abs-at [] i h = absurd (omega (arith, h))
abs-at (z ∷ zs) zero h = refl
abs-at (z ∷ zs) (suc i) h = abs-at zs i (omega (arith, h))

pub pos-at : (xs : List ℕ) (i : ℕ) → i < length xs → get_or (map pos xs) i (pos 0) ≡ pos (get_or xs i 0)
pos-at [] i h = absurd (omega (arith, h))
pos-at (x ∷ xs) zero h = refl
pos-at (x ∷ xs) (suc i) h = pos-at xs i (omega (arith, h))

pub minus-at : (r x : List ℕ) (i : ℕ) → i < length r → length x ≡ length r → get_or (minus r x) i 0 ≡ get_or r i 0 - get_or x i 0
minus-at [] x i h l = absurd (omega (arith, h))
minus-at (r ∷ rs) [] i h l = absurd (omega (arith, l))
minus-at (r ∷ rs) (a ∷ x) zero h l = refl
minus-at (r ∷ rs) (a ∷ x) (suc i) h l = minus-at rs x i (omega (arith, h)) (omega (arith, l))

pub length-abs : (zs : List ℤ) → length (map nat_abs zs) ≡ length zs
length-abs [] = refl
length-abs (z ∷ zs) = ap suc (length-abs zs)

pub length-pos : (xs : List ℕ) → length (map pos xs) ≡ length xs
length-pos [] = refl
length-pos (x ∷ xs) = ap suc (length-pos xs)

pub fits-long : (x r : List ℕ) → fits x r ≡ true → length x ≡ length r
fits-long [] [] f = refl
fits-long [] (b ∷ s) f = absurd (cc f)
fits-long (a ∷ r) [] f = absurd (cc f)
fits-long (a ∷ r) (b ∷ s) f = ap suc (fits-long r s (first_and (nat_le a b) (fits r s) f).1)

-- of a written list whose front is a list's, one place more
pub grown : {X : Type 0} (xs goal : List X) (i : ℕ) (x d : X) → i < length xs → i < length goal → take i xs ≡ take i goal → x ≡ get_or goal i d → take (i + 1) (set xs i x) ≡ take (i + 1) goal
grown xs goal i x d h l e f = write-more xs i x h ∙ ap (λ ys. ys ++ x ∷ []) e ∙ ap (λ y. take i goal ++ y ∷ []) f ∙ sym (front-more goal i d l)

pub all-of : {X : Type 0} (xs : List X) (i : ℕ) → length xs ≤ i → take i xs ≡ xs
all-of [] zero h = refl
all-of [] (suc i) h = refl
all-of (x ∷ xs) zero h = absurd (omega (arith, h))
all-of (x ∷ xs) (suc i) h = ap (λ ys. x ∷ ys) (all-of xs i (omega (arith, h)))

-- a width that is enough from row i on
pub record IsWidth (rows : List ℕ) (i later width : ℕ) : Type 0 where
  pub within : i ≤ length rows
  pub some : 1 ≤ width
  pub few : width ≤ sum rows + 1
  pub rest : later ≡ sum (drop i rows)
  pub each : (j : ℕ) → i ≤ j → j < length rows → width ≤ get_or rows j 0 → sum (drop (j + 1) rows) < width

pub width-first : (rows : List ℕ) → IsWidth rows (length rows) 0 1
width-first rows = record {
  within = omega arith;
  some = omega arith;
  few = omega arith;
  rest = ap sum (sym (none rows));
  each = λ j h l w. absurd (omega (arith, h, l));
}
  where
    none : (xs : List ℕ) → drop (length xs) xs ≡ []
    none [] = refl
    none (x ∷ xs) = none xs

pub width-next : (rows : List ℕ) (i later width : ℕ) → 0 < i → IsWidth rows i later width → (size wide : ℕ) → size ≡ get_or rows (i - 1) 0 → wide ≡ max width (min size later + 1) → IsWidth rows (i - 1) (later + size) wide
width-next rows zero later width h w size wide e f = absurd (omega (arith, h))
width-next rows (suc i) later width h w size wide e f =
    let back : suc i - 1 ≡ i = omega arith in
    let before : i < length rows = omega (arith, w.within) in
    let more : sum (drop i rows) ≡ get_or rows i 0 + sum (drop (i + 1) rows) = sum_by-drop_more (λ v. v) rows i 0 before in
    let rest : later ≡ sum (drop (i + 1) rows) = rw add-one w.rest in
    let here : size ≡ get_or rows i 0 = rw back at e in
    rw back (record {
      within = omega (arith, before);
      some = omega (arith, w.some, f);
      few = omega (arith, w.few, f, rest, more, (sum_by-take-drop (λ v. v) rows i));
      rest = omega (arith, rest, here, more);
      each = λ j g l v. by j g l v (cases_lt i j);
    })
  where
    by : (j : ℕ) → i ≤ j → j < length rows → wide ≤ get_or rows j 0 → (i < j) ⊎ (j ≤ i) → sum (drop (j + 1) rows) < wide
    by j g l v (inl after) = omega (arith, w.each j (omega (arith, after)) l (omega (arith, v, f)), f)
    by j g l v (inr here) =
        let same : j ≡ i = omega (arith, g, here) in
        let back : suc i - 1 ≡ i = omega arith in
        let at : size ≡ get_or rows i 0 = rw back at e in
        let big : wide ≤ get_or rows i 0 = rw same at v in
        let rest : later ≡ sum (drop (i + 1) rows) = rw add-one w.rest in
        rw same (omega (arith, big, at, f, rest))

pub width-room : (rows : List ℕ) (i later width : ℕ) → 0 < i → IsWidth rows i later width → later + get_or rows (i - 1) 0 ≤ sum rows
width-room rows zero later width h w = absurd (omega (arith, h))
width-room rows (suc i) later width h w =
    let back : suc i - 1 ≡ i = omega arith in
    let before : i < length rows = omega (arith, w.within) in
    let rest : later ≡ sum (drop (i + 1) rows) = rw add-one w.rest in
    rw back (omega (arith, rest, (sum_by-drop_more (λ v. v) rows i 0 before), sum_by-take-drop (λ v. v) rows i))

-- a list that was written to its end
pub written : {X : Type 0} (xs goal : List X) (i : ℕ) → length xs ≡ i → length goal ≡ i → take i xs ≡ take i goal → xs ≡ goal
written xs goal i h l e = sym (all-of xs i (omega (arith, h))) ∙ e ∙ all-of goal i (omega (arith, l))

pub get-within : (r x : List ℕ) (i : ℕ) → fits x r ≡ true → get_or x i 0 ≤ get_or r i 0
get-within [] [] i f = omega arith
get-within [] (a ∷ x) i f = absurd (cc f)
get-within (r ∷ rs) [] i f = absurd (cc f)
get-within (r ∷ rs) (a ∷ x) zero f = leb-true a r (first_and (nat_le a r) (fits x rs) f).0
get-within (r ∷ rs) (a ∷ x) (suc i) f = get-within rs x i (first_and (nat_le a r) (fits x rs) f).1

-- the sum of a front, one place more
pub sum-more : (xs : List ℕ) (i : ℕ) → i < length xs → sum (take (i + 1) xs) ≡ sum (take i xs) + get_or xs i 0
sum-more xs i h = omega (arith, sum_by-take-drop (λ v. v) xs i, sum_by-take-drop (λ v. v) xs (i + 1), sum_by-drop_more (λ v. v) xs i 0 h)

pub sum-front : (xs : List ℕ) (i : ℕ) → sum (take i xs) ≤ sum xs
sum-front xs i = omega (arith, sum_by-take-drop (λ v. v) xs i)

-- a column that is read
pub column-read : (columns : List ℕ) (i x : ℕ) → i < length columns → x ≡ get_or columns i x → x ≡ slice_index columns i
column-read columns i x h e = e ∙ any_default columns i x 0 h
