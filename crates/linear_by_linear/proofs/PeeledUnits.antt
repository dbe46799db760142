-- A choice of counts, one subject after another: a first subject, and the others.
use Rattle.std.proofs.Common.{◌≡◌, ℕ, zero, suc, ◌+◌, ◌-◌, ◌≤◌, List, [], ◌∷◌, Bool, true, false, ◌&&◌, refl, sym, ◌∙◌, ap, subst, arith, nat_eq, nat_le, eq-eqb}
use Rattle.std.specs.Prelude.{ℤ, pos, ◌+ℤ◌, ◌*ℤ◌}
use Rattle.std.specs.List.{count_by, sum, Contains}
use Rattle.std.specs.Cmp.Lexicographic.{pointwise, same_text}
use Rattle.std.proofs.Math.IntN.{suc_ℤ-*ℤ}
use Rattle.std.proofs.lemmas.Bool.{le-leb, leb-true}
use Rattle.std.proofs.lemmas.Int.{ints}
use Rattle.std.proofs.lemmas.List.Sums.{sum_by-cons}
use Rattle.weights.specs.Grouped.{choices, fits, minus}
use Rattle.weights.proofs.ChoiceLists.{IsChoice}
use Rattle.weights.proofs.Chosen.{chosen_once, one_if}
use Rattle.weights.proofs.Sized.{first_and}
use Rattle.networks.proofs.Writing.{some_term}
use Rattle.label_network.specs.Linear.{row_sum}
use Rattle.label_network.proofs.Rows.{fits-long}

abbrev pub zeros : List ℕ → List ℕ
zeros [] = []
zeros (a ∷ x) = 0 ∷ zeros x

-- the first subject of some counts
abbrev pub unit_of : List ℕ → List ℕ
unit_of [] = []
unit_of (zero ∷ x) = 0 ∷ unit_of x
unit_of (suc a ∷ x) = 1 ∷ zeros x

-- and the others
abbrev pub others_of : List ℕ → List ℕ
others_of [] = []
others_of (zero ∷ x) = 0 ∷ others_of x
others_of (suc a ∷ x) = a ∷ x

cons-same : (a b : ℕ) (x y : List ℕ) → a ≡ b → x ≡ y → a ∷ x ≡ b ∷ y
cons-same a b x y e f = ap (λ c. c ∷ x) e ∙ ap (λ z. b ∷ z) f

both-true : (a b : Bool) → a ≡ true → b ≡ true → (a && b) ≡ true
both-true a b e f = rw (e, f) refl

sum-zeros : (x : List ℕ) → sum (zeros x) ≡ 0
sum-zeros [] = refl
sum-zeros (a ∷ x) = sum_by-cons (λ v. v) 0 (zeros x) ∙ omega (arith, sum-zeros x)

pub minus-none : (r x : List ℕ) → sum x ≡ 0 → minus r x ≡ r
minus-none [] x e = refl
minus-none (r ∷ rs) [] e = refl
minus-none (r ∷ rs) (a ∷ x) e =
    let both : a + sum x ≡ 0 = sym (sum_by-cons (λ v. v) a x) ∙ e in
    cons-same (r - a) r (minus rs x) rs (omega (arith, both)) (minus-none rs x (omega (arith, both)))

pub row-none : (us : List ℤ) (x : List ℕ) → sum x ≡ 0 → row_sum us x ≡ pos 0
row-none [] x e = refl
row-none (u ∷ us) [] e = refl
row-none (u ∷ us) (a ∷ x) e =
    let both : a + sum x ≡ 0 = sym (sum_by-cons (λ v. v) a x) ∙ e in
    nothing a u (row_sum us x) (omega (arith, both)) (row-none us x (omega (arith, both)))
  where
    nothing : (b : ℕ) (v t : ℤ) → b ≡ 0 → t ≡ pos 0 → (pos b *ℤ v) +ℤ t ≡ pos 0
    nothing b v t f g = rw (f, g) (omega (arith, ints))

unit-sum : (c : ℕ) (x : List ℕ) → sum x ≡ suc c → sum (unit_of x) ≡ 1
unit-sum c [] e = let none : 0 ≡ suc c = e in absurd (omega (arith, none))
unit-sum c (zero ∷ x) e = sum_by-cons (λ v. v) 0 (unit_of x) ∙ omega (arith, unit-sum c x (omega (arith, sum_by-cons (λ v. v) 0 x, e)))
unit-sum c (suc a ∷ x) e = sum_by-cons (λ v. v) 1 (zeros x) ∙ omega (arith, sum-zeros x)

pub others-sum : (c : ℕ) (x : List ℕ) → sum x ≡ suc c → sum (others_of x) ≡ c
others-sum c [] e = let none : 0 ≡ suc c = e in absurd (omega (arith, none))
others-sum c (zero ∷ x) e = sum_by-cons (λ v. v) 0 (others_of x) ∙ omega (arith, others-sum c x (omega (arith, sum_by-cons (λ v. v) 0 x, e)))
others-sum c (suc a ∷ x) e = sum_by-cons (λ v. v) a x ∙ omega (arith, sum_by-cons (λ v. v) (suc a) x, e)

zeros-fit : (x r : List ℕ) → fits x r ≡ true → fits (zeros x) r ≡ true
zeros-fit [] r f = f
zeros-fit (a ∷ x) [] f = absurd (cc f)
zeros-fit (a ∷ x) (r ∷ rs) f = both-true (nat_le 0 r) (fits (zeros x) rs) (le-leb 0 r (omega arith)) (zeros-fit x rs (first_and (nat_le a r) (fits x rs) f).1)

unit-fits : (x r : List ℕ) → fits x r ≡ true → fits (unit_of x) r ≡ true
unit-fits [] r f = f
unit-fits (zero ∷ x) [] f = absurd (cc f)
unit-fits (suc a ∷ x) [] f = absurd (cc f)
unit-fits (zero ∷ x) (r ∷ rs) f = both-true (nat_le 0 r) (fits (unit_of x) rs) (le-leb 0 r (omega arith)) (unit-fits x rs (first_and (nat_le 0 r) (fits x rs) f).1)
unit-fits (suc a ∷ x) (r ∷ rs) f =
    let two = first_and (nat_le (suc a) r) (fits x rs) f in
    both-true (nat_le 1 r) (fits (zeros x) rs) (le-leb 1 r (omega (arith, leb-true (suc a) r two.0))) (zeros-fit x rs two.1)

pub others-fit : (x r : List ℕ) → fits x r ≡ true → fits (others_of x) (minus r (unit_of x)) ≡ true
others-fit [] [] f = refl
others-fit [] (r ∷ rs) f = absurd (cc f)
others-fit (zero ∷ x) [] f = absurd (cc f)
others-fit (suc a ∷ x) [] f = absurd (cc f)
others-fit (zero ∷ x) (r ∷ rs) f = both-true (nat_le 0 (r - 0)) (fits (others_of x) (minus rs (unit_of x))) (le-leb 0 (r - 0) (omega arith)) (others-fit x rs (first_and (nat_le 0 r) (fits x rs) f).1)
others-fit (suc a ∷ x) (r ∷ rs) f =
    let two = first_and (nat_le (suc a) r) (fits x rs) f in
    both-true (nat_le a (r - 1)) (fits x (minus rs (zeros x))) (le-leb a (r - 1) (omega (arith, leb-true (suc a) r two.0))) (ap (fits x) (minus-none rs (zeros x) (sum-zeros x)) ∙ two.1)

pub minus-both : (r x : List ℕ) → minus (minus r (unit_of x)) (others_of x) ≡ minus r x
minus-both [] x = refl
minus-both (r ∷ rs) [] = refl
minus-both (r ∷ rs) (zero ∷ x) = cons-same (r - 0 - 0) (r - 0) (minus (minus rs (unit_of x)) (others_of x)) (minus rs x) (omega arith) (minus-both rs x)
minus-both (r ∷ rs) (suc a ∷ x) = cons-same (r - 1 - a) (r - suc a) (minus (minus rs (zeros x)) x) (minus rs x) (omega arith) (ap (λ y. minus y x) (minus-none rs (zeros x) (sum-zeros x)))

none-joined : (u s t z : ℤ) → s +ℤ t ≡ z → ((pos 0 *ℤ u) +ℤ s) +ℤ ((pos 0 *ℤ u) +ℤ t) ≡ (pos 0 *ℤ u) +ℤ z
none-joined u s t z e = omega (arith, ints, e)

one-joined : (a : ℕ) (u s t : ℤ) → s ≡ pos 0 → ((pos 1 *ℤ u) +ℤ s) +ℤ ((pos a *ℤ u) +ℤ t) ≡ (pos (suc a) *ℤ u) +ℤ t
one-joined a u s t e = rw e (omega (arith, ints, suc_ℤ-*ℤ (pos a) u))

pub row-both : (us : List ℤ) (x : List ℕ) → row_sum us (unit_of x) +ℤ row_sum us (others_of x) ≡ row_sum us x
row-both [] x = refl
row-both (u ∷ us) [] = refl
row-both (u ∷ us) (zero ∷ x) = none-joined u (row_sum us (unit_of x)) (row_sum us (others_of x)) (row_sum us x) (row-both us x)
row-both (u ∷ us) (suc a ∷ x) = one-joined a u (row_sum us (zeros x)) (row_sum us x) (row-none us (zeros x) (sum-zeros x))

is-true : (b : Bool) → 1 ≤ one_if b → b ≡ true
is-true true h = refl
is-true false h = let none : 1 ≤ 0 = h in absurd (omega (arith, none))

choice-among : (c : ℕ) (r x : List ℕ) → IsChoice c r x → Contains (choices c r) x
choice-among c r x o =
    let once : count_by (pointwise nat_eq x) (choices c r) ≡ 1 = chosen_once c r x o.long ∙ rw (eq-eqb c (sum x) (sym o.whole), o.fitting) refl in
    let one : 1 ≤ 1 = omega arith in
    let found = some_term (λ y. one_if (pointwise nat_eq x y)) (choices c r) (subst (λ m. 1 ≤ m) (sym once) one) in
    subst (Contains (choices c r)) (sym (same_text x found.0 (sym (is-true (pointwise nat_eq x found.0) found.2)))) found.1

-- the first subject is a choice of one
pub unit-among : (c : ℕ) (r x : List ℕ) → fits x r ≡ true → sum x ≡ suc c → Contains (choices 1 r) (unit_of x)
unit-among c r x f e = choice-among 1 r (unit_of x) (record {
  long = fits-long (unit_of x) r (unit-fits x r f);
  whole = unit-sum c x e;
  fitting = unit-fits x r f;
})
