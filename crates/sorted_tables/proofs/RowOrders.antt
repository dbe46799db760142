-- In how many orders rows of equal size may stand, and those of them that get as much: so many choices stand for one.
use Rattle.std.proofs.Common.{◌≡◌, ℕ, zero, suc, ◌+◌, ◌-◌, ◌*◌, ◌/◌, ◌≤◌, List, [], ◌∷◌, length, Bool, true, false, cond, ◌&&◌, refl, sym, ◌∙◌, ap, arith, nat_eq, nat_le, eq-eqb, ne_eqb, add-one, one-add, ◌⊎◌, inl, inr}
use Rattle.std.specs.List.{sum}
use Rattle.std.proofs.lemmas.Bool.{eqb-true, leb-true}
use Rattle.std.proofs.lemmas.Bool.Decides.{eqb_tells}
use Rattle.std.proofs.lemmas.List.Sums.{sum_by-cons}
use Rattle.std.proofs.Math.Nat.{mul-div_cancel, one-le-mul}
use Rattle.weights.specs.Numbers.{binomial}
use Rattle.weights.specs.Grouped.{fits}
use Rattle.weights.proofs.Binomials.{binomial-all, binomial-pascal, binomial-zero, binomial-next}
use Rattle.weights.proofs.ChoiceLists.{IsChoice}
use Rattle.weights.proofs.Sized.{first_and}
use Rattle.sorted_tables.specs.FrontSteps.{alike_orders}
use Rattle.sorted_tables.specs.SortedSteps.{gathered_count, row_orders, run}
use Rattle.sorted_tables.proofs.GatheredForms.{Rise, rise-later}
use Rattle.sorted_tables.proofs.GatheredClasses.{alike, gathered-step, number_gathered}

-- the same from each row on
abbrev orders_behind : List ℕ → List ℕ → ℕ
orders_behind [] x = 1
orders_behind (q ∷ rs) [] = 1
orders_behind (q ∷ rs) (a ∷ x) = (alike q a rs x + 1) * orders_behind rs x

some-orders : (r x : List ℕ) → 1 ≤ orders_behind r x
some-orders [] x = omega arith
some-orders (q ∷ rs) [] = omega arith
some-orders (q ∷ rs) (a ∷ x) = one-le-mul (omega arith) (some-orders rs x)

orders-counted : (c : ℕ) (r x : List ℕ) → IsChoice c r x → Rise r x → number_gathered c r x * orders_behind r x ≡ row_orders r
orders-counted c [] [] o h = rw (sym o.whole) refl
orders-counted c [] (a ∷ x) o h = absurd (omega (arith, o.long))
orders-counted c (q ∷ rs) [] o h = absurd (omega (arith, o.long))
orders-counted c (q ∷ rs) (a ∷ x) o h =
    let both = first_and (nat_le a q) (fits x rs) o.fitting in
    let whole : a + sum x ≡ c = sym (sum_by-cons (λ v. v) a x) ∙ o.whole in
    let short : length x ≡ length rs = omega (arith, o.long) in
    let later : number_gathered (c - a) rs x * orders_behind rs x ≡ row_orders rs = orders-counted (c - a) rs x (record { long = short; whole = omega (arith, whole); fitting = both.1 }) (rise-later q a rs x short h) in
    turned (number_gathered c (q ∷ rs) (a ∷ x)) (alike q a rs x + 1) (number_gathered (c - a) rs x) (run q rs + 1) (orders_behind rs x) (row_orders rs)
    (gathered-step c q a rs x (omega (arith, whole, leb-true a q both.0)) short h) later
  where
    turned : (n k m s p e : ℕ) → n * k ≡ m * s → m * p ≡ e → n * (k * p) ≡ s * e
    turned n k m s p e f g =
        let one : n * (k * p) ≡ (n * k) * p = grind arith in
        let two : (m * s) * p ≡ s * (m * p) = grind arith in
        one ∙ ap (λ v. v * p) f ∙ two ∙ ap (λ v. s * v) g

-- and from the first row on

chosen-more : (n k m : ℕ) → n ≡ k + suc m → (k + 1) * binomial n (k + 1) ≡ suc m * binomial n k
chosen-more n k m e =
    let next : binomial n k * (n + 1) ≡ (k + 1) * binomial (n + 1) (k + 1) = binomial-next n k in
    let parts : binomial (n + 1) (k + 1) ≡ binomial n k + binomial n (k + 1) = pascal n k in
    let spread : (k + 1) * (binomial n k + binomial n (k + 1)) ≡ (k + 1) * binomial n k + (k + 1) * binomial n (k + 1) = grind arith in
    let whole : binomial n k * (n + 1) ≡ (k + 1) * binomial n k + suc m * binomial n k = ap (λ v. binomial n k * (v + 1)) e ∙ split (binomial n k) in
    omega (arith, next, ap (λ v. (k + 1) * v) parts, spread, whole)
  where
    pascal : (n k : ℕ) → binomial (n + 1) (k + 1) ≡ binomial n k + binomial n (k + 1)
    pascal n k = rw (add-one n, add-one k) (binomial-pascal n k)

    split : (b : ℕ) → b * ((k + suc m) + 1) ≡ (k + 1) * b + suc m * b
    split b = grind arith

orders-from : (q a k : ℕ) (rs x : List ℕ) → length x ≡ length rs → alike_orders q a k rs x ≡ binomial (k + alike q a rs x) k * orders_behind rs x
orders-from q a k [] [] l = let same : k + 0 ≡ k = omega arith in rw (same, binomial-all k) refl
orders-from q a k [] (b ∷ x) l = absurd (omega (arith, l))
orders-from q a k (r ∷ rs) [] l = absurd (omega (arith, l))
orders-from q a k (r ∷ rs) (b ∷ x) l = by (nat_eq r q) refl (eqb_tells a b) (λ j. orders-from r b j rs x (omega (arith, l)))
  where
    first : (k : ℕ) → k + 0 ≡ k
    first k = omega arith

    one : (m : ℕ) → binomial (suc m) 1 ≡ m + 1
    one zero = binomial-all 1
    one (suc m) = omega (arith, binomial-pascal (suc m) 0, binomial-zero (suc m), one m)

    begun : binomial (k + 0) k * ((alike r b rs x + 1) * orders_behind rs x) ≡ 1 * (binomial (1 + alike r b rs x) 1 * orders_behind rs x)
    begun = rw (first k, binomial-all k, one-add (alike r b rs x), one (alike r b rs x)) refl

    by : (t : Bool) → nat_eq r q ≡ t → ((nat_eq a b ≡ true) × (a ≡ b)) ⊎ ((nat_eq a b ≡ false) × (a ≡ b → ⊥))
        → ((j : ℕ) → alike_orders r b j rs x ≡ binomial (j + alike r b rs x) j * orders_behind rs x)
        → cond (t && nat_eq b a) (k + 1) 1 * alike_orders r b (cond (t && nat_eq b a) (k + 1) 1) rs x ≡ binomial (k + cond (t && nat_eq a b) (suc (alike q a rs x)) 0) k * ((alike r b rs x + 1) * orders_behind rs x)
    by false e d rest = ap (λ n. 1 * n) (rest 1) ∙ sym begun
    by true e (inr d) rest = rw (d.0, ne_eqb b a (λ f. d.1 (sym f))) (ap (λ n. 1 * n) (rest 1) ∙ sym begun)
    by true e (inl d) rest =
        let m : ℕ = alike r b rs x in
        let same : alike q a rs x ≡ m = ap (λ s. alike s a rs x) (sym (eqb-true r q e)) ∙ ap (λ v. alike r v rs x) d.1 in
        let all : (k + 1) + m ≡ k + suc m = omega arith in
        let more : (k + 1) * binomial (k + suc m) (k + 1) ≡ suc m * binomial (k + suc m) k = chosen-more (k + suc m) k m refl in
        rw (d.0, eq-eqb b a (sym d.1), same)
        (ap (λ n. (k + 1) * n) (rest (k + 1) ∙ ap (λ n. binomial n (k + 1) * orders_behind rs x) all)
        ∙ turned (k + 1) (binomial (k + suc m) (k + 1)) (binomial (k + suc m) k) (suc m) (orders_behind rs x) more
        ∙ ap (λ n. binomial (k + suc m) k * (n * orders_behind rs x)) (sym (add-one m)))
      where
        turned : (s p w t o : ℕ) → s * p ≡ t * w → s * (p * o) ≡ w * ((t) * o)
        turned s p w t o f =
            let one : s * (p * o) ≡ (s * p) * o = grind arith in
            let two : (t * w) * o ≡ w * (t * o) = grind arith in
            one ∙ ap (λ v. v * o) f ∙ two

-- so their quotient is how many choices are gathered into one
pub counted-by-orders : (c : ℕ) (r x : List ℕ) → IsChoice c r x → Rise r x → row_orders r / (1 * alike_orders 0 0 0 r x) ≡ gathered_count r x
counted-by-orders c r x o h =
    let from : 1 * alike_orders 0 0 0 r x ≡ orders_behind r x = ap (λ n. 1 * n) (orders-from 0 0 0 r x o.long) ∙ rw (binomial-zero (0 + alike 0 0 r x)) (omega arith) in
    let all : number_gathered (sum x) r x * orders_behind r x ≡ row_orders r = orders-counted (sum x) r x (record { long = o.long; whole = refl; fitting = o.fitting }) h in
    ap (λ n. row_orders r / n) from ∙ ap (λ n. n / orders_behind r x) (sym all) ∙ mul-div_cancel (number_gathered (sum x) r x) (some-orders r x)
