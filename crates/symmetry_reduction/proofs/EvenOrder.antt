-- In order by what remains of groups and by their sums, keys are the same whose neighbours of equal size have changed places.
use Rattle.std.proofs.Common.{◌≡◌, ℕ, zero, suc, ◌+◌, List, [], ◌∷◌, ◌++◌, length, take, drop, Bool, true, false, cond, not, refl, sym, ◌∙◌, ap, subst, arith, length-drop}
use Rattle.std.specs.Prelude.{ℤ, int_lt, ◌&&◌}
use Rattle.std.specs.Ordering.{int_eq}
use Rattle.std.proofs.lemmas.Bool.{eqb-true, eq-eqb}
use Rattle.std.proofs.lemmas.Bool.Decides.{Decides-int_eq}
use Rattle.std.proofs.lemmas.Int.{ints}
use Rattle.std.proofs.lemmas.List.{length-take}
use Rattle.weights.specs.InOrder.{in_order, put_in}
use Rattle.networks.proofs.Swaps.{length-swap, swap_at}
use Rattle.symmetry_reduction.specs.OrderedGroups.{IsExchange, exchange, goes_behind, groups_in_order, lefts, may_precede, places_of, same_at, sums}
use Rattle.symmetry_reduction.specs.declared.orders.Order.TheVariants.{Sums}
use Rattle.symmetry_reduction.specs.declared.places.Place.{Place}
use Rattle.symmetry_reduction.proofs.PlaceOrder.{back-key, front-key, same_size, sizes-places, sizes_of}

-- whether a group of which so much remains, and of this sum, goes behind another of its size
abbrev behind : ℤ → ℤ → ℤ → ℤ → Bool
behind a s b t = cond (int_eq a b) (int_lt t s) (int_lt b a)

chain : (a s c u b t : ℤ) → behind a s c u ≡ true → behind b t c u ≡ false → behind a s b t ≡ true
chain a s c u b t = by (int_eq a c) refl (int_eq b c) refl (int_eq a b) refl
  where
    by : (x : Bool) → int_eq a c ≡ x → (y : Bool) → int_eq b c ≡ y → (z : Bool) → int_eq a b ≡ z → cond x (int_lt u s) (int_lt c a) ≡ true → cond y (int_lt u t) (int_lt c b) ≡ false → cond z (int_lt t s) (int_lt b a) ≡ true
    by true p true q true r e f = grind (arith, ints, e, f)
    by true p true q false r e f = absurd (grind (arith, ints, p, q, r))
    by true p false q true r e f = absurd (grind (arith, ints, p, q, r))
    by true p false q false r e f = grind (arith, ints, p, q, f)
    by false p true q true r e f = absurd (grind (arith, ints, p, q, r))
    by false p true q false r e f = grind (arith, ints, q, e)
    by false p false q true r e f = absurd (grind (arith, ints, e, f, r))
    by false p false q false r e f = grind (arith, ints, e, f)

-- of two groups only one goes behind the other
one-behind : (a s b t : ℤ) → behind a s b t ≡ true → behind b t a s ≡ true → ⊥
one-behind a s b t = by (int_eq a b) refl (int_eq b a) refl
  where
    by : (x : Bool) → int_eq a b ≡ x → (y : Bool) → int_eq b a ≡ y → cond x (int_lt t s) (int_lt b a) ≡ true → cond y (int_lt s t) (int_lt a b) ≡ true → ⊥
    by true p true q e f = grind (arith, ints, e, f)
    by true p false q e f = grind (arith, ints, p, q)
    by false p true q e f = grind (arith, ints, p, q)
    by false p false q e f = grind (arith, ints, e, f)

-- groups of which none goes behind the other are the same
none-left : (a s b t : ℤ) → behind a s b t ≡ false → behind b t a s ≡ false → a ≡ b
none-left a s b t = by (int_eq a b) refl (int_eq b a) refl
  where
    by : (x : Bool) → int_eq a b ≡ x → (y : Bool) → int_eq b a ≡ y → cond x (int_lt t s) (int_lt b a) ≡ false → cond y (int_lt s t) (int_lt a b) ≡ false → a ≡ b
    by true p y q e f = (Decides-int_eq a b).0 p
    by false p true q e f = absurd (grind (arith, ints, p, q))
    by false p false q e f = absurd (grind (arith, ints, p, e, f))

none-sum : (a s b t : ℤ) → behind a s b t ≡ false → behind b t a s ≡ false → s ≡ t
none-sum a s b t = by (int_eq a b) refl (int_eq b a) refl
  where
    by : (x : Bool) → int_eq a b ≡ x → (y : Bool) → int_eq b a ≡ y → cond x (int_lt t s) (int_lt b a) ≡ false → cond y (int_lt s t) (int_lt a b) ≡ false → s ≡ t
    by true p true q e f = (let same : int_eq s t ≡ true = grind (arith, ints, e, f) in (Decides-int_eq s t).0 same)
    by true p false q e f = absurd (grind (arith, ints, p, q))
    by false p true q e f = absurd (grind (arith, ints, p, q))
    by false p false q e f = absurd (grind (arith, ints, p, e, f))

-- ---- groups of one size

place : ℕ → ℤ → ℤ → Place
place n a s = record { size = n; left = a; sum = s }

same-place : (p q : Place) → p.size ≡ q.size → p.left ≡ q.left → p.sum ≡ q.sum → p ≡ q
unfolding place
same-place p q n a s = ap (λ m. place m p.left p.sum) n ∙ ap (λ b. place q.size b p.sum) a ∙ ap (place q.size q.left) s

behind-is : (p q : Place) → p.size ≡ q.size → goes_behind p q ≡ behind p.left p.sum q.left q.sum
behind-is p q e = ap (λ b. cond (int_eq p.left q.left) (b && int_lt q.sum p.sum) (b && int_lt q.left p.left)) (eq-eqb p.size q.size e)

flip-true : (b : Bool) → not b ≡ true → b ≡ false
flip-true true e = absurd (cc e)
flip-true false e = refl

flip-false : (b : Bool) → not b ≡ false → b ≡ true
flip-false true e = refl
flip-false false e = absurd (cc e)

abbrev P : Place → Place → Bool
P = may_precede

-- what goes behind a third group goes behind one that does not
pushed : (p q z : Place) → p.size ≡ q.size → P p z ≡ true → P q z ≡ false → P q p ≡ false
pushed p q z e x y =
    let over : goes_behind q z ≡ true = flip-false (goes_behind q z) y in
    let size : q.size ≡ z.size = eqb-true q.size z.size (same_size q z over) in
    ap not (behind-is q p (sym e)
    ∙ chain q.left q.sum z.left z.sum p.left p.sum (sym (behind-is q z size) ∙ over) (sym (behind-is p z (e ∙ size)) ∙ flip-true (goes_behind p z) x))

meet : (p q : Place) → p.size ≡ q.size → (ps : List Place) → cond (P p q) (p ∷ q ∷ ps) (q ∷ p ∷ ps) ≡ cond (P q p) (q ∷ p ∷ ps) (p ∷ q ∷ ps)
meet p q e ps = by (P p q) refl (P q p) refl
  where
    by : (b : Bool) → P p q ≡ b → (c : Bool) → P q p ≡ c → cond b (p ∷ q ∷ ps) (q ∷ p ∷ ps) ≡ cond c (q ∷ p ∷ ps) (p ∷ q ∷ ps)
    by true x true y =
        (let one : behind p.left p.sum q.left q.sum ≡ false = sym (behind-is p q e) ∙ flip-true (goes_behind p q) x in
        let other : behind q.left q.sum p.left p.sum ≡ false = sym (behind-is q p (sym e)) ∙ flip-true (goes_behind q p) y in
        let same : p ≡ q = same-place p q e (none-left p.left p.sum q.left q.sum one other) (none-sum p.left p.sum q.left q.sum one other) in
        ap (λ v. v ∷ q ∷ ps) same ∙ ap (λ v. q ∷ v ∷ ps) (sym same))
    by true x false y = refl
    by false x true y = refl
    by false x false y = absurd (one-behind p.left p.sum q.left q.sum (sym (behind-is p q e) ∙ flip-false (goes_behind p q) x) (sym (behind-is q p (sym e)) ∙ flip-false (goes_behind q p) y))

-- groups of one size are put in one after the other, or the other way round
put-swap : (p q : Place) → p.size ≡ q.size → (zs : List Place) → put_in P p (put_in P q zs) ≡ put_in P q (put_in P p zs)
put-swap p q e [] = meet p q e []
put-swap p q e (z ∷ zs) = by (P p z) refl (P q z) refl (put-swap p q e zs)
  where
    by : (b : Bool) → P p z ≡ b → (c : Bool) → P q z ≡ c → put_in P p (put_in P q zs) ≡ put_in P q (put_in P p zs)
        → put_in P p (cond c (q ∷ z ∷ zs) (z ∷ put_in P q zs)) ≡ put_in P q (cond b (p ∷ z ∷ zs) (z ∷ put_in P p zs))
    by true x true y ih =
        ap (λ v. cond (P p q) (p ∷ q ∷ z ∷ zs) (q ∷ cond v (p ∷ z ∷ zs) (z ∷ put_in P p zs))) x
        ∙ meet p q e (z ∷ zs)
        ∙ sym (ap (λ v. cond (P q p) (q ∷ p ∷ z ∷ zs) (p ∷ cond v (q ∷ z ∷ zs) (z ∷ put_in P q zs))) y)
    by true x false y ih =
        ap (λ v. cond v (p ∷ z ∷ put_in P q zs) (z ∷ put_in P p (put_in P q zs))) x
        ∙ sym (ap (λ v. cond v (q ∷ p ∷ z ∷ zs) (p ∷ put_in P q (z ∷ zs))) (pushed p q z e x y)
        ∙ ap (λ v. p ∷ cond v (q ∷ z ∷ zs) (z ∷ put_in P q zs)) y)
    by false x true y ih =
        ap (λ v. cond v (p ∷ q ∷ z ∷ zs) (q ∷ put_in P p (z ∷ zs))) (pushed q p z (sym e) y x)
        ∙ ap (λ v. q ∷ cond v (p ∷ z ∷ zs) (z ∷ put_in P p zs)) x
        ∙ sym (ap (λ v. cond v (q ∷ z ∷ put_in P p zs) (z ∷ put_in P q (put_in P p zs))) y)
    by false x false y ih =
        ap (λ v. cond v (p ∷ z ∷ put_in P q zs) (z ∷ put_in P p (put_in P q zs))) x
        ∙ ap (λ ys. z ∷ ys) ih
        ∙ sym (ap (λ v. cond v (q ∷ z ∷ put_in P p zs) (z ∷ put_in P q (put_in P p zs))) y)

order-even : (i : ℕ) (ps : List Place) → same_at i (sizes_of ps) ≡ true → in_order P (swap_at i ps) ≡ in_order P ps
order-even i [] e = refl
order-even zero (p ∷ []) e = refl
order-even zero (p ∷ q ∷ ps) e = put-swap q p (sym (eqb-true p.size q.size e)) (in_order P ps)
order-even (suc i) (p ∷ ps) e = ap (put_in P p) (order-even i ps e)

-- ---- keys

places-swap : (i : ℕ) (sizes : List ℕ) (room partial : List ℤ) → length room ≡ length sizes → length partial ≡ length sizes → same_at i sizes ≡ true → places_of sizes (swap_at i room) (swap_at i partial) ≡ swap_at i (places_of sizes room partial)
unfolding place
places-swap i [] room partial r l e = refl
places-swap i (n ∷ sizes) [] partial r l e = absurd (omega (arith, r))
places-swap i (n ∷ sizes) (x ∷ room) [] r l e = absurd (omega (arith, l))
places-swap zero (n ∷ []) (x ∷ room) (p ∷ partial) r l e = absurd (cc e)
places-swap zero (n ∷ m ∷ sizes) (x ∷ []) (p ∷ partial) r l e = absurd (omega (arith, r))
places-swap zero (n ∷ m ∷ sizes) (x ∷ y ∷ room) (p ∷ []) r l e = absurd (omega (arith, l))
places-swap zero (n ∷ m ∷ sizes) (x ∷ y ∷ room) (p ∷ q ∷ partial) r l e =
    let same : n ≡ m = eqb-true n m e in
    ap (λ v. place v y q ∷ place m x p ∷ places_of sizes room partial) same
    ∙ ap (λ v. place m y q ∷ place v x p ∷ places_of sizes room partial) (sym same)
places-swap (suc i) (n ∷ sizes) (x ∷ room) (p ∷ partial) r l e = ap (λ ps. place n x p ∷ ps) (places-swap i sizes room partial (omega (arith, r)) (omega (arith, l)) e)

pub sorted-even : (sizes : List ℕ) (key other : List ℤ) → length key ≡ length sizes + length sizes → IsExchange sizes key other → groups_in_order Sums sizes other ≡ groups_in_order Sums sizes key
sorted-even sizes key other long (i, same, is) =
    let room : List ℤ = take (length sizes) key in
    let partial : List ℤ = drop (length sizes) key in
    let room_long : length room ≡ length sizes = length-take (length sizes) key ∙ omega (arith, long) in
    let partial_long : length partial ≡ length sizes = length-drop (length sizes) key ∙ omega (arith, long) in
    let swapped : length (swap_at i room) ≡ length sizes = length-swap i room ∙ room_long in
    let shown : List Place → List ℤ = λ ps. lefts ps ++ sums ps in
    ap (groups_in_order Sums sizes) is
    ∙ ap (λ r. shown (in_order P (places_of sizes r (drop (length sizes) (exchange (length sizes) i key))))) (front-key (length sizes) (swap_at i room) (swap_at i partial) swapped)
    ∙ ap (λ p. shown (in_order P (places_of sizes (swap_at i room) p))) (back-key (length sizes) (swap_at i room) (swap_at i partial) swapped)
    ∙ ap (λ ps. shown (in_order P ps)) (places-swap i sizes room partial room_long partial_long same)
    ∙ ap shown (order-even i (places_of sizes room partial) (subst (λ ns. same_at i ns ≡ true) (sym (sizes-places sizes room partial room_long partial_long)) same))
