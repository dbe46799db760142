-- Gathered counts: rows of equal size change places alone, and have their counts in rising order.
use Rattle.std.proofs.Common.{◌≡◌, ℕ, zero, suc, ◌<◌, ◌≤◌, List, [], ◌∷◌, length, drop, Bool, true, false, cond, ◌&&◌, refl, sym, ◌∙◌, ap, subst, arith, nat_eq, nat_lt, eq-eqb, lt-ltb, le-ltb, inl, inr}
use Rattle.std.specs.Cmp.Lexicographic.{pointwise, same_text}
use Rattle.std.proofs.lemmas.Bool.{and_parts, both_ways, cases_lt, cases_order, eqb-true, ltb-true}
use Rattle.weights.proofs.Members.{same_refl}
use Rattle.sorted_tables.specs.GatheredChoices.{gathered, gets_less, is_gathered, put_among}
use Rattle.networks.proofs.Swaps.{length-swap, swap_at}

pub less-parts : (s b q a : ℕ) → gets_less s b q a ≡ true → (s ≡ q) × (b < a)
less-parts s b q a e =
    let both = and_parts (nat_eq s q) (nat_lt b a) e in
    (eqb-true s q both.0, ltb-true b a both.1)

pub less-here : (q b a : ℕ) → b < a → gets_less q b q a ≡ true
less-here q b a h = rw (eq-eqb q q refl, lt-ltb b a h) refl

pub less-not : (s q b a : ℕ) → a ≤ b → gets_less s b q a ≡ false
less-not s q b a h = rw (le-ltb b a h) (by (nat_eq s q))
  where
    by : (t : Bool) → (t && false) ≡ false
    by true = refl
    by false = refl

-- what counts that change places leave is left by gathering

even-put : {Y : Type 0} (v : List ℕ → Y) → ((i : ℕ) (x : List ℕ) → v (swap_at i x) ≡ v x) → (q a : ℕ) (rs y : List ℕ) → v (put_among q a rs y) ≡ v (a ∷ y)
even-put v e q a [] y = refl
even-put v e q a (s ∷ rs) [] = refl
even-put {Y} v e q a (s ∷ rs) (b ∷ y) = by (gets_less s b q a) (even-put (λ z. v (b ∷ z)) (λ i z. e (suc i) (b ∷ z)) q a rs y ∙ e zero (a ∷ b ∷ y))
  where
    by : (t : Bool) → v (b ∷ put_among q a rs y) ≡ v (a ∷ b ∷ y) → v (cond t (b ∷ put_among q a rs y) (a ∷ b ∷ y)) ≡ v (a ∷ b ∷ y)
    by true same = same
    by false same = refl

pub even-counts : {Y : Type 0} (v : List ℕ → Y) → ((i : ℕ) (x : List ℕ) → v (swap_at i x) ≡ v x) → (r x : List ℕ) → v (gathered r x) ≡ v x
even-counts v e [] x = refl
even-counts v e (q ∷ rs) [] = refl
even-counts v e (q ∷ rs) (a ∷ x) = even-put v e q a rs (gathered rs x) ∙ even-counts (λ z. v (a ∷ z)) (λ i z. e (suc i) (a ∷ z)) rs x

pub length-gathered : (r x : List ℕ) → length (gathered r x) ≡ length x
length-gathered r x = even-counts length length-swap r x

-- so is what rows that change places with their counts leave
abbrev pub IsEven : {Y : Type 0} → (List ℕ → List ℕ → Y) → Type 0
IsEven v = (i : ℕ) (r x : List ℕ) → length x ≡ length r → v (swap_at i r) (swap_at i x) ≡ v r x

behind : {Y : Type 0} (v : List ℕ → List ℕ → Y) (q a : ℕ) → IsEven v → IsEven (λ r x. v (q ∷ r) (a ∷ x))
behind v q a e = λ i r x l. e (suc i) (q ∷ r) (a ∷ x) (ap suc l)

even-among : {Y : Type 0} (v : List ℕ → List ℕ → Y) → IsEven v → (q a : ℕ) (rs y : List ℕ) → length y ≡ length rs → v (q ∷ rs) (put_among q a rs y) ≡ v (q ∷ rs) (a ∷ y)
even-among v e q a [] y l = refl
even-among v e q a (s ∷ rs) [] l = absurd (omega (arith, l))
even-among {Y} v e q a (s ∷ rs) (b ∷ y) l =
    by (gets_less s b q a) refl
    (even-among (λ r x. v (q ∷ r) (b ∷ x)) (behind v q b e) q a rs y (omega (arith, l)) ∙ e zero (q ∷ q ∷ rs) (a ∷ b ∷ y) (omega (arith, l)))
  where
    by : (t : Bool) → gets_less s b q a ≡ t → v (q ∷ q ∷ rs) (b ∷ put_among q a rs y) ≡ v (q ∷ q ∷ rs) (a ∷ b ∷ y) → v (q ∷ s ∷ rs) (cond t (b ∷ put_among q a rs y) (a ∷ b ∷ y)) ≡ v (q ∷ s ∷ rs) (a ∷ b ∷ y)
    by false t same = refl
    by true t same = rw ((less-parts s b q a t).0) same

pub even-gathered : {Y : Type 0} (v : List ℕ → List ℕ → Y) → IsEven v → (r x : List ℕ) → length x ≡ length r → v r (gathered r x) ≡ v r x
even-gathered v e [] x l = refl
even-gathered v e (q ∷ rs) [] l = refl
even-gathered v e (q ∷ rs) (a ∷ x) l =
    even-among v e q a rs (gathered rs x) (length-gathered rs x ∙ (let short : length x ≡ length rs = omega (arith, l) in short))
    ∙ even-gathered (λ r y. v (q ∷ r) (a ∷ y)) (behind v q a e) rs x (omega (arith, l))

-- counts that rise over each row of the size of the one before
abbrev pub Rise : List ℕ → List ℕ → Type 0
Rise [] x = Unit {0}
Rise (q ∷ []) x = Unit {0}
Rise (q ∷ s ∷ rs) [] = Unit {0}
Rise (q ∷ s ∷ rs) (a ∷ []) = Unit {0}
Rise (q ∷ s ∷ rs) (a ∷ b ∷ x) = (gets_less s b q a ≡ false) × Rise (s ∷ rs) (b ∷ x)

pub rise-later : (q a : ℕ) (rs x : List ℕ) → length x ≡ length rs → Rise (q ∷ rs) (a ∷ x) → Rise rs x
rise-later q a [] x l h = tt
rise-later q a (s ∷ rs) [] l h = absurd (omega (arith, l))
rise-later q a (s ∷ rs) (b ∷ x) l h = h.1

-- such counts are their own gathered form
pub first-among : (q a : ℕ) (rs x : List ℕ) → length x ≡ length rs → Rise (q ∷ rs) (a ∷ x) → put_among q a rs x ≡ a ∷ x
first-among q a [] x l h = refl
first-among q a (s ∷ rs) [] l h = refl
first-among q a (s ∷ rs) (b ∷ x) l h = rw h.0 refl

pub gathered-rising : (r x : List ℕ) → length x ≡ length r → Rise r x → gathered r x ≡ x
gathered-rising [] x l h = refl
gathered-rising (q ∷ rs) [] l h = refl
gathered-rising (q ∷ rs) (a ∷ x) l h =
    ap (put_among q a rs) (gathered-rising rs x (omega (arith, l)) (rise-later q a rs x (omega (arith, l)) h))
    ∙ first-among q a rs x (omega (arith, l)) h

-- and the gathered form is such
rise-behind : (q a b : ℕ) (rs y : List ℕ) → b < a → length y ≡ length rs → Rise (q ∷ rs) (b ∷ y) → Rise (q ∷ q ∷ rs) (b ∷ put_among q a rs y)
rise-behind q a b [] [] h l r = (less-not q q a b (omega (arith, h)), tt)
rise-behind q a b [] (c ∷ y) h l r = absurd (omega (arith, l))
rise-behind q a b (t ∷ rs) [] h l r = absurd (omega (arith, l))
rise-behind q a b (t ∷ rs) (c ∷ y) h l r = by (gets_less t c q a) refl (λ less here. rise-behind q a c rs y less (omega (arith, l)) here)
  where
    by : (u : Bool) → gets_less t c q a ≡ u → (c < a → Rise (q ∷ rs) (c ∷ y) → Rise (q ∷ q ∷ rs) (c ∷ put_among q a rs y)) → Rise (q ∷ q ∷ t ∷ rs) (b ∷ cond u (c ∷ put_among q a rs y) (a ∷ c ∷ y))
    by false e rest = (less-not q q a b (omega (arith, h)), (e, r.1))
    by true e rest =
        let both = less-parts t c q a e in
        let here : Rise (q ∷ rs) (c ∷ y) = subst (λ s. Rise (s ∷ rs) (c ∷ y)) both.0 r.1 in
        let not_less : gets_less q c q b ≡ false = subst (λ s. gets_less s c q b ≡ false) both.0 r.0 in
        subst (λ s. Rise (q ∷ q ∷ s ∷ rs) (b ∷ c ∷ put_among q a rs y)) (sym both.0) (not_less, rest both.1 here)

rise-among : (q a : ℕ) (rs y : List ℕ) → length y ≡ length rs → Rise rs y → Rise (q ∷ rs) (put_among q a rs y)
rise-among q a [] y l r = tt
rise-among q a (s ∷ rs) [] l r = tt
rise-among q a (s ∷ rs) (b ∷ y) l r = by (gets_less s b q a) refl
  where
    by : (t : Bool) → gets_less s b q a ≡ t → Rise (q ∷ s ∷ rs) (cond t (b ∷ put_among q a rs y) (a ∷ b ∷ y))
    by false e = (e, r)
    by true e =
        let both = less-parts s b q a e in
        let here : Rise (q ∷ rs) (b ∷ y) = subst (λ t. Rise (t ∷ rs) (b ∷ y)) both.0 r in
        subst (λ t. Rise (q ∷ t ∷ rs) (b ∷ put_among q a rs y)) (sym both.0) (rise-behind q a b rs y both.1 (omega (arith, l)) here)

pub gathered-rises : (r x : List ℕ) → length x ≡ length r → Rise r (gathered r x)
gathered-rises [] x l = tt
gathered-rises (q ∷ rs) [] l = absurd (omega (arith, l))
gathered-rises (q ∷ rs) (a ∷ x) l =
    let short : length x ≡ length rs = omega (arith, l) in
    rise-among q a rs (gathered rs x) (length-gathered rs x ∙ short) (gathered-rises rs x short)

pub gathered-twice : (r x : List ℕ) → length x ≡ length r → gathered r (gathered r x) ≡ gathered r x
gathered-twice r x l = gathered-rising r (gathered r x) (length-gathered r x ∙ l) (gathered-rises r x l)

-- such counts are those that stand for all that are gathered into them

pub gathered-risen : (r x : List ℕ) → length x ≡ length r → Rise r x → is_gathered r x ≡ true
gathered-risen r x l h = ap (λ y. pointwise nat_eq y x) (gathered-rising r x l h) ∙ same_refl x

pub risen-gathered : (r x : List ℕ) → length x ≡ length r → is_gathered r x ≡ true → Rise r x
risen-gathered r x l e = subst (Rise r) (same_text (gathered r x) x (sym e)) (gathered-rises r x l)

-- the rows from a place on
pub rise-drop : (i : ℕ) (r x : List ℕ) → length x ≡ length r → Rise r x → Rise (drop i r) (drop i x)
rise-drop zero r x l h = h
rise-drop (suc i) [] x l h = tt
rise-drop (suc i) (q ∷ rs) [] l h = absurd (omega (arith, l))
rise-drop (suc i) (q ∷ rs) (a ∷ x) l h = rise-drop i rs x (omega (arith, l)) (rise-later q a rs x (omega (arith, l)) h)

-- rows of equal size that change places are gathered alike

pub at-least : (s q c d : ℕ) → s ≡ q → gets_less s c q d ≡ false → d ≤ c
at-least s q c d same e = elim (cases_lt c d) [
  | inl h ↦ absurd (both_ways (gets_less q c q d) (subst (λ t. gets_less t c q d ≡ false) same e) (less-here q c d h))
  | inr h ↦ h
]

two-first : (q a b : ℕ) (y : List ℕ) → cond (gets_less q a q b) (a ∷ b ∷ y) (b ∷ a ∷ y) ≡ cond (gets_less q b q a) (b ∷ a ∷ y) (a ∷ b ∷ y)
two-first q a b y = elim (cases_order a b) [
  | inl e ↦ rw (e, less-not q q b b (omega arith)) refl
  | inr (inl h) ↦ rw (less-here q a b h, less-not q q b a (omega (arith, h))) refl
  | inr (inr h) ↦ rw (less-here q b a h, less-not q q a b (omega (arith, h))) refl
]

pub among-turned : (q a b : ℕ) (rs y : List ℕ) → length y ≡ length rs → put_among q b (q ∷ rs) (put_among q a rs y) ≡ put_among q a (q ∷ rs) (put_among q b rs y)
among-turned q a b [] [] l = two-first q a b []
among-turned q a b [] (c ∷ y) l = absurd (omega (arith, l))
among-turned q a b (s ∷ rs) [] l = absurd (omega (arith, l))
among-turned q a b (s ∷ rs) (c ∷ y) l = by (gets_less s c q a) refl (gets_less s c q b) refl (among-turned q a b rs y (omega (arith, l)))
  where
    by : (t : Bool) → gets_less s c q a ≡ t → (u : Bool) → gets_less s c q b ≡ u
        → put_among q b (q ∷ rs) (put_among q a rs y) ≡ put_among q a (q ∷ rs) (put_among q b rs y)
        → put_among q b (q ∷ s ∷ rs) (cond t (c ∷ put_among q a rs y) (a ∷ c ∷ y)) ≡ put_among q a (q ∷ s ∷ rs) (cond u (c ∷ put_among q b rs y) (b ∷ c ∷ y))
    by true e true f rest =
        let one = less-parts s c q a e in
        let two = less-parts s c q b f in
        subst (λ t. put_among q b (q ∷ t ∷ rs) (c ∷ put_among q a rs y) ≡ put_among q a (q ∷ t ∷ rs) (c ∷ put_among q b rs y)) (sym one.0)
        (rw (less-here q c b two.1, less-here q c a one.1) (ap (λ z. c ∷ z) rest))
    by true e false f rest =
        let one = less-parts s c q a e in
        let most : b ≤ c = at-least s q c b one.0 f in
        rw (less-not q q c b most, less-here q b a (omega (arith, most, one.1)), e) refl
    by false e true f rest =
        let two = less-parts s c q b f in
        let most : a ≤ c = at-least s q c a two.0 e in
        rw (less-not q q c a most, less-here q a b (omega (arith, most, two.1)), f) refl
    by false e false f rest = rw (e, f) (two-first q a b (c ∷ y))

pub gathered-swap : (i : ℕ) (r x : List ℕ) → swap_at i r ≡ r → length x ≡ length r → gathered r (swap_at i x) ≡ gathered r x
gathered-swap i [] [] e l = refl
gathered-swap i [] (a ∷ x) e l = absurd (omega (arith, l))
gathered-swap i (q ∷ rs) [] e l = absurd (omega (arith, l))
gathered-swap zero (q ∷ []) (a ∷ []) e l = refl
gathered-swap zero (q ∷ []) (a ∷ b ∷ x) e l = absurd (omega (arith, l))
gathered-swap zero (q ∷ s ∷ rs) (a ∷ []) e l = absurd (omega (arith, l))
gathered-swap zero (q ∷ s ∷ rs) (a ∷ b ∷ x) e l =
    let same : s ≡ q = cc e in
    let short : length x ≡ length rs = omega (arith, l) in
    subst (λ t. put_among q b (t ∷ rs) (put_among t a rs (gathered rs x)) ≡ put_among q a (t ∷ rs) (put_among t b rs (gathered rs x))) (sym same) (among-turned q a b rs (gathered rs x) (length-gathered rs x ∙ short))
gathered-swap (suc i) (q ∷ rs) (a ∷ x) e l =
    let later : swap_at i rs ≡ rs = cc e in
    ap (put_among q a rs) (gathered-swap i rs x later (omega (arith, l)))
