-- Two neighbouring rows may change places: the choices for a column change theirs alike.
use Rattle.std.proofs.Common.{◌≡◌, ℕ, zero, suc, ◌+◌, ◌-◌, ◌*◌, ◌<◌, ◌≤◌, List, [], ◌∷◌, length, min, Bool, true, false, cond, refl, sym, ◌∙◌, ap, subst, arith, nat_eq, nat_le, inl, inr, ◌&&◌}
use Rattle.std.proofs.Math.Nat.{mul_left_comm}
use Rattle.std.specs.List.{sum_by, range_with_len, Contains}
use Rattle.std.specs.Cmp.Lexicographic.{pointwise}
use Rattle.std.proofs.lemmas.List.Sums.{sum_by-cons}
use Rattle.std.proofs.lemmas.Bool.Decides.{leb_tells}
use Rattle.std.proofs.lemmas.Bool.{eqb-true, le-leb}
use borrow.Author.Tests.{lt-leb}
use Rattle.weights.specs.Grouped.{choices, minus}
use Rattle.weights.specs.Labellings.{number_of_labellings}
use Rattle.weights.proofs.Members.{Contains-cons, Contains-here, Contains-later, same_refl}
use Rattle.weights.proofs.Sums.{sum_by-same, sum_by-cond, sum_by-swap, sum_by-fronts}
use Rattle.networks.proofs.Swaps.{swap_at}
use Rattle.completion_bounds.proofs.Factorials.{factorial, factorials, total, weight-falls}

-- sums over a range that is cut short

past_none : (f : ℕ → ℕ) (b s n : ℕ) → b < s → sum_by (λ a. cond (nat_le a b) (f a) 0) (range_with_len s n) ≡ 0
past_none f b s zero h = refl
past_none f b s (suc n) h = rw (sum_by-cons (λ a. cond (nat_le a b) (f a) 0) s (range_with_len (s + 1) n), lt-leb s b h, past_none f b (s + 1) n (omega (arith, h))) refl

cut_short : (f : ℕ → ℕ) (b s m n : ℕ) → s + m ≡ b + 1 → m ≤ n → sum_by (λ a. cond (nat_le a b) (f a) 0) (range_with_len s n) ≡ sum_by f (range_with_len s m)
cut_short f b s zero n e l = past_none f b s n (omega arith)
cut_short f b s (suc m) zero e l = absurd (omega arith)
cut_short f b s (suc m) (suc n) e l =
    rw (sum_by-cons (λ a. cond (nat_le a b) (f a) 0) s (range_with_len (s + 1) n), sum_by-cons f s (range_with_len (s + 1) m), le-leb s b (omega arith), cut_short f b (s + 1) m n (omega arith) (omega arith)) refl

-- the first b + 1 numbers among the first n + 1
up_to : (f : ℕ → ℕ) (b n : ℕ) → b ≤ n → sum_by f (range_with_len 0 (b + 1)) ≡ sum_by (λ a. cond (nat_le a b) (f a) 0) (range_with_len 0 (n + 1))
up_to f b n h = sym (cut_short f b 0 (b + 1) (n + 1) (omega arith) (omega arith))

-- the two tests of a pair in one order are those in the other
none_here : (c a b r q x : ℕ) → (a ≤ min c r → b ≤ min (c - a) q → ⊥) → cond (nat_le a (min c r)) (cond (nat_le b (min (c - a) q)) x 0) 0 ≡ 0
none_here c a b r q x h = elim (leb_tells a (min c r)) [
  | inl u ↦ elim (leb_tells b (min (c - a) q)) [
    | inl v ↦ absurd (h u.1 v.1)
    | inr v ↦ rw (u.0, v.0) refl
  ]
  | inr u ↦ rw u.0 refl
]

both_orders : (c a b r q x : ℕ) → cond (nat_le b (min c q)) (cond (nat_le a (min (c - b) r)) x 0) 0 ≡ cond (nat_le a (min c r)) (cond (nat_le b (min (c - a) q)) x 0) 0
both_orders c a b r q x = elim (leb_tells b (min c q)) [
  | inl u ↦ elim (leb_tells a (min (c - b) r)) [
    | inl v ↦ rw (u.0, v.0, le-leb a (min c r) (omega (arith, u.1, v.1)), le-leb b (min (c - a) q) (omega (arith, u.1, v.1))) refl
    | inr v ↦ rw (u.0, v.0) (sym (none_here c a b r q x (λ s t. omega (arith, u.1, v.1, s, t))))
  ]
  | inr u ↦ rw u.0 (sym (none_here c a b r q x (λ s t. omega (arith, u.1, s, t))))
]

abbrev pub pairs : ℕ → ℕ → ℕ → (ℕ → ℕ → ℕ) → ℕ
pairs c r q f = sum_by (λ a. sum_by (λ b. f a b) (range_with_len 0 (min (c - a) q + 1))) (range_with_len 0 (min c r + 1))

pairs-wide : (c r q : ℕ) (f : ℕ → ℕ → ℕ) → pairs c r q f ≡ sum_by (λ a. sum_by (λ b. cond (nat_le a (min c r)) (cond (nat_le b (min (c - a) q)) (f a b) 0) 0) (range_with_len 0 (c + 1))) (range_with_len 0 (c + 1))
pairs-wide c r q f =
    up_to (λ a. sum_by (λ b. f a b) (range_with_len 0 (min (c - a) q + 1))) (min c r) c (omega arith)
    ∙ sum_by-same _ _ (λ a.
    ap (λ s. cond (nat_le a (min c r)) s 0) (up_to (λ b. f a b) (min (c - a) q) c (omega arith))
    ∙ sym (sum_by-cond (nat_le a (min c r)) (λ b. cond (nat_le b (min (c - a) q)) (f a b) 0) (range_with_len 0 (c + 1)))) (range_with_len 0 (c + 1))

pub pairs-turned : (c r q : ℕ) (f : ℕ → ℕ → ℕ) → pairs c q r (λ b a. f a b) ≡ pairs c r q f
pairs-turned c r q f =
    pairs-wide c q r (λ b a. f a b)
    ∙ sum_by-swap (λ b a. cond (nat_le b (min c q)) (cond (nat_le a (min (c - b) r)) (f a b) 0) 0) (range_with_len 0 (c + 1)) (range_with_len 0 (c + 1))
    ∙ sum_by-same _ _ (λ a. sum_by-same _ _ (λ b. both_orders c a b r q (f a b)) (range_with_len 0 (c + 1))) (range_with_len 0 (c + 1))
    ∙ sym (pairs-wide c r q f)

-- the choices for two rows and more, by what the first two get
by_two : (f : List ℕ → ℕ) (c r q : ℕ) (rs : List ℕ) → sum_by f (choices c (r ∷ q ∷ rs)) ≡ pairs c r q (λ a b. sum_by (λ x. f (a ∷ b ∷ x)) (choices ((c - a) - b) rs))
by_two f c r q rs =
    sum_by-fronts f (λ a. a) (λ a. choices (c - a) (q ∷ rs)) (range_with_len 0 (min c r + 1))
    ∙ sum_by-same _ _ (λ a. sum_by-fronts (λ x. f (a ∷ x)) (λ b. b) (λ b. choices ((c - a) - b) rs) (range_with_len 0 (min (c - a) q + 1))) (range_with_len 0 (min c r + 1))

left_over : (c a b : ℕ) → (c - b) - a ≡ (c - a) - b
left_over c a b = omega arith

pub swapped_choices : (f : List ℕ → ℕ) (i c : ℕ) (r : List ℕ) → sum_by f (choices c (swap_at i r)) ≡ sum_by (λ x. f (swap_at i x)) (choices c r)
swapped_choices f i c [] = by (nat_eq c 0)
  where
    by : (b : Bool) → sum_by f (cond b ([] ∷ []) []) ≡ sum_by (λ x. f (swap_at i x)) (cond b ([] ∷ []) [])
    by true = refl
    by false = refl
swapped_choices f zero c (r ∷ []) =
    sum_by-fronts f (λ a. a) (λ a. choices (c - a) []) (range_with_len 0 (min c r + 1))
    ∙ sum_by-same _ _ (λ a. by a (nat_eq (c - a) 0)) (range_with_len 0 (min c r + 1))
    ∙ sym (sum_by-fronts (λ x. f (swap_at zero x)) (λ a. a) (λ a. choices (c - a) []) (range_with_len 0 (min c r + 1)))
  where
    by : (a : ℕ) (b : Bool) → sum_by (λ x. f (a ∷ x)) (cond b ([] ∷ []) []) ≡ sum_by (λ x. f (swap_at zero (a ∷ x))) (cond b ([] ∷ []) [])
    by a true = refl
    by a false = refl
swapped_choices f zero c (r ∷ q ∷ rs) =
    by_two f c q r rs
    ∙ sum_by-same _ _ (λ b. sum_by-same _ _ (λ a. ap (λ n. sum_by (λ x. f (b ∷ a ∷ x)) (choices n rs)) (left_over c a b)) (range_with_len 0 (min (c - b) r + 1))) (range_with_len 0 (min c q + 1))
    ∙ pairs-turned c r q (λ a b. sum_by (λ x. f (b ∷ a ∷ x)) (choices ((c - a) - b) rs))
    ∙ sym (by_two (λ x. f (swap_at zero x)) c r q rs)
swapped_choices f (suc i) c (r ∷ rs) =
    sum_by-fronts f (λ a. a) (λ a. choices (c - a) (swap_at i rs)) (range_with_len 0 (min c r + 1))
    ∙ sum_by-same _ _ (λ a. swapped_choices (λ x. f (a ∷ x)) i (c - a) rs) (range_with_len 0 (min c r + 1))
    ∙ sym (sum_by-fronts (λ x. f (swap_at (suc i) x)) (λ a. a) (λ a. choices (c - a) rs) (range_with_len 0 (min c r + 1)))

-- what remains, and how many labellings there are

pub minus-swap : (i : ℕ) (r x : List ℕ) → length x ≡ length r → minus (swap_at i r) (swap_at i x) ≡ swap_at i (minus r x)
minus-swap i [] x e = refl
minus-swap i (r ∷ rs) [] e = absurd (omega arith)
minus-swap zero (r ∷ []) (a ∷ []) e = refl
minus-swap zero (r ∷ []) (a ∷ b ∷ x) e = absurd (omega arith)
minus-swap zero (r ∷ q ∷ rs) (a ∷ []) e = absurd (omega arith)
minus-swap zero (r ∷ q ∷ rs) (a ∷ b ∷ x) e = refl
minus-swap (suc i) (r ∷ rs) (a ∷ x) e = ap (λ s. (r - a) ∷ s) (minus-swap i rs x (omega arith))

pub factorials-swap : (i : ℕ) (x : List ℕ) → factorials (swap_at i x) ≡ factorials x
factorials-swap i [] = refl
factorials-swap zero (a ∷ []) = refl
factorials-swap zero (a ∷ b ∷ x) = mul_left_comm (factorial b) (factorial a) (factorials x)
factorials-swap (suc i) (a ∷ x) = ap (λ n. factorial a * n) (factorials-swap i x)

pub total-swap : (i : ℕ) (x : List ℕ) → total (swap_at i x) ≡ total x
total-swap i [] = refl
total-swap zero (a ∷ []) = refl
total-swap zero (a ∷ b ∷ x) = omega arith
total-swap (suc i) (a ∷ x) = ap (λ n. a + n) (total-swap i x)

pub labellings-swap : (i : ℕ) (x : List ℕ) → number_of_labellings (swap_at i x) ≡ number_of_labellings x
labellings-swap i x =
    let one : number_of_labellings (swap_at i x) ≤ number_of_labellings x = weight-falls x (swap_at i x) (sym (total-swap i x)) (omega (arith, factorials-swap i x)) in
    let two : number_of_labellings x ≤ number_of_labellings (swap_at i x) = weight-falls (swap_at i x) x (total-swap i x) (omega (arith, factorials-swap i x)) in
    omega (arith, one, two)

-- a choice whose neighbours change places is a choice of the others

same_lists : (x y : List ℕ) → pointwise nat_eq x y ≡ true → x ≡ y
same_lists [] [] e = refl
same_lists [] (b ∷ y) e = absurd (cc e)
same_lists (a ∷ x) [] e = absurd (cc e)
same_lists (a ∷ x) (b ∷ y) e = by (nat_eq a b) refl (pointwise nat_eq x y) refl e (same_lists x y)
  where
    by : (p : Bool) → nat_eq a b ≡ p → (q : Bool) → pointwise nat_eq x y ≡ q → (p && q) ≡ true → (pointwise nat_eq x y ≡ true → x ≡ y) → a ∷ x ≡ b ∷ y
    by true s true t e rest = (let here : a ≡ b = eqb-true a b s in ap (λ k. k ∷ x) here ∙ ap (λ xs. b ∷ xs) (rest t))
    by true s false t e rest = absurd (cc e)
    by false s q t e rest = absurd (cc e)

abbrev told : List ℕ → List ℕ → ℕ
told x y = cond (pointwise nat_eq x y) 1 0

told-least : (f : List ℕ → ℕ) (x : List ℕ) (xs : List (List ℕ)) → Contains xs x → f x ≤ sum_by f xs
told-least f x [] (i, below, is) = absurd (omega (arith, below))
told-least f x (y ∷ xs) c = elim (Contains-cons y x xs c) [
  | inl e ↦ rw (sum_by-cons f y xs, e) (omega arith)
  | inr later ↦ rw (sum_by-cons f y xs) (omega (arith, told-least f x xs later))
]

told-member : (x : List ℕ) (xs : List (List ℕ)) → 1 ≤ sum_by (told x) xs → Contains xs x
told-member x [] h = absurd (omega (arith, h))
told-member x (y ∷ xs) h = by (pointwise nat_eq x y) refl (subst (λ s. 1 ≤ s) (sum_by-cons (told x) y xs) h) (told-member x xs)
  where
    by : (b : Bool) → pointwise nat_eq x y ≡ b → 1 ≤ cond b 1 0 + sum_by (told x) xs → (1 ≤ sum_by (told x) xs → Contains xs x) → Contains (y ∷ xs) x
    by true e h rest = Contains-here y x xs (sym (same_lists x y e))
    by false e h rest = Contains-later y x xs (rest (omega (arith, h)))

pub swapped_member : (i c : ℕ) (r x : List ℕ) → Contains (choices c r) x → Contains (choices c (swap_at i r)) (swap_at i x)
swapped_member i c r x o =
    let one : told (swap_at i x) (swap_at i x) ≡ 1 = ap (λ b. cond b 1 0) (same_refl (swap_at i x)) in
    let some : told (swap_at i x) (swap_at i x) ≤ sum_by (λ y. told (swap_at i x) (swap_at i y)) (choices c r) = told-least (λ y. told (swap_at i x) (swap_at i y)) x (choices c r) o in
    told-member (swap_at i x) (choices c (swap_at i r)) (omega (arith, one, some, swapped_choices (told (swap_at i x)) i c r))
