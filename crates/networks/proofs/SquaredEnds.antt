-- Sums that are not negative: what is said of their ends, added, narrows along arcs to what is said of the last sums, whose squares it tells.
use Rattle.std.proofs.Common.{◌≡◌, ℕ, zero, suc, ◌+◌, ◌-◌, ◌*◌, ◌<◌, ◌≤◌, List, [], ◌∷◌, length, map, refl, sym, ◌∙◌, ap, arith, subst}
use Rattle.std.specs.Prelude.{ℤ, pos, ◌+ℤ◌, ◌≤ℤ◌, nat_abs, replicate}
use Rattle.std.specs.List.{Contains, AllByRecursion, sum, sum_by}
use Rattle.std.proofs.lemmas.Int.{ints}
use Rattle.std.proofs.lemmas.List.Elements.{All-contains, All-from_recursion}
use Rattle.std.proofs.lemmas.List.Sums.{sum_by-cons}
use Rattle.std.proofs.lemmas.List.{length-map}
use Rattle.weights.proofs.Sums.{sum_by-map, sum_by-same}
use Rattle.networks.specs.declared.additive.CentredSquares.{CentredSquares}
use Rattle.networks.specs.Distances.{correction, far_square, near_square, squared}
use Rattle.networks.specs.Network.{IsReached}
use Rattle.networks.specs.PartialSums.{plus, kept}
use Rattle.networks.specs.Addends.{Addends, additive_network, over_earlier, least_sum_to_come, most_sum_to_come, square, summed_ends}
use Rattle.networks.specs.SoundAddends.{AddsBetween, IsAdditive, IsSquared}
use Rattle.networks.proofs.Swaps.{all_kept, sum_by-kept}
use Rattle.networks.proofs.SquaredDistances.{Falls, Rises, from-nought, near-end, one-distance}
use Rattle.networks.proofs.AdditiveKeys.{over_stages-step, over_stages-none, over_stages-some, allowed-before, reached_length, choice_between}

abs-rise : (x y : ℤ) → pos 0 ≤ℤ x → x ≤ℤ y → nat_abs x ≤ nat_abs y
abs-rise x y n h = grind (arith, ints)

-- numbers between two, place by place

abbrev NotNegative : List ℤ → Type 0
NotNegative k = AllByRecursion (λ z. pos 0 ≤ℤ z) k

abbrev Within : ℤ → ℤ → List ℤ → Type 0
Within l u v = AllByRecursion (λ z. (l ≤ℤ z) × (z ≤ℤ u)) v

-- a number, of which a part is no longer to come
low-closer : (l s low x v : ℤ) → low ≡ l +ℤ s → pos 0 ≤ℤ l → pos 0 ≤ℤ s → pos 0 ≤ℤ x → l ≤ℤ v → nat_abs (x +ℤ low) ≤ nat_abs ((x +ℤ v) +ℤ s)
low-closer l s low x v e a b n w = abs-rise (x +ℤ low) ((x +ℤ v) +ℤ s) (omega (arith, ints, e, n, a, b)) (omega (arith, ints, e, w))

high-closer : (l u t high x v : ℤ) → high ≡ u +ℤ t → pos 0 ≤ℤ l → pos 0 ≤ℤ t → pos 0 ≤ℤ x → l ≤ℤ v → v ≤ℤ u → nat_abs ((x +ℤ v) +ℤ t) ≤ nat_abs (x +ℤ high)
high-closer l u t high x v e a b n w up = abs-rise ((x +ℤ v) +ℤ t) (x +ℤ high) (omega (arith, ints, n, w, a, b)) (omega (arith, ints, e, up))

-- a relation of numbers that their sums keep, and what moves by it as two ends draw together
abbrev Adds : (ℕ → ℕ → Type 0) → Type 0
Adds R = R 0 0 × ((m n a b c d : ℕ) → m ≡ a + c → n ≡ b + d → R a b → R c d → R m n)

abbrev Moves : (ℕ → ℕ → Type 0) → (ℕ → ℕ → ℕ) → Type 0
Moves R f = (low high low' high' : ℕ) → low ≤ low' → high' ≤ high → R (f low high) (f low' high')

up-adds : Adds (λ m n. m ≤ n)
up-adds = (omega arith, λ m n a b c d e f h i. omega (arith, e, f, h, i))

down-adds : Adds (λ m n. n ≤ m)
down-adds = (omega arith, λ m n a b c d e f h i. omega (arith, e, f, h, i))

abbrev at-end : (ℕ → ℕ → ℕ) → ℤ → ℤ → ℤ → ℕ
at-end f l h z = f (nat_abs (z +ℤ l)) (nat_abs (z +ℤ h))

module _ (R : ℕ → ℕ → Type 0) (adds : Adds R) (f : ℕ → ℕ → ℕ) (moves : Moves R f) (l u s t low high : ℤ) (from : low ≡ l +ℤ s) (to : high ≡ u +ℤ t) (a : pos 0 ≤ℤ l) (b : pos 0 ≤ℤ s) (c : pos 0 ≤ℤ t) where
  ends-move : (k v : List ℤ) → NotNegative k → Within l u v → length v ≡ length k → R (summed_ends f low high k) (summed_ends f s t (plus k v))
  ends-move [] v n w e = adds.0
  ends-move (x ∷ xs) [] n w e = absurd (omega arith)
  ends-move (x ∷ xs) (v ∷ vs) n w e =
      let here = moves _ _ _ _ (low-closer l s low x v from a b n.0 w.0.0) (high-closer l u t high x v to a c n.0 w.0.0 w.0.1) in
      adds.1 _ _ _ _ _ _ (sum_by-cons (at-end f low high) x xs) (sum_by-cons (at-end f s t) (x +ℤ v) (plus xs vs)) here (ends-move xs vs n.1 w.1 (omega arith))

plus-not_negative : (l u : ℤ) (k v : List ℤ) → pos 0 ≤ℤ l → NotNegative k → Within l u v → NotNegative (plus k v)
plus-not_negative l u [] v a n w = tt
plus-not_negative l u (x ∷ xs) [] a n w = n
plus-not_negative l u (x ∷ xs) (v ∷ vs) a n w = (omega (arith, ints, n.0, w.0.0, a), plus-not_negative l u xs vs a n.1 w.1)

zeros-not_negative : (n : ℕ) → NotNegative (replicate n (pos 0))
zeros-not_negative zero = tt
zeros-not_negative (suc n) = (omega (arith, ints), zeros-not_negative n)

-- raised by nothing
pub unraised : (f : ℕ → ℕ → ℕ) (k : List ℤ) → summed_ends f (pos 0) (pos 0) k ≡ sum_by (λ t. f t t) (map nat_abs k)
unraised f k =
    let none : (z : ℤ) → z +ℤ pos 0 ≡ z = λ z. omega (arith, ints) in
    sum_by-same (at-end f (pos 0) (pos 0)) (λ z. f (nat_abs z) (nat_abs z)) (λ z. ap (λ y. f (nat_abs y) (nat_abs y)) (none z)) k ∙ sym (sum_by-map (λ t. f t t) nat_abs k)

-- and seen from nought
pub from-zero : (k : List ℤ) → summed_ends (near_square 0) (pos 0) (pos 0) k ≡ sum_by square k
from-zero k = unraised (near_square 0) k ∙ sum_by-same (λ t. near_square 0 t t) squared from-nought (map nat_abs k) ∙ sum_by-map squared nat_abs k

-- squares add up to at most the square of the sum
squares-≤-square : (k : List ℤ) → sum_by square k ≤ sum_by nat_abs k * sum_by nat_abs k
squares-≤-square [] = omega arith
squares-≤-square (x ∷ xs) = rw (sum_by-cons square x xs, sum_by-cons nat_abs x xs) (bigger (nat_abs x) (sum_by nat_abs xs) (sum_by square xs) (squares-≤-square xs))
  where
    bigger : (a m s : ℕ) → s ≤ m * m → a * a + s ≤ (a + m) * (a + m)
    bigger a m s h = omega (arith, h)

magnitude-plus : (l u : ℤ) (k v : List ℤ) → pos 0 ≤ℤ l → NotNegative k → Within l u v → length v ≡ length k → sum_by nat_abs (plus k v) ≡ sum_by nat_abs k + sum_by nat_abs v
magnitude-plus l u [] [] a n w e = refl
magnitude-plus l u [] (v ∷ vs) a n w e = absurd (omega arith)
magnitude-plus l u (x ∷ xs) [] a n w e = absurd (omega arith)
magnitude-plus l u (x ∷ xs) (v ∷ vs) a n w e =
    let both : nat_abs (x +ℤ v) ≡ nat_abs x + nat_abs v = added x v n.0 (omega (arith, ints, w.0.0, a)) in
    omega (arith, both, sum_by-cons nat_abs (x +ℤ v) (plus xs vs), sum_by-cons nat_abs x xs, sum_by-cons nat_abs v vs, magnitude-plus l u xs vs a n.1 w.1 (omega arith))
  where
    added : (x v : ℤ) → pos 0 ≤ℤ x → pos 0 ≤ℤ v → nat_abs (x +ℤ v) ≡ nat_abs x + nat_abs v
    added x v h i = grind (arith, ints, h, i)

magnitude-zeros : (n : ℕ) → sum_by nat_abs (replicate n (pos 0)) ≡ 0
magnitude-zeros zero = refl
magnitude-zeros (suc n) = sum_by-cons nat_abs (pos 0) (replicate n (pos 0)) ∙ ap (λ m. 0 + m) (magnitude-zeros n)

module _ (a : Addends) (s : IsAdditive a) (squares : CentredSquares) (q : IsSquared a squares) where
  reached-not_negative : (g : ℕ) (k : List ℤ) → IsReached (additive_network a) g k → NotNegative k
  reached-not_negative zero k r = subst NotNegative (sym r) (zeros-not_negative a.slots)
  reached-not_negative (suc g) k (j, c, r, before, allowed, e) =
      subst NotNegative (sym e) (all_kept (λ z. pos 0 ≤ℤ z) a.sorted (plus j (a.adds g c)) (plus-not_negative (a.least g) (a.most g) j (a.adds g c) (q.least_some g before) (reached-not_negative g j r) (choice_between a s g j c before allowed).between))

  reached-magnitude : (g : ℕ) (k : List ℤ) → IsReached (additive_network a) g k → sum_by nat_abs k ≡ over_earlier q.each g
  reached-magnitude zero k r = ap (sum_by nat_abs) r ∙ magnitude-zeros a.slots
  reached-magnitude (suc g) k (j, c, r, before, allowed, e) =
      let w : AddsBetween a g c = choice_between a s g j c before allowed in
      let here : sum_by nat_abs (a.adds g c) ≡ q.each g = All-contains (λ d. sum_by nat_abs (a.adds g d) ≡ q.each g) (a.choices g) c (All-from_recursion _ _ (q.alike g before)) (allowed-before a g j c before allowed) in
      ap (sum_by nat_abs) e
      ∙ sum_by-kept nat_abs a.sorted (plus j (a.adds g c))
      ∙ magnitude-plus (a.least g) (a.most g) j (a.adds g c) (q.least_some g before) (reached-not_negative g j r) w.between (w.wide ∙ sym (reached_length a g j r))
      ∙ ap (λ m. m + sum_by nat_abs (a.adds g c)) (reached-magnitude g j r)
      ∙ ap (λ m. over_earlier q.each g + m) here

  pub squares_bounded : (k : List ℤ) → IsReached (additive_network a) a.count k → sum_by square k ≤ squares.bound
  squares_bounded k r = omega (arith, squares-≤-square k, ap (λ m. m * m) (reached-magnitude a.count k r), q.bounded)

  module _ (f : ℕ → ℕ → ℕ) (g : ℕ) (k : List ℤ) (c : List ℕ) (r : IsReached (additive_network a) g k) (h : g < a.count) (m : Contains ((additive_network a).choices g k) c) where
    ends_move : (R : ℕ → ℕ → Type 0) → Adds R → Moves R f → R (summed_ends f (least_sum_to_come a g) (most_sum_to_come a g) k) (summed_ends f (least_sum_to_come a (g + 1)) (most_sum_to_come a (g + 1)) (kept a.sorted (plus k (a.adds g c))))
    ends_move R adds moves =
        let onward : AddsBetween a g c = choice_between a s g k c h m in
        let least : pos 0 ≤ℤ least_sum_to_come a (g + 1) = over_stages-some a.least a.count q.least_some (a.count - (g + 1)) (g + 1) (omega arith) in
        let most : pos 0 ≤ℤ most_sum_to_come a (g + 1) = over_stages-some a.most a.count q.most_some (a.count - (g + 1)) (g + 1) (omega arith) in
        let step = ends-move R adds f moves (a.least g) (a.most g) (least_sum_to_come a (g + 1)) (most_sum_to_come a (g + 1)) (least_sum_to_come a g) (most_sum_to_come a g) (over_stages-step a.least a.count g h) (over_stages-step a.most a.count g h) (q.least_some g h) least most k (a.adds g c) (reached-not_negative g k r) onward.between (onward.wide ∙ sym (reached_length a g k r)) in
        subst (R _) (sym (sum_by-kept (at-end f (least_sum_to_come a (g + 1)) (most_sum_to_come a (g + 1))) a.sorted (plus k (a.adds g c)))) step

    pub ends_rise : Rises f → summed_ends f (least_sum_to_come a g) (most_sum_to_come a g) k ≤ summed_ends f (least_sum_to_come a (g + 1)) (most_sum_to_come a (g + 1)) (kept a.sorted (plus k (a.adds g c)))
    ends_rise = ends_move (λ m n. m ≤ n) up-adds

    pub ends_fall : Falls f → summed_ends f (least_sum_to_come a (g + 1)) (most_sum_to_come a (g + 1)) (kept a.sorted (plus k (a.adds g c))) ≤ summed_ends f (least_sum_to_come a g) (most_sum_to_come a g) k
    ends_fall = ends_move (λ m n. n ≤ m) down-adds

  -- at the last stage nothing is to come
  nothing-left : (f : ℕ → ℕ → ℕ) (k : List ℤ) → summed_ends f (least_sum_to_come a a.count) (most_sum_to_come a a.count) k ≡ sum_by (λ t. f t t) (map nat_abs k)
  nothing-left f k = ap (λ d. summed_ends f d (most_sum_to_come a a.count) k) (over_stages-none a.least a.count) ∙ ap (λ d. summed_ends f (pos 0) d k) (over_stages-none a.most a.count) ∙ unraised f k

  module _ (k : List ℤ) (r : IsReached (additive_network a) a.count k) where
    last-long : length (map nat_abs k) ≡ a.slots
    last-long = length-map k nat_abs ∙ reached_length a a.count k r

    last-total : sum (map nat_abs k) ≡ over_earlier q.each a.count
    last-total = sum_by-map (λ n. n) nat_abs k ∙ reached-magnitude a.count k r

    at-last : (f : ℕ → ℕ → ℕ) → ((n : ℕ) → f n n ≡ near_square squares.centre n n) → squares.beside + summed_ends f (least_sum_to_come a a.count) (most_sum_to_come a a.count) k ≡ sum_by square k
    at-last f same =
        ap (λ n. n + summed_ends f (least_sum_to_come a a.count) (most_sum_to_come a a.count) k) q.beside_is
        ∙ ap (λ n. correction a.slots squares.centre (over_earlier q.each a.count) + n) (nothing-left f k ∙ sum_by-same (λ n. f n n) (λ n. near_square squares.centre n n) same (map nat_abs k))
        ∙ near-end a.slots squares.centre (over_earlier q.each a.count) (map nat_abs k) q.within last-long last-total
        ∙ sum_by-map squared nat_abs k

    pub near_at_end : squares.beside + summed_ends (near_square squares.centre) (least_sum_to_come a a.count) (most_sum_to_come a a.count) k ≡ sum_by square k
    near_at_end = at-last (near_square squares.centre) (λ n. refl)

    pub far_at_end : squares.beside + summed_ends (far_square squares.centre) (least_sum_to_come a a.count) (most_sum_to_come a a.count) k ≡ sum_by square k
    far_at_end = at-last (far_square squares.centre) (one-distance squares.centre)
