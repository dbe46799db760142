-- Sums over draws: by parts, moved, and in any order of the subjects.
use Rattle.std.proofs.Common.{◌≡◌, ℕ, zero, suc, ◌+◌, ◌<◌, ◌≤◌, List, [], ◌∷◌, ◌++◌, length, get_or, set, swap, refl, ◌∙◌, ap, arith}
use Rattle.std.specs.Prelude.{ℤ, ◌+ℤ◌, IsPermutation}
use Rattle.std.proofs.lemmas.Int.{ints}
use Rattle.std.proofs.lemmas.List.Sorted.{IsPermutation-keeps}
use Rattle.score_convolution.specs.Draws.{draw_sum}

both : {a b c d : ℕ} → a ≡ c → b ≡ d → a + b ≡ c + d
both e h = rw (e, h) refl

pub draw-same : (f g : ℕ → ℤ → ℕ) → ((n : ℕ) (v : ℤ) → f n v ≡ g n v) → (n : ℕ) (v : ℤ) (scores : List ℤ) → draw_sum f n v scores ≡ draw_sum g n v scores
draw-same f g e n v [] = e n v
draw-same f g e n v (s ∷ scores) = both (draw-same f g e n v scores) (draw-same f g e (n + 1) (v +ℤ s) scores)

pub draw-plus : (f g : ℕ → ℤ → ℕ) (n : ℕ) (v : ℤ) (scores : List ℤ) → draw_sum (λ m u. f m u + g m u) n v scores ≡ draw_sum f n v scores + draw_sum g n v scores
draw-plus f g n v [] = refl
draw-plus f g n v (s ∷ scores) = omega (arith, draw-plus f g n v scores, draw-plus f g (n + 1) (v +ℤ s) scores)

-- others that are drawn already
pub draw-moved : (f : ℕ → ℤ → ℕ) (m : ℕ) (u : ℤ) (n : ℕ) (v : ℤ) (scores : List ℤ) → draw_sum f (n + m) (u +ℤ v) scores ≡ draw_sum (λ k w. f (k + m) (u +ℤ w)) n v scores
draw-moved f m u n v [] = refl
draw-moved f m u n v (s ∷ scores) =
    let one : (n + m) + 1 ≡ (n + 1) + m = omega arith in
    let sum : (u +ℤ v) +ℤ s ≡ u +ℤ (v +ℤ s) = omega (arith, ints) in
    both (draw-moved f m u n v scores) (ap (λ k. draw_sum f k ((u +ℤ v) +ℤ s) scores) one ∙ ap (λ w. draw_sum f ((n + 1) + m) w scores) sum ∙ draw-moved f m u (n + 1) (v +ℤ s) scores)

-- first some of the subjects, then the others
pub draw-parts : (f : ℕ → ℤ → ℕ) (n : ℕ) (v : ℤ) (xs ys : List ℤ) → draw_sum f n v (xs ++ ys) ≡ draw_sum (λ m u. draw_sum f m u ys) n v xs
draw-parts f n v [] ys = refl
draw-parts f n v (x ∷ xs) ys = both (draw-parts f n v xs ys) (draw-parts f (n + 1) (v +ℤ x) xs ys)

-- what says nothing of the numbers that can be drawn
pub draw-none : (f : ℕ → ℤ → ℕ) (n : ℕ) (v : ℤ) (scores : List ℤ) → ((m : ℕ) (u : ℤ) → n ≤ m → m ≤ n + length scores → f m u ≡ 0) → draw_sum f n v scores ≡ 0
draw-none f n v [] none = none n v (omega arith) (omega arith)
draw-none f n v (s ∷ scores) none = omega (
  arith,
  draw-none f n v scores (λ m u a b. none m u a (omega (arith, b))),
  draw-none f (n + 1) (v +ℤ s) scores (λ m u a b. none m u (omega (arith, a)) (omega (arith, b))),
)

-- ---- in any order

adjacent : (f : ℕ → ℤ → ℕ) (n : ℕ) (v a b : ℤ) (l : List ℤ) → draw_sum f n v (a ∷ b ∷ l) ≡ draw_sum f n v (b ∷ a ∷ l)
adjacent f n v a b l =
    let sum : (v +ℤ a) +ℤ b ≡ (v +ℤ b) +ℤ a = omega (arith, ints) in
    omega (arith, ap (λ w. draw_sum f ((n + 1) + 1) w l) sum)

behind : (f : ℕ → ℤ → ℕ) (a : ℤ) (xs ys : List ℤ) → ((n : ℕ) (v : ℤ) → draw_sum f n v xs ≡ draw_sum f n v ys) → (n : ℕ) (v : ℤ) → draw_sum f n v (a ∷ xs) ≡ draw_sum f n v (a ∷ ys)
behind f a xs ys e n v = both (e n v) (e (n + 1) (v +ℤ a))

exchanged : (f : ℕ → ℤ → ℕ) (x d : ℤ) (l : List ℤ) (j : ℕ) → j < length l → (n : ℕ) (v : ℤ) → draw_sum f n v (get_or l j d ∷ set l j x) ≡ draw_sum f n v (x ∷ l)
exchanged f x d [] j h n v = absurd (omega (arith, h))
exchanged f x d (y ∷ l) zero h n v = adjacent f n v y x l
exchanged f x d (y ∷ l) (suc j) h n v =
    adjacent f n v (get_or l j d) y (set l j x)
    ∙ behind f y (get_or l j d ∷ set l j x) (x ∷ l) (exchanged f x d l j (omega (arith, h))) n v
    ∙ adjacent f n v y x l

swapped : (f : ℕ → ℤ → ℕ) (d : ℤ) (l : List ℤ) (i j : ℕ) → i < length l → j < length l → (n : ℕ) (v : ℤ) → draw_sum f n v (set (set l i (get_or l j d)) j (get_or l i d)) ≡ draw_sum f n v l
swapped f d [] i j h k n v = absurd (omega (arith, h))
swapped f d (x ∷ l) zero zero h k n v = refl
swapped f d (x ∷ l) zero (suc j) h k n v = exchanged f x d l j (omega (arith, k)) n v
swapped f d (x ∷ l) (suc i) zero h k n v = exchanged f x d l i (omega (arith, h)) n v
swapped f d (x ∷ l) (suc i) (suc j) h k n v = behind f x (set (set l i (get_or l j d)) j (get_or l i d)) l (swapped f d l i j (omega (arith, h)) (omega (arith, k))) n v

pub draw-order : (f : ℕ → ℤ → ℕ) (xs ys : List ℤ) → IsPermutation xs ys → (n : ℕ) (v : ℤ) → draw_sum f n v ys ≡ draw_sum f n v xs
draw-order f xs ys moved = IsPermutation-keeps xs (λ l. (n : ℕ) (v : ℤ) → draw_sum f n v l ≡ draw_sum f n v xs) (λ n v. refl) step ys moved
  where
    step : (l : List ℤ) (i j : ℕ) → i < length l → j < length l → ((n : ℕ) (v : ℤ) → draw_sum f n v l ≡ draw_sum f n v xs) → (n : ℕ) (v : ℤ) → draw_sum f n v (swap l i j) ≡ draw_sum f n v xs
    step [] i j h k e n v = absurd (omega (arith, h))
    step (d ∷ l) i j h k e n v = swapped f d (d ∷ l) i j h k n v ∙ e n v
