-- A table's statistic is the same whichever order its rows are taken in.
use Rattle.std.proofs.Common.{◌≡◌, ℕ, zero, suc, ◌+◌, ◌-◌, ◌*◌, List, [], ◌∷◌, length, get_or, map, true, refl, ◌∙◌, ap, sym, arith, nat_le, le-leb}
use Rattle.std.specs.Prelude.{ℤ, pos, negsuc, ◌+ℤ◌, ◌*ℤ◌}
use Rattle.std.specs.List.{sum, sum_by, range_with_len}
use Rattle.std.proofs.Math.IntN.{pos-*ℤ-pos}
use Rattle.std.proofs.lemmas.Int.{ints}
use Rattle.std.proofs.lemmas.List.{ext_get_or}
use Rattle.std.proofs.lemmas.List.FromFn.{get_or-map-range_with_len, length-map-range_with_len}
use Rattle.std.proofs.lemmas.List.Sums.{sum_by-cons, sum-map}
use Rattle.weights.specs.Grouped.{minus, fits}
use Rattle.weights.proofs.Sized.{first_and}
use Rattle.completion_bounds.proofs.Products.{distribute}
use Rattle.label_network.specs.Linear.{row_sum, score_of}
use Rattle.label_network.specs.LinearSteps.{picked, picked_scores}
use Rattle.label_network.proofs.Rows.{get-within}

pub get-minus : (r x : List ℕ) (i : ℕ) → fits x r ≡ true → get_or (minus r x) i 0 ≡ get_or r i 0 - get_or x i 0
get-minus [] [] i f = refl
get-minus [] (a ∷ x) i f = absurd (cc f)
get-minus (r ∷ rs) [] i f = absurd (cc f)
get-minus (r ∷ rs) (a ∷ x) zero f = refl
get-minus (r ∷ rs) (a ∷ x) (suc i) f = get-minus rs x i (first_and (nat_le a r) (fits x rs) f).1

pub picked-minus : (order r x : List ℕ) → fits x r ≡ true → picked order (minus r x) ≡ minus (picked order r) (picked order x)
picked-minus [] r x f = refl
picked-minus (i ∷ order) r x f = rw (get-minus r x i f, picked-minus order r x f) refl

pub picked-fits : (order r x : List ℕ) → fits x r ≡ true → fits (picked order x) (picked order r) ≡ true
picked-fits [] r x f = refl
picked-fits (i ∷ order) r x f = rw (le-leb (get_or x i 0) (get_or r i 0) (get-within r x i f), picked-fits order r x f) refl

-- all rows in their own order
in_place : (xs : List ℕ) → map (λ i. get_or xs i 0) (range_with_len 0 (length xs)) ≡ xs
in_place xs = ext_get_or 0 _ xs (length-map-range_with_len (λ i. get_or xs i 0) 0 (length xs)) (λ i h. get_or-map-range_with_len (λ i. get_or xs i 0) 0 (length xs) i i 0 (omega (arith, h, length-map-range_with_len (λ i. get_or xs i 0) 0 (length xs))) (omega arith))

scores_in_place : (us : List ℤ) → map (λ i. score_of us i) (range_with_len 0 (length us)) ≡ us
scores_in_place us = ext_get_or (pos 0) _ us (length-map-range_with_len (λ i. score_of us i) 0 (length us)) (λ i h. get_or-map-range_with_len (λ i. score_of us i) 0 (length us) i i (pos 0) (omega (arith, h, length-map-range_with_len (λ i. score_of us i) 0 (length us))) (omega arith))

-- each place once
abbrev pub IsEach : ℕ → List ℕ → Type 0
IsEach n order = (f : ℕ → ℕ) → sum_by f order ≡ sum_by f (range_with_len 0 n)

pub picked-sum : (n : ℕ) (order xs : List ℕ) → IsEach n order → length xs ≡ n → sum (picked order xs) ≡ sum xs
picked-sum n order xs h e =
    sum-map (λ i. get_or xs i 0) order
    ∙ h (λ i. get_or xs i 0)
    ∙ sym (sum-map (λ i. get_or xs i 0) (range_with_len 0 n))
    ∙ rw (← e) (ap sum (in_place xs))

-- the parts of a score above and below 0
abbrev up : ℤ → ℕ
up (pos a) = a
up (negsuc a) = 0

abbrev down : ℤ → ℕ
down (pos a) = 0
down (negsuc a) = suc a

abbrev pub weighed : (ℤ → ℕ) → List ℤ → List ℕ → ℕ
weighed f [] xs = 0
weighed f (u ∷ us) [] = 0
weighed f (u ∷ us) (x ∷ xs) = x * f u + weighed f us xs

apart : (u : ℤ) → u +ℤ pos (down u) ≡ pos (up u)
apart (pos a) = omega (arith, ints)
apart (negsuc a) = omega (arith, ints)

in-parts : (us : List ℤ) (xs : List ℕ) → row_sum us xs +ℤ pos (weighed down us xs) ≡ pos (weighed up us xs)
in-parts [] xs = refl
in-parts (u ∷ us) [] = refl
in-parts (u ∷ us) (x ∷ xs) =
    omega (arith, ints, (sym (ap (λ n. (pos x *ℤ u) +ℤ n) (pos-*ℤ-pos x (down u))) ∙ sym (distribute (pos x) u (pos (down u))) ∙ ap (λ n. pos x *ℤ n) (apart u) ∙ pos-*ℤ-pos x (up u)), in-parts us xs)

weighed-picked : (f : ℤ → ℕ) (order : List ℕ) (us : List ℤ) (xs : List ℕ) → weighed f (picked_scores order us) (picked order xs) ≡ sum_by (λ i. get_or xs i 0 * f (score_of us i)) order
weighed-picked f [] us xs = refl
weighed-picked f (i ∷ order) us xs = ap (λ n. get_or xs i 0 * f (score_of us i) + n) (weighed-picked f order us xs) ∙ sym (sum_by-cons (λ i. get_or xs i 0 * f (score_of us i)) i order)

pub weighed-same : (f : ℤ → ℕ) (order : List ℕ) (us : List ℤ) (xs : List ℕ) → IsEach (length us) order → length xs ≡ length us → weighed f (picked_scores order us) (picked order xs) ≡ weighed f us xs
weighed-same f order us xs h e =
    let all : List ℕ = range_with_len 0 (length us) in
    let place : picked all xs ≡ xs = rw (← e) (in_place xs) in
    weighed-picked f order us xs
    ∙ h (λ i. get_or xs i 0 * f (score_of us i))
    ∙ sym (weighed-picked f all us xs)
    ∙ ap (λ vs. weighed f vs (picked all xs)) (scores_in_place us)
    ∙ ap (weighed f us) place

pub picked-row : (order : List ℕ) (us : List ℤ) (xs : List ℕ) → IsEach (length us) order → length xs ≡ length us → row_sum (picked_scores order us) (picked order xs) ≡ row_sum us xs
picked-row order us xs h e =
    cancelled _ _ _ _ _ _ (in-parts (picked_scores order us) (picked order xs)) (in-parts us xs) (weighed-same down order us xs h e) (weighed-same up order us xs h e)
  where
    cancelled : (a b : ℤ) (c d m n : ℕ) → a +ℤ pos c ≡ pos m → b +ℤ pos d ≡ pos n → c ≡ d → m ≡ n → a ≡ b
    cancelled a b c d m n i j k l = omega (arith, ints, i, j, ap pos k, ap pos l)

pub picked-length : (order xs : List ℕ) → length (picked order xs) ≡ length order
picked-length [] xs = refl
picked-length (i ∷ order) xs = ap suc (picked-length order xs)

pub picked_scores-length : (order : List ℕ) (us : List ℤ) → length (picked_scores order us) ≡ length order
picked_scores-length [] us = refl
picked_scores-length (i ∷ order) us = ap suc (picked_scores-length order us)
