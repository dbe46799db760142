-- The scores of all places, one more at a time, and what they sum to at least.
use Rattle.std.proofs.Common.{◌≡◌, ◌<◌, ◌≤◌, ◌+◌, ◌-◌, ◌*◌, ◌/◌, ◌++◌, ℕ, zero, suc, true, nat_lt, [], ◌∷◌, length, map, refl, ◌∙◌, arith, add-one}
use Rattle.std.specs.List.{range_with_len, sum, sum_by}
use Rattle.std.specs.Int.{abs_diff}
use Rattle.std.proofs.Math.Nat.{div-one}
use Rattle.std.proofs.lemmas.Bool.{lt-ltb}
use Rattle.std.proofs.lemmas.Nat.{mul-le}
use Rattle.std.proofs.lemmas.List.FromFn.{get_or-map-range_with_len, length-map-range_with_len, map-range_with_len_more}
use Rattle.std.proofs.lemmas.List.Sums.{get_or-le-sum_by, sum_by-cons}
use Rattle.scores.specs.PlaceScores.{ansari_place, common_multiple, median_place, mood_place, multiple_to, place_scores, savage_place}
use Rattle.scores.specs.PlaceSteps.{place_score, unit_of}
use Rattle.scores.specs.declared.places.PlaceKind.{PlaceKind}
use Rattle.scores.specs.declared.places.PlaceKind.TheVariants.{Ansari, Mood, Median}

pub places-none : (score : ℕ → ℕ) → place_scores score 0 ≡ []
unfolding place_scores
places-none score = refl

pub places-more : (score : ℕ → ℕ) (k : ℕ) → place_scores score (k + 1) ≡ place_scores score k ++ score (k + 1) ∷ []
unfolding place_scores
places-more score k = map-range_with_len_more score 1 k (k + 1) (omega arith)

pub places-length : (score : ℕ → ℕ) (n : ℕ) → length (place_scores score n) ≡ n
unfolding place_scores
places-length score n = length-map-range_with_len score 1 n

-- the score of one place is at most that of all
pub places-one : (score : ℕ → ℕ) (n p : ℕ) → p < n → score (p + 1) ≤ sum (place_scores score n)
unfolding place_scores
places-one score n p h =
    let at = get_or-map-range_with_len score 1 n p (p + 1) 0 h (omega arith) in
    let many : p < length (map score (range_with_len 1 n)) = rw (length-map-range_with_len score 1 n) h in
    omega (arith, at, get_or-le-sum_by (λ x. x) (map score (range_with_len 1 n)) p 0 many)

-- and so are those of the first and the last place together
places-ends : (score : ℕ → ℕ) (m : ℕ) → score 1 + score (m + 2) ≤ sum (place_scores score (suc (suc m)))
unfolding place_scores
places-ends score m =
    let at = get_or-map-range_with_len score 2 (suc m) m (m + 2) 0 (omega arith) (omega arith) in
    let many : m < length (map score (range_with_len 2 (suc m))) = rw (length-map-range_with_len score 2 (suc m)) (omega arith) in
    omega (arith, at, sum_by-cons (λ x. x) (score 1) (map score (range_with_len 2 (suc m))), get_or-le-sum_by (λ x. x) (map score (range_with_len 2 (suc m))) m 0 many)

ansari-first : (n : ℕ) → 1 < n → 1 ≤ ansari_place n 1
unfolding ansari_place
ansari-first n h = omega arith

square : (d : ℕ) → 1 ≤ d → 1 ≤ d * d
square d h = mul-le 1 1 d d h h

mood-first : (n : ℕ) → 1 < n → 1 ≤ mood_place n 1
unfolding mood_place
mood-first n h = square (abs_diff (2 * 1) (n + 1)) (omega arith)

mood-last : (n : ℕ) → 1 < n → 1 ≤ mood_place n n
unfolding mood_place
mood-last n h = square (abs_diff (2 * n) (n + 1)) (omega arith)

median-last : (n : ℕ) → 1 < n → 1 ≤ median_place n n
unfolding median_place
median-last n h = let above : nat_lt (n + 1) (2 * n) ≡ true = lt-ltb (n + 1) (2 * n) (omega arith) in rw above (omega arith)

-- the scores of two places and more sum to half their unit at least
pub unit-small : (kind : PlaceKind) (n : ℕ) → 1 < n → unit_of kind ≤ 2 * sum (place_scores (place_score kind n) n)
unit-small kind zero h = absurd (omega arith)
unit-small kind (suc zero) h = absurd (omega arith)
unit-small Ansari (suc (suc m)) h = omega (arith, ansari-first (suc (suc m)) h, places-one (ansari_place (suc (suc m))) (suc (suc m)) 0 (omega arith))
unit-small Mood (suc (suc m)) h =
    let n : m + 2 ≡ suc (suc m) = omega arith in
    let last : 1 ≤ mood_place (suc (suc m)) (m + 2) = rw n (mood-last (suc (suc m)) h) in
    omega (arith, mood-first (suc (suc m)) h, last, places-ends (mood_place (suc (suc m))) m)
unit-small Median (suc (suc m)) h =
    let n : suc m + 1 ≡ suc (suc m) = omega arith in
    let last : 1 ≤ median_place (suc (suc m)) (suc m + 1) = rw n (median-last (suc (suc m)) h) in
    omega (arith, last, places-one (median_place (suc (suc m))) (suc (suc m)) (suc m) (omega arith))

-- ---- Savage

pub savage-none : (n : ℕ) → savage_place n 0 ≡ 0
unfolding savage_place
savage-none n = refl

-- one quotient more
pub savage-more : (n p : ℕ) → p < n → savage_place n (p + 1) ≡ savage_place n p + multiple_to n / (n - p)
unfolding savage_place
savage-more n p h =
    let first : n - (p + 1) + 1 ≡ n - p = omega arith in
    rw (first, add-one p) (sum_by-cons (λ j. multiple_to n / j) (n - p) (range_with_len (n - p + 1) p) ∙ omega arith)

pub savage-place_within : (n p : ℕ) → p < n → savage_place n (p + 1) ≤ sum (place_scores (savage_place n) n)
savage-place_within n p h = places-one (savage_place n) n p h

-- the last place has every quotient, also that by one
pub savage-small : (n : ℕ) → 0 < n → multiple_to n ≤ sum (place_scores (savage_place n) n)
unfolding savage_place
savage-small zero h = absurd (omega arith)
savage-small (suc m) h =
    let n : m + 1 ≡ suc m = omega arith in
    let last : multiple_to (suc m) ≤ savage_place (suc m) (m + 1) = rw n (every m) in
    omega (arith, last, places-one (savage_place (suc m)) (suc m) m (omega arith))
  where
    every : (m : ℕ) → multiple_to (suc m) ≤ sum_by (λ j. multiple_to (suc m) / j) (range_with_len (suc m - suc m + 1) (suc m))
    every m =
        let first : suc m - suc m + 1 ≡ 1 = omega arith in
        rw first (omega (arith, sum_by-cons (λ j. multiple_to (suc m) / j) 1 (range_with_len (1 + 1) m), div-one (multiple_to (suc m))))

-- where the least common multiple is too wide, so is their sum
pub savage-wide : (n b : ℕ) → 1 ≤ b → (multiple_to n ≤ b → ⊥) → sum (place_scores (savage_place n) n) ≤ b → ⊥
unfolding common_multiple
savage-wide zero b h wide fits = wide h
savage-wide (suc m) b h wide fits = wide (omega (arith, savage-small (suc m) (omega arith), fits))
