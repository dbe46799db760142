-- Choices of one number, in their order.
use Rattle.std.proofs.Common.{◌≡◌, ◌≢◌, ℕ, suc, ◌+◌, ◌-◌, ◌<◌, ◌≤◌, List, [], ◌∷◌, length, map, AllPairs, get_or, set, refl, ◌∙◌, ap, arith}
use Rattle.std.specs.Prelude.{Contains}
use Rattle.std.specs.List.{AllByRecursion, range_with_len}
use Rattle.std.proofs.lemmas.List.Elements.{All-contains, All-from_recursion}
use Rattle.std.proofs.lemmas.List.FromFn.{get_or-map-range_with_len, length-map-range_with_len}
use Rattle.weights.proofs.Filters.{all_map, range-from}
use Rattle.weights.proofs.Members.{range-below}
use Rattle.count_rooms.specs.OneCount.{choices_between, chosen}

-- a choice between two numbers
pub record IsBetween (low high : ℕ) (c : List ℕ) : Type 0 where
  pub one : c ≡ chosen c ∷ []
  pub least : low ≤ chosen c
  pub most : chosen c ≤ high

pub between : (low high : ℕ) (c : List ℕ) → Contains (choices_between low high) c → IsBetween low high c
between low high c m =
    All-contains (IsBetween low high) (choices_between low high) c
    (All-from_recursion (IsBetween low high) (choices_between low high) (all_map (IsBetween low high) (λ x. x ∷ []) (range_with_len low (high + 1 - low)) (both (range_with_len low (high + 1 - low)) (range-from low (high + 1 - low)) (range-below low (high + 1 - low))))) m
  where
    both : (xs : List ℕ) → AllByRecursion (λ i. low ≤ i) xs → AllByRecursion (λ i. i < low + (high + 1 - low)) xs → AllByRecursion (λ x. IsBetween low high (x ∷ [])) xs
    both [] l h = tt
    both (x ∷ xs) l h = (record { one = refl; least = l.0; most = omega (arith, l.0, h.0) }, both xs l.1 h.1)

pub first-choice : (low high : ℕ) → low ≤ high → choices_between low high ≡ (low ∷ []) ∷ choices_between (low + 1) high
first-choice low high h =
    ap (λ n. map (λ x. x ∷ []) (range_with_len low n)) (let e : high + 1 - low ≡ suc (high - low) = omega (arith, h) in e)
    ∙ ap (λ n. (low ∷ []) ∷ map (λ x. x ∷ []) (range_with_len (low + 1) n)) (let e : high - low ≡ high + 1 - (low + 1) = omega arith in e)

pub some-choice : (low high : ℕ) → low ≤ high → choices_between low high ≢ []
some-choice low high h e = let first = first-choice low high h in absurd (cc (first, e))

-- the choice after one
pub next-choice : (most : ℕ) (choice : List ℕ) → length choice ≡ 1 → get_or choice 0 0 < most → choices_between (chosen choice + 1) most ≡ set choice 0 (get_or choice 0 0 + 1) ∷ choices_between (chosen (set choice 0 (get_or choice 0 0 + 1)) + 1) most
next-choice most [] long h = absurd (omega (arith, long))
next-choice most (j ∷ []) long h = first-choice (j + 1) most (omega (arith, h))
next-choice most (j ∷ k ∷ ks) long h = absurd (omega (arith, long))

pub different : (low high : ℕ) → AllPairs ◌≢◌ (choices_between low high)
different low high i j d below inside e =
    let n : ℕ = high + 1 - low in
    let within : j < n = omega (arith, length-map-range_with_len (λ x. x ∷ []) low n) in
    let first : get_or (choices_between low high) i d ≡ (low + i) ∷ [] = get_or-map-range_with_len (λ x. x ∷ []) low n i (low + i) d (omega arith) refl in
    let second : get_or (choices_between low high) j d ≡ (low + j) ∷ [] = get_or-map-range_with_len (λ x. x ∷ []) low n j (low + j) d within refl in
    let same : low + i ≡ low + j = cc in
    omega arith
