-- Two lists of spots that are merged into one.
use Rattle.std.proofs.Common.{◌≡◌, ℕ, ◌+◌, ◌-◌, ◌*◌, ◌^◌, ◌<◌, ◌≤◌, ◌⊎◌, inl, inr, List, [], ◌∷◌, ◌++◌, ap, length, drop, get_or, max, min, arith, lit≤}
use Rattle.std.proofs.lemmas.Bool.{cases_lt}
use Rattle.weights.specs.declared.TheConstants.{MAX}
use Rattle.score_convolution.specs.Places.{Rise, behind, draws_of, spots_sum}
use Rattle.score_convolution.specs.declared.lists.Spot.{Spot}
use Rattle.score_convolution.proofs.Spots.{behind-at, behind-push, rise-at, rise-first, rise-push, spots-last, spots-push, spots-same}

-- the spots so far, and what is left of both lists, the second of which is moved by so many
pub record Merges (ones others : List Spot) (by i j : ℕ) (spots : List Spot) : Type 0 where
  pub first : i ≤ length ones
  pub second : j ≤ length others
  pub rise : Rise 0 spots
  pub ones_rise : Rise (behind 0 spots) (drop i ones)
  pub others_rise : Rise (behind 0 spots - by) (drop j others)
  pub told : (f : ℕ → ℕ) → spots_sum f spots + (spots_sum (λ p. f (0 + p)) (drop i ones) + spots_sum (λ p. f (by + p)) (drop j others)) ≡ spots_sum f ones + spots_sum (λ p. f (by + p)) others
  pub long : behind 0 spots ≤ max (behind 0 ones) (by + behind 0 others)

-- none so far
pub merges-none : (ones others : List Spot) (by : ℕ) → Rise 0 ones → Rise 0 others → Merges ones others by 0 0 []
merges-none ones others by r s =
    let none : 0 - by ≡ 0 = omega arith in
    record {
      first = omega arith;
      second = omega arith;
      rise = tt;
      ones_rise = r;
      others_rise = rw none s;
      told = λ f. omega (arith, spots-same (λ p. f (0 + p)) f (λ p. (let same : 0 + p ≡ p = omega arith in ap f same)) ones);
      long = omega arith;
    }

-- what is left is no more than all
pub left-few : (ones : List Spot) (i next draws : ℕ) (place by : ℕ) → ((f : ℕ → ℕ) → draws * f place + spots_sum (λ p. f (by + p)) (drop next ones) ≡ spots_sum (λ p. f (by + p)) (drop i ones)) → draws ≤ draws_of ones
left-few ones i next draws place by told = omega (arith, told (λ p. 1), spots-last (λ p. 1) ones i)

-- the next place is the lesser of those at which both lists go on
module _ (ones others : List Spot) (by i j : ℕ) (spots : List Spot) (m : Merges ones others by i j spots) (near : max (behind 0 ones) (by + behind 0 others) ≤ MAX + 1) (r : Rise 0 ones) (s : Rise 0 others) (a b place : ℕ) (is : place ≡ min a b)
    (a_some : (d : Spot) → i < length ones → a ≡ 0 + (get_or ones i d).place) (a_none : length ones ≤ i → a ≡ 2 ^ 128 - 1) (b_some : (d : Spot) → j < length others → b ≡ by + (get_or others j d).place) (b_none : length others ≤ j → b ≡ 2 ^ 128 - 1) where
  -- in each the first that is left stands no lower
  pub first-rise : Rise (place - 0) (drop i ones)
  first-rise = rise-first (behind 0 spots) (place - 0) ones i m.ones_rise (λ d h. omega (arith, is, a_some d h))

  pub second-rise : Rise (place - by) (drop j others)
  second-rise = rise-first (behind 0 spots - by) (place - by) others j m.others_rise (λ d h. omega (arith, is, b_some d h))

  abbrev no_spot : Spot
  no_spot = record { place = 0; draws = 0 }

  top : MAX + 1 ≤ 2 ^ 128 - 1
  top = lit≤ tt

  -- it is behind those so far
  a-behind : behind 0 spots ≤ a
  a-behind = elim (cases_lt i (length ones)) [
    | inl h ↦ omega (arith, a_some no_spot h, (rise-at (behind 0 spots) ones i no_spot h m.ones_rise).0)
    | inr h ↦ omega (arith, a_none h, m.long, near, top)
  ]

  b-behind : behind 0 spots ≤ b
  b-behind = elim (cases_lt j (length others)) [
    | inl h ↦ omega (arith, b_some no_spot h, (rise-at (behind 0 spots - by) others j no_spot h m.others_rise).0)
    | inr h ↦ omega (arith, b_none h, m.long, near, top)
  ]

  -- and before the end of both
  next-long : (i < length ones) ⊎ (j < length others) → place + 1 ≤ max (behind 0 ones) (by + behind 0 others)
  next-long (inl h) = omega (arith, is, a_some no_spot h, behind-at 0 ones i no_spot r h)
  next-long (inr h) = omega (arith, is, b_some no_spot h, behind-at 0 others j no_spot s h)

  module _ (some : (i < length ones) ⊎ (j < length others)) (n k : ℕ) where
    -- with the draws that stand there in both
    pub merges-more : (d e : ℕ) (new : List Spot) → new ≡ spots ++ record { place = place; draws = d + e } ∷ [] → n ≤ length ones → k ≤ length others → Rise ((place + 1) - 0) (drop n ones) → Rise ((place + 1) - by) (drop k others)
        → ((f : ℕ → ℕ) → d * f place + spots_sum (λ p. f (0 + p)) (drop n ones) ≡ spots_sum (λ p. f (0 + p)) (drop i ones)) → ((f : ℕ → ℕ) → e * f place + spots_sum (λ p. f (by + p)) (drop k others) ≡ spots_sum (λ p. f (by + p)) (drop j others)) → Merges ones others by n k new
    merges-more d e new pushed n_within k_within n_rise k_rise d_told e_told =
        let spot : Spot = record { place = place; draws = d + e } in
        let end : behind 0 (spots ++ spot ∷ []) ≡ place + 1 = behind-push 0 spots spot in
        rw pushed (record {
          first = n_within;
          second = k_within;
          rise = rise-push 0 spots spot m.rise (omega (arith, is, a-behind, b-behind));
          ones_rise = rw end (rise-first ((place + 1) - 0) (place + 1) ones n n_rise (λ x h. omega (arith, (rise-at ((place + 1) - 0) ones n x h n_rise).0)));
          others_rise = rw end k_rise;
          told = λ f.
              let spread : (d + e) * f place ≡ d * f place + e * f place = grind arith in
              omega (arith, spots-push f spots spot, spread, d_told f, e_told f, m.told f);
          long = omega (arith, end, next-long some);
        })

    -- one list at least goes on
    pub fewer-left : ((x : Spot) → i < length ones → 0 + (get_or ones i x).place ≡ place → n ≡ i + 1) → ((x : Spot) → j < length others → by + (get_or others j x).place ≡ place → k ≡ j + 1) → i ≤ n → j ≤ k → (length ones - n) + (length others - k) < (length ones - i) + (length others - j)
    fewer-left n_moved k_moved on along = elim (cases_lt b a) [
      | inl h ↦ elim (cases_lt j (length others)) [
        | inl l ↦ omega (arith, k_moved no_spot l (omega (arith, is, h, b_some no_spot l)), l, on)
        | inr l ↦ absurd (over h l some)
      ]
      | inr h ↦ elim (cases_lt i (length ones)) [
        | inl l ↦ omega (arith, n_moved no_spot l (omega (arith, is, h, a_some no_spot l)), l, along)
        | inr l ↦ absurd (under h l some)
      ]
    ]
      where
        over : b < a → length others ≤ j → (i < length ones) ⊎ (j < length others) → ⊥
        over h l (inl x) = omega (arith, h, b_none l, a_some no_spot x, behind-at 0 ones i no_spot r x, near, top)
        over h l (inr x) = omega (arith, l, x)

        under : a ≤ b → length ones ≤ i → (i < length ones) ⊎ (j < length others) → ⊥
        under h l (inl x) = omega (arith, l, x)
        under h l (inr x) = omega (arith, h, a_none l, b_some no_spot x, behind-at 0 others j no_spot s x, near, top)
