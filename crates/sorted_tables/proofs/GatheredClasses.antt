-- How many choices are gathered into one: each row of a run of equal sizes could come first in it.
use Rattle.std.proofs.Common.{◌≡◌, ℕ, zero, suc, ◌+◌, ◌-◌, ◌*◌, ◌<◌, ◌≤◌, List, [], ◌∷◌, length, get_or, min, Bool, true, false, cond, ◌&&◌, refl, sym, ◌∙◌, ap, subst, arith, add-one, nat_eq, eq-eqb, ne_eqb, ◌⊎◌, inl, inr}
use Rattle.std.specs.List.{count_by, sum_by, range_with_len}
use Rattle.std.specs.Cmp.Lexicographic.{pointwise, same_text}
use Rattle.std.proofs.lemmas.Bool.{cases_lt, eqb-true}
use Rattle.std.proofs.lemmas.Bool.Decides.{eqb_tells}
use Rattle.std.proofs.lemmas.List.FromFn.{length-range_with_len}
use Rattle.std.proofs.lemmas.List.Sums.{sum_by-cons}
use Rattle.weights.specs.Grouped.{choices}
use Rattle.weights.proofs.ChoiceLists.{IsChoice, choices-each}
use Rattle.weights.proofs.Chosen.{one_if}
use Rattle.weights.proofs.Members.{range-below}
use Rattle.weights.proofs.Ranges.{range-one}
use Rattle.weights.proofs.Sums.{sum_by-fronts, sum_by-one, sum_by-same, sum_by-same_where, sum_by-scaled, sum_by-swap, sum_by-times}
use Rattle.sorted_tables.specs.GatheredChoices.{gathered, gets_less, is_gathered_into, put_among}
use Rattle.sorted_tables.specs.SortedSteps.{run}
use Rattle.sorted_tables.proofs.GatheredForms.{Rise, at-least, gathered-swap, length-gathered, less-parts}
use Rattle.label_network.proofs.ChoiceSwaps.{swapped_choices}
use Rattle.networks.proofs.Swaps.{swap_at}

-- how many choices of a column are gathered into one
abbrev pub number_gathered : ℕ → List ℕ → List ℕ → ℕ
number_gathered c r y = count_by (is_gathered_into r y) (choices c r)

-- how many of the rows of a size that come next have a count: among all of them, or from the first one on
abbrev times : ℕ → ℕ → List ℕ → List ℕ → ℕ
times q a [] x = 0
times q a (s ∷ rs) [] = 0
times q a (s ∷ rs) (b ∷ x) = cond (nat_eq s q) (one_if (nat_eq a b) + times q a rs x) 0

abbrev pub alike : ℕ → ℕ → List ℕ → List ℕ → ℕ
alike q a [] x = 0
alike q a (s ∷ rs) [] = 0
alike q a (s ∷ rs) (b ∷ x) = cond (nat_eq s q && nat_eq a b) (suc (alike q a rs x)) 0

-- where counts rise, equal ones stand together

times-none : (q a b : ℕ) (rs x : List ℕ) → a < b → length x ≡ length rs → Rise (q ∷ rs) (b ∷ x) → times q a rs x ≡ 0
times-none q a b [] x h l r = refl
times-none q a b (s ∷ rs) [] h l r = refl
times-none q a b (s ∷ rs) (c ∷ x) h l r = by (nat_eq s q) refl (λ more here. times-none q a c rs x more (omega (arith, l)) here)
  where
    by : (t : Bool) → nat_eq s q ≡ t → (a < c → Rise (q ∷ rs) (c ∷ x) → times q a rs x ≡ 0) → cond t (one_if (nat_eq a c) + times q a rs x) 0 ≡ 0
    by false e rest = refl
    by true e rest =
        let same : s ≡ q = eqb-true s q e in
        let most : b ≤ c = at-least s q c b same r.0 in
        let more : a < c = omega (arith, h, most) in
        rw (ne_eqb a c (λ f. omega (arith, f, more)), rest more (subst (λ u. Rise (u ∷ rs) (c ∷ x)) same r.1)) refl

pub times-alike : (q a : ℕ) (rs x : List ℕ) → length x ≡ length rs → Rise (q ∷ rs) (a ∷ x) → times q a rs x ≡ alike q a rs x
times-alike q a [] x l r = refl
times-alike q a (s ∷ rs) [] l r = refl
times-alike q a (s ∷ rs) (b ∷ x) l r =
    by (nat_eq s q) refl (eqb_tells a b) (λ here. times-alike q a rs x (omega (arith, l)) here) (λ less here. times-none q a b rs x less (omega (arith, l)) here)
  where
    by : (t : Bool) → nat_eq s q ≡ t → ((nat_eq a b ≡ true) × (a ≡ b)) ⊎ ((nat_eq a b ≡ false) × (a ≡ b → ⊥))
        → (Rise (q ∷ rs) (a ∷ x) → times q a rs x ≡ alike q a rs x) → (a < b → Rise (q ∷ rs) (b ∷ x) → times q a rs x ≡ 0)
        → cond t (one_if (nat_eq a b) + times q a rs x) 0 ≡ cond (t && nat_eq a b) (suc (alike q a rs x)) 0
    by false e d one two = refl
    by true e (inl d) one two =
        let same : s ≡ q = eqb-true s q e in
        let here : Rise (q ∷ rs) (b ∷ x) = subst (λ u. Rise (u ∷ rs) (b ∷ x)) same r.1 in
        rw (d.0, one (subst (λ u. Rise (q ∷ rs) (u ∷ x)) (sym d.1) here)) (omega arith)
    by true e (inr d) one two =
        let same : s ≡ q = eqb-true s q e in
        let here : Rise (q ∷ rs) (b ∷ x) = subst (λ u. Rise (u ∷ rs) (b ∷ x)) same r.1 in
        let most : a ≤ b = at-least s q b a same r.0 in
        rw (d.0, two (let less : a < b = elim (cases_lt a b) [ inl h ↦ h | inr h ↦ absurd (d.1 (omega (arith, most, h))) ] in less) here) refl

-- gathering leaves how often a count stands in the run

times-among : (q v s b : ℕ) (rs y : List ℕ) → length y ≡ length rs → times q v (s ∷ rs) (put_among s b rs y) ≡ times q v (s ∷ rs) (b ∷ y)
times-among q v s b [] y l = refl
times-among q v s b (t ∷ rs) [] l = absurd (omega (arith, l))
times-among q v s b (t ∷ rs) (c ∷ y) l = by (gets_less t c s b) refl (times-among q v s b rs y (omega (arith, l)))
  where
    turned : (u : Bool) (one two rest : ℕ) → cond u (one + cond u (two + rest) 0) 0 ≡ cond u (two + cond u (one + rest) 0) 0
    turned true one two rest = omega arith
    turned false one two rest = refl

    by : (u : Bool) → gets_less t c s b ≡ u → times q v (s ∷ rs) (put_among s b rs y) ≡ times q v (s ∷ rs) (b ∷ y)
        → times q v (s ∷ t ∷ rs) (cond u (c ∷ put_among s b rs y) (b ∷ c ∷ y)) ≡ times q v (s ∷ t ∷ rs) (b ∷ c ∷ y)
    by false e rest = refl
    by true e rest =
        subst (λ w. times q v (s ∷ w ∷ rs) (c ∷ put_among s b rs y) ≡ times q v (s ∷ w ∷ rs) (b ∷ c ∷ y)) (sym (less-parts t c s b e).0)
        (ap (λ n. cond (nat_eq s q) (one_if (nat_eq v c) + n) 0) rest ∙ turned (nat_eq s q) (one_if (nat_eq v c)) (one_if (nat_eq v b)) (times q v rs y))

times-gathered : (q v : ℕ) (r x : List ℕ) → length x ≡ length r → times q v r (gathered r x) ≡ times q v r x
times-gathered q v [] x l = refl
times-gathered q v (s ∷ rs) [] l = refl
times-gathered q v (s ∷ rs) (b ∷ x) l =
    let short : length x ≡ length rs = omega (arith, l) in
    times-among q v s b rs (gathered rs x) (length-gathered rs x ∙ short)
    ∙ ap (λ n. cond (nat_eq s q) (one_if (nat_eq v b) + n) 0) (times-gathered q v rs x short)

-- the same by the places of the run

later-range : (f : ℕ → ℕ) (s n : ℕ) → sum_by f (range_with_len (s + 1) n) ≡ sum_by (λ j. f (suc j)) (range_with_len s n)
later-range f s zero = refl
later-range f s (suc n) = rw (sum_by-cons f (s + 1) (range_with_len ((s + 1) + 1) n), sum_by-cons (λ j. f (suc j)) s (range_with_len (s + 1) n), later-range f (s + 1) n, add-one s) refl

times-places : (q a : ℕ) (r x : List ℕ) → length x ≡ length r → times q a r x ≡ sum_by (λ j. one_if (nat_eq a (get_or x j 0))) (range_with_len 0 (run q r))
times-places q a [] x l = refl
times-places q a (s ∷ rs) [] l = absurd (omega (arith, l))
times-places q a (s ∷ rs) (b ∷ x) l = by (nat_eq s q) (times-places q a rs x (omega (arith, l)))
  where
    by : (t : Bool) → times q a rs x ≡ sum_by (λ j. one_if (nat_eq a (get_or x j 0))) (range_with_len 0 (run q rs))
        → cond t (one_if (nat_eq a b) + times q a rs x) 0 ≡ sum_by (λ j. one_if (nat_eq a (get_or (b ∷ x) j 0))) (range_with_len 0 (cond t (suc (run q rs)) 0))
    by false e = refl
    by true e =
        ap (λ n. one_if (nat_eq a b) + n) (e ∙ sym (later-range (λ j. one_if (nat_eq a (get_or (b ∷ x) j 0))) 0 (run q rs)))
        ∙ sym (sum_by-cons (λ j. one_if (nat_eq a (get_or (b ∷ x) j 0))) 0 (range_with_len 1 (run q rs)))

-- neighbours in the run may change places
run-swap : (q : ℕ) (rs : List ℕ) (j : ℕ) → j < run q rs → swap_at j (q ∷ rs) ≡ q ∷ rs
run-swap q [] j h = absurd (omega (arith, h))
run-swap q (s ∷ rs) j h = by (nat_eq s q) refl j h (λ i l. run-swap q rs i l)
  where
    by : (t : Bool) → nat_eq s q ≡ t → (j : ℕ) → j < cond t (suc (run q rs)) 0 → ((i : ℕ) → i < run q rs → swap_at i (q ∷ rs) ≡ q ∷ rs) → swap_at j (q ∷ s ∷ rs) ≡ q ∷ s ∷ rs
    by false e j h rest = absurd (omega (arith, h))
    by true e zero h rest = let same : s ≡ q = eqb-true s q e in rw same refl
    by true e (suc i) h rest = subst (λ t. swap_at (suc i) (q ∷ t ∷ rs) ≡ q ∷ t ∷ rs) (sym (eqb-true s q e)) (ap (λ ks. q ∷ ks) (rest i (omega (arith, h))))

pub run-within : (q : ℕ) (rs : List ℕ) → run q rs ≤ length rs
run-within q [] = omega arith
run-within q (s ∷ rs) = by (nat_eq s q) (run-within q rs)
  where
    by : (t : Bool) → run q rs ≤ length rs → cond t (suc (run q rs)) 0 ≤ suc (length rs)
    by true h = omega (arith, h)
    by false h = omega arith

swap-get : (j : ℕ) (x : List ℕ) → suc j < length x → get_or (swap_at j x) (suc j) 0 ≡ get_or x j 0
swap-get j [] h = absurd (omega (arith, h))
swap-get zero (a ∷ []) h = absurd (omega (arith, h))
swap-get zero (a ∷ b ∷ x) h = refl
swap-get (suc j) (a ∷ x) h = swap-get j x (omega (arith, h))

module _ (c q a : ℕ) (rs x : List ℕ) where
  -- how many of them have the count at a place
  placed : ℕ → ℕ
  placed j = sum_by (λ d. one_if (is_gathered_into (q ∷ rs) (a ∷ x) d) * one_if (nat_eq a (get_or d j 0))) (choices c (q ∷ rs))

  placed-next : (j : ℕ) → j < run q rs → placed (suc j) ≡ placed j
  unfolding placed
  placed-next j h =
      let same : swap_at j (q ∷ rs) ≡ q ∷ rs = run-swap q rs j h in
      ap (λ r. sum_by (λ d. one_if (is_gathered_into (q ∷ rs) (a ∷ x) d) * one_if (nat_eq a (get_or d (suc j) 0))) (choices c r)) (sym same)
      ∙ swapped_choices (λ d. one_if (is_gathered_into (q ∷ rs) (a ∷ x) d) * one_if (nat_eq a (get_or d (suc j) 0))) j c (q ∷ rs)
      ∙ sum_by-same_where (IsChoice c (q ∷ rs)) _ (λ d. one_if (is_gathered_into (q ∷ rs) (a ∷ x) d) * one_if (nat_eq a (get_or d j 0))) (λ d o.
      ap (λ y. one_if (pointwise nat_eq y (a ∷ x)) * one_if (nat_eq a (get_or (swap_at j d) (suc j) 0))) (gathered-swap j (q ∷ rs) d same o.long)
      ∙ ap (λ n. one_if (is_gathered_into (q ∷ rs) (a ∷ x) d) * one_if (nat_eq a n)) (swap-get j d (omega (arith, h, run-within q rs, o.long)))) (choices c (q ∷ rs)) (choices-each c (q ∷ rs))

  placed-all : (j : ℕ) → j ≤ run q rs → placed j ≡ placed 0
  placed-all zero h = refl
  placed-all (suc j) h = placed-next j (omega (arith, h)) ∙ placed-all j (omega (arith, h))

  -- over all places of the run
  placed-sum : sum_by placed (range_with_len 0 (run q rs + 1)) ≡ (run q rs + 1) * placed 0
  placed-sum =
      sum_by-same_where (λ j. j < 0 + (run q rs + 1)) placed (λ j. 1 * placed 0) (λ j h. placed-all j (omega (arith, h)) ∙ (let once : placed 0 ≡ 1 * placed 0 = omega arith in once)) (range_with_len 0 (run q rs + 1)) (range-below 0 (run q rs + 1))
      ∙ sum_by-times (placed 0) (λ j. 1) (range_with_len 0 (run q rs + 1))
      ∙ ap (λ n. n * placed 0) (sum_by-one (range_with_len 0 (run q rs + 1)) ∙ length-range_with_len 0 (run q rs + 1))

  -- as each of them has the count so often in the run
  placed-times : Rise (q ∷ rs) (a ∷ x) → length x ≡ length rs → sum_by placed (range_with_len 0 (run q rs + 1)) ≡ (alike q a rs x + 1) * number_gathered c (q ∷ rs) (a ∷ x)
  unfolding placed
  placed-times r l =
      let into : List ℕ → ℕ = λ d. one_if (is_gathered_into (q ∷ rs) (a ∷ x) d) in
      sum_by-swap (λ j d. into d * one_if (nat_eq a (get_or d j 0))) (range_with_len 0 (run q rs + 1)) (choices c (q ∷ rs))
      ∙ sum_by-same_where (IsChoice c (q ∷ rs)) _ (λ d. (alike q a rs x + 1) * into d) (λ d o.
      sum_by-scaled (into d) (λ j. one_if (nat_eq a (get_or d j 0))) (range_with_len 0 (run q rs + 1))
      ∙ ap (λ n. into d * n) (places d o.long)
      ∙ by d o.long (is_gathered_into (q ∷ rs) (a ∷ x) d) refl) (choices c (q ∷ rs)) (choices-each c (q ∷ rs))
      ∙ sum_by-scaled (alike q a rs x + 1) into (choices c (q ∷ rs))
    where
      here : nat_eq q q ≡ true
      here = eq-eqb q q refl

      places : (d : List ℕ) → length d ≡ length (q ∷ rs) → sum_by (λ j. one_if (nat_eq a (get_or d j 0))) (range_with_len 0 (run q rs + 1)) ≡ times q a (q ∷ rs) d
      places d long =
          let all : run q (q ∷ rs) ≡ run q rs + 1 = rw here (omega arith) in
          ap (λ n. sum_by (λ j. one_if (nat_eq a (get_or d j 0))) (range_with_len 0 n)) (sym all) ∙ sym (times-places q a (q ∷ rs) d long)

      first : times q a (q ∷ rs) (a ∷ x) ≡ alike q a rs x + 1
      first = rw (here, eq-eqb a a refl, times-alike q a rs x l r) (omega arith)

      by : (d : List ℕ) → length d ≡ length (q ∷ rs) → (t : Bool) → is_gathered_into (q ∷ rs) (a ∷ x) d ≡ t → one_if t * times q a (q ∷ rs) d ≡ (alike q a rs x + 1) * one_if t
      by d long true e =
          let same : gathered (q ∷ rs) d ≡ a ∷ x = same_text (gathered (q ∷ rs) d) (a ∷ x) (sym e) in
          let times_are : times q a (q ∷ rs) d ≡ alike q a rs x + 1 = sym (times-gathered q a (q ∷ rs) d long) ∙ ap (times q a (q ∷ rs)) same ∙ first in
          omega (arith, times_are)
      by d long false e = omega arith

  -- the first place has the count where the others are gathered into the rest
  first-told : (z : List ℕ) → length z ≡ length rs → length x ≡ length rs → Rise (q ∷ rs) (a ∷ x) → pointwise nat_eq (put_among q a rs z) (a ∷ x) ≡ pointwise nat_eq z x
  first-told z k l r = told rs z x k l r
    where
      front : (z x : List ℕ) → pointwise nat_eq (a ∷ z) (a ∷ x) ≡ pointwise nat_eq z x
      front z x = rw (eq-eqb a a refl) refl

      told : (rs z x : List ℕ) → length z ≡ length rs → length x ≡ length rs → Rise (q ∷ rs) (a ∷ x) → pointwise nat_eq (put_among q a rs z) (a ∷ x) ≡ pointwise nat_eq z x
      told [] z x k l r = front z x
      told (s ∷ rs) [] x k l r = absurd (omega (arith, k))
      told (s ∷ rs) (b ∷ z) [] k l r = absurd (omega (arith, l))
      told (s ∷ rs) (b ∷ z) (e ∷ x) k l r = by (gets_less s b q a) refl
        where
          by : (t : Bool) → gets_less s b q a ≡ t → pointwise nat_eq (cond t (b ∷ put_among q a rs z) (a ∷ b ∷ z)) (a ∷ e ∷ x) ≡ pointwise nat_eq (b ∷ z) (e ∷ x)
          by false h = front (b ∷ z) (e ∷ x)
          by true h =
              let both = less-parts s b q a h in
              let most : a ≤ e = at-least s q e a both.0 r.0 in
              rw (ne_eqb b a (λ f. omega (arith, f, both.1)), ne_eqb b e (λ f. omega (arith, f, both.1, most))) refl

  placed-first : a ≤ min c q → length x ≡ length rs → Rise (q ∷ rs) (a ∷ x) → placed 0 ≡ number_gathered (c - a) rs x
  unfolding placed
  placed-first h l r =
      sum_by-fronts (λ d. one_if (is_gathered_into (q ∷ rs) (a ∷ x) d) * one_if (nat_eq a (get_or d 0 0))) (λ b. b) (λ b. choices (c - b) rs) (range_with_len 0 (min c q + 1))
      ∙ sum_by-same _ (λ b. cond (nat_eq a b) (sum_by (λ d. one_if (is_gathered_into (q ∷ rs) (a ∷ x) (b ∷ d))) (choices (c - b) rs)) 0) (λ b. by b (nat_eq a b)) (range_with_len 0 (min c q + 1))
      ∙ range-one (λ b. sum_by (λ d. one_if (is_gathered_into (q ∷ rs) (a ∷ x) (b ∷ d))) (choices (c - b) rs)) a 0 (min c q + 1) (omega arith) (omega (arith, h))
      ∙ sum_by-same_where (IsChoice (c - a) rs) _ (λ d. one_if (is_gathered_into rs x d)) (λ d o. ap one_if (first-told (gathered rs d) (length-gathered rs d ∙ o.long) l r)) (choices (c - a) rs) (choices-each (c - a) rs)
    where
      by : (b : ℕ) (t : Bool) → sum_by (λ d. one_if (is_gathered_into (q ∷ rs) (a ∷ x) (b ∷ d)) * one_if t) (choices (c - b) rs) ≡ cond t (sum_by (λ d. one_if (is_gathered_into (q ∷ rs) (a ∷ x) (b ∷ d))) (choices (c - b) rs)) 0
      by b true = sum_by-times 1 (λ d. one_if (is_gathered_into (q ∷ rs) (a ∷ x) (b ∷ d))) (choices (c - b) rs) ∙ (let once : sum_by (λ d. one_if (is_gathered_into (q ∷ rs) (a ∷ x) (b ∷ d))) (choices (c - b) rs) * 1 ≡ sum_by (λ d. one_if (is_gathered_into (q ∷ rs) (a ∷ x) (b ∷ d))) (choices (c - b) rs) = omega arith in once)
      by b false = sum_by-times 0 (λ d. one_if (is_gathered_into (q ∷ rs) (a ∷ x) (b ∷ d))) (choices (c - b) rs) ∙ (let none : sum_by (λ d. one_if (is_gathered_into (q ∷ rs) (a ∷ x) (b ∷ d))) (choices (c - b) rs) * 0 ≡ 0 = omega arith in none)

  -- one row more
  pub gathered-step : a ≤ min c q → length x ≡ length rs → Rise (q ∷ rs) (a ∷ x) → number_gathered c (q ∷ rs) (a ∷ x) * (alike q a rs x + 1) ≡ number_gathered (c - a) rs x * (run q rs + 1)
  gathered-step h l r =
      let all : sum_by placed (range_with_len 0 (run q rs + 1)) ≡ (alike q a rs x + 1) * number_gathered c (q ∷ rs) (a ∷ x) = placed-times r l in
      let each : sum_by placed (range_with_len 0 (run q rs + 1)) ≡ (run q rs + 1) * number_gathered (c - a) rs x = placed-sum ∙ ap (λ n. (run q rs + 1) * n) (placed-first h l r) in
      turned (number_gathered c (q ∷ rs) (a ∷ x)) (alike q a rs x + 1) (number_gathered (c - a) rs x) (run q rs + 1) (sym all ∙ each)
    where
      turned : (u v w z : ℕ) → v * u ≡ z * w → u * v ≡ w * z
      turned u v w z e = grind (arith, e)
