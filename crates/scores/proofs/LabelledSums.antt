-- Sums of the scores of the subjects with a label: how great they are, and one subject after another.
use Rattle.std.proofs.Common.{◌≡◌, ℕ, zero, suc, ◌+◌, ◌<◌, ◌≤◌, Bool, true, false, cond, List, [], ◌∷◌, length, drop, get_or, refl, arith, add-one, drop-cons, nat_eq}
use Rattle.std.specs.Prelude.{ℤ, pos, ◌+ℤ◌, ◌≤ℤ◌, nat_abs, unsigned_abs}
use Rattle.std.specs.List.{AllByRecursion}
use Rattle.std.proofs.lemmas.Int.{ints}
use Rattle.scores.specs.Scores.{labelled_sum}
use Rattle.weights.specs.Numbers.{absolute_sum}

-- ---- how great they are

size-plus : (a b : ℤ) → unsigned_abs (a +ℤ b) ≤ unsigned_abs a + unsigned_abs b
size-plus a b = grind (arith, ints)

pub labelled-within : (label : ℕ) (scores : List ℤ) (labels : List ℕ) → unsigned_abs (labelled_sum label scores labels) ≤ absolute_sum scores
labelled-within label [] labels = omega arith
labelled-within label (s ∷ scores) [] = omega arith
labelled-within label (s ∷ scores) (l ∷ labels) = by (nat_eq l label) (labelled-within label scores labels) refl
  where
    by : (b : Bool) → unsigned_abs (labelled_sum label scores labels) ≤ absolute_sum scores → absolute_sum (s ∷ scores) ≡ nat_abs s + absolute_sum scores → unsigned_abs (cond b s (pos 0) +ℤ labelled_sum label scores labels) ≤ absolute_sum (s ∷ scores)
    by true h e = omega (arith, size-plus s (labelled_sum label scores labels), h, e)
    by false h e = omega (arith, size-plus (pos 0) (labelled_sum label scores labels), h, e)

pub labelled-most : (label : ℕ) (scores : List ℤ) (labels : List ℕ) → labelled_sum label scores labels ≤ℤ pos (absolute_sum scores)
labelled-most label scores labels = within (labelled_sum label scores labels) (absolute_sum scores) (labelled-within label scores labels)
  where
    within : (z : ℤ) (n : ℕ) → unsigned_abs z ≤ n → z ≤ℤ pos n
    within z n h = grind (arith, ints)

-- of scores that are not negative
pub labelled-least : (label : ℕ) (scores : List ℤ) (labels : List ℕ) → AllByRecursion (λ s. pos 0 ≤ℤ s) scores → pos 0 ≤ℤ labelled_sum label scores labels
labelled-least label [] labels all = omega (arith, ints)
labelled-least label (s ∷ scores) [] all = omega (arith, ints)
labelled-least label (s ∷ scores) (l ∷ labels) all = by (nat_eq l label) (labelled-least label scores labels all.1) all.0
  where
    by : (b : Bool) → pos 0 ≤ℤ labelled_sum label scores labels → pos 0 ≤ℤ s → pos 0 ≤ℤ (cond b s (pos 0) +ℤ labelled_sum label scores labels)
    by true h l = omega (arith, ints)
    by false h l = omega (arith, ints)

pub labelled-none : (label : ℕ) (scores : List ℤ) → labelled_sum label scores [] ≡ pos 0
labelled-none label [] = refl
labelled-none label (s ∷ scores) = refl

-- ---- one subject after another

pub zero-plus : (t : ℤ) → pos 0 +ℤ t ≡ t
zero-plus t = omega (arith, ints)

pub joined : (s t p r all : ℤ) → s +ℤ t ≡ all → t ≡ p +ℤ r → (s +ℤ p) +ℤ r ≡ all
joined s t p r all a b = omega (arith, ints, a, b)

pub ended : (s t all : ℤ) → s +ℤ t ≡ all → t ≡ pos 0 → s ≡ all
ended s t all a b = omega (arith, ints, a, b)

pub size-more : (scores : List ℤ) (i : ℕ) → i < length scores → absolute_sum (drop i scores) ≡ unsigned_abs (get_or scores i (pos 0)) + absolute_sum (drop (i + 1) scores)
size-more scores i h = rw (add-one, drop-cons scores i (pos 0) h) refl

-- what the scores before place i sum to, of those with the label
pub record IsLabelledSum (label : ℕ) (scores : List ℤ) (labels : List ℕ) (i : ℕ) (sum : ℤ) : Type 0 where
  pub summing : sum +ℤ labelled_sum label (drop i scores) (drop i labels) ≡ labelled_sum label scores labels
  pub small : unsigned_abs sum + absolute_sum (drop i scores) ≤ absolute_sum scores

module _ (label : ℕ) (scores : List ℤ) (labels : List ℕ) where
  pub labelled-first : IsLabelledSum label scores labels 0 (pos 0)
  labelled-first = record { summing = zero-plus (labelled_sum label scores labels); small = omega arith }

  module _ (i : ℕ) (here : i < length scores) (there : i < length labels) (s : ℤ) (a : IsLabelledSum label scores labels i s) where
    step : labelled_sum label (drop i scores) (drop i labels) ≡ cond (nat_eq (get_or labels i 0) label) (get_or scores i (pos 0)) (pos 0) +ℤ labelled_sum label (drop (i + 1) scores) (drop (i + 1) labels)
    step = rw (add-one, drop-cons scores i (pos 0) here, drop-cons labels i 0 there) refl

    pub labelled-room : unsigned_abs s + unsigned_abs (get_or scores i (pos 0)) ≤ absolute_sum scores
    labelled-room = omega (arith, a.small, size-more scores i here)

    pub labelled-next : IsLabelledSum label scores labels (i + 1) (s +ℤ cond (nat_eq (get_or labels i 0) label) (get_or scores i (pos 0)) (pos 0))
    labelled-next = record {
      summing = joined s _ (cond (nat_eq (get_or labels i 0) label) (get_or scores i (pos 0)) (pos 0)) _ _ a.summing step;
      small = by (nat_eq (get_or labels i 0) label);
    }
      where
        by : (b : Bool) → unsigned_abs (s +ℤ cond b (get_or scores i (pos 0)) (pos 0)) + absolute_sum (drop (i + 1) scores) ≤ absolute_sum scores
        by true = omega (arith, a.small, size-more scores i here, size-plus s (get_or scores i (pos 0)))
        by false = omega (arith, a.small, size-more scores i here, size-plus s (pos 0))

  past-end : (i : ℕ) → (i < length scores → i < length labels → ⊥) → labelled_sum label (drop i scores) (drop i labels) ≡ pos 0
  past-end i past = by (drop i scores) refl (drop i labels) refl
    where
      within : {X : Type 0} (xs : List X) (i : ℕ) (y : X) (ys : List X) → drop i xs ≡ y ∷ ys → i < length xs
      within [] zero y ys e = absurd (cc e)
      within [] (suc i) y ys e = absurd (cc e)
      within (x ∷ xs) zero y ys e = omega arith
      within (x ∷ xs) (suc i) y ys e = omega (arith, within xs i y ys e)

      by : (ss : List ℤ) → drop i scores ≡ ss → (ls : List ℕ) → drop i labels ≡ ls → labelled_sum label ss ls ≡ pos 0
      by [] d ls e = refl
      by (s ∷ ss) d [] e = refl
      by (s ∷ ss) d (l ∷ ls) e = absurd (past (within scores i s ss d) (within labels i l ls e))

  pub labelled-end : (i : ℕ) (s : ℤ) → (i < length scores → i < length labels → ⊥) → IsLabelledSum label scores labels i s → s ≡ labelled_sum label scores labels
  labelled-end i s past a = ended s _ _ a.summing (past-end i past)
