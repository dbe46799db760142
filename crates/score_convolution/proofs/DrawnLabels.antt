-- Labellings of two groups, and lists of signs, as draws.
use Rattle.std.proofs.Common.{◌≡◌, ℕ, zero, suc, ◌+◌, ◌-◌, ◌≤◌, List, [], ◌∷◌, length, Bool, true, false, cond, refl, sym, ◌∙◌, ap, arith, nat_eq, ne_eqb, true≢false, zero-add}
use Rattle.std.specs.Prelude.{ℤ, pos, ◌+ℤ◌}
use Rattle.std.specs.List.{sum_by}
use Rattle.std.proofs.lemmas.Int.{ints}
use Rattle.std.proofs.lemmas.Bool.Decides.{nat_tests}
use Rattle.std.proofs.lemmas.List.Sums.{sum_by-cons}
use Rattle.weights.specs.Labellings.{labellings, labels, sign_lists}
use Rattle.weights.specs.Rules.{passes}
use Rattle.weights.specs.declared.rules.Rule.{Rule}
use Rattle.weights.proofs.FirstLabel.{two-none, two-first, two-second, two-both}
use Rattle.weights.proofs.Sums.{sum_by-same, sum_by-fronts}
use Rattle.score_convolution.specs.Sides.{once}
use Rattle.scores.specs.Scores.{labelled_sum}
use Rattle.score_convolution.specs.Draws.{draw_sum}
use Rattle.score_convolution.specs.DrawnSums.{passing_draws, passing_signs}
use Rattle.score_convolution.specs.Meetings.{drawn_at}
use Rattle.score_convolution.proofs.DrawSums.{draw-none}

-- g of the sums of exactly so many
abbrev pub sum_at : (ℤ → ℕ) → ℕ → ℕ → ℤ → ℕ
sum_at g drawn n v = cond (nat_eq n drawn) (g v) 0

pub here : (g : ℤ → ℕ) (k n : ℕ) (v : ℤ) → n ≡ k → sum_at g k n v ≡ g v
here g k n v e = by (nat_eq n k) (same n k e)
  where
    same : (n k : ℕ) → n ≡ k → nat_eq n k ≡ true
    same n k e = grind (arith, nat_tests, e)

    by : (b : Bool) → b ≡ true → cond b (g v) 0 ≡ g v
    by true e = refl
    by false e = absurd (true≢false (sym e))

pub elsewhere : (g : ℤ → ℕ) (k n : ℕ) (v : ℤ) → (n ≡ k → ⊥) → sum_at g k n v ≡ 0
elsewhere g k n v e = by (nat_eq n k) (other n k e)
  where
    other : (n k : ℕ) → (n ≡ k → ⊥) → nat_eq n k ≡ false
    other n k e = ne_eqb n k e

    by : (b : Bool) → b ≡ false → cond b (g v) 0 ≡ 0
    by false e = refl
    by true e = absurd (true≢false e)

-- a subject of the first group, and one of the second
left : (v t : ℤ) → v +ℤ (pos 0 +ℤ t) ≡ v +ℤ t
left v t = omega (arith, ints)

taken : (v s t : ℤ) → v +ℤ (s +ℤ t) ≡ (v +ℤ s) +ℤ t
taken v s t = omega (arith, ints)

ended : (v : ℤ) → v +ℤ pos 0 ≡ v
ended v = omega (arith, ints)

module _ (g : ℤ → ℕ) where
  abbrev labelled : ℤ → List ℤ → ℕ → ℕ → ℕ
  labelled v scores a b = sum_by (λ xs. g (v +ℤ labelled_sum 1 scores xs)) (labellings (a ∷ b ∷ []))

  first-left : (v s : ℤ) (scores : List ℤ) (a b : ℕ) → sum_by (λ xs. g (v +ℤ labelled_sum 1 (s ∷ scores) (0 ∷ xs))) (labellings (a ∷ b ∷ [])) ≡ labelled v scores a b
  first-left v s scores a b = sum_by-same (λ xs. g (v +ℤ labelled_sum 1 (s ∷ scores) (0 ∷ xs))) (λ xs. g (v +ℤ labelled_sum 1 scores xs)) (λ xs. ap g (left v (labelled_sum 1 scores xs))) (labellings (a ∷ b ∷ []))

  first-drawn : (v s : ℤ) (scores : List ℤ) (a b : ℕ) → sum_by (λ xs. g (v +ℤ labelled_sum 1 (s ∷ scores) (1 ∷ xs))) (labellings (a ∷ b ∷ [])) ≡ labelled (v +ℤ s) scores a b
  first-drawn v s scores a b = sum_by-same (λ xs. g (v +ℤ labelled_sum 1 (s ∷ scores) (1 ∷ xs))) (λ xs. g ((v +ℤ s) +ℤ labelled_sum 1 scores xs)) (λ xs. ap g (taken v s (labelled_sum 1 scores xs))) (labellings (a ∷ b ∷ []))

  at-same : (k m n : ℕ) (v : ℤ) (scores : List ℤ) → k ≡ m → draw_sum (sum_at g k) n v scores ≡ draw_sum (sum_at g m) n v scores
  at-same k m n v scores e = ap (λ i. draw_sum (sum_at g i) n v scores) e

  pub labelled-draws : (scores : List ℤ) (a b n : ℕ) (v : ℤ) → length scores ≡ a + b → labelled v scores a b ≡ draw_sum (sum_at g (n + b)) n v scores
  labelled-draws [] zero zero n v e = two-none (λ xs. g (v +ℤ labelled_sum 1 [] xs)) ∙ ap g (ended v) ∙ sym (here g (n + 0) n v (omega arith))
  labelled-draws [] zero (suc b) n v e = absurd (omega (arith, e))
  labelled-draws [] (suc a) b n v e = absurd (omega (arith, e))
  labelled-draws (s ∷ scores) zero zero n v e = absurd (omega (arith, e))
  labelled-draws (s ∷ scores) (suc a) zero n v e =
      let none : draw_sum (sum_at g (n + 0)) (n + 1) (v +ℤ s) scores ≡ 0 = draw-none (sum_at g (n + 0)) (n + 1) (v +ℤ s) scores (λ m u h k. elsewhere g (n + 0) m u (λ e. omega (arith, e, h))) in
      let rest = labelled-draws scores a 0 n v (omega (arith, e)) in
      let now = two-first (λ xs. g (v +ℤ labelled_sum 1 (s ∷ scores) xs)) a ∙ first-left v s scores a 0 in
      omega (arith, now, rest, none)
  labelled-draws (s ∷ scores) zero (suc b) n v e =
      let none : draw_sum (sum_at g (n + suc b)) n v scores ≡ 0 = draw-none (sum_at g (n + suc b)) n v scores (λ m u h k. elsewhere g (n + suc b) m u (λ i. omega (arith, i, k, e))) in
      let rest = labelled-draws scores 0 b (n + 1) (v +ℤ s) (omega (arith, e)) in
      let at = at-same ((n + 1) + b) (n + suc b) (n + 1) (v +ℤ s) scores (omega arith) in
      let now = two-second (λ xs. g (v +ℤ labelled_sum 1 (s ∷ scores) xs)) b ∙ first-drawn v s scores 0 b in
      omega (arith, now, rest, at, none)
  labelled-draws (s ∷ scores) (suc a) (suc b) n v e =
      let without = labelled-draws scores a (suc b) n v (omega (arith, e)) in
      let with = labelled-draws scores (suc a) b (n + 1) (v +ℤ s) (omega (arith, e)) in
      let at = at-same ((n + 1) + b) (n + suc b) (n + 1) (v +ℤ s) scores (omega arith) in
      let now = two-both (λ xs. g (v +ℤ labelled_sum 1 (s ∷ scores) xs)) a b in
      omega (arith, now, first-left v s scores a (suc b), first-drawn v s scores (suc a) b, without, with, at)

  abbrev signed : ℤ → List ℤ → ℕ
  signed v scores = sum_by (λ xs. g (v +ℤ labelled_sum 1 scores xs)) (sign_lists (length scores))

  pub signed-draws : (scores : List ℤ) (n : ℕ) (v : ℤ) → signed v scores ≡ draw_sum (λ m. g) n v scores
  signed-draws [] n v = sum_by-cons (λ xs. g (v +ℤ labelled_sum 1 [] xs)) [] [] ∙ none (g (v +ℤ pos 0)) ∙ ap g (ended v)
    where
      none : (m : ℕ) → m + 0 ≡ m
      none m = omega arith
  signed-draws (s ∷ scores) n v =
      let all : List ℕ → ℕ = λ xs. g (v +ℤ labelled_sum 1 (s ∷ scores) xs) in
      let lists : List (List ℕ) = sign_lists (length scores) in
      let front = sum_by-fronts all (λ l. l) (λ l. lists) (labels 2) in
      let two = sum_by-cons (λ l. sum_by (λ xs. all (l ∷ xs)) lists) 0 (1 ∷ []) in
      let one = sum_by-cons (λ l. sum_by (λ xs. all (l ∷ xs)) lists) 1 [] in
      let minus = sum_by-same (λ xs. all (0 ∷ xs)) (λ xs. g (v +ℤ labelled_sum 1 scores xs)) (λ xs. ap g (left v (labelled_sum 1 scores xs))) lists in
      let plus = sum_by-same (λ xs. all (1 ∷ xs)) (λ xs. g ((v +ℤ s) +ℤ labelled_sum 1 scores xs)) (λ xs. ap g (taken v s (labelled_sum 1 scores xs))) lists in
      omega (arith, front, two, one, minus, plus, signed-draws scores n v, signed-draws scores (n + 1) (v +ℤ s))

-- ---- what passes a rule

from-none : (v : ℤ) → pos 0 +ℤ v ≡ v
from-none v = omega (arith, ints)

pub drawn-passing : (p : ℤ → Bool) (rule : Rule) → ((v : ℤ) → p v ≡ passes rule v) → (drawn : ℕ) (scores : List ℤ) → drawn ≤ length scores → draw_sum (drawn_at p drawn) 0 (pos 0) scores ≡ passing_draws rule drawn scores
drawn-passing p rule same drawn scores within =
    let whole : length scores ≡ (length scores - drawn) + drawn = omega (arith, within) in
    sym (labelled-draws (once p) scores (length scores - drawn) drawn 0 (pos 0) whole ∙ at-same (once p) (0 + drawn) drawn 0 (pos 0) scores (zero-add drawn))
    ∙ sum_by-same (λ xs. once p (pos 0 +ℤ labelled_sum 1 scores xs)) (λ xs. cond (passes rule (labelled_sum 1 scores xs)) 1 0) (λ xs. ap (once p) (from-none (labelled_sum 1 scores xs)) ∙ ap (λ b. cond b 1 0) (same (labelled_sum 1 scores xs))) (labellings ((length scores - drawn) ∷ drawn ∷ []))

pub signed-passing : (p : ℤ → Bool) (rule : Rule) → ((v : ℤ) → p v ≡ passes rule v) → (scores : List ℤ) → draw_sum (λ n. once p) 0 (pos 0) scores ≡ passing_signs rule scores
signed-passing p rule same scores =
    sym (signed-draws (once p) scores 0 (pos 0))
    ∙ sum_by-same (λ xs. once p (pos 0 +ℤ labelled_sum 1 scores xs)) (λ xs. cond (passes rule (labelled_sum 1 scores xs)) 1 0) (λ xs. ap (once p) (from-none (labelled_sum 1 scores xs)) ∙ ap (λ b. cond b 1 0) (same (labelled_sum 1 scores xs))) (sign_lists (length scores))
