-- Subjects in two halves.
use Rattle.std.proofs.Common.{◌≡◌, ℕ, ◌+◌, ◌/◌, List, ◌++◌, length, get_or, take, drop, ap, sym, subst, ◌∙◌, arith}
use Rattle.std.specs.Prelude.{ℤ, All, unsigned_abs}
use Rattle.std.specs.Int.{◌∣◌}
use Rattle.std.proofs.lemmas.List.{get_or-append-add, length-append, take-append-drop}
use Rattle.weights.specs.Numbers.{absolute_sum}
use Rattle.score_convolution.proofs.ScoreTotals.{absolute-append}

-- both halves are all
pub whole : (scores first second : List ℤ) → first ≡ take (length scores / 2) scores → second ≡ drop (length scores / 2) scores → first ++ second ≡ scores
whole scores first second e h = ap (λ xs. xs ++ second) e ∙ ap (λ xs. take (length scores / 2) scores ++ xs) h ∙ take-append-drop (length scores / 2) scores

pub sizes : (scores first second : List ℤ) → first ++ second ≡ scores → absolute_sum first + absolute_sum second ≡ absolute_sum scores
sizes scores first second e = sym (absolute-append first second) ∙ ap absolute_sum e

pub second-each : (d : ℕ) (scores first second : List ℤ) → first ++ second ≡ scores → All (λ s. d ∣ unsigned_abs s) scores → All (λ s. d ∣ unsigned_abs s) second
second-each d scores first second e all k x h =
    subst (λ z. d ∣ unsigned_abs z) (ap (λ xs. get_or xs (length first + k) x) (sym e) ∙ get_or-append-add first second k x) (all (length first + k) x (omega (arith, h, length-append first second, ap length e)))
