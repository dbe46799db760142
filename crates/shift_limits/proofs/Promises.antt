-- What is promised of limits.
use Rattle.std.proofs.Common.{◌≡◌, ℕ, zero, suc, ◌+◌, ◌-◌, ◌≤◌, List, length, get_or, Some, None, ne_eqb, refl, sym, ap, ◌∙◌, subst, arith}
use Rattle.std.specs.Prelude.{◌↔◌, ℤ, pos, ◌<ℤ◌, int_le, Option}
use Rattle.std.proofs.Math.Nat.{one-le-pow, pow-le-pow_right}
use Rattle.weights.specs.Labellings.{number_of_labellings}
use Rattle.weights.specs.declared.TheConstants.{MAX}
use Rattle.weights.specs.declared.limits.Limits.{Limits}
use Rattle.weights.specs.declared.odds.Odds.{Odds}
use Rattle.weights.proofs.FirstLabel.{number_of_labellings-positive}
use Rattle.weights.proofs.OneOrder.{IsInOrder, int-order, ordered-in_order}
use Rattle.scores.specs.RawScores.{decimals}
use Rattle.sample_reader.specs.Groups.{GroupData, group_sizes}
use Rattle.shift_limits.specs.Differences.{difference_at, differences, differences_between, sample}
use Rattle.shift_limits.specs.LaterPairs.{misses_at_most}
use Rattle.weights.specs.Odds.{IsMiss}
use Rattle.shift_limits.specs.Limits.{AreShown, HasEitherSide, LimitsDivide, limit_at, limits_of, place_of_limits}
use Rattle.shift_limits.proofs.Dividing.{downs-at, ups-at}
use Rattle.shift_limits.proofs.Halving.{greatest-most, missed-part}
use Rattle.scores.proofs.RawLemmas.{decimals-most}

some-is : (a b : ℤ) → Some a ≡ Some b → a ≡ b
some-is a b e = cc e

-- of an ascending list
divided : (list : List ℤ) (place : ℕ) → IsInOrder int_le list → place ≤ length list → (lower upper z : ℤ)
    → limit_at place (difference_at list place) ≡ Some lower → limit_at place (difference_at list (length list + 1 - place)) ≡ Some upper
    → (lower <ℤ z) × (z <ℤ upper) ↔ HasEitherSide place list z
divided list zero order within lower upper z e f = absurd (none-some lower e)
  where
    none-some : (a : ℤ) → None ≡ Some a → ⊥
    none-some a e = cc e
divided list (suc k) order within lower upper z e f =
    let some : (d : ℤ) → limit_at (suc k) d ≡ Some d = λ d. rw (ne_eqb (suc k) 0 (λ e. absurd (omega (arith, e)))) refl in
    let first : suc k - 1 ≡ k = omega arith in
    let last : length list + 1 - suc k - 1 ≡ length list - suc k = omega (arith, within) in
    let low : lower ≡ get_or list k (pos 0) = sym (some-is (difference_at list (suc k)) lower (sym (some (difference_at list (suc k))) ∙ e)) ∙ ap (λ i. get_or list i (pos 0)) first in
    let high : upper ≡ get_or list (length list - suc k) (pos 0) = sym (some-is (difference_at list (length list + 1 - suc k)) upper (sym (some (difference_at list (length list + 1 - suc k))) ∙ f)) ∙ ap (λ i. get_or list i (pos 0)) last in
    let down = downs-at list z k order (omega (arith, within)) in
    let up = ups-at list z (length list - suc k) order (omega (arith, within)) in (
      λ h. (omega (arith, down.0 (subst (λ x. x <ℤ z) low h.0)), omega (arith, within, up.0 (subst (λ x. z <ℤ x) high h.1))),
      λ h. (subst (λ x. x <ℤ z) (sym low) (down.1 (omega (arith, h.0))), subst (λ x. z <ℤ x) (sym high) (up.1 (omega (arith, within, h.1)))),
    )

pub limits-divide : (groups : GroupData) (miss : Odds) → LimitsDivide groups miss (limits_of groups miss)
limits-divide groups miss lower upper z =
    divided (differences groups) (place_of_limits groups miss) (ordered-in_order int_le int-order (differences_between (sample 0 groups) (sample 1 groups)))
    (greatest-most (misses_at_most (group_sizes groups) miss) (length (differences groups))) lower upper z

pub are-shown : (groups : GroupData) (miss : Odds) → IsMiss miss → number_of_labellings (group_sizes groups) ≤ MAX → AreShown (limits_of groups miss)
are-shown groups miss part fits = record {
  some = number_of_labellings-positive (group_sizes groups);
  fits = fits;
  part = missed-part (group_sizes groups) miss (length (differences groups)) part.part;
  whole = one-le-pow (decimals groups.values) 10 (omega arith);
  few_places = pow-le-pow_right {n = 10} (omega arith) {i = decimals groups.values} {j = 18} (decimals-most groups.values);
}

abbrev made : ℕ → ℕ → ℤ → Option ℤ → Option ℤ → ℕ → ℕ → Limits
made differences places middle lower upper total missed = record { differences = differences; places = places; middle = middle; lower = lower; upper = upper; total = total; missed = missed }

-- limits with the same fields
pub same-limits : {d e p q t u m n : ℕ} {a b : ℤ} {f g h k : Option ℤ} → d ≡ e → p ≡ q → a ≡ b → f ≡ g → h ≡ k → t ≡ u → m ≡ n
    → made d p a f h t m ≡ made e q b g k u n
same-limits i j v l w x y = rw (i, j, v, l, w, x, y) refl
