-- A width that does for counts does for them with their zeros behind.
use Rattle.std.proofs.Common.{◌≡◌, ℕ, zero, suc, ◌+◌, ◌<◌, ◌≤◌, List, [], ◌∷◌, ◌++◌, length, get_or, drop, true, refl, ap, arith, suc-add, nat_le}
use Rattle.std.specs.List.{sum}
use Rattle.weights.specs.Grouped.{fits}
use Rattle.weights.proofs.Sized.{first_and}
use Rattle.label_network.specs.LabelSteps.{IsHeld}
use Rattle.kendall_test.proofs.Arranged.{arranged, none-fits, sum-arranged, sum-end}

held-first : (width a : ℕ) (x : List ℕ) → IsHeld width (a ∷ x) → width ≤ a → sum x < width
held-first width a x h l = h.each 0 (omega arith) l

drop-later : (i a : ℕ) (x : List ℕ) → drop (suc i + 1) (a ∷ x) ≡ drop (i + 1) x
drop-later i a x = rw (suc-add i 1) refl

held-later : (width a : ℕ) (x : List ℕ) → IsHeld width (a ∷ x) → IsHeld width x
held-later width a x h = record { each = λ i l m. omega (arith, ap sum (drop-later i a x), h.each (suc i) (omega (arith, l)) m) }

held-cons : (width a : ℕ) (x : List ℕ) → (width ≤ a → sum x < width) → IsHeld width x → IsHeld width (a ∷ x)
held-cons width a x first h = record { each = each }
  where
    each : (i : ℕ) → i < length (a ∷ x) → width ≤ get_or (a ∷ x) i 0 → sum (drop (i + 1) (a ∷ x)) < width
    each zero l m = first m
    each (suc i) l m = omega (arith, ap sum (drop-later i a x), h.each i (omega (arith, l)) m)

held-end : (width : ℕ) (x : List ℕ) → 1 ≤ width → IsHeld width x → IsHeld width (x ++ 0 ∷ [])
held-end width [] some h = held-cons width 0 [] (λ l. absurd (omega (arith, l, some))) h
held-end width (a ∷ x) some h = held-cons width a (x ++ 0 ∷ []) (λ l. omega (arith, sum-end x, held-first width a x h l)) (held-end width x some (held-later width a x h))

pub held-arranged : (width : ℕ) (r x : List ℕ) → fits x r ≡ true → IsHeld width x → IsHeld width (arranged r x)
held-arranged width [] x f h = h
held-arranged width (r ∷ rs) [] f h = absurd (cc f)
held-arranged width (zero ∷ rs) (suc a ∷ x) f h = absurd (none-fits a x rs f)
held-arranged width (zero ∷ rs) (zero ∷ x) f h = by width h (held-arranged width rs x (first_and (nat_le 0 0) (fits x rs) f).1 (held-later width 0 x h))
  where
    by : (w : ℕ) → IsHeld w (0 ∷ x) → IsHeld w (arranged rs x) → IsHeld w (arranged rs x ++ 0 ∷ [])
    by zero h k = absurd (omega (arith, held-first 0 0 x h (omega arith)))
    by (suc w) h k = held-end (suc w) (arranged rs x) (omega arith) k
held-arranged width (suc r ∷ rs) (a ∷ x) f h =
    let rest : fits x rs ≡ true = (first_and (nat_le a (suc r)) (fits x rs) f).1 in
    held-cons width a (arranged rs x) (λ l. omega (arith, sum-arranged rs x rest, held-first width a x h l)) (held-arranged width rs x rest (held-later width a x h))
