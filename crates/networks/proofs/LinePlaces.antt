-- Where a value stands among ascending lines.
use Rattle.std.proofs.Common.{◌≡◌, ℕ, zero, suc, ◌<◌, ◌≤◌, List, [], ◌∷◌, length, get_or, true, false, cond, arith, ap, ◌∙◌}
use Rattle.std.specs.Prelude.{ℤ, int_lt, ◌<ℤ◌}
use Rattle.std.specs.List.{AllByRecursion}
use Rattle.std.proofs.lemmas.Int.{ints}
use Rattle.std.specs.List.Sorted.{IsPartitionedBy, IsPartitionPoint}
use Rattle.weights.specs.declared.lines.Line.{Line}
use Rattle.networks.specs.Lines.{IsAscending, place_of}
use Rattle.networks.proofs.LineSums.{less-known}

shown : (x y : ℤ) → x <ℤ y → int_lt x y ≡ true
shown x y h = grind (arith, ints)

below-too : (a b v : ℤ) → a <ℤ b → int_lt b v ≡ true → int_lt a v ≡ true
below-too a b v h e = let l : b <ℤ v = less-known b v e in shown a v (omega (arith, ints, h, l))

later-above : (x : ℤ) (v : ℤ) (lines : List Line) (j : ℕ) (d : Line) → AllByRecursion (λ m. x <ℤ m.value) lines → j < length lines → int_lt (get_or lines j d).value v ≡ true → int_lt x v ≡ true
later-above x v [] j d a h e = absurd (omega (arith, h))
later-above x v (l ∷ lines) zero d a h e = below-too x l.value v a.0 e
later-above x v (l ∷ lines) (suc j) d a h e = later-above x v lines j d a.1 (omega (arith, h)) e

pub values-parted : (v : ℤ) (lines : List Line) → IsAscending lines → IsPartitionedBy (λ l. int_lt l.value v) lines
values-parted v [] a i j d h k e = absurd (omega (arith, k))
values-parted v (l ∷ lines) a zero zero d h k e = e
values-parted v (l ∷ lines) a zero (suc j) d h k e = later-above l.value v lines j d a.0 (omega (arith, k)) e
values-parted v (l ∷ lines) a (suc i) zero d h k e = absurd (omega (arith, h))
values-parted v (l ∷ lines) a (suc i) (suc j) d h k e = values-parted v lines a.1 i j d (omega (arith, h)) (omega (arith, k)) e

pub place_is : (v : ℤ) (lines : List Line) (i : ℕ) → i ≤ length lines → IsPartitionPoint (λ l. int_lt l.value v ≡ true) (λ l. int_lt l.value v ≡ false) lines i → place_of v lines ≡ i
place_is v [] i h at = omega (arith, h)
place_is v (l ∷ lines) zero h at = ap (λ b. cond b (suc (place_of v lines)) 0) (at.1 0 l (omega arith) (omega arith))
place_is v (l ∷ lines) (suc i) h at =
    ap (λ b. cond b (suc (place_of v lines)) 0) (at.0 0 l (omega arith) (omega arith))
    ∙ ap suc (place_is v lines i (omega (arith, h)) ((λ k d from below. at.0 (suc k) d (omega arith) (omega (arith, below))), (λ k d from below. at.1 (suc k) d (omega (arith, from)) (omega (arith, below)))))
