-- Bounds of the values that pass a rule.
use Rattle.std.proofs.Common.{◌≡◌, ◌↔◌, ℕ, zero, suc, ◌*◌, ◌/◌, ◌<◌, ◌≤◌, Bool, true, false, refl, sym, ◌∙◌, ap, arith, subst, FitsSigned, ◌^◌}
use Rattle.std.specs.Prelude.{ℤ, pos, negsuc, ◌+ℤ◌, ◌-ℤ◌, ◌*ℤ◌, ◌<ℤ◌, int_le, int_lt, nat_abs, nat_le, Option, Some, None, IfSome}
use Rattle.std.proofs.Math.IntN.{neg_ℤ}
use Rattle.std.proofs.lemmas.Int.{ints, to_z_pos}
use Rattle.std.proofs.Math.IntN.{pos-*ℤ-pos, pos-*ℤ-negsuc}
use Rattle.std.proofs.Math.Nat.{le-div_iff_mul-le, div-le_self}
use mir.Syntax.{w128}
use mir.Val.{to_z}
use Rattle.weights.specs.Rules.{passes}
use Rattle.weights.specs.declared.rules.Rule.TheVariants.{Far}
use Rattle.score_convolution.specs.declared.sides.Sides.{Sides}
use Rattle.score_convolution.specs.declared.sides.Sides.TheVariants.{Apart}
use Rattle.score_convolution.specs.Sides.{AreOrdered, AreSidesOf, is_beyond, is_in}

both : (a b : Bool) → (a ≡ true → b ≡ true) → (b ≡ true → a ≡ true) → a ≡ b
both true true h k = refl
both true false h k = sym (h refl)
both false true h k = k refl
both false false h k = refl

-- what a factor takes to at most a bound that is not negative
pub quotient-up : (b q : ℕ) → 0 < q → (v : ℤ) → int_le v (pos (b / q)) ≡ int_le (pos q *ℤ v) (pos b)
quotient-up b q h (pos u) =
    let product : pos q *ℤ pos u ≡ pos (q * u) = pos-*ℤ-pos q u in
    let turned : u * q ≡ q * u = grind arith in
    let is : (u ≤ b / q) ↔ (u * q ≤ b) = le-div_iff_mul-le {k = q} {x = u} {y = b} h in
    subst (λ z. int_le (pos u) (pos (b / q)) ≡ int_le z (pos b)) (sym product)
    (both _ _ (λ e. (let le : u ≤ b / q = grind (arith, ints, e) in let low : u * q ≤ b = is.0 le in let low' : q * u ≤ b = omega (arith, turned, low) in grind (arith, ints)))
    (λ e. (let low : q * u ≤ b = grind (arith, ints, e) in let low' : u * q ≤ b = omega (arith, turned, low) in let le : u ≤ b / q = is.1 low' in grind (arith, ints))))
quotient-up b q h (negsuc u) =
    let product : pos q *ℤ negsuc u ≡ neg_ℤ (pos (q * suc u)) = pos-*ℤ-negsuc q u in
    subst (λ z. int_le (negsuc u) (pos (b / q)) ≡ int_le z (pos b)) (sym product) (sym (below (q * suc u)))
  where
    below : (m : ℕ) → int_le (neg_ℤ (pos m)) (pos b) ≡ true
    below zero = grind (arith, ints)
    below (suc m) = refl

-- at least so far from a centre
pub far-is : (q : ℕ) (c : ℤ) (d : ℕ) → 0 < d → (v : ℤ) → is_beyond (pos q *ℤ v) (c -ℤ pos d) (c +ℤ pos d) ≡ passes (Far q c d) v
far-is q c d h v = by (pos q *ℤ v)
  where
    at : (y : ℤ) → is_beyond (c +ℤ y) (c -ℤ pos d) (c +ℤ pos d) ≡ nat_le d (nat_abs y)
    at (pos n) = grind (arith, ints)
    at (negsuc n) = grind (arith, ints)

    by : (z : ℤ) → is_beyond z (c -ℤ pos d) (c +ℤ pos d) ≡ nat_le d (nat_abs (z -ℤ c))
    by z =
        let e : c +ℤ (z -ℤ c) ≡ z = omega (arith, ints) in
        let cancel : (c +ℤ (z -ℤ c)) -ℤ c ≡ z -ℤ c = omega (arith, ints) in
        subst (λ x. is_beyond x (c -ℤ pos d) (c +ℤ pos d) ≡ nat_le d (nat_abs (x -ℤ c))) e (at (z -ℤ c) ∙ ap (λ y. nat_le d (nat_abs y)) (sym cancel))

-- the quotient, as it is computed
pub quotient-is : (bound : ℤ) (q size : ℕ) → 0 < q → FitsSigned w128 bound → int_le (pos 0) bound ≡ true → size ≡ nat_abs bound → (v : ℤ) → int_le v (to_z w128 (size / q)) ≡ int_le (pos q *ℤ v) bound
quotient-is (pos b) q size h f e is v =
    let small : size / q < 2 ^ 127 = omega (arith, div-le_self size q, is, f.sfits) in
    rw (to_z_pos w128 (size / q) small, is) (quotient-up b q h v)
quotient-is (negsuc b) q size h f e is v = cc

-- both bounds together
flipped : (b v z last : ℤ) → int_le v b ≡ int_le z last → int_lt b v ≡ int_lt last z
flipped b v z last e = by (int_le v b) (int_lt b v) (int_le z last) (int_lt last z) refl refl refl refl
  where
    by : (p q r s : Bool) → int_le v b ≡ p → int_lt b v ≡ q → int_le z last ≡ r → int_lt last z ≡ s → q ≡ s
    by p q r s i j k l = grind (arith, ints)

after : (last above z : ℤ) → last ≡ above -ℤ pos 1 → int_lt last z ≡ int_le above z
after last above z e = rw e (grind (arith, ints))

pub beyond-is : (z below above a b last v : ℤ) → int_le v a ≡ int_le z below → int_le v b ≡ int_le z last → last ≡ above -ℤ pos 1 → is_in (Apart a b) v ≡ is_beyond z below above
beyond-is z below above a b last v e f is = rw (e, flipped b v z last f, after last above z is) refl

pub far-sides : (q : ℕ) (c : ℤ) (d : ℕ) (below above : ℤ) (result : Option Sides) → 0 < d → below ≡ c -ℤ pos d → above ≡ c +ℤ pos d → IfSome result (λ sides. (v : ℤ) → is_in sides v ≡ is_beyond (pos q *ℤ v) below above) → (below <ℤ above → IfSome result AreOrdered) → IfSome result (AreSidesOf (Far q c d))
far-sides q c d below above None h e f pass ordered = tt
far-sides q c d below above (Some sides) h e f pass ordered = record {
  ordered = ordered (omega (arith, ints, e, f, h));
  pass = λ v. pass v ∙ ap (λ z. is_beyond (pos q *ℤ v) z above) e ∙ ap (λ z. is_beyond (pos q *ℤ v) (c -ℤ pos d) z) f ∙ far-is q c d h v;
}
