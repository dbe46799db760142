-- How far a product is above a size.
use Rattle.std.proofs.Common.{◌≡◌, ℕ, ◌+◌, ◌*◌, ◌-◌, ◌/◌, ◌%◌, ◌<◌, ◌∙◌, ap, arith}
use Rattle.std.specs.Prelude.{◌-ℤ◌, pos, nat_abs}
use Rattle.std.proofs.Math.Nat.{div-add-mod, mod-lt}
use Rattle.std.proofs.lemmas.Int.{ints}

apart-at : (a s x : ℕ) → a ≡ s + x → nat_abs (pos a -ℤ pos s) ≡ x
apart-at a s x e = grind (arith, ints, e)

-- from the first multiple of the factor above the size on
pub above-size : (f v s : ℕ) → 0 < f → s / f < v → nat_abs (pos (f * v) -ℤ pos s) ≡ f * (v - s / f - 1) + (f - s % f)
above-size f v s some above =
    let whole : ℕ = s / f in
    let more : ℕ = v - whole - 1 in
    let times : v ≡ whole + 1 + more = omega (arith, above) in
    let product : f * v ≡ f * whole + f + f * more = ap (λ n. f * n) times ∙ grind (arith) in
    apart-at (f * v) s (f * more + (f - s % f)) (omega (arith, product, div-add-mod s f, mod-lt s some))
