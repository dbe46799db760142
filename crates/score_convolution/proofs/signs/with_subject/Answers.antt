use Rattle.std.proofs.Common.{◌≡◌, ◌+◌, ◌≤◌, ◌⊎◌, ℕ, sym, ◌∙◌, ap, subst, arith, rules, FitsSigned}
use Rattle.std.specs.Prelude.{ℤ, pos, ◌+ℤ◌, ◌-ℤ◌, unsigned_abs}
use Rattle.std.specs.Int.{◌∣◌}
use Rattle.std.proofs.lemmas.Int.{ints, to_z-of_z}
use mir.Syntax.{w128}
use Rattle.count_arrays.specs.Rows.{stepped}
use Rattle.score_convolution.specs.DrawRows.{row_draws}
use Rattle.score_convolution.proofs.SignRows.{drawn-or-left, size-between}
use Rattle.score_convolution.proofs.signs.with_subject.Goals as goal

pub place_between-place-requires-clause-apart : goal.place_between-place-requires-clause-apart
place_between-place-requires-clause-apart g c =
    let fl : FitsSigned w128 c.beside_none-lower.result.0 = search rules in
    let fu : FitsSigned w128 c.beside_none-lower.result.1 = search rules in
    let score = to_z-of_z w128 c.args.score c.ranges.score in
    rw (to_z-of_z w128 c.beside_none-lower.result.0 fl, to_z-of_z w128 c.beside_none-lower.result.1 fu)
    (subst (λ n. c.args.stride ∣ n) (sym (size-between c.beside_none-lower.result.0 c.beside_none-lower.result.1 c.args.score (c.beside_none-lower.ensures.sum ∙ score) c.beside_none-lower.ensures.one)) c.requires.apart)

-- how far it lies, by the score's size
near-is : (place : ℕ) (lower upper score : ℤ) → place ≤ unsigned_abs (upper -ℤ lower) → lower +ℤ upper ≡ score → (lower ≡ pos 0) ⊎ (upper ≡ pos 0) → place ≤ unsigned_abs score
near-is place lower upper score h e one = omega (arith, h, size-between lower upper score e one)

pub add-requires-clause-near : goal.add-requires-clause-near
add-requires-clause-near g c =
    let fl : FitsSigned w128 c.beside_none-lower.result.0 = search rules in
    let fu : FitsSigned w128 c.beside_none-lower.result.1 = search rules in
    let score = to_z-of_z w128 c.args.score c.ranges.score in
    let near = near-is c.place_between-place.result _ _ c.args.score (rw (to_z-of_z w128 c.beside_none-lower.result.0 fl, to_z-of_z w128 c.beside_none-lower.result.1 fu) at c.place_between-place.ensures.near) (c.beside_none-lower.ensures.sum ∙ score) c.beside_none-lower.ensures.one in
    omega (arith, near, c.in_ok-next.ensures.long, c.requires.near)

pub returns-clause-long : goal.returns-clause-long
returns-clause-long g c =
    let fl : FitsSigned w128 c.beside_none-lower.result.0 = search rules in
    let fu : FitsSigned w128 c.beside_none-lower.result.1 = search rules in
    let score = to_z-of_z w128 c.args.score c.ranges.score in
    let near = near-is c.place_between-place.result _ _ c.args.score (rw (to_z-of_z w128 c.beside_none-lower.result.0 fl, to_z-of_z w128 c.beside_none-lower.result.1 fu) at c.place_between-place.ensures.near) (c.beside_none-lower.ensures.sum ∙ score) c.beside_none-lower.ensures.one in
    omega (arith, near, c.in_ok-next.ensures.long, c.in_ok-add.ensures.long)

pub returns-clause-told : goal.returns-clause-told
returns-clause-told g c = λ h.
    let cells_of = g.K.Tally.cells in
    let s : ℕ = c.args.stride in
    let row = c.args.row.now in
    let lower : ℤ = c.beside_none-lower.result.0 in
    let upper : ℤ = c.beside_none-lower.result.1 in
    let fl : FitsSigned w128 lower = search rules in
    let fu : FitsSigned w128 upper = search rules in
    let score = to_z-of_z w128 c.args.score c.ranges.score in
    let sum : lower +ℤ upper ≡ c.args.score = c.beside_none-lower.ensures.sum ∙ score in
    let lowest : c.in_ok-next.next.lowest ≡ row.lowest +ℤ lower = rw (to_z-of_z w128 lower fl) at c.in_ok-next.ensures.lowest in
    let place : stepped c.in_ok-next.next.lowest (pos s) c.place_between-place.result ≡ c.in_ok-next.next.lowest +ℤ (upper -ℤ lower) = rw (to_z-of_z w128 lower fl, to_z-of_z w128 upper fu) at (c.place_between-place.ensures.place c.in_ok-next.next.lowest) in
    let at : stepped c.in_ok-next.next.lowest (pos s) c.place_between-place.result ≡ row.lowest +ℤ upper = place ∙ omega (arith, ints, lowest) in
    let added : row_draws cells_of h s c.add.new.self ≡ row_draws cells_of h s c.in_ok-next.next + row_draws cells_of (λ v. h (v +ℤ upper)) s row = c.in_ok-add.ensures.told h s upper at in
    let kept : row_draws cells_of h s c.in_ok-next.next ≡ row_draws cells_of (λ v. h (v +ℤ lower)) s row = rw (to_z-of_z w128 lower fl) at (c.in_ok-next.ensures.told h s) in
    let both = drawn-or-left cells_of s h row lower upper c.args.score sum c.beside_none-lower.ensures.one in
    added ∙ ap (λ n. n + row_draws cells_of (λ v. h (v +ℤ upper)) s row) kept ∙ both
