use Rattle.std.proofs.Common.{ℕ, sym, ◌∙◌, arith, rules, FitsSigned}
use Rattle.std.specs.Prelude.{◌+ℤ◌}
use Rattle.std.proofs.lemmas.Int.{to_z-of_z}
use mir.Syntax.{w128}
use Rattle.score_convolution.proofs.RowPairs.{IsFirst, placed-are}
use Rattle.score_convolution.proofs.ScoreTotals.{size-plus}
use Rattle.score_convolution.proofs.pairs.pairs_above.Goals as goal

pub plus-requires : goal.plus-requires
plus-requires g c =
    let fb : FitsSigned w128 c.args.one.now.lowest = search rules in
    let fc : FitsSigned w128 c.args.other.now.lowest = search rules in
    rw (to_z-of_z w128 c.args.one.now.lowest fb, to_z-of_z w128 c.args.other.now.lowest fc) c.requires.few.small

pub first_above-place-requires-clause-small : goal.first_above-place-requires-clause-small
first_above-place-requires-clause-small g c =
    let one = c.args.one.now in
    let other = c.args.other.now in
    let fa : FitsSigned w128 c.plus.result = search rules in
    let fb : FitsSigned w128 one.lowest = search rules in
    let fc : FitsSigned w128 other.lowest = search rules in
    let lowest = to_z-of_z w128 c.plus.result fa ∙ (rw (to_z-of_z w128 one.lowest fb, to_z-of_z w128 other.lowest fc) at c.plus.ensures) in
    rw lowest (omega (arith, size-plus one.lowest other.lowest, c.requires.few.small))

pub pairs_from-requires-clause-light : goal.pairs_from-requires-clause-light
pairs_from-requires-clause-light g c = omega (arith, c.requires.few.second.whole, c.requires.few.second.fits)

pub pairs_from-requires-clause-fits : goal.pairs_from-requires-clause-fits
pairs_from-requires-clause-fits g c = rw (← c.requires.few.first.whole, ← c.requires.few.second.whole) c.requires.few.fits

pub returns : goal.returns
returns g c =
    let cells_of = g.K.Tally.cells in
    let one = c.args.one.now in
    let other = c.args.other.now in
    let s : ℕ = c.args.stride in
    let fa : FitsSigned w128 c.plus.result = search rules in
    let fb : FitsSigned w128 one.lowest = search rules in
    let fc : FitsSigned w128 other.lowest = search rules in
    let lowest = to_z-of_z w128 c.plus.result fa ∙ (rw (to_z-of_z w128 one.lowest fb, to_z-of_z w128 other.lowest fc) at c.plus.ensures) in
    let place : ℕ = c.first_above-place.result in
    let first : IsFirst c.args.bound s (one.lowest +ℤ other.lowest) place =
    λ n. (rw (to_z-of_z w128 c.args.bound c.ranges.bound, lowest) at (c.first_above-place.ensures n)) in
    c.pairs_from.ensures ∙ sym (placed-are cells_of s one other c.args.bound place first)
