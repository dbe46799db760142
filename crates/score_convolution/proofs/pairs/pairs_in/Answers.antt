use Rattle.std.proofs.Common.{◌≡◌, ℕ, List, arith, rules, ◌∙◌, ap, sym, subst}
use Rattle.std.specs.Prelude.{ℤ, int_lt}
use Rattle.std.proofs.lemmas.Int.{to_z-of_z}
use mir.Syntax.{w128}
use Rattle.score_convolution.specs.declared.sides.Sides.{Sides}
use Rattle.score_convolution.specs.declared.sides.Sides.TheVariants.{Apart}
use Rattle.score_convolution.specs.Sides.{AreOrdered, is_in, once}
use Rattle.score_convolution.specs.Meetings.{pair_draws}
use Rattle.score_convolution.specs.declared.rows.DrawRow.{DrawRow}
use Rattle.score_convolution.proofs.RowPairs.{pairs-all, pairs-apart, pairs-most, pairs-up_to}
use Rattle.score_convolution.proofs.pairs.pairs_in.Goals as goal

-- by the bound itself
above-is : {K : Type 0} (cells_of : K → List ℕ) (s : ℕ) (one other : DrawRow K) (bound b : ℤ) (pairs : ℕ) → b ≡ bound → pairs ≡ pair_draws cells_of (once (int_lt b)) s one other → pairs ≡ pair_draws cells_of (once (int_lt bound)) s one other
above-is cells_of s one other bound b pairs e is = is ∙ ap (λ z. pair_draws cells_of (once (int_lt z)) s one other) e

pub overflow_sub-result : goal.overflow_sub-result
overflow_sub-result g c =
    let cells_of = g.K.Tally.cells in
    omega (
      arith,
      above-is cells_of c.args.stride c.args.one.now c.args.other.now c.in-UpTo.most _ _ (to_z-of_z w128 c.in-UpTo.most (search rules)) c.pairs_above.ensures,
      pairs-most cells_of c.args.stride c.args.one.now c.args.other.now g.K.Tally.LIMIT c.requires.few (int_lt c.in-UpTo.most),
    )

pub overflow_sub-result-in-Apart : goal.overflow_sub-result-in-Apart
overflow_sub-result-in-Apart g c =
    let cells_of = g.K.Tally.cells in
    omega (
      arith,
      above-is cells_of c.args.stride c.args.one.now c.args.other.now c.in-Apart.most _ _ (to_z-of_z w128 c.in-Apart.most (search rules)) c.pairs_above-over.ensures,
      pairs-most cells_of c.args.stride c.args.one.now c.args.other.now g.K.Tally.LIMIT c.requires.few (int_lt c.in-Apart.most),
    )

pub overflow_add-result : goal.overflow_add-result
overflow_add-result g c =
    let cells_of = g.K.Tally.cells in
    let s : ℕ = c.args.stride in
    let one = c.args.one.now in
    let other = c.args.other.now in
    omega (
      arith,
      above-is cells_of s one other c.in-Apart.most _ _ (to_z-of_z w128 c.in-Apart.most (search rules)) c.pairs_above-over.ensures,
      above-is cells_of s one other c.in-Apart.least _ _ (to_z-of_z w128 c.in-Apart.least (search rules)) c.pairs_above-above.ensures,
      pairs-up_to cells_of s one other g.K.Tally.LIMIT c.requires.few c.in-Apart.most,
      pairs-apart cells_of s one other g.K.Tally.LIMIT c.requires.few c.in-Apart.most c.in-Apart.least (subst AreOrdered c.in-Apart.is c.requires.ordered),
      pairs-most cells_of s one other g.K.Tally.LIMIT c.requires.few (is_in (Apart c.in-Apart.most c.in-Apart.least)),
      c.requires.few.fits,
    )

pub returns-in-Every : goal.returns-in-Every
returns-in-Every g c =
    sym (pairs-all g.K.Tally.cells c.args.stride c.args.one.now c.args.other.now g.K.Tally.LIMIT c.requires.few)
    ∙ ap (λ (p : Sides). pair_draws g.K.Tally.cells (once (is_in p)) c.args.stride c.args.one.now c.args.other.now) (sym c.in-Every.is)

pub returns-in-UpTo : goal.returns-in-UpTo
returns-in-UpTo g c =
    let cells_of = g.K.Tally.cells in
    let s : ℕ = c.args.stride in
    let one = c.args.one.now in
    let other = c.args.other.now in
    let here = ap (λ (p : Sides). pair_draws cells_of (once (is_in p)) s one other) c.in-UpTo.is in
    omega (arith, here, above-is cells_of s one other c.in-UpTo.most _ _ (to_z-of_z w128 c.in-UpTo.most (search rules)) c.pairs_above.ensures, pairs-up_to cells_of s one other g.K.Tally.LIMIT c.requires.few c.in-UpTo.most)

pub returns-in-Above : goal.returns-in-Above
returns-in-Above g c =
    let cells_of = g.K.Tally.cells in
    let s : ℕ = c.args.stride in
    let one = c.args.one.now in
    let other = c.args.other.now in
    above-is cells_of s one other c.in-Above.least _ _ (to_z-of_z w128 c.in-Above.least (search rules)) c.pairs_above-in-Above.ensures
    ∙ ap (λ (p : Sides). pair_draws cells_of (once (is_in p)) s one other) (sym c.in-Above.is)

pub returns-in-Apart : goal.returns-in-Apart
returns-in-Apart g c =
    let cells_of = g.K.Tally.cells in
    let s : ℕ = c.args.stride in
    let one = c.args.one.now in
    let other = c.args.other.now in
    let here = ap (λ (p : Sides). pair_draws cells_of (once (is_in p)) s one other) c.in-Apart.is in
    omega (
      arith,
      here,
      above-is cells_of s one other c.in-Apart.most _ _ (to_z-of_z w128 c.in-Apart.most (search rules)) c.pairs_above-over.ensures,
      above-is cells_of s one other c.in-Apart.least _ _ (to_z-of_z w128 c.in-Apart.least (search rules)) c.pairs_above-above.ensures,
      pairs-up_to cells_of s one other g.K.Tally.LIMIT c.requires.few c.in-Apart.most,
      pairs-apart cells_of s one other g.K.Tally.LIMIT c.requires.few c.in-Apart.most c.in-Apart.least (subst AreOrdered c.in-Apart.is c.requires.ordered),
    )
