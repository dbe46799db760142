use Rattle.std.proofs.Common.{◌≡◌, ◌+◌, ◌*◌, ◌^◌, ◌<◌, ◌≤◌, ℕ, suc, List, length, take, get_or, ap, ◌∙◌, arith, pow-suc, rules, FitsSigned}
use Rattle.std.specs.Prelude.{ℤ, pos, ◌+ℤ◌, unsigned_abs}
use Rattle.std.proofs.Math.Pow.{pow_mono}
use Rattle.std.proofs.lemmas.Int.{to_z-of_z}
use Rattle.std.proofs.lemmas.List.{take_all}
use mir.Syntax.{w128}
use Rattle.score_convolution.specs.Draws.{draw_sum}
use Rattle.score_convolution.specs.DrawRows.{row_draws}
use Rattle.score_convolution.proofs.RowSteps.{subject-more, take-one}
use Rattle.score_convolution.proofs.ScoreTotals.{absolute-next, absolute-within}
use Rattle.score_convolution.proofs.signs.sign_row.Goals as goal

-- one more draws twice as many
doubled : (total i n : ℕ) → total ≡ 2 ^ i → i < n → 2 * total ≤ 2 ^ n
doubled total i n e h =
    let more : 2 ^ suc i ≤ 2 ^ n = pow_mono {i = suc i} {j = n} (omega (arith, h)) in
    omega (arith, e, pow-suc 2 i, more)

doubled-is : (i : ℕ) → 2 * 2 ^ i ≡ 2 ^ (i + 1)
doubled-is i =
    let one : i + 1 ≡ suc i = omega arith in
    rw one (omega (arith, pow-suc 2 i))

pub with_subject-requires-clause-apart : goal.with_subject-requires-clause-apart
with_subject-requires-clause-apart g c =
    let score : ℤ = get_or c.args.scores.now c.loop-i.i (pos 0) in
    let fits : FitsSigned w128 score = search rules in
    rw (to_z-of_z w128 score fits) (c.requires.apart c.loop-i.i (pos 0) c.loop-i-test.true)

pub with_subject-requires-clause-small : goal.with_subject-requires-clause-small
with_subject-requires-clause-small g c =
    let scores : List ℤ = c.args.scores.now in
    let score : ℤ = get_or scores c.loop-i.i (pos 0) in
    let fits : FitsSigned w128 score = search rules in
    rw (to_z-of_z w128 score fits) (omega (arith, c.loop-i.invariant.small, absolute-next scores c.loop-i.i c.loop-i-test.true, absolute-within (c.loop-i.i + 1) scores, c.requires.small))

pub with_subject-requires-clause-near : goal.with_subject-requires-clause-near
with_subject-requires-clause-near g c =
    let scores : List ℤ = c.args.scores.now in
    let score : ℤ = get_or scores c.loop-i.i (pos 0) in
    let fits : FitsSigned w128 score = search rules in
    rw (to_z-of_z w128 score fits) (omega (arith, c.loop-i.invariant.long, absolute-next scores c.loop-i.i c.loop-i-test.true, absolute-within (c.loop-i.i + 1) scores, c.requires.small))

pub with_subject-requires-clause-within : goal.with_subject-requires-clause-within
with_subject-requires-clause-within g c = omega (arith, doubled c.loop-i.row.total c.loop-i.i (length c.args.scores.now) c.loop-i.invariant.total c.loop-i-test.true, c.requires.within)

pub with_subject-requires-clause-fits : goal.with_subject-requires-clause-fits
with_subject-requires-clause-fits g c = omega (arith, doubled c.loop-i.row.total c.loop-i.i (length c.args.scores.now) c.loop-i.invariant.total c.loop-i-test.true, c.requires.fits)

pub loop-i-preserved : goal.loop-i-preserved
loop-i-preserved g c =
    let cells_of = g.K.Tally.cells in
    let i : ℕ = c.loop-i.i in
    let s : ℕ = c.args.stride in
    let scores : List ℤ = c.args.scores.now in
    let score : ℤ = get_or scores i (pos 0) in
    let fits : FitsSigned w128 score = search rules in
    let small : unsigned_abs c.in_ok-row-2.row.lowest ≤ unsigned_abs c.loop-i.row.lowest + unsigned_abs score = rw (to_z-of_z w128 score fits) at c.in_ok-row-2.ensures.small in
    let longer : length (cells_of c.in_ok-row-2.row.tally) ≤ length (cells_of c.loop-i.row.tally) + unsigned_abs score = rw (to_z-of_z w128 score fits) at c.in_ok-row-2.ensures.long in
    let twice : c.in_ok-row-2.row.total ≡ 2 * c.loop-i.row.total = c.in_ok-row-2.ensures.total in
    record {
      within = omega (arith, c.loop-i-test.true);
      row = c.in_ok-row-2.ensures.row;
      total = omega (arith, twice, c.loop-i.invariant.total, doubled-is i);
      small = omega (arith, small, c.loop-i.invariant.small, absolute-next scores i c.loop-i-test.true);
      long = omega (arith, longer, c.loop-i.invariant.long, absolute-next scores i c.loop-i-test.true);
      told = λ h.
          let added : row_draws cells_of h s c.in_ok-row-2.row ≡ row_draws cells_of h s c.loop-i.row + row_draws cells_of (λ v. h (v +ℤ score)) s c.loop-i.row = rw (to_z-of_z w128 score fits) at (c.in_ok-row-2.ensures.told h) in
          omega (
            arith,
            added,
            c.loop-i.invariant.told h,
            c.loop-i.invariant.told (λ v. h (v +ℤ score)),
            subject-more (λ n. h) score (take i scores) 0 (pos 0),
            ap (draw_sum (λ n. h) 0 (pos 0)) (take-one scores i (pos 0) c.loop-i-test.true),
          );
    }

pub returns-clause-total : goal.returns-clause-total
returns-clause-total g c =
    let all : c.loop-i.i ≡ length c.args.scores.now = omega (arith, c.loop-i-test.false, c.loop-i.invariant.within) in
    c.loop-i.invariant.total ∙ ap (λ n. 2 ^ n) all

pub returns-clause-small : goal.returns-clause-small
returns-clause-small g c =
    rw (take_all c.loop-i.i c.args.scores.now (omega (arith, c.loop-i-test.false))) at c.loop-i.invariant.small

pub returns-clause-told : goal.returns-clause-told
returns-clause-told g c = λ h. c.loop-i.invariant.told h ∙ ap (draw_sum (λ n. h) 0 (pos 0)) (take_all c.loop-i.i c.args.scores.now (omega (arith, c.loop-i-test.false)))
