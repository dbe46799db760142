use Rattle.std.proofs.Common.{◌≡◌, ◌*◌, ◌^◌, List, length, inl, inr, ap, sym, ◌∙◌, arith}
use Rattle.std.specs.Prelude.{ℤ, pos}
use Rattle.std.proofs.lemmas.Nat.{pow-add}
use Rattle.networks.specs.Asked.{asks}
use Rattle.score_convolution.specs.Sides.{is_in, once, sides_for}
use Rattle.score_convolution.specs.Draws.{draw_sum}
use Rattle.score_convolution.proofs.Halves.{second-each, sizes, whole}
use Rattle.score_convolution.proofs.SignRows.{asked-is, halves-met}
use Rattle.score_convolution.proofs.Widths.{halves-fit, halves-narrow}
use Rattle.score_convolution.proofs.signs.half_sums.Goals as goal

pub sign_row-requires-clause-small : goal.sign_row-requires-clause-small
sign_row-requires-clause-small g c = omega (arith, sizes c.args.scores.now c.split_at.result.0.now c.split_at.result.1.now (whole c.args.scores.now c.split_at.result.0.now c.split_at.result.1.now c.split_at.ensures.front c.split_at.ensures.back), c.requires.small)

pub sign_row-requires-clause-within : goal.sign_row-requires-clause-within
sign_row-requires-clause-within g c = omega (arith, halves-narrow (length c.split_at.result.0.now) (length c.args.scores.now) c.requires.fits (inl (omega (arith, c.split_at.ensures.front_len))), c.requires.counts)

pub sign_row-requires-clause-fits : goal.sign_row-requires-clause-fits
sign_row-requires-clause-fits g c = halves-fit (length c.split_at.result.0.now) (length c.args.scores.now) c.requires.fits (omega (arith, c.split_at.ensures.front_len))

pub sign_row-requires-2-clause-apart : goal.sign_row-requires-2-clause-apart
sign_row-requires-2-clause-apart g c = second-each c.args.stride c.args.scores.now c.split_at.result.0.now c.split_at.result.1.now (whole c.args.scores.now c.split_at.result.0.now c.split_at.result.1.now c.split_at.ensures.front c.split_at.ensures.back) c.requires.apart

pub sign_row-requires-2-clause-small : goal.sign_row-requires-2-clause-small
sign_row-requires-2-clause-small g c = omega (arith, sizes c.args.scores.now c.split_at.result.0.now c.split_at.result.1.now (whole c.args.scores.now c.split_at.result.0.now c.split_at.result.1.now c.split_at.ensures.front c.split_at.ensures.back), c.requires.small)

pub sign_row-requires-2-clause-within : goal.sign_row-requires-2-clause-within
sign_row-requires-2-clause-within g c = omega (arith, halves-narrow (length c.split_at.result.1.now) (length c.args.scores.now) c.requires.fits (inr (omega (arith, c.split_at.ensures.back_len))), c.requires.counts)

pub sign_row-requires-2-clause-fits : goal.sign_row-requires-2-clause-fits
sign_row-requires-2-clause-fits g c = halves-fit (length c.split_at.result.1.now) (length c.args.scores.now) c.requires.fits (omega (arith, c.split_at.ensures.back_len))

pub row_pairs-requires-clause-few : goal.row_pairs-requires-clause-few
row_pairs-requires-clause-few g c =
    let first : List ℤ = c.split_at.result.0.now in
    let second : List ℤ = c.split_at.result.1.now in
    let all = whole c.args.scores.now first second c.split_at.ensures.front c.split_at.ensures.back in
    let pairs : 2 ^ length first * 2 ^ length second ≡ 2 ^ length c.args.scores.now = sym (pow-add 2 (length first) (length second)) ∙ ap (λ n. 2 ^ n) (omega (arith, c.split_at.ensures.front_len, c.split_at.ensures.back_len)) in
    record {
      first = c.in_ok-row.ensures.row;
      second = c.in_ok-other.ensures.row;
      fits = rw (c.in_ok-row.ensures.total, c.in_ok-other.ensures.total, pairs) c.requires.fits;
      small = omega (arith, c.in_ok-row.ensures.small, c.in_ok-other.ensures.small, sizes c.args.scores.now first second all, c.requires.small);
    }

pub returns : goal.returns
returns g c t asked =
    let p = is_in (sides_for c.args.sides.now t) in
    let first : List ℤ = c.split_at.result.0.now in
    let second : List ℤ = c.split_at.result.1.now in
    c.row_pairs.ensures t
    ∙ asked-is (asks c.args.tails t) _ asked
    ∙ halves-met g.K.Tally.cells c.args.stride p first second c.in_ok-row.row c.in_ok-other.other c.in_ok-row.ensures.told c.in_ok-other.ensures.told
    ∙ ap (draw_sum (λ m. once p) 0 (pos 0)) (whole c.args.scores.now first second c.split_at.ensures.front c.split_at.ensures.back)
