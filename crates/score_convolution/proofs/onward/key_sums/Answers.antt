use Rattle.std.proofs.Common.{◌≡◌, ◌*◌, ◌^◌, List, length, inl, inr, ap, sym, ◌∙◌, arith}
use Rattle.std.specs.Prelude.{ℤ, pos, ◌+ℤ◌}
use Rattle.std.proofs.lemmas.Nat.{pow-add}
use Rattle.node_pool.specs.PoolSteps.{nodes_of}
use Rattle.score_convolution.specs.DrawRows.{number_of}
use Rattle.score_convolution.specs.Meetings.{pair_draws}
use Rattle.score_convolution.specs.Sides.{is_in, once}
use Rattle.score_convolution.specs.Draws.{draw_sum}
use Rattle.score_convolution.proofs.Halves.{second-each, sizes, whole}
use Rattle.score_convolution.proofs.KeyDraws.{weighted-same}
use Rattle.score_convolution.proofs.SignRows.{halves-met}
use Rattle.score_convolution.proofs.Widths.{halves-fit, halves-narrow}
use Rattle.score_convolution.proofs.onward.key_sums.Goals as goal

pub sign_row-requires-clause-small : goal.sign_row-requires-clause-small
sign_row-requires-clause-small g c = omega (arith, sizes c.args.left.now c.split_at.result.0.now c.split_at.result.1.now (whole c.args.left.now c.split_at.result.0.now c.split_at.result.1.now c.split_at.ensures.front c.split_at.ensures.back), c.requires.near)

pub sign_row-requires-clause-within : goal.sign_row-requires-clause-within
sign_row-requires-clause-within g c = omega (arith, halves-narrow (length c.split_at.result.0.now) (length c.args.left.now) c.requires.few (inl (omega (arith, c.split_at.ensures.front_len))), c.requires.counts)

pub sign_row-requires-clause-fits : goal.sign_row-requires-clause-fits
sign_row-requires-clause-fits g c = halves-fit (length c.split_at.result.0.now) (length c.args.left.now) c.requires.few (omega (arith, c.split_at.ensures.front_len))

pub sign_row-requires-2-clause-apart : goal.sign_row-requires-2-clause-apart
sign_row-requires-2-clause-apart g c = second-each c.args.stride c.args.left.now c.split_at.result.0.now c.split_at.result.1.now (whole c.args.left.now c.split_at.result.0.now c.split_at.result.1.now c.split_at.ensures.front c.split_at.ensures.back) c.requires.apart

pub sign_row-requires-2-clause-small : goal.sign_row-requires-2-clause-small
sign_row-requires-2-clause-small g c = omega (arith, sizes c.args.left.now c.split_at.result.0.now c.split_at.result.1.now (whole c.args.left.now c.split_at.result.0.now c.split_at.result.1.now c.split_at.ensures.front c.split_at.ensures.back), c.requires.near)

pub sign_row-requires-2-clause-within : goal.sign_row-requires-2-clause-within
sign_row-requires-2-clause-within g c = omega (arith, halves-narrow (length c.split_at.result.1.now) (length c.args.left.now) c.requires.few (inr (omega (arith, c.split_at.ensures.back_len))), c.requires.counts)

pub sign_row-requires-2-clause-fits : goal.sign_row-requires-2-clause-fits
sign_row-requires-2-clause-fits g c = halves-fit (length c.split_at.result.1.now) (length c.args.left.now) c.requires.few (omega (arith, c.split_at.ensures.back_len))

pub key_pairs-requires-clause-few : goal.key_pairs-requires-clause-few
key_pairs-requires-clause-few g c =
    let first : List ℤ = c.split_at.result.0.now in
    let second : List ℤ = c.split_at.result.1.now in
    let pairs : 2 ^ length first * 2 ^ length second ≡ 2 ^ length c.args.left.now = sym (pow-add 2 (length first) (length second)) ∙ ap (λ n. 2 ^ n) (omega (arith, c.split_at.ensures.front_len, c.split_at.ensures.back_len)) in
    rw (c.in_ok-row.ensures.total, c.in_ok-other.ensures.total, pairs) c.requires.few

pub key_pairs-requires-clause-small : goal.key_pairs-requires-clause-small
key_pairs-requires-clause-small g c = λ i d h.
    let first : List ℤ = c.split_at.result.0.now in
    let second : List ℤ = c.split_at.result.1.now in
    let all = whole c.args.left.now first second c.split_at.ensures.front c.split_at.ensures.back in
    omega (arith, c.requires.small i d h, c.in_ok-row.ensures.small, c.in_ok-other.ensures.small, sizes c.args.left.now first second all)

pub key_pairs-requires-clause-fits : goal.key_pairs-requires-clause-fits
key_pairs-requires-clause-fits g c =
    let first : List ℤ = c.split_at.result.0.now in
    let second : List ℤ = c.split_at.result.1.now in
    let pairs : 2 ^ length first * 2 ^ length second ≡ 2 ^ length c.args.left.now = sym (pow-add 2 (length first) (length second)) ∙ ap (λ n. 2 ^ n) (omega (arith, c.split_at.ensures.front_len, c.split_at.ensures.back_len)) in
    rw (c.in_ok-row.ensures.total, c.in_ok-other.ensures.total, pairs) c.requires.fits

pub returns : goal.returns
returns g c =
    let p = is_in c.args.sides in
    let first : List ℤ = c.split_at.result.0.now in
    let second : List ℤ = c.split_at.result.1.now in
    let all = whole c.args.left.now first second c.split_at.ensures.front c.split_at.ensures.back in
    let met : (k : List ℤ) → pair_draws g.K.Tally.cells (λ v. once p (number_of k +ℤ v)) c.args.stride c.in_ok-row.row c.in_ok-other.other ≡ draw_sum (λ n v. once p (number_of k +ℤ v)) 0 (pos 0) c.args.left.now =
    λ k. halves-met g.K.Tally.cells c.args.stride (λ z. p (number_of k +ℤ z)) first second c.in_ok-row.row c.in_ok-other.other c.in_ok-row.ensures.told c.in_ok-other.ensures.told ∙ ap (draw_sum (λ n v. once p (number_of k +ℤ v)) 0 (pos 0)) all in
    c.key_pairs.ensures ∙ weighted-same (λ k. pair_draws g.K.Tally.cells (λ v. once p (number_of k +ℤ v)) c.args.stride c.in_ok-row.row c.in_ok-other.other) (λ k. draw_sum (λ n v. once p (number_of k +ℤ v)) 0 (pos 0) c.args.left.now) met (nodes_of 1 c.args.keys.now c.args.weights.now)
