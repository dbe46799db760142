use Rattle.std.proofs.Common.{◌≡◌, ◌+◌, ◌-◌, ◌*◌, ◌<◌, ℕ, List, length, take, drop, get_or, arith, ◌∙◌, ap}
use Rattle.std.proofs.lemmas.List.{take_all}
use Rattle.score_convolution.specs.Places.{enough, spots_sum}
use Rattle.score_convolution.specs.declared.lists.Spot.{Spot}
use Rattle.score_convolution.proofs.Spots.{enough-fewer, pairs-few, rise-between, spots-take}
use Rattle.score_convolution.proofs.lists.pairs_from.Goals as goal

more : (place : ℕ) (ones others : List Spot) (i least draws : ℕ) (one : Spot) → i < length ones → one ≡ get_or ones i one → least ≡ place - one.place → draws ≡ spots_sum (enough least) others
    → spots_sum (λ p. spots_sum (enough (place - p)) others) (take (i + 1) ones) ≡ spots_sum (λ p. spots_sum (enough (place - p)) others) (take i ones) + one.draws * draws
more place ones others i least draws one h read e is = rw (is, e) (rw (← read) at (spots-take (λ p. spots_sum (enough (place - p)) others) ones i one h))

pub overflow_mul-pairs : goal.overflow_mul-pairs
overflow_mul-pairs g c =
    let ones : List Spot = c.args.ones.now in
    let others : List Spot = c.args.others.now in
    let i : ℕ = c.loop-i.i in
    let low : i < length ones = omega (arith, c.loop-i-test.true, c.len-i-end.ensures) in
    omega (arith, more c.args.place ones others i _ c.go_down-upper.result.draws c.at-one.result low c.at-one.ensures c.saturating_sub.ensures c.go_down-upper.ensures.draws, pairs-few c.args.place ones others (i + 1), c.requires.fits)

pub overflow_add-pairs : goal.overflow_add-pairs
overflow_add-pairs g c =
    let ones : List Spot = c.args.ones.now in
    let others : List Spot = c.args.others.now in
    let i : ℕ = c.loop-i.i in
    let low : i < length ones = omega (arith, c.loop-i-test.true, c.len-i-end.ensures) in
    omega (arith, c.loop-i.invariant.pairs, more c.args.place ones others i _ c.go_down-upper.result.draws c.at-one.result low c.at-one.ensures c.saturating_sub.ensures c.go_down-upper.ensures.draws, pairs-few c.args.place ones others (i + 1), c.requires.fits)

pub loop-i-preserved : goal.loop-i-preserved
loop-i-preserved g c =
    let ones : List Spot = c.args.ones.now in
    let others : List Spot = c.args.others.now in
    let i : ℕ = c.loop-i.i in
    let low : i < length ones = omega (arith, c.loop-i-test.true, c.len-i-end.ensures) in
    record {
      upper = c.go_down-upper.ensures.upper;
      above = λ j d h k. enough-fewer _ (c.args.place - (get_or ones j d).place) (drop c.go_down-upper.result.index others) (omega (arith, c.saturating_sub.ensures, ap (λ (s : Spot). s.place) c.at-one.ensures, rise-between 0 ones i j c.at-one.result d c.requires.first (omega (arith, h)) k)) c.go_down-upper.ensures.enough;
      pairs = omega (arith, c.loop-i.invariant.pairs, more c.args.place ones others i _ c.go_down-upper.result.draws c.at-one.result low c.at-one.ensures c.saturating_sub.ensures c.go_down-upper.ensures.draws);
    }

pub returns : goal.returns
returns g c =
    c.loop-i.invariant.pairs ∙ ap (spots_sum (λ p. spots_sum (enough (c.args.place - p)) c.args.others.now)) (take_all c.loop-i.i c.args.ones.now (omega (arith, c.loop-i-test.false, c.len-i-end.ensures)))
