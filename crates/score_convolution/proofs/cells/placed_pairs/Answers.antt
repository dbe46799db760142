use Rattle.std.proofs.Common.{◌≡◌, ◌+◌, ◌-◌, ◌*◌, ◌<◌, ℕ, List, length, map, take, drop, get_or, ap, ◌∙◌, arith}
use Rattle.std.specs.List.{sum}
use Rattle.std.proofs.lemmas.List.{length-map, take_all}
use Rattle.node_pool.proofs.NodeLists.{number-read}
use Rattle.score_convolution.specs.Places.{placed_pairs}
use Rattle.score_convolution.proofs.RowPairs.{drop-sum, first-pairs-within, pairs-more}
use Rattle.score_convolution.proofs.cells.placed_pairs.Goals as goal

-- with this cell
more : (place i : ℕ) (ones others : List ℕ) (value enough : ℕ) → i < length ones → value ≡ get_or ones i 0 → enough ≡ sum (drop (place - i) others) → placed_pairs place (take (i + 1) ones) others ≡ placed_pairs place (take i ones) others + value * enough
more place i ones others value enough h read is = rw (read, is) (pairs-more place ones others i h)

pub overflow_mul-pairs : goal.overflow_mul-pairs
overflow_mul-pairs g c =
    let num = g.C.Count.number in
    let ones : List ℕ = map num c.args.ones.now in
    let others : List ℕ = map num c.args.others.now in
    let i : ℕ = c.loop-i.i in
    let low : i < length ones = rw (length-map c.args.ones.now num) c.loop-i-test.true in
    let read : c.value.result ≡ get_or ones i 0 = c.value.ensures.value ∙ number-read num c.args.ones.now i c.index-ones-i.result c.loop-i-test.true c.index-ones-i.is in
    omega (arith, more c.args.place i ones others c.value.result c.loop-i.enough low read c.loop-i.invariant.enough, first-pairs-within c.args.place ones others (i + 1), c.requires.fits)

pub overflow_add-pairs : goal.overflow_add-pairs
overflow_add-pairs g c =
    let num = g.C.Count.number in
    let ones : List ℕ = map num c.args.ones.now in
    let others : List ℕ = map num c.args.others.now in
    let i : ℕ = c.loop-i.i in
    let low : i < length ones = rw (length-map c.args.ones.now num) c.loop-i-test.true in
    let read : c.value.result ≡ get_or ones i 0 = c.value.ensures.value ∙ number-read num c.args.ones.now i c.index-ones-i.result c.loop-i-test.true c.index-ones-i.is in
    omega (arith, c.loop-i.invariant.pairs, more c.args.place i ones others c.value.result c.loop-i.enough low read c.loop-i.invariant.enough, first-pairs-within c.args.place ones others (i + 1), c.requires.fits)

pub overflow_add-enough : goal.overflow_add-enough
overflow_add-enough g c =
    let others : List ℕ = map g.C.Count.number c.args.others.now in
    let left : ℕ = c.args.place - c.loop-i.i in
    omega (arith, c.loop-i.invariant.enough, c.count_before-enough.ensures, ap (λ n. sum (drop n others)) c.saturating_sub.ensures, ap (λ n. sum (drop (n - 1) others)) c.saturating_sub.ensures, drop-sum (left - 1) others, c.requires.light)

pub loop-i-preserved : goal.loop-i-preserved
loop-i-preserved g c =
    let num = g.C.Count.number in
    let ones : List ℕ = map num c.args.ones.now in
    let others : List ℕ = map num c.args.others.now in
    let i : ℕ = c.loop-i.i in
    let low : i < length ones = rw (length-map c.args.ones.now num) c.loop-i-test.true in
    let read : c.value.result ≡ get_or ones i 0 = c.value.ensures.value ∙ number-read num c.args.ones.now i c.index-ones-i.result c.loop-i-test.true c.index-ones-i.is in
    let less : (c.args.place - i) - 1 ≡ c.args.place - (i + 1) = omega arith in
    record {
      enough = omega (arith, c.loop-i.invariant.enough, c.count_before-enough.ensures, ap (λ n. sum (drop n others)) c.saturating_sub.ensures, ap (λ n. sum (drop (n - 1) others)) c.saturating_sub.ensures, ap (λ n. sum (drop n others)) less);
      pairs = omega (arith, c.loop-i.invariant.pairs, more c.args.place i ones others c.value.result c.loop-i.enough low read c.loop-i.invariant.enough);
    }

pub returns : goal.returns
returns g c =
    let num = g.C.Count.number in
    let ones : List ℕ = map num c.args.ones.now in
    c.loop-i.invariant.pairs ∙ ap (λ xs. placed_pairs c.args.place xs (map num c.args.others.now)) (take_all c.loop-i.i ones (omega (arith, c.loop-i-test.false, length-map c.args.ones.now num)))
