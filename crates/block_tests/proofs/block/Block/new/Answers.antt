use Rattle.std.proofs.Common.{◌≤◌, ◌<◌, ◌∙◌, ap, length, arith}
use Rattle.std.specs.List.{sum}
use Rattle.std.proofs.lemmas.List.Elements.{recursion_from_All}
use Rattle.weights.specs.Labellings.{number_of_labellings}
use Rattle.weights.proofs.Sized.{length-counts_of}
use Rattle.block_tests.proofs.Arranged.{first_of, sum-counts}
use Rattle.block_tests.proofs.Steps.{number-fits}
use Rattle.block_tests.proofs.block.Block.new.Goals as goal

pub first_labelling-requires : goal.first_labelling-requires
first_labelling-requires c =
    (let long = ap length (c.as_slice.ensures ∙ c.in_ok-counts.ensures) in omega (arith, long, length-counts_of c.args.below c.args.cells.now, c.requires.small))

pub multinomial-requires : goal.multinomial-requires
multinomial-requires c =
    (let all = ap sum (c.as_slice-2.ensures ∙ c.in_ok-counts.ensures) in omega (arith, all, sum-counts c.args.below c.args.cells.now (recursion_from_All (λ z. z < c.args.below) c.args.cells.now c.requires.within), c.requires.few))

pub unreachable-requires : goal.unreachable-requires
unreachable-requires c =
    let same = c.as_slice-2.ensures ∙ c.in_ok-counts.ensures in
    let all = ap sum same in
    let long = ap length same in
    let narrow : sum c.as_slice-2.result.now ≤ 8 = omega (arith, all, sum-counts c.args.below c.args.cells.now (recursion_from_All (λ z. z < c.args.below) c.args.cells.now c.requires.within), c.requires.few) in
    let few : length c.as_slice-2.result.now ≤ 17 = omega (arith, long, length-counts_of c.args.below c.args.cells.now, c.requires.small) in
    c.in-None.ensures (number-fits c.as_slice-2.result.now narrow few)

pub invariant_of-result : goal.invariant_of-result
invariant_of-result c =
    let all = ap sum c.in_ok-counts.ensures in
    record {
      first_is = first_of c.in_ok-counts.counts c.in_ok-first.first (rw c.as_slice.ensures at c.in_ok-first.ensures);
      number_is = (let e = c.in-Some.ensures.1 in e ∙ ap number_of_labellings c.as_slice-2.ensures);
      fits = (let h = c.in-Some.ensures.0 in rw c.as_slice-2.ensures at h);
      few = omega (arith, all, sum-counts c.args.below c.args.cells.now (recursion_from_All (λ z. z < c.args.below) c.args.cells.now c.requires.within), c.requires.few);
    }
