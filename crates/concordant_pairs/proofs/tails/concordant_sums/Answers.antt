use Rattle.std.proofs.Common.{◌≡◌, ◌≤◌, ◌+◌, List, ℕ, length, arith, ap}
use Rattle.std.specs.List.{sum}
use Rattle.std.proofs.Math.Nat.{mul-le-mul}
use Rattle.std.proofs.lemmas.Int.{to_z-of_z}
use mir.Syntax.{w128}
use Rattle.weights.specs.declared.tails.Tail.TheVariants.{Less, Greater, Two}
use Rattle.concordant_pairs.specs.ConcordantPairs.{pairs_across}
use Rattle.concordant_pairs.proofs.Counting.{few-pairs}
use Rattle.concordant_pairs.proofs.tails.concordant_sums.Goals as goal

few-counts : (sizes counts all : List ℕ) → all ≡ counts → length counts ≡ pairs_across sizes + 1 → sum sizes ≤ 10000 → length all ≤ 100000001
few-counts sizes counts all e long few = let most = mul-le-mul few few in omega (arith, ap length e, long, few-pairs sizes, most)

pub found-requires-clause-few : goal.found-requires-clause-few
found-requires-clause-few c = few-counts c.args.sizes.now c.in_ok-counts.counts.items c.as_slice-all.result.now c.as_slice-all.ensures.value c.in_ok-counts.ensures.long c.requires.few

pub found-requires-2-clause-few : goal.found-requires-2-clause-few
found-requires-2-clause-few c = few-counts c.args.sizes.now c.in_ok-counts.counts.items c.as_slice-all.result.now c.as_slice-all.ensures.value c.in_ok-counts.ensures.long c.requires.few

pub found-requires-3-clause-few : goal.found-requires-3-clause-few
found-requires-3-clause-few c = few-counts c.args.sizes.now c.in_ok-counts.counts.items c.as_slice-all.result.now c.as_slice-all.ensures.value c.in_ok-counts.ensures.long c.requires.few

pub found-requires-clause-fits : goal.found-requires-clause-fits
found-requires-clause-fits c = rw (to_z-of_z w128 c.args.base c.ranges.base) (λ xs m. (c.requires.fits xs m).fits Less)

pub found-requires-2-clause-fits : goal.found-requires-2-clause-fits
found-requires-2-clause-fits c = rw (to_z-of_z w128 c.args.base c.ranges.base) (λ xs m. (c.requires.fits xs m).fits Greater)

pub found-requires-3-clause-fits : goal.found-requires-3-clause-fits
found-requires-3-clause-fits c = rw (to_z-of_z w128 c.args.base c.ranges.base) (λ xs m. (c.requires.fits xs m).fits Two)

pub returns : goal.returns
returns c Less = rw (to_z-of_z w128 c.args.base c.ranges.base) at c.found.ensures
returns c Greater = rw (to_z-of_z w128 c.args.base c.ranges.base) at c.found-2.ensures
returns c Two = rw (to_z-of_z w128 c.args.base c.ranges.base) at c.found-3.ensures
