use Rattle.std.proofs.Common.{◌≡◌, ◌≤◌, List, refl, arith}
use Rattle.std.specs.Prelude.{pos}
use Rattle.std.specs.List.{sum_by}
use Rattle.std.proofs.Math.Nat.{mul-le-mul_left}
use Rattle.std.proofs.lemmas.Int.{ints}
use Rattle.std.proofs.lemmas.List.Elements.{recursion_from_All}
use mir.Syntax.{w128}
use mir.Val.{to_z}
use Rattle.strata_cells.specs.declared.stratum.Stratum.{Stratum}
use Rattle.strata_cells.specs.Strata.{size}
use Rattle.stratified_tests.specs.StrataTests.{centre_by}
use Rattle.strata_cells.specs.StrataLimits.{IsSmall}
use Rattle.weights.proofs.Centred.{far_natural-fits}
use Rattle.strata_cells.proofs.StrataSums.{subjects-few, sums-within}
use Rattle.stratified_tests.proofs.FittingStrata.{centre-within}
use Rattle.stratified_tests.proofs.strata_test.frame_of.Goals as goal

own-within : (ss : List Stratum) → sum_by (λ (s : Stratum). s.a) ss ≤ sum_by size ss
own-within = sums-within (λ (s : Stratum). s.a) size (λ s. omega arith)

pub overflow_cast-centre : goal.overflow_cast-centre
overflow_cast-centre c = omega (arith, ints, c.centre_by-centre.ensures, centre-within c.args.multiple c.args.strata.now, c.requires.fits)

pub far-requires : goal.far-requires
far-requires c =
    let ss : List Stratum = c.args.strata.now in
    let few = subjects-few ss (recursion_from_All IsSmall ss c.requires.small) c.requires.few in
    let centre : to_z w128 c.centre_by-centre.result ≡ pos (centre_by c.args.multiple ss) = omega (arith, ints, c.centre_by-centre.ensures, centre-within c.args.multiple ss, c.requires.fits) in
    let statistic : to_z w128 c.own_sum-statistic.result ≡ pos (sum_by (λ (s : Stratum). s.a) ss) = omega (arith, ints, c.own_sum-statistic.ensures, own-within ss, few) in
    rw (centre, statistic) (far_natural-fits c.args.multiple (centre_by c.args.multiple ss) (sum_by (λ (s : Stratum). s.a) ss) c.requires.most (omega (arith, centre-within c.args.multiple ss, c.requires.fits)) (omega (arith, mul-le-mul_left c.args.multiple (own-within ss), c.requires.fits)))

pub returns : goal.returns
returns c =
    let ss : List Stratum = c.args.strata.now in
    let few = subjects-few ss (recursion_from_All IsSmall ss c.requires.small) c.requires.few in
    let centre : to_z w128 c.centre_by-centre.result ≡ pos (centre_by c.args.multiple ss) = omega (arith, ints, c.centre_by-centre.ensures, centre-within c.args.multiple ss, c.requires.fits) in
    let statistic : to_z w128 c.own_sum-statistic.result ≡ pos (sum_by (λ (s : Stratum). s.a) ss) = omega (arith, ints, c.own_sum-statistic.ensures, own-within ss, few) in
    rw (c.far.ensures, centre, statistic) refl
