use Rattle.std.proofs.Common.{◌∙◌, ap, sym}
use Rattle.weights.specs.declared.tails.Tail.TheVariants.{Less, Greater, Two}
use Rattle.networks.specs.Judged.{judge_of}
use Rattle.kendall_test.specs.Kendall.{kendall_test}
use Rattle.kendall_test.proofs.TransposedRatios.{judge-transposed}
use Rattle.kendall_test.proofs.by_transposing.sums_by_transposing.Goals as goal

pub sums_as_they_stand-requires : goal.sums_as_they_stand-requires
sums_as_they_stand-requires c = c.requires.judge ∙ judge-transposed c.args.order.now ∙ ap (λ t. judge_of (kendall_test t)) (sym c.requires.transposed)

pub numerator_by_transposing-requires-clause-found : goal.numerator_by_transposing-requires-clause-found
numerator_by_transposing-requires-clause-found c = c.in_ok-found.ensures Less

pub numerator_by_transposing-requires-2-clause-found : goal.numerator_by_transposing-requires-2-clause-found
numerator_by_transposing-requires-2-clause-found c = c.in_ok-found.ensures Greater

pub numerator_by_transposing-requires-3-clause-found : goal.numerator_by_transposing-requires-3-clause-found
numerator_by_transposing-requires-3-clause-found c = c.in_ok-found.ensures Two

pub returns : goal.returns
returns c Less a = c.numerator_by_transposing.ensures a
returns c Greater a = c.numerator_by_transposing-2.ensures a
returns c Two a = c.numerator_by_transposing-3.ensures a
