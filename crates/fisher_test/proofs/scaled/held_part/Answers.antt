use Rattle.std.proofs.Common.{◌∙◌, ◌*◌, ap, sym, arith, pos, rules, FitsSigned, to_z-of_z}
use mir.Syntax.{w128}
use Rattle.transposed_tables.proofs.Reduced.{quotient, ratio-within}
use Rattle.fisher_test.proofs.scaled.held_part.Goals as goal

pub held-requires : goal.held-requires
held-requires c = omega (arith, c.requires.few, ratio-within c.in_ratio.result c.args.part c.args.all c.args.of c.requires.some c.requires.within c.in_ratio.ensures)

pub returns : goal.returns
returns c =
    let fits : FitsSigned w128 c.held.result = search rules in
    to_z-of_z fits ∙ c.held.ensures ∙ ap pos (sym (quotient c.in_ratio.result c.args.of (c.args.part * c.args.all) c.requires.some c.in_ratio.ensures))
