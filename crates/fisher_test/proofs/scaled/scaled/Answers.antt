use Rattle.std.proofs.Common.{◌≡◌, ◌∙◌, ◌*◌, ◌/◌, ap, sym, arith, pos, rules, FitsSigned, to_z-of_z, refl}
use Rattle.std.specs.Prelude.{nat_abs}
use mir.Syntax.{w128}
use Rattle.std.proofs.lemmas.Int.{ints}
use Rattle.transposed_tables.proofs.Reduced.{quotient}
use Rattle.fisher_test.proofs.scaled.scaled.Goals as goal

pub returns : goal.returns
returns c =
    let fits : FitsSigned w128 c.held_part-value.result = search rules in
    let size : c.unsigned_abs.result ≡ nat_abs c.args.line.now.value = omega (arith, ints, c.unsigned_abs.ensures.value) in
    let value : c.held_part-value.result ≡ pos (nat_abs c.args.line.now.value * c.args.all / c.args.of) = c.held_part-value.ensures ∙ ap (λ n. pos (n * c.args.all / c.args.of)) size in
    let weight : c.in_ratio-weight.result ≡ c.args.line.now.weight * c.args.all / c.args.of = sym (quotient c.in_ratio-weight.result c.args.of (c.args.line.now.weight * c.args.all) c.requires.some c.in_ratio-weight.ensures) in
    rw (to_z-of_z fits, value, weight) refl
