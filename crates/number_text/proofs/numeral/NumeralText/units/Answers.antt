use Rattle.std.proofs.Common.{◌+ℤ◌, ◌-ℤ◌, ◌^◌, ◌<◌, ◌∙◌, SFits, ap, arith, length, pos, rules, sym, to_z-of_z}
use Rattle.std.proofs.lemmas.Int.{ints, to_z_pos}
use mir.Syntax.{w128}
use Rattle.number_text.specs.Numerals.{decimal_value}
use Rattle.number_text.specs.Significands.{scaled}
use Rattle.number_text.specs.declared.digits.TheConstants.{CAP}
use Rattle.number_text.proofs.Scaling.{capped_bounds, power_at, units_of_capped, units_of_none}
use Rattle.number_text.proofs.numeral.NumeralText.units.Goals as goal

pub returns-then-significand-eq0-clause-units : goal.returns-then-significand-eq0-clause-units
returns-then-significand-eq0-clause-units c =
    sym (units_of_none _ c.of-significand.result.zeros _ (rw c.if-significand-eq0.true at c.of-significand.ensures))

pub overflow_add-exponent-2 : goal.overflow_add-exponent-2
overflow_add-exponent-2 c =
    let numeral = c.args.self.now in
    let bounds = capped_bounds (decimal_value numeral.exponent.unsigned.now) numeral.exponent.negative in
    let tail : c.of-significand.result.zeros < 2 ^ 64 = search rules in
    let len : length numeral.fraction.now < 2 ^ 64 = search rules in
    omega (arith, ints)

pub returns-clause-units : goal.returns-clause-units
returns-clause-units c =
    let numeral = c.args.self.now in
    let significand = c.of-significand in
    let bounds = capped_bounds (decimal_value numeral.exponent.unsigned.now) numeral.exponent.negative in
    let tail : significand.result.zeros < 2 ^ 64 = search rules in
    let len : length numeral.fraction.now < 2 ^ 64 = search rules in
    let some : 0 < significand.result.digits = omega arith in
    let units = units_of_capped _ significand.result.digits significand.result.zeros (length numeral.fraction.now) (decimal_value numeral.exponent.unsigned.now) numeral.exponent.negative significand.ensures some len tail in
    let exponent = c.capped_value.result in
    let exponent_fits : SFits w128 exponent = search rules in
    let less_fits : SFits w128 (exponent -ℤ pos (length numeral.fraction.now)) = omega (arith, ints) in
    let moved_fits : SFits w128 (pos 18 +ℤ (exponent -ℤ pos (length numeral.fraction.now))) = omega (arith, ints) in
    let power_fits : SFits w128 (pos 18 +ℤ (exponent -ℤ pos (length numeral.fraction.now)) +ℤ pos significand.result.zeros) = omega (arith, ints) in
    let len_is = to_z_pos w128 (length numeral.fraction.now) (omega arith) in
    let tail_is = to_z_pos w128 significand.result.zeros (omega arith) in
    let scaled_is = simp (to_z-of_z, len_is, tail_is) at c.scale.ensures.scaled in
    scaled_is ∙ ap (λ e. scaled CAP significand.result.digits (power_at e (length numeral.fraction.now) significand.result.zeros)) c.capped_value.ensures ∙ sym units
