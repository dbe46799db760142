use Rattle.std.proofs.Common.{length, rules}
use Rattle.number_text.proofs.DecimalValues.{significand_of_fraction, significand_of_whole}
use Rattle.number_text.specs.declared.digits.TheConstants.{CAP}
use Rattle.number_text.proofs.significand.Significand.of.Goals as goal

pub returns-then-not-is_empty : goal.returns-then-not-is_empty
returns-then-not-is_empty c =
    let kept = c.without_last_zeros-kept in
    let significand = significand_of_fraction CAP _ c.args.whole.now c.args.fraction.now kept.result.now c.requires.fraction kept.ensures.dropped (search rules) in
    rw (c.capped_value-then-not-is_empty.ensures, c.capped_value.ensures) significand

pub returns : goal.returns
returns c =
    let kept = c.without_last_zeros-kept-2 in
    let none = c.without_last_zeros-kept in
    let significand = significand_of_whole CAP _ (length c.args.fraction.now) c.args.whole.now c.args.fraction.now kept.result.now none.result.now c.requires.whole kept.ensures.dropped none.ensures.dropped (search rules) in
    rw c.capped_value-2.ensures significand
