use Rattle.std.proofs.Common.{arith}
use Rattle.number_text.proofs.DecimalValues.{decimal_value_more}
use Rattle.number_text.proofs.digits.capped_value.Goals as goal

pub loop-digit-preserved : goal.loop-digit-preserved
loop-digit-preserved c =
    let more = decimal_value_more c.args.start c.args.digits.now c.loop-digit.digit-index c.requires.are_digits (omega arith) in
    omega arith
