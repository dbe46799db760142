use Rattle.std.proofs.Common.{◌≡◌, min, take}
use Rattle.number_text.specs.declared.digits.TheConstants.{CAP}
use Rattle.number_text.specs.Numerals.{decimal_value_after}
use Rattle.number_text.proofs.digits.capped_value.Given as goal

abbrev pub invariant-loop-digit : goal.invariant-loop-digit
invariant-loop-digit l = l.value ≡ min (decimal_value_after l.start (take l.digit-index l.digits)) CAP
