-- What a `NumeralText` means.
use Rattle.number_text.specs.declared.numeral.NumeralText.{NumeralText}
use Rattle.number_text.specs.NumberTexts.{Numeral}
use Rattle.number_text.specs.Numerals.{decimal_value, signed}

-- the parts, with the exponent as a number
abbrev pub numeral_in : NumeralText → Numeral
numeral_in text = record {
  negative = text.negative;
  whole = text.whole.now;
  fraction = text.fraction.now;
  exponent = signed text.exponent.negative (decimal_value text.exponent.unsigned.now);
}
