-- Counts: digits without a sign.
use Rattle.std.specs.Prelude.{ℕ, ◌&&◌, List, Option, Some, None, nat_le, if◌then◌else◌}
use Rattle.number_text.specs.Numerals.{is_numeral, decimal_value}
use Rattle.number_text.specs.Trimmed.{trimmed}

-- the number that a text of digits writes, where it is at most `most`
unfoldable pub count_of : ℕ → List ℕ → Option ℕ
count_of most text =
    let digits = trimmed text in
    if (is_numeral digits && nat_le (decimal_value digits) most)
    then Some (decimal_value digits) else None
