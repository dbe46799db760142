-- The limits that definitions cite.
use Rattle.std.proofs.Common.{◌≡◌, refl}
use Rattle.record_reader.specs.declared.TheConstants.{MOST_ROWS}

most_rows : MOST_ROWS ≡ 10000
most_rows = refl
