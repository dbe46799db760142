-- Lines that are kept in place.
use Rattle.std.specs.Prelude.{ℕ, List, take}
use Rattle.report.specs.declared.short_line.ShortLine.{ShortLine}

-- the bytes of a line: the first that are used
abbrev pub bytes_of : ShortLine → List ℕ
bytes_of line = take line.used line.bytes
