use Rattle.std.proofs.Common.{◌≡◌, ◌++◌, take}
use Rattle.csv.specs.Records.{fields_of}
use Rattle.record_reader.proofs.fields.Fields.extend.Given as goal

abbrev pub invariant-loop-field : goal.invariant-loop-field
invariant-loop-field l =
    (l.field-iterator.row.now ≡ l.fn.row) × (l.self ≡ l.fn.self ++ take l.field-iterator.at (fields_of l.fn.row))
