use Rattle.std.proofs.Common.{◌≡◌, drop, length}
use Rattle.record_reader.specs.Layouts.{fields_of, has_missing, row_of}
use Rattle.record_reader.proofs.dropping.has_missing.Given as goal

-- a field that is missing is among those that are left
abbrev pub invariant-loop-place : goal.invariant-loop-place
invariant-loop-place g l =
    let row = row_of l.rows l.number in
    let among = has_missing (g.L.Layout.meaning l.layout) row in
    let fields = fields_of l.picks (length row) in
    among l.place (drop l.place fields) ≡ among 0 fields
