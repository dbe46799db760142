use Rattle.std.proofs.Common.{◌≡◌, ◌≤◌, ◌+◌, length, drop}
use Rattle.record_reader.specs.Layouts.{dropped_among, fields_of, row_of}
use Rattle.record_reader.proofs.dropping.dropped.Given as goal

-- with those among the rows that are left, the dropped ones so far are all; and they are no more
-- than the rows so far
abbrev pub invariant-loop-row : goal.invariant-loop-row
invariant-loop-row g l =
    let width = length (row_of l.rows 1) in
    let among = dropped_among (g.L.Layout.meaning l.layout) l.missing width (fields_of l.picks width) in
    record { all : l.dropped + among (l.row + 1) (drop l.row l.rows) ≡ among 2 (drop 1 l.rows); few : l.dropped ≤ l.row }
