use Rattle.std.proofs.Common.{◌≡◌, ◌+◌, length, drop}
use Rattle.record_reader.specs.Layouts.{fields_of, row_of, with_rows}
use Rattle.record_reader.proofs.data.read_in.Given as goal

-- with the rows that are left, what is known so far becomes what is known after all rows
abbrev pub invariant-loop-row : goal.invariant-loop-row
invariant-loop-row g l =
    let width = length (row_of l.rows 1) in
    let known = with_rows (g.L.Layout.meaning l.layout) l.missing width (fields_of l.picks width) in
    known (l.row + 1) (drop l.row l.rows) l.so_far ≡ known 2 (drop 1 l.rows) l.initial.so_far
