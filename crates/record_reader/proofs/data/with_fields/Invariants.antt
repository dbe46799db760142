use Rattle.std.proofs.Common.{◌≡◌, drop, length}
use Rattle.record_reader.specs.Layouts.{fields_of, row_of, with_fields}
use Rattle.record_reader.proofs.data.with_fields.Given as goal

-- with the fields that are left, what is known so far becomes what is known after all fields
abbrev pub invariant-loop-place : goal.invariant-loop-place
invariant-loop-place g l =
    let known = with_fields (g.L.Layout.meaning l.layout) l.number (row_of l.rows l.number) in
    let fields = fields_of l.picks (length (row_of l.rows l.number)) in
    known l.place (drop l.place fields) l.so_far ≡ known 0 fields l.initial.so_far
