use Rattle.std.proofs.Common.{◌<◌, ◌+◌, [], sym, rules, arith}
use Rattle.record_reader.proofs.Pieces.{are-all, count-is, end-le-size, item-is, place-lt-end}
use Rattle.record_reader.proofs.rows.Rows.field.Goals as goal

pub span-span-requires : goal.span-span-requires
span-span-requires c =
    let all = are-all c.self.view_is c.self.invariant in
    omega (arith, count-is all, c.deref.ensures.len)

pub overflow_add-span : goal.overflow_add-span
overflow_add-span c =
    let all = are-all c.self.view_is c.self.invariant in
    let before = place-lt-end c.args.row c.args.field all c.requires.row c.requires.field in
    let sum : c.span-span.result.start + c.args.field < c.span-span.result.end = rw (c.span-span.ensures.start, c.span-span.ensures.end, c.deref.ensures.value) before in
    search rules

pub get-requires : goal.get-requires
get-requires c =
    let all = are-all c.self.view_is c.self.invariant in
    let before = place-lt-end c.args.row c.args.field all c.requires.row c.requires.field in
    let within = end-le-size c.args.row all c.requires.row in
    rw (c.span-span.ensures.start, c.deref.ensures.value) (omega arith)

pub returns : goal.returns
returns c =
    let all = are-all c.self.view_is c.self.invariant in
    rw (c.get.ensures, c.span-span.ensures.start, c.deref.ensures.value) (sym (item-is c.args.row c.args.field [] all c.requires.row c.requires.field))
