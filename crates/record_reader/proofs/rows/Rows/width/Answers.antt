use Rattle.std.proofs.Common.{sym, arith}
use Rattle.record_reader.proofs.Pieces.{are-all, count-is, start-le-end, width-is}
use Rattle.record_reader.proofs.rows.Rows.width.Goals as goal

pub span-span-requires : goal.span-span-requires
span-span-requires c =
    let all = are-all c.self.view_is c.self.invariant in
    omega (arith, count-is all, c.deref.ensures.len)

pub overflow_sub-result : goal.overflow_sub-result
overflow_sub-result c =
    let all = are-all c.self.view_is c.self.invariant in
    rw (c.span-span.ensures.start, c.span-span.ensures.end, c.deref.ensures.value) (start-le-end c.args.row all c.requires)

pub returns : goal.returns
returns c =
    let all = are-all c.self.view_is c.self.invariant in
    rw (c.span-span.ensures.start, c.span-span.ensures.end, c.deref.ensures.value) (sym (width-is c.args.row all c.requires))
