use Rattle.std.proofs.Common.{sym, arith}
use Rattle.record_reader.proofs.Pieces.{are-all, count-is, end-le-size, piece-is, start-le-end}
use Rattle.record_reader.proofs.fields.Fields.get.Goals as goal

pub span-span-requires : goal.span-span-requires
span-span-requires c =
    let all = are-all c.self.view_is c.self.invariant in
    omega (arith, count-is all, c.deref.ensures.len)

pub slice_bounds-result-count : goal.slice_bounds-result-count
slice_bounds-result-count c =
    let all = are-all c.self.view_is c.self.invariant in
    rw (c.span-span.ensures.start, c.span-span.ensures.end, c.deref.ensures.value) (start-le-end c.args.place all c.requires)

pub slice_bounds-result-start : goal.slice_bounds-result-start
slice_bounds-result-start c = slice_bounds-result-count c

pub slice_bounds-result-end : goal.slice_bounds-result-end
slice_bounds-result-end c =
    let all = are-all c.self.view_is c.self.invariant in
    rw (c.span-span.ensures.end, c.deref.ensures.value, c.deref-2.ensures.value) (end-le-size c.args.place all c.requires)

pub returns : goal.returns
returns c =
    let all = are-all c.self.view_is c.self.invariant in
    rw (c.span-span.ensures.start, c.span-span.ensures.end, c.deref.ensures.value, c.deref-2.ensures.value) (sym (piece-is c.args.place all c.requires))
