use Rattle.std.proofs.Common.{arith}
use Rattle.record_reader.proofs.Pieces.{are-all, count-is}
use Rattle.record_reader.proofs.fields.Fields.len.Goals as goal

pub returns : goal.returns
returns c =
    let all = are-all c.self.view_is c.self.invariant in
    omega (arith, count-is all, c.len.ensures)
