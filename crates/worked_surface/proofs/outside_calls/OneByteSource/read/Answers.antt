use Rattle.std.proofs.Common.{rules, ◌≡◌, ◌≤◌, true, length, refl}
use Rattle.worked_surface.proofs.FirstBytes.{first-byte}
use Rattle.worked_surface.proofs.outside_calls.OneByteSource.read.Goals as goal

pub returns-clause-moves : goal.returns-clause-moves
returns-clause-moves c =
    let left : c.args.self.now.is_left ≡ true = search rules in
    let some : 1 ≤ length c.args.buf.now = search rules in
    rw (left, first-byte c.args.buf.now c.args.self.now.byte some) refl
