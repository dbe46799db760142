use Rattle.std.proofs.Common.{subst, sym}
use Rattle.networks.specs.Lines.{IsAboveLast}
use Rattle.networks.proofs.LineSums.{ascending-push}
use Rattle.networks.proofs.lines.Spread.push.Goals as goal

pub invariant_of-self-2 : goal.invariant_of-self-2
invariant_of-self-2 c = rw c.in_ok-push.ensures.items (ascending-push c.self.inside.lines.items c.args.line c.self.invariant (subst (IsAboveLast c.args.line.value) (sym c.self.view_is) c.requires))
