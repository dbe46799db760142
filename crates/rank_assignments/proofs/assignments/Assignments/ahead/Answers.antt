use Rattle.std.proofs.Common.{◌≡◌, ◌∙◌, ◌-◌, ap, arith, length, rules, subst, sym}
use Rattle.rank_assignments.specs.Assignments.{IsSmallAhead, ahead_at}
use Rattle.rank_assignments.proofs.AssignmentSteps.{found-ahead, small-ahead}
use Rattle.rank_assignments.proofs.assignments.Assignments.ahead.Goals as goal

pub returns-clause-small : goal.returns-clause-small
returns-clause-small c =
    let s = c.args.self.now in
    let place = c.len.result - c.args.stage in
    let many : c.len.result ≡ length s.items.items = search rules in
    let back : length s.items.items - place ≡ c.args.stage = omega (arith, c.requires, many) in
    subst IsSmallAhead (sym (found-ahead s.treatments s.items.items s.judge s.right (length s.items.items) place s.ahead.items c.index.result.now s.table (omega (arith, many)) c.index.ensures ∙ ap (ahead_at s.treatments s.items.items) back))
    (small-ahead s.treatments s.items.items s.judge s.right c.args.stage c.requires)
