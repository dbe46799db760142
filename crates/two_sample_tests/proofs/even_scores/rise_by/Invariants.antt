use Rattle.std.proofs.Common.{◌≤◌, ◌+◌, ◌*◌, drop}
use Rattle.std.specs.Prelude.{unsigned_abs}
use Rattle.two_sample_tests.specs.EvenSteps.{RiseBy}
use Rattle.two_sample_tests.proofs.even_scores.rise_by.Given as goal

abbrev pub invariant-loop-i : goal.invariant-loop-i
invariant-loop-i l = (unsigned_abs l.next ≤ 1000000000000 + 1000000000000 * l.i) × (RiseBy l.next l.step (drop l.i l.scores) → RiseBy l.fn.first l.step l.scores)
