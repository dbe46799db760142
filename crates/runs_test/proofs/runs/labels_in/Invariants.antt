use Rattle.std.proofs.Common.{◌≡◌, take}
use Rattle.runs_test.proofs.runs.labels_in.Given as goal

abbrev pub invariant-loop-member : goal.invariant-loop-member
invariant-loop-member l = l.labels ≡ take l.member-index l.members
