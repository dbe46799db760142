use Rattle.std.proofs.Common.{◌≡◌, take}
use Rattle.one_sample_tests.specs.SampleSteps.{subjects_of}
use Rattle.one_sample_tests.proofs.marks.scores_of.Given as goal

-- the scores of the groups before this one are listed
abbrev pub invariant-loop-i : goal.invariant-loop-i
invariant-loop-i l = l.scores ≡ subjects_of (take l.i l.groups)
