-- The parts of a divided run put together, by the tests that the program has.
use Rattle.std.specs.Prelude.{ℕ, List, Option}
use Rattle.run_outcome.specs.MergedRuns.{MergePromises as MergePromisesBy}
use Rattle.run_outcome.specs.declared.status.Status.{Status}
use Rattle.exact_run.specs.Tests.{tests}

-- that of the tests of the program: the promises of a run that puts pieces together
abbrev pub MergePromises : Status → Option (List ℕ) → Type 0 → Type 0 → (List ℕ → Type 0)
    → (List ℕ → Type 0) → (List ℕ → Type 0) → Type 0
MergePromises = MergePromisesBy tests
