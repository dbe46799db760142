-- What words and a file come to, by the tests that the program has.
use Rattle.std.specs.Prelude.{ℕ, List, Option}
use Rattle.run_outcome.specs.Outcome.{Outcome, outcome_of as outcome_by}
use Rattle.exact_run.specs.Tests.{tests}

-- the outcome of words and of a source by the tests of the program, where the words alone decide it
-- or the source tells what it holds
abbrev pub outcome_of : List (List ℕ) → (List ℕ → Option (List ℕ)) → Option Outcome
outcome_of = outcome_by tests
