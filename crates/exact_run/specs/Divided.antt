-- A run that is divided into parts, by the tests that the program has.
use Rattle.std.specs.Prelude.{ℕ, List, Option}
use Rattle.settings.specs.declared.settings.Settings.{Settings}
use Rattle.run_outcome.specs.Divided.{PartAnswers as PartAnswersBy, Writes as WritesBy}
use Rattle.exact_run.specs.Tests.{tests}

-- that of the tests of the program: where a part is asked for, the parts of the run answer the
-- question
abbrev pub PartAnswers : Settings → Option (List ℕ) → Type 0
PartAnswers = PartAnswersBy tests

-- that of the tests of the program: a text was taken that a run which ended with 0 wrote
abbrev pub Writes : Settings → Option (List ℕ) → (List ℕ → Type 0) → Type 0
Writes = WritesBy tests
