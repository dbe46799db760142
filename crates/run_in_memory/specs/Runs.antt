-- A run over packed words and the bytes of their file, whose report and line are kept.
use Rattle.std.specs.Prelude.{◌≡◌, ℕ, List, [], Option, Some, Result, Ok}
use Rattle.std.specs.Io.KnownBytes.{Appends}
use Rattle.outside.specs.Faults.{AppendsPrefix, Rose}
use Rattle.packed_words.specs.PackedWords.{texts_in}
use Rattle.settings.specs.Meaning.{meaning_of}
use Rattle.settings.specs.declared.command_line.CommandLine.{CommandLine}
use Rattle.settings.specs.declared.command_line.CommandLine.TheVariants as command
use Rattle.settings.specs.declared.names.UsageFault.{UsageFault}
use Rattle.settings.specs.declared.settings.Settings.{Settings}
use Rattle.exact_run.specs.Divided.{PartAnswers}
use Rattle.exact_run.specs.MergedRuns.{MergePromises}
use Rattle.run_outcome.specs.Outcome.{Outcome}
use Rattle.exact_run.specs.Outcome.{outcome_of}
use Rattle.run_outcome.specs.Promises.{IsBeforeWriting, Promises, ReadRose, WritesLine}
use Rattle.run_outcome.specs.declared.status.Status.{Status}
use Rattle.run_outcome.specs.declared.status.Status.TheVariants as status

-- what the packed words mean
abbrev pub meaning_in : List ℕ → Result CommandLine UsageFault
meaning_in packed = meaning_of (texts_in packed)

-- the outcome of the packed words, where the file that they name, whatever its name, has these
-- bytes
abbrev pub outcome_in : List ℕ → List ℕ → Option Outcome
outcome_in packed bytes = outcome_of (texts_in packed) (λ _. Some bytes)

-- a count of faults rose that was none and is none
abbrev pub Never : Type 0
Never = Rose 0 0

-- what was taken in all is this text, a prefix of it, or this line
abbrev pub Took : List ℕ → List ℕ → Type 0
Took report = Appends (Some []) (Some report)

abbrev pub TookPrefix : List ℕ → List ℕ → Type 0
TookPrefix report = AppendsPrefix (Some []) (Some report)

abbrev pub TookLine : List ℕ → List ℕ → Type 0
TookLine line = WritesLine (Some []) (Some line) Never

-- what a run promises where it puts pieces together and nothing fails: of its status, of the bytes
-- of the file, of its report and of its line
abbrev pub PromisesMerged : Status → List ℕ → List ℕ → List ℕ → Type 0
PromisesMerged answer bytes report line =
    MergePromises answer (Some bytes) Never Never (Took report) (TookPrefix report) (TookLine line)

-- what a run promises where nothing fails
pub record IsRun (packed bytes : List ℕ) (answer : Status) (report line : List ℕ) : Type 0 where
  pub promises : Promises answer (outcome_in packed bytes) (ReadRose (meaning_in packed) 0 0) Never
      (Took report) (TookPrefix report) (TookLine line)
  pub merged : (file : List ℕ) → meaning_in packed ≡ Ok (command.Merge file)
      → PromisesMerged answer bytes report line
  pub answerable : (settings : Settings) → meaning_in packed ≡ Ok (command.Test settings)
      → answer ≡ status.Done → PartAnswers settings (Some bytes)
  pub unchanged : IsBeforeWriting answer → report ≡ []
  pub silent : answer ≡ status.Done → line ≡ []
