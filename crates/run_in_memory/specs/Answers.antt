-- What a run in memory answers.
use Rattle.std.specs.Prelude.{◌≡◌, ◌≢◌, ◌<◌, ℕ, List, [], Option, Some, IfSome, Ok, length}
use Rattle.settings.specs.declared.command_line.CommandLine.TheVariants as command
use Rattle.settings.specs.declared.settings.Settings.{Settings}
use Rattle.exact_run.specs.Divided.{PartAnswers}
use Rattle.run_outcome.specs.Outcome.{Outcome}
use Rattle.run_outcome.specs.Promises.{Promises, ReportsWith}
use Rattle.run_outcome.specs.declared.status.Status.TheVariants as status
use Rattle.run_in_memory.specs.Places.{IsFilled, IsPut}
use Rattle.run_in_memory.specs.Runs.{PromisesMerged, meaning_in, outcome_in}
use Rattle.run_in_memory.specs.declared.answers.Answer.{Answer}

-- a text does not go into a place
abbrev pub IsTooLong : List ℕ → List ℕ → Type 0
IsTooLong place text = length place < length text

-- the outcome, where it is known, is a report that does not go into a place
abbrev pub HasNoRoom : Option Outcome → List ℕ → Type 0
HasNoRoom known place = IfSome known (λ outcome. ReportsWith outcome (IsTooLong place))

-- What is promised of an answer: of the packed words and the bytes of their file, and of the places
-- of the report and of the line, before and after.
pub record IsAnswer (packed bytes out out_after told told_after : List ℕ) (answer : Answer)
    : Type 0 where
  -- What a run promises. The source never fails, so that `ReadFault` never comes. A write fails
  -- exactly where the report does not go in. After `Done` the report is whole at the front of its
  -- place, and after all else a line of refusal at the front of its own, as far as it goes in.
  pub promises : let known = outcome_in packed bytes in
      Promises answer.status known ⊥ (HasNoRoom known out)
      (IsPut out out_after answer.written) (IsTooLong out)
      (IsFilled told told_after answer.told)
  -- a part that is written is one of a question that the parts of a run answer
  pub answerable : (settings : Settings) → meaning_in packed ≡ Ok (command.Test settings)
      → answer.status ≡ status.Done → PartAnswers settings (Some bytes)
  -- of pieces that are put together, what a run promises of its report and of its line
  pub merged : (file : List ℕ) → meaning_in packed ≡ Ok (command.Merge file)
      → answer.status ≢ status.WriteFault → answer.status ≢ status.NoMemory
      → (report : List ℕ) × (line : List ℕ) × PromisesMerged answer.status bytes report line
      × IsPut out out_after answer.written report × IsFilled told told_after answer.told line
  -- and where there is no room, what a run promises that has a report, and this does not go in
  pub merged_without_room : (file : List ℕ) → meaning_in packed ≡ Ok (command.Merge file)
      → answer.status ≡ status.WriteFault
      → (report : List ℕ) × PromisesMerged status.Done bytes report [] × IsTooLong out report
  -- the place of the report is as it was but after `Done`, and that of the line after `Done`
  pub unchanged : answer.status ≢ status.Done → (answer.written ≡ 0) × (out_after ≡ out)
  pub silent : answer.status ≡ status.Done → (answer.told ≡ 0) × (told_after ≡ told)
