-- From the outcome of bytes to that of the file that a source holds.
use Rattle.std.proofs.Common.{◌≡◌, ◌∙◌, ◌<◌, ◌≤◌, ℕ, List, length, Option, Some, None, Ok, Err, refl, sym, ap}
use Rattle.std.specs.Prelude.{IfSome}
use Rattle.std.specs.Option.{option_map}
use Rattle.std.proofs.lemmas.Bool.{le-ltb, lt-ltb}
use Rattle.outside.specs.declared.source.TheConstants.{LONGEST_FILE}
use Rattle.record_reader.specs.Records.{records_of}
use Rattle.settings.specs.declared.settings.Settings.{Settings}
use Rattle.report.specs.declared.refusals.Refusal.TheVariants as refusal
use Rattle.run_outcome.specs.CauseSteps.{ComesTo, Meets}
use Rattle.run_outcome.specs.Outcome.{Outcome, asking_of, outcome_of_bytes, outcome_of_rows}
use Rattle.run_outcome.specs.Questions.{Questions}

-- a file that is not too long has the outcome of its rows
pub short-outcome : (questions : Questions) (settings : Settings) (bytes : List ℕ) → length bytes ≤ LONGEST_FILE → outcome_of_bytes questions settings bytes ≡ outcome_of_rows questions (asking_of settings bytes) settings (records_of settings.separator bytes)
unfolding outcome_of_bytes
short-outcome questions settings bytes short = rw (le-ltb LONGEST_FILE (length bytes) short) refl

pub long-outcome : (questions : Questions) (settings : Settings) (held : Option (List ℕ)) → IfSome held (λ bytes. LONGEST_FILE < length bytes)
    → IfSome (option_map (outcome_of_bytes questions settings) held) (λ outcome. outcome ≡ Err refusal.TooLong)
unfolding outcome_of_bytes
long-outcome questions settings None long = tt
long-outcome questions settings (Some bytes) long = rw (lt-ltb LONGEST_FILE (length bytes) long) refl

-- what meets an outcome comes to it, where it is the known one
pub known-outcome : (rose : Type 0) (outcome : Outcome) (known : Option Outcome) (result : Outcome) → IfSome known (λ o. o ≡ outcome) → Meets outcome result → ComesTo rose known result
known-outcome rose outcome known (Err refusal.NoMemory) same meets = tt
known-outcome rose outcome known (Err refusal.ReadFault) same meets = absurd meets
known-outcome rose outcome known (Err refusal.WriteFault) same meets = meets
known-outcome rose outcome known (Err (refusal.Usage fault)) same meets = absurd meets
known-outcome rose outcome None (Ok text) same meets = tt
known-outcome rose outcome None (Err (refusal.Unfit name)) same meets = tt
known-outcome rose outcome None (Err (refusal.Row fault)) same meets = tt
known-outcome rose outcome None (Err (refusal.PieceLine number)) same meets = tt
known-outcome rose outcome None (Err (refusal.Foreign piece)) same meets = tt
known-outcome rose outcome None (Err (refusal.Doubled piece)) same meets = tt
known-outcome rose outcome None (Err (refusal.MissingPart part)) same meets = tt
known-outcome rose outcome None (Err (refusal.Unequal piece)) same meets = tt
known-outcome rose outcome None (Err refusal.TooLong) same meets = tt
known-outcome rose outcome None (Err (refusal.TooWide what)) same meets = tt
known-outcome rose outcome (Some o) (Ok text) same meets = same ∙ meets
known-outcome rose outcome (Some o) (Err (refusal.Unfit name)) same meets = same ∙ meets
known-outcome rose outcome (Some o) (Err (refusal.Row fault)) same meets = same ∙ meets
known-outcome rose outcome (Some o) (Err (refusal.PieceLine number)) same meets = same ∙ meets
known-outcome rose outcome (Some o) (Err (refusal.Foreign piece)) same meets = same ∙ meets
known-outcome rose outcome (Some o) (Err (refusal.Doubled piece)) same meets = same ∙ meets
known-outcome rose outcome (Some o) (Err (refusal.MissingPart part)) same meets = same ∙ meets
known-outcome rose outcome (Some o) (Err (refusal.Unequal piece)) same meets = same ∙ meets
known-outcome rose outcome (Some o) (Err refusal.TooLong) same meets = same ∙ meets
known-outcome rose outcome (Some o) (Err (refusal.TooWide what)) same meets = same ∙ meets

pub held-outcome : (questions : Questions) (rose : Type 0) (settings : Settings) (held : Option (List ℕ)) (bytes : List ℕ) (result : Outcome) → IfSome held (λ other. bytes ≡ other)
    → Meets (outcome_of_bytes questions settings bytes) result → ComesTo rose (option_map (outcome_of_bytes questions settings) held) result
held-outcome questions rose settings None bytes result same meets = known-outcome rose (outcome_of_bytes questions settings bytes) None result tt meets
held-outcome questions rose settings (Some other) bytes result same meets = known-outcome rose (outcome_of_bytes questions settings bytes) (Some (outcome_of_bytes questions settings other)) result (ap (outcome_of_bytes questions settings) (sym same)) meets
