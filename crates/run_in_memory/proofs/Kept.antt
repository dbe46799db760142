-- What a run promises of its own sinks is what it promises of what they kept.
use Rattle.std.proofs.Common.{◌≡◌, ℕ, List, [], Some, Ok, subst}
use Rattle.std.specs.Io.KnownBytes.{Appends}
use Rattle.outside.specs.Faults.{AppendsPrefix, Rose}
use Rattle.packed_words.specs.PackedWords.{texts_in}
use Rattle.settings.specs.Meaning.{meaning_of}
use Rattle.settings.specs.declared.command_line.CommandLine.TheVariants as command
use Rattle.settings.specs.declared.settings.Settings.{Settings}
use Rattle.exact_run.specs.Divided.{PartAnswers}
use Rattle.exact_run.specs.MergedRuns.{MergePromises}
use Rattle.exact_run.specs.Outcome.{outcome_of}
use Rattle.run_outcome.specs.Promises.{IsBeforeWriting, Promises, ReadRose, WritesLine}
use Rattle.run_outcome.specs.declared.status.Status.{Status}
use Rattle.run_outcome.specs.declared.status.Status.TheVariants as status
use Rattle.run_in_memory.specs.Runs.{IsRun}

-- what a sink took and the count of its faults, before and after
pub record Kept : Type 0 where
  pub before : List ℕ
  pub after : List ℕ
  pub faults_before : ℕ
  pub faults_after : ℕ

-- a sink that took this in all, and never failed
abbrev pub all_of : List ℕ → Kept
all_of text = record { before = []; after = text; faults_before = 0; faults_after = 0 }

pub record Ran (words : List (List ℕ)) (held : List ℕ) (answer : Status) (out err : Kept)
    : Type 0 where
  pub promises : Promises answer (outcome_of words (λ _. Some held)) (ReadRose (meaning_of words) 0 0)
      (Rose out.faults_before out.faults_after) (Appends (Some out.before) (Some out.after))
      (AppendsPrefix (Some out.before) (Some out.after))
      (WritesLine (Some err.before) (Some err.after) (Rose err.faults_before err.faults_after))
  pub merged : (file : List ℕ) → meaning_of words ≡ Ok (command.Merge file)
      → MergePromises answer (Some held) (Rose 0 0) (Rose out.faults_before out.faults_after)
      (Appends (Some out.before) (Some out.after)) (AppendsPrefix (Some out.before) (Some out.after))
      (WritesLine (Some err.before) (Some err.after) (Rose err.faults_before err.faults_after))
  pub answerable : (settings : Settings) → meaning_of words ≡ Ok (command.Test settings)
      → answer ≡ status.Done → PartAnswers settings (Some held)
  pub unchanged : IsBeforeWriting answer → out.after ≡ out.before
  pub silent : answer ≡ status.Done → err.after ≡ err.before

pub kept : (packed bytes report line : List ℕ) (words : List (List ℕ)) (held : List ℕ)
    (answer : Status) (out err : Kept) → words ≡ texts_in packed → held ≡ bytes
    → out ≡ all_of report → err ≡ all_of line → Ran words held answer out err
    → IsRun packed bytes answer report line
kept packed bytes report line words held answer out err same holds reported told ran =
    let all : Ran (texts_in packed) bytes answer (all_of report) (all_of line) =
    subst (λ (w : List (List ℕ)). Ran w bytes answer (all_of report) (all_of line)) same
    (subst (λ (h : List ℕ). Ran words h answer (all_of report) (all_of line)) holds
    (subst (λ (k : Kept). Ran words held answer k (all_of line)) reported
    (subst (λ (k : Kept). Ran words held answer out k) told ran))) in
    record {
      promises = all.promises;
      merged = all.merged;
      answerable = all.answerable;
      unchanged = all.unchanged;
      silent = all.silent;
    }

-- a sink that began with nothing and never failed
pub whole_kept : (before after text : List ℕ) (f g : ℕ) → before ≡ [] → text ≡ after → f ≡ 0 → g ≡ 0
    → (let sink : Kept = record { before = before; after = after; faults_before = f; faults_after = g } in sink ≡ all_of text)
whole_kept before after text f g none all first last = rw (none, ← all, first, last)
