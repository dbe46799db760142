-- The parts of a divided run put together: what the bytes of a file of pieces come to.
use Rattle.std.specs.Prelude.{⊤, ◌≡◌, ◌≢◌, ◌<◌, ◌≤◌, ℕ, List, length, Option, IfSome, Result, Ok, Err}
use Rattle.outside.specs.declared.source.TheConstants.{LONGEST_FILE}
use Rattle.piece_texts.specs.Merges.{MergeGives}
use Rattle.piece_texts.specs.ReadPieces.{AreTexts, IsFaultLine}
use Rattle.piece_texts.specs.declared.piece.Piece.{Piece}
use Rattle.piece_texts.specs.declared.reading.PieceFault.{PieceFault}
use Rattle.piece_texts.specs.declared.reading.PieceFault.TheVariants as piece
use Rattle.piece_texts.specs.declared.merging.Merged.{Merged}
use Rattle.piece_texts.specs.declared.merging.MergeFault.{MergeFault}
use Rattle.piece_texts.specs.declared.merging.MergeFault.TheVariants as fault
use Rattle.report.specs.Report.{merged_text}
use Rattle.report.specs.Refusals.{refusal_line_text}
use Rattle.report.specs.declared.refusals.Refusal.{Refusal}
use Rattle.report.specs.declared.refusals.Refusal.TheVariants as refusal
use Rattle.settings.specs.WholeRuns.{whole}
use Rattle.settings.specs.declared.settings.Settings.{Settings}
use Rattle.run_outcome.specs.Divided.{AreAll, AreParts, WritesUndivided}
use Rattle.run_outcome.specs.Outcome.{Outcome, outcome_of_bytes}
use Rattle.run_outcome.specs.Promises.{ComesExactly, IsCompleted, IsDecided, status_of}
use Rattle.run_outcome.specs.Questions.{Questions}
use Rattle.run_outcome.specs.declared.status.Status.{Status}
use Rattle.run_outcome.specs.declared.status.Status.TheVariants as status

-- the text of pieces that are put together
abbrev pub text_of_merged : Merged → List ℕ
text_of_merged m = merged_text m.head m.total m.less m.greater m.two

-- the bytes are the texts of pieces, of which a merge answers this
abbrev pub MergesTo : List ℕ → Result Merged MergeFault → Type 0
MergesTo bytes answer = (pieces : List Piece) × AreTexts bytes pieces × MergeGives pieces answer

-- What the bytes of a file come to: they are no pieces, or these have a fault, or they are put
-- together.
abbrev pub MergeOf : List ℕ → Outcome → Type 0
MergeOf bytes (Ok text) =
    (merged : Merged) × MergesTo bytes (Ok merged) × (text ≡ text_of_merged merged)
MergeOf bytes (Err (refusal.PieceLine number)) = IsFaultLine bytes number
MergeOf bytes (Err (refusal.Foreign piece)) = MergesTo bytes (Err (fault.Foreign piece))
MergeOf bytes (Err (refusal.Doubled piece)) = MergesTo bytes (Err (fault.Doubled piece))
MergeOf bytes (Err (refusal.MissingPart part)) = MergesTo bytes (Err (fault.Missing part))
MergeOf bytes (Err (refusal.Unequal piece)) = MergesTo bytes (Err (fault.Unequal piece))
MergeOf bytes (Err cause) = ⊥

-- the length of the file comes before these
abbrev pub MergeOutcome : List ℕ → Outcome → Type 0
MergeOutcome bytes (Err refusal.TooLong) = LONGEST_FILE < length bytes
MergeOutcome bytes outcome = (length bytes ≤ LONGEST_FILE) × MergeOf bytes outcome

-- the refusal of bytes that are no pieces, and of pieces that are not put together
abbrev pub piece_refusal : PieceFault → Refusal
piece_refusal (piece.Line number) = refusal.PieceLine number
piece_refusal piece.NoMemory = refusal.NoMemory

abbrev pub merge_refusal : MergeFault → Refusal
merge_refusal (fault.Foreign piece) = refusal.Foreign piece
merge_refusal (fault.Doubled piece) = refusal.Doubled piece
merge_refusal (fault.Missing part) = refusal.MissingPart part
merge_refusal (fault.Unequal piece) = refusal.Unequal piece
merge_refusal fault.NoMemory = refusal.NoMemory

-- what the bytes of a file come to, where memory does not run out
abbrev pub MergeMeets : List ℕ → Outcome → Type 0
MergeMeets bytes (Err refusal.NoMemory) = ⊤
MergeMeets bytes outcome = MergeOf bytes outcome

-- what a step that reads the file answers: what the bytes come to, where the source tells them
abbrev pub MergeComes : Type 0 → Option (List ℕ) → Outcome → Type 0
MergeComes rose held (Err refusal.NoMemory) = ⊤
MergeComes rose held (Err refusal.ReadFault) = rose
MergeComes rose held (Err refusal.WriteFault) = ⊥
MergeComes rose held (Err (refusal.Usage fault)) = ⊥
MergeComes rose held (Err (refusal.Unfit name)) = ⊥
MergeComes rose held (Err (refusal.TooWide what)) = ⊥
MergeComes rose held result = IfSome held (λ bytes. MergeOutcome bytes result)

-- the bytes come to a text, of which this holds
abbrev pub MergesWith : List ℕ → (List ℕ → Type 0) → Type 0
MergesWith bytes P = (text : List ℕ) × MergeOutcome bytes (Ok text) × P text

-- the texts of all parts of a run, each once, come to the outcome of the run that is not divided
abbrev pub AllPartsMerge : Questions → List ℕ → Type 0
AllPartsMerge questions bytes = (settings : Settings) (file : List ℕ)
    → (parts : AreParts questions settings file bytes)
    → AreAll parts.piece.parts parts.order → length bytes ≤ LONGEST_FILE
    → MergeOutcome bytes (outcome_of_bytes questions (whole settings) file)

-- some refusal of the status is told, and it is what the bytes come to, where these decide it
pub record TellsMergeFault (answer : Status) (held : Option (List ℕ))
    (written : List ℕ → Type 0) : Type 0 where
  pub cause : Refusal
  pub of_status : status_of cause ≡ answer
  pub told : written (refusal_line_text cause)
  pub of_bytes : IsDecided cause → IfSome held (λ bytes. MergeOutcome bytes (Err cause))

-- The promises of a run that puts pieces together: of its answer, of the file's bytes, where the
-- source tells them, of whether the counts of faults rose, of what `out` and `err` took.
pub record MergePromises (questions : Questions) (answer : Status) (held : Option (List ℕ))
    (source_rose out_rose : Type 0) (took took_prefix told : List ℕ → Type 0) : Type 0 where
  -- after Done `out` holds the report of the pieces put together
  pub done : answer ≡ status.Done → IfSome held (λ bytes. MergesWith bytes took)
  -- which is that of the run that is not divided, where they are the parts of one
  pub undivided : answer ≡ status.Done → IfSome held (WritesUndivided questions took)
  -- it is whole or a counted prefix
  pub prefix : answer ≡ status.WriteFault → IfSome held (λ bytes. MergesWith bytes took_prefix)
  -- every refusal is told by its line
  pub line : answer ≢ status.Done → TellsMergeFault answer held told
  -- bad data come exactly where the bytes come to a fault
  pub bad_data : IfSome held (λ bytes. (outcome : Outcome)
      → MergeOutcome bytes outcome → ComesExactly answer status.BadData outcome)
  -- where the bytes come to a report and no count rose, it is written, or memory ran out
  pub complete : IfSome held (λ bytes. (outcome : Outcome)
      → MergeOutcome bytes outcome → IsCompleted answer source_rose out_rose outcome)
  -- pieces are neither a fault of the words nor too wide, also where the source tells nothing
  pub never : (answer ≢ status.Usage) × (answer ≢ status.TooWide)
  -- all parts of a run, each once, come to a report, that of the run that is not divided
  pub all_parts : IfSome held (AllPartsMerge questions)
