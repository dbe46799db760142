-- A run that is divided into parts, and the run that is not.
use Rattle.std.specs.Prelude.{◌≡◌, ◌≢◌, ◌<◌, ◌≤◌, ℕ, List, true, Option, Some, None, IfSome, Result, Ok, option_map}
use Rattle.std.specs.List.{AllByRecursion, AllPairs, Contains, flat_map}
use Rattle.weights.specs.Conditional.{ConditionalTest, total}
use Rattle.weights.specs.Frames.{first_tail}
use Rattle.weights.specs.Wide.{too_wide}
use Rattle.weights.specs.declared.tails.Tail.{Tail}
use Rattle.weights.specs.declared.tails.Tails.{Tails}
use Rattle.networks.specs.Asked.{asks}
use Rattle.networks.specs.Follows.{Follows}
use Rattle.networks.specs.Laws.{IsLawful}
use Rattle.networks.specs.Network.{Network}
use Rattle.networks.specs.Written.{RunsFor}
use Rattle.record_reader.specs.Records.{records_of}
use Rattle.settings.specs.WholeRuns.{IsAskedAlone, whole}
use Rattle.settings.specs.declared.pieces.PieceOf.{PieceOf}
use Rattle.settings.specs.declared.settings.Settings.{Settings}
use Rattle.settings.specs.declared.tails.TailChoice.{TailChoice}
use Rattle.report.specs.declared.refusals.Refusal.{Refusal}
use Rattle.run_outcome.specs.Outcome.{asked, outcome_of_bytes, tails_in}
use Rattle.run_outcome.specs.Promises.{ReportsWith}
use Rattle.run_outcome.specs.Question.{Question}
use Rattle.run_outcome.specs.Questions.{Questions}

-- ---- the question of a divided run

-- n is cut into the parts of a run, for the network q that is written down
pub record Serves (test : ConditionalTest) (tail : Tail) (n q : Network) : Type 0 where
  pub lawful : IsLawful n
  pub follows : Follows test tail n
  pub written : RunsFor n q tail

-- a test that the parts of a run answer for these tails: it has a tail, its total is at least 1,
-- nothing of it is too wide, and what runs for the network of each of the tails is lawful and
-- follows it
pub record IsDivisible (test : ConditionalTest) (running network : Tail → Network) (tails : Tails)
    : Type 0 where
  pub some_tail : test.has_tail (first_tail test) ≡ true
  pub some_total : 1 ≤ total test
  pub fits : too_wide test ≡ None
  pub networks : (tail : Tail) → asks tails tail ≡ true
      → Serves test tail (running tail) (network tail)

-- the question is there, and the parts of a run answer it for the tails that are asked
pub record IsAnswerable (choice : TailChoice) (wanted : Result Question Refusal) : Type 0 where
  pub question : Question
  pub tails : Tails
  pub is_wanted : wanted ≡ Ok question
  pub are_asked : asked choice (tails_in question.test) ≡ Some tails
  pub divisible : IsDivisible question.test question.running question.network tails

-- that of the question that settings ask of a file
abbrev pub AsksAnswerable : Questions → Settings → List ℕ → Type 0
AsksAnswerable questions settings file =
    let rows = records_of settings.separator file in
    IsAnswerable settings.tail (questions.question_for settings.test settings rows)

-- where a part is asked for, and the source tells what the file holds
abbrev pub PartAnswers : Questions → Settings → Option (List ℕ) → Type 0
PartAnswers questions settings held =
    IfSome settings.piece (λ piece. IfSome held (AsksAnswerable questions settings))

-- ---- its parts

abbrev pub of_part : ℕ → PieceOf → PieceOf
of_part part piece = record piece { part = part }

-- the settings of the run of another part
abbrev pub settings_of_part : ℕ → Settings → Settings
settings_of_part part settings =
    record settings { piece = option_map (of_part part) settings.piece }

-- The text is what a run that ended with 0 wrote: it is the outcome, and where a part is asked for,
-- the parts of the run answer the question.
pub record IsWritten (questions : Questions) (settings : Settings) (file text : List ℕ)
    : Type 0 where
  pub outcome : outcome_of_bytes questions settings file ≡ Ok text
  pub answers : PartAnswers questions settings (Some file)

-- such a text was taken, where the source tells what the file holds
abbrev pub Writes : Questions → Settings → Option (List ℕ) → (List ℕ → Type 0) → Type 0
Writes questions settings held took =
    IfSome held (λ file. (text : List ℕ) × IsWritten questions settings file text × took text)

-- The bytes are texts that runs of parts of one run wrote, each of which ended with 0, one after
-- another in any order.
pub record AreParts (questions : Questions) (settings : Settings) (file bytes : List ℕ)
    : Type 0 where
  pub piece : PieceOf
  pub is_asked : settings.piece ≡ Some piece
  pub alone : IsAskedAlone settings piece
  pub order : List ℕ
  pub are_parts : AllByRecursion (λ part. part < piece.parts) order
  pub texts : ℕ → List ℕ
  pub written : (part : ℕ) → part < piece.parts
      → IsWritten questions (settings_of_part part settings) file (texts part)
  pub joined : bytes ≡ flat_map texts order

-- all parts of a run, each once
pub record AreAll (parts : ℕ) (order : List ℕ) : Type 0 where
  pub each : (part : ℕ) → part < parts → Contains order part
  pub once : AllPairs ◌≢◌ order

-- What was written for these bytes is the report of the run that is not divided, where they are
-- texts that its parts wrote.
abbrev pub WritesUndivided : Questions → (List ℕ → Type 0) → List ℕ → Type 0
WritesUndivided questions took bytes = (settings : Settings) (file : List ℕ)
    → AreParts questions settings file bytes
    → ReportsWith (outcome_of_bytes questions (whole settings) file) took
