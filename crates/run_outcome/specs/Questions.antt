-- What a program can be asked of the data of files.
use Rattle.std.specs.Prelude.{◌≡◌, ℕ, List, Bool, true, false, Option, Result, Err}
use Rattle.settings.specs.declared.names.OptionName.TheVariants as option
use Rattle.settings.specs.declared.names.TestName.{TestName}
use Rattle.settings.specs.declared.names.TestName.TheVariants as test
use Rattle.settings.specs.declared.pieces.PieceOf.{PieceOf}
use Rattle.settings.specs.declared.settings.Settings.{Settings}
use Rattle.report.specs.declared.refusals.Refusal.{Refusal}
use Rattle.report.specs.declared.refusals.Refusal.TheVariants as refusal
use Rattle.run_outcome.specs.Question.{Question}

-- a shift is estimated, and is no test
abbrev pub is_shift : TestName → Bool
is_shift test.Shift = true
is_shift _ = false

-- the settings with this part of a divided run, or with none
abbrev pub of_piece : Settings → Option PieceOf → Settings
of_piece settings piece = record settings { piece = piece }

-- The questions of the tests that a program has.
pub record Questions : Type 0 where
  -- what a test asks of the rows of a file
  pub question_for : TestName → Settings → List (List (List ℕ)) → Result Question Refusal
  -- the report of a shift
  pub shift_of : Settings → List (List (List ℕ)) → Result (List ℕ) Refusal
  -- what is asked of data that are made from a number
  pub made_question : ℕ → Question
  -- no part of a run is looked at to find its question
  pub no_part : (name : TestName) (settings : Settings) (piece : Option PieceOf)
      (rows : List (List (List ℕ)))
      → question_for name (of_piece settings piece) rows ≡ question_for name settings rows
  -- a shift asks none
  pub no_shift : (settings : Settings) (rows : List (List (List ℕ)))
      → question_for test.Shift settings rows ≡ Err (refusal.Unfit option.Test)
