-- The questions of the tests that the program has.
use Rattle.std.specs.Prelude.{◌≡◌, ℕ, List, Option, refl}
use Rattle.settings.specs.declared.names.TestName.{TestName}
use Rattle.settings.specs.declared.names.TestName.TheVariants as test
use Rattle.settings.specs.declared.pieces.PieceOf.{PieceOf}
use Rattle.settings.specs.declared.settings.Settings.{Settings}
use Rattle.run_outcome.specs.Questions.{Questions, of_piece}
use Rattle.exact_run.specs.MadeData.{made_question}
use Rattle.exact_run.specs.Questions.{question_for}
use Rattle.exact_run.specs.ShiftReports.{shift_of}

-- no part of a run is looked at to find its question: each name by itself
pub no_part_asked : (name : TestName) (settings : Settings) (piece : Option PieceOf)
    (rows : List (List (List ℕ)))
    → question_for name (of_piece settings piece) rows ≡ question_for name settings rows
no_part_asked test.Shift settings piece rows = refl
no_part_asked _ settings piece rows = refl

abbrev pub tests : Questions
tests = record {
  question_for = question_for;
  shift_of = shift_of;
  made_question = made_question;
  no_part = no_part_asked;
  no_shift = λ settings rows. refl;
}
