-- Settings that ask one question of a file, whichever part of its run they ask for.
use Rattle.std.proofs.Common.{◌≡◌, ◌∙◌, ℕ, Bool, true, false, cond, List, length, Option, Some, None, Result, Ok, Err, ap, nat_lt, refl, subst, sym}
use Rattle.outside.specs.declared.source.TheConstants.{LONGEST_FILE}
use Rattle.weights.specs.Results.{and_then}
use Rattle.weights.specs.Wide.{too_wide}
use Rattle.weights.specs.declared.tails.Tails.{Tails}
use Rattle.record_reader.specs.Records.{records_of}
use Rattle.settings.specs.declared.names.OptionName.TheVariants as option
use Rattle.settings.specs.declared.names.TestName.{TestName}
use Rattle.settings.specs.declared.pieces.PieceOf.{PieceOf}
use Rattle.settings.specs.declared.settings.Settings.{Settings}
use Rattle.report.specs.declared.refusals.Refusal.{Refusal}
use Rattle.report.specs.declared.refusals.Refusal.TheVariants as refusal
use Rattle.run_outcome.specs.Divided.{AsksAnswerable, IsAnswerable}
use Rattle.run_outcome.specs.Outcome.{Outcome, asked, asking_of, outcome_for, outcome_of_bytes, outcome_of_question, outcome_of_rows, outcome_where, tails_in, text_for}
use Rattle.run_outcome.specs.Question.{Question}
use Rattle.run_outcome.specs.Questions.{Questions, is_shift, of_piece}
use Rattle.run_outcome.specs.declared.reports.Asking.{Asking}
use Rattle.run_outcome.proofs.EachName.{of-shift}

-- where a part answers it, so does the run
pub answer-of-part : (questions : Questions) (settings : Settings) (piece : PieceOf) (file : List ℕ) → AsksAnswerable questions (of_piece settings (Some piece)) file → AsksAnswerable questions settings file
answer-of-part questions settings piece file answers = subst (IsAnswerable settings.tail) (questions.no_part settings.test settings (Some piece) (records_of settings.separator file)) answers

no-question : (wanted : Result Question Refusal) (question : Question) → wanted ≡ Err (refusal.Unfit option.Test) → wanted ≡ Ok question → ⊥
no-question wanted question none is = let same : Err (refusal.Unfit option.Test) ≡ Ok question = sym none ∙ is in cc

one-question : (questions : Questions) (name : TestName) (asking : Asking) (settings : Settings) (piece : Option PieceOf) (rows : List (List (List ℕ))) (question : Question)
    → questions.question_for name settings rows ≡ Ok question → outcome_for questions name asking (of_piece settings piece) rows ≡ outcome_of_question asking question
one-question questions name asking settings piece rows question is = by (is_shift name) refl
  where
    by : (b : Bool) → is_shift name ≡ b → outcome_where b questions name asking (of_piece settings piece) rows ≡ outcome_of_question asking question
    by true shift = absurd (no-question _ question (of-shift (λ n. questions.question_for n settings rows ≡ Err (refusal.Unfit option.Test)) (questions.no_shift settings rows) name shift) is)
    by false shift = ap (and_then (outcome_of_question asking)) (questions.no_part name settings piece rows ∙ is)

-- its outcome is a text
told-text : (asking : Asking) (question : Question) (tails : Tails) → asked asking.tail (tails_in question.test) ≡ Some tails → too_wide question.test ≡ None
    → outcome_of_question asking question ≡ Ok (text_for asking tails question)
told-text asking question tails are fits = rw (are, fits) refl

module _ (questions : Questions) (settings : Settings) (file : List ℕ) (answer : AsksAnswerable questions settings file) where
  abbrev asking_by : Option PieceOf → Asking
  asking_by piece = asking_of (of_piece settings piece) file

  abbrev text_by : Option PieceOf → List ℕ
  text_by piece = text_for (asking_by piece) answer.tails answer.question

  rows-text : (piece : Option PieceOf) → outcome_of_rows questions (asking_by piece) (of_piece settings piece) (records_of settings.separator file) ≡ Ok (text_by piece)
  rows-text piece =
      one-question questions settings.test (asking_by piece) settings piece (records_of settings.separator file) answer.question answer.is_wanted
      ∙ told-text (asking_by piece) answer.question answer.tails answer.are_asked answer.divisible.fits

  ok-same : (xs ys : List ℕ) (o : Outcome) → o ≡ Ok xs → o ≡ Ok ys → xs ≡ ys
  ok-same xs ys o a b = let same : Ok xs ≡ o = sym a in cc

  -- what one part writes is its text
  pub asked-text : (piece : Option PieceOf) (text : List ℕ) → outcome_of_bytes questions (of_piece settings piece) file ≡ Ok text → text ≡ text_by piece
  unfolding outcome_of_bytes
  asked-text piece text is = by (nat_lt LONGEST_FILE (length file)) is (rows-text piece)
    where
      by : (b : Bool) → cond b (Err refusal.TooLong) (outcome_of_rows questions (asking_by piece) (of_piece settings piece) (records_of settings.separator file)) ≡ Ok text
          → outcome_of_rows questions (asking_by piece) (of_piece settings piece) (records_of settings.separator file) ≡ Ok (text_by piece) → text ≡ text_by piece
      by true is rows = absurd cc
      by false is rows = ok-same text (text_by piece) _ is rows

  -- and where one writes a text, so does any other
  pub other-text : (one other : Option PieceOf) (text : List ℕ) → outcome_of_bytes questions (of_piece settings one) file ≡ Ok text → outcome_of_bytes questions (of_piece settings other) file ≡ Ok (text_by other)
  unfolding outcome_of_bytes
  other-text one other text is = by (nat_lt LONGEST_FILE (length file)) is (rows-text other)
    where
      by : (b : Bool) → cond b (Err refusal.TooLong) (outcome_of_rows questions (asking_by one) (of_piece settings one) (records_of settings.separator file)) ≡ Ok text
          → outcome_of_rows questions (asking_by other) (of_piece settings other) (records_of settings.separator file) ≡ Ok (text_by other)
          → cond b (Err refusal.TooLong) (outcome_of_rows questions (asking_by other) (of_piece settings other) (records_of settings.separator file)) ≡ Ok (text_by other)
      by true is rows = absurd cc
      by false is rows = rows
