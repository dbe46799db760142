-- From the rows of a file to its bytes and to the source: what is promised where a part is asked.
use Rattle.std.proofs.Common.{◌≡◌, ℕ, Bool, true, false, cond, List, Option, Some, None, Result, Ok, Err, refl, ap, ◌∙◌, subst}
use Rattle.std.specs.Prelude.{IfSome, OnOk, option_map}
use Rattle.std.specs.Option.{ok_or}
use Rattle.weights.specs.Results.{and_then, with_value}
use Rattle.record_reader.specs.Records.{records_of}
use Rattle.settings.specs.Meaning.{command_for, command_of, is_complete, is_help, made_number, meaning_for, meaning_of, meaning_of_given, meaning_of_test, paired_options, settings_of}
use Rattle.settings.specs.Tests.{test_named}
use Rattle.settings.specs.Words.{WordsSoFar, none_given, with_words}
use Rattle.settings.specs.declared.command_line.CommandLine.TheVariants as command
use Rattle.settings.specs.declared.names.OptionName.TheVariants as option
use Rattle.settings.specs.declared.names.TestName.{TestName}
use Rattle.settings.specs.declared.names.UsageFault.TheVariants.{Form, Value}
use Rattle.settings.specs.declared.pieces.PieceOf.{PieceOf}
use Rattle.settings.specs.declared.settings.Settings.{Settings}
use Rattle.run_outcome.specs.CauseSteps.{AnswersRows, AnswersWhere, Meets, MeetsAnd}
use Rattle.run_outcome.specs.Divided.{AsksAnswerable, IsAnswerable, PartAnswers, Writes}
use Rattle.run_outcome.specs.Outcome.{Outcome, asking_of, outcome_for, outcome_of_bytes, outcome_where, part_of}
use Rattle.run_outcome.specs.Questions.{Questions, is_shift}
use Rattle.run_outcome.specs.declared.reports.Asking.{Asking}
use Rattle.run_outcome.proofs.EachName.{of-test}

pub meets : (also : Type 0) (wanted result : Outcome) → MeetsAnd also wanted result → Meets wanted result
meets also wanted (Ok text) m = m.0
meets also wanted (Err cause) m = m

also-holds : (also : Type 0) (wanted result : Outcome) → MeetsAnd also wanted result → OnOk result also
also-holds also wanted (Ok text) m = m.1
also-holds also wanted (Err cause) m = tt

-- ---- rows

-- what is said of rows is said of their outcome, and of a question where the test is no shift
pub record AnsweredRows (questions : Questions) (name : TestName) (asking : Asking) (settings : Settings) (rows : List (List (List ℕ))) (result : Outcome) : Type 0 where
  pub outcome : Meets (outcome_for questions name asking settings rows) result
  pub answerable : is_shift name ≡ false → OnOk result (IfSome asking.piece (λ part. IsAnswerable asking.tail (questions.question_for name settings rows)))

pub answered-rows : (questions : Questions) (name : TestName) (asking : Asking) (settings : Settings) (rows : List (List (List ℕ))) (result : Outcome) → AnswersRows questions name asking settings rows result
    → AnsweredRows questions name asking settings rows result
answered-rows questions name asking settings rows result answers = let both = by (is_shift name) answers in record { outcome = both.0; answerable = both.1 }
  where
    by : (b : Bool) → AnswersWhere b questions name asking settings rows result
        → Meets (outcome_where b questions name asking settings rows) result × (b ≡ false → OnOk result (IfSome asking.piece (λ part. IsAnswerable asking.tail (questions.question_for name settings rows))))
    by true answers = (answers, λ other. absurd cc)
    by false answers = (meets _ _ result answers, λ other. also-holds _ _ result answers)

-- ---- bytes, and what a source holds

part-asked : (P : Type 0) (bytes : List ℕ) (piece : Option PieceOf) → IfSome (option_map (part_of bytes) piece) (λ part. P) → IfSome piece (λ piece. P)
part-asked P bytes None is = tt
part-asked P bytes (Some piece) is = is

on-ok : (P Q : Type 0) (result : Outcome) → (P → Q) → OnOk result P → OnOk result Q
on-ok P Q (Ok text) more is = more is
on-ok P Q (Err cause) more is = tt

pub answered-bytes : (questions : Questions) (settings : Settings) (bytes : List ℕ) (result : Outcome)
    → OnOk result (IfSome (asking_of settings bytes).piece (λ part. IsAnswerable settings.tail (questions.question_for settings.test settings (records_of settings.separator bytes))))
    → OnOk result (PartAnswers questions settings (Some bytes))
answered-bytes questions settings bytes result = on-ok _ _ result (part-asked _ bytes settings.piece)

held-part : (questions : Questions) (settings : Settings) (bytes : List ℕ) (held : Option (List ℕ)) → IfSome held (λ other. bytes ≡ other) → (piece : Option PieceOf) → IfSome piece (λ piece. AsksAnswerable questions settings bytes)
    → IfSome piece (λ piece. IfSome held (AsksAnswerable questions settings))
held-part questions settings bytes held same None is = tt
held-part questions settings bytes None same (Some piece) is = tt
held-part questions settings bytes (Some other) same (Some piece) is = subst (AsksAnswerable questions settings) same is

pub answered-held : (questions : Questions) (settings : Settings) (bytes : List ℕ) (held : Option (List ℕ)) (result : Outcome) → IfSome held (λ other. bytes ≡ other) → OnOk result (PartAnswers questions settings (Some bytes)) → OnOk result (PartAnswers questions settings held)
answered-held questions settings bytes held result same = on-ok _ _ result (held-part questions settings bytes held same settings.piece)

-- what a run that ended with 0 wrote
pub written-text : (questions : Questions) (settings : Settings) (held : Option (List ℕ)) (text : List ℕ) (took : List ℕ → Type 0) → IfSome (option_map (outcome_of_bytes questions settings) held) (λ outcome. outcome ≡ Ok text) → PartAnswers questions settings held → took text
    → Writes questions settings held took
written-text questions settings None text took is answers written = tt
written-text questions settings (Some file) text took is answers written = (text, record { outcome = is; answers = answers }, written)

-- ---- the words of a test ask for no shift

no-shift : (number : ℕ) (name : TestName) (own settings : Settings) → own.test ≡ name → command_for number name own ≡ command.Test settings → is_shift settings.test ≡ false
no-shift number name own settings is e =
    let test = of-test number name own settings e in
    ap (λ (s : Settings). is_shift s.test) test.0 ∙ ap is_shift is ∙ test.1

from-next : {S T F : Type 0} (next : S → Result T F) (r : Result S F) (y : T) → and_then next r ≡ Ok y → (x : S) × (next x ≡ Ok y)
from-next next (Ok x) y e = (x, e)
from-next next (Err fault) y e = absurd cc

from-change : {S T F : Type 0} (change : S → T) (r : Result S F) (y : T) → with_value change r ≡ Ok y → (x : S) × (change x ≡ y)
from-change change (Ok x) y e = (x, cc)
from-change change (Err fault) y e = absurd cc

of-name : (given : WordsSoFar) (name : TestName) (settings : Settings) → meaning_for given name ≡ Ok (command.Test settings) → is_shift settings.test ≡ false
of-name given name settings e = by (is_complete name given) e
  where
    by : (b : Bool) → cond b (with_value (command_of (made_number given)) (and_then paired_options (settings_of given name))) (Err Form) ≡ Ok (command.Test settings) → is_shift settings.test ≡ false
    by true e =
        let own = from-change (command_of (made_number given)) (and_then paired_options (settings_of given name)) (command.Test settings) e in
        no-shift (made_number given) own.0.test own.0 settings refl own.1
    by false e = absurd cc

of-words : (words : List (List ℕ)) (settings : Settings) → and_then meaning_of_given (with_words words none_given) ≡ Ok (command.Test settings) → is_shift settings.test ≡ false
of-words words settings e =
    let given = from-next meaning_of_given (with_words words none_given) (command.Test settings) e in
    let word = from-next (meaning_of_test given.0) (ok_or given.0.test Form) (command.Test settings) given.1 in
    let name = from-next (meaning_for given.0) (ok_or (test_named word.0) (Value option.Test)) (command.Test settings) word.1 in
    of-name given.0 name.0 settings name.1

pub words-no-shift : (words : List (List ℕ)) (settings : Settings) → meaning_of words ≡ Ok (command.Test settings) → is_shift settings.test ≡ false
words-no-shift words settings e = by (is_help words) e
  where
    by : (b : Bool) → cond b (Ok command.Help) (and_then meaning_of_given (with_words words none_given)) ≡ Ok (command.Test settings) → is_shift settings.test ≡ false
    by true e = absurd cc
    by false e = of-words words settings e
