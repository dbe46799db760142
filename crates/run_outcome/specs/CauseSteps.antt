-- What each step of a run answers: the wanted result, or a refusal with its cause.
use Rattle.std.specs.Prelude.{◌≡◌, ℕ, ⊤, Bool, true, false, List, Option, Some, None, IfOk, IfSome, Result, Ok, Err}
use Rattle.weights.specs.Conditional.{ConditionalTest}
use Rattle.weights.specs.Results.{and_then}
use Rattle.weights.specs.Wide.{Prepares}
use Rattle.weights.specs.declared.tails.Tail.{Tail}
use Rattle.weights.specs.declared.tails.Tails.{Tails}
use Rattle.weights.specs.declared.wide.PrepareFault.{PrepareFault}
use Rattle.networks.specs.Network.{Network}
use Rattle.settings.specs.declared.names.OptionName.TheVariants as option
use Rattle.settings.specs.declared.names.TestName.{TestName}
use Rattle.settings.specs.declared.settings.Settings.{Settings}
use Rattle.report.specs.declared.headings.Extra.{Extra}
use Rattle.report.specs.declared.headings.Sizes.{Sizes}
use Rattle.report.specs.declared.refusals.Refusal.{Refusal}
use Rattle.report.specs.declared.refusals.Refusal.TheVariants as refusal
use Rattle.run_outcome.specs.Divided.{IsAnswerable, IsDivisible}
use Rattle.run_outcome.specs.Outcome.{Outcome, outcome_of_question, tails_in, text_for}
use Rattle.run_outcome.specs.Question.{Question, prepare_refusal, question_about}
use Rattle.run_outcome.specs.Questions.{Questions, is_shift}
use Rattle.run_outcome.specs.declared.reports.Asking.{Asking}
use Rattle.run_outcome.specs.declared.requests.Request.{Request}

-- a refusal of data is the wanted one, or want of memory
abbrev pub IsCauseOf : {X : Type 0} → Result X Refusal → Refusal → Type 0
IsCauseOf wanted refusal.NoMemory = ⊤
IsCauseOf wanted refusal.ReadFault = ⊥
IsCauseOf wanted refusal.WriteFault = ⊥
IsCauseOf wanted (refusal.Usage fault) = ⊥
IsCauseOf wanted cause = wanted ≡ Err cause

-- a result is the wanted one, where memory does not run out
abbrev pub Meets : {X : Type 0} → Result X Refusal → Result X Refusal → Type 0
Meets wanted (Ok value) = wanted ≡ Ok value
Meets wanted (Err cause) = IsCauseOf wanted cause

-- the same, and of a value this holds too
abbrev pub MeetsAnd : {X : Type 0} → Type 0 → Result X Refusal → Result X Refusal → Type 0
MeetsAnd also wanted (Ok value) = (wanted ≡ Ok value) × also
MeetsAnd also wanted (Err cause) = IsCauseOf wanted cause

-- What the report of a question answers: its outcome; and where a part is told, the parts of a run
-- answer the question.
abbrev pub Answers : Asking → Result Question Refusal → Outcome → Type 0
Answers asking question result =
    let answerable = IfSome asking.piece (λ part. IsAnswerable asking.tail question) in
    MeetsAnd answerable (and_then (outcome_of_question asking) question) result

-- the same of a question about the settings and the rows of a request
abbrev pub Fulfils : Request → (Settings → List (List (List ℕ)) → Result Question Refusal)
    → Outcome → Type 0
Fulfils request question result =
    Answers request.asking (question request.settings.now request.rows.now) result

-- what a shift, or else a test, asks of the rows
abbrev pub AnswersWhere : Bool → Questions → TestName → Asking → Settings
    → List (List (List ℕ)) → Outcome → Type 0
AnswersWhere true questions name asking settings rows result =
    Meets (questions.shift_of settings rows) result
AnswersWhere false questions name asking settings rows result =
    Answers asking (questions.question_for name settings rows) result

-- what the settings ask of the rows
abbrev pub AnswersRows : Questions → TestName → Asking → Settings → List (List (List ℕ))
    → Outcome → Type 0
AnswersRows questions name = AnswersWhere (is_shift name) questions name

-- Where a source is read: the known outcome, or a read fault, or want of memory. A refusal of the
-- words is always known.
abbrev pub IsCauseIn : Type 0 → Option Outcome → Refusal → Type 0
IsCauseIn rose known refusal.NoMemory = ⊤
IsCauseIn rose known refusal.ReadFault = rose
IsCauseIn rose known refusal.WriteFault = ⊥
IsCauseIn rose known (refusal.Usage fault) = known ≡ Some (Err (refusal.Usage fault))
IsCauseIn rose known cause = IfSome known (λ outcome. outcome ≡ Err cause)

abbrev pub ComesTo : Type 0 → Option Outcome → Outcome → Type 0
ComesTo rose known (Ok text) = IfSome known (λ outcome. outcome ≡ Ok text)
ComesTo rose known (Err cause) = IsCauseIn rose known cause

-- a prepared problem is one that the parts of a run answer for the asked tails
abbrev pub IsDivided : {V : Type 0} → (V → ConditionalTest) → (V → Tail → Network)
    → (V → Tail → Network) → Option Tails → Result V PrepareFault → Type 0
IsDivided test_of network_of runs_of asked prepared =
    IfSome asked (λ tails. IfOk prepared (λ problem.
    IsDivisible (test_of problem) (runs_of problem) (network_of problem) tails))

-- what a prepared problem, or why it is not prepared, comes to
abbrev pub prepared_outcome : {V : Type 0} → (V → ConditionalTest) → (V → Tail → Network)
    → (V → Tail → Network) → Asking → Sizes → Option ℕ → Extra → Option Tails
    → Result V PrepareFault → Outcome
prepared_outcome test_of network_of runs_of asking sizes dropped extra None prepared =
    Err (refusal.Unfit option.Tail)
prepared_outcome test_of network_of runs_of asking sizes dropped extra (Some tails) (Err fault) =
    Err (prepare_refusal fault)
prepared_outcome test_of network_of runs_of asking sizes dropped extra (Some tails) (Ok problem) =
    let about = question_about test_of network_of runs_of problem in
    Ok (text_for asking tails (about sizes dropped extra))

-- the report of a problem that is prepared of a value answers the question about the value
abbrev pub AnswersPrepared : {V : Type 0} → (V → ConditionalTest) → (V → Tail → Network)
    → (V → Tail → Network) → Asking → Sizes → Option ℕ → Extra → Tails
    → Result V PrepareFault → Outcome → Type 0
AnswersPrepared {V} test_of network_of runs_of asking sizes dropped extra has prepared result =
    (value : V) → Prepares test_of value prepared → has ≡ tails_in (test_of value)
    → Answers asking (Ok (question_about test_of network_of runs_of value sizes dropped extra))
    result
