-- What a prepared problem comes to is the outcome of its question.
use Rattle.std.proofs.Common.{◌≡◌, ◌∙◌, ℕ, Bool, IfOk, Option, Some, None, Result, Ok, Err, refl, sym, ap, subst}
use Rattle.std.specs.Prelude.{IfSome}
use Rattle.weights.specs.Conditional.{ConditionalTest}
use Rattle.weights.specs.Wide.{Prepares, too_wide}
use Rattle.networks.specs.Asked.{asks}
use Rattle.weights.specs.declared.tails.Tail.{Tail}
use Rattle.weights.specs.declared.tails.Tail.TheVariants.{Less, Greater, Two}
use Rattle.weights.specs.declared.tails.Tails.{Tails}
use Rattle.weights.specs.declared.wide.PrepareFault.{PrepareFault}
use Rattle.weights.specs.declared.wide.PrepareFault.TheVariants as prepare
use Rattle.networks.specs.Network.{Network}
use Rattle.settings.specs.declared.names.OptionName.TheVariants as option
use Rattle.report.specs.declared.headings.Extra.{Extra}
use Rattle.report.specs.declared.headings.Sizes.{Sizes}
use Rattle.report.specs.declared.refusals.Refusal.{Refusal}
use Rattle.report.specs.declared.refusals.Refusal.TheVariants as refusal
use Rattle.run_outcome.specs.CauseSteps.{Answers, IsCauseOf, IsDivided, MeetsAnd, prepared_outcome}
use Rattle.run_outcome.specs.Divided.{IsAnswerable, IsDivisible}
use Rattle.run_outcome.specs.Outcome.{Outcome, asked, outcome_of_asked, tails_by, tails_in, text_for, told}
use Rattle.run_outcome.specs.Question.{question_about}
use Rattle.run_outcome.specs.declared.parts.PartOf.{PartOf}
use Rattle.run_outcome.specs.declared.reports.Asking.{Asking}

-- want of memory may come whatever is wanted
no-memory : (also own : Type 0) (wanted result : Outcome) → MeetsAnd also (Err refusal.NoMemory) result → MeetsAnd own wanted result
no-memory also own wanted (Ok text) m = let none : Err refusal.NoMemory ≡ Ok text = m.0 in absurd cc
no-memory also own wanted (Err refusal.NoMemory) m = tt
no-memory also own wanted (Err refusal.ReadFault) m = m
no-memory also own wanted (Err refusal.WriteFault) m = m
no-memory also own wanted (Err (refusal.Usage fault)) m = m
no-memory also own wanted (Err (refusal.Unfit name)) m = absurd cc
no-memory also own wanted (Err (refusal.Row fault)) m = absurd cc
no-memory also own wanted (Err (refusal.PieceLine number)) m = absurd cc
no-memory also own wanted (Err (refusal.Foreign piece)) m = absurd cc
no-memory also own wanted (Err (refusal.Doubled piece)) m = absurd cc
no-memory also own wanted (Err (refusal.MissingPart part)) m = absurd cc
no-memory also own wanted (Err (refusal.Unequal piece)) m = absurd cc
no-memory also own wanted (Err refusal.TooLong) m = absurd cc
no-memory also own wanted (Err (refusal.TooWide what)) m = absurd cc

-- a refusal may be wanted with anything beside a text
refusal-meets : (also own : Type 0) (cause : Refusal) (result : Outcome) → MeetsAnd also (Err cause) result → MeetsAnd own (Err cause) result
refusal-meets also own cause (Ok text) m = let none : Err cause ≡ Ok text = m.0 in absurd cc
refusal-meets also own cause (Err other) m = m

-- another wanted outcome that is the same
other-meets : (also own : Type 0) (wanted other result : Outcome) → wanted ≡ other → (also → own) → MeetsAnd also wanted result → MeetsAnd own other result
other-meets also own wanted other (Ok text) same more m = (sym same ∙ m.0, more m.1)
other-meets also own wanted other (Err cause) same more m = subst (λ (o : Outcome). IsCauseOf o cause) same m

if-asked : (P Q : Type 0) → (P → Q) → (piece : Option PartOf) → IfSome piece (λ part. P) → IfSome piece (λ part. Q)
if-asked P Q more None m = tt
if-asked P Q more (Some part) m = more m

pub asked_outcome : {X : Type 0} (test_of : X → ConditionalTest) (network_of runs_of : X → Tail → Network) (asking : Asking) (sizes : Sizes) (dropped : Option ℕ) (extra : Extra) (value : X)
    (prepared : Result X PrepareFault) (result : Outcome) → Prepares test_of value prepared
    → MeetsAnd (IfSome asking.piece (λ part. IsDivided test_of network_of runs_of (asked asking.tail (tails_in (test_of value))) prepared))
    (prepared_outcome test_of network_of runs_of asking sizes dropped extra (asked asking.tail (tails_in (test_of value))) prepared) result
    → Answers asking (Ok (question_about test_of network_of runs_of value sizes dropped extra)) result
asked_outcome {X} test_of network_of runs_of asking sizes dropped extra value prepared result is meets =
    by (asked asking.tail (tails_in (test_of value))) refl prepared is meets
  where
    by : (tails : Option Tails) → asked asking.tail (tails_in (test_of value)) ≡ tails → (prepared : Result X PrepareFault) → Prepares test_of value prepared
        → MeetsAnd (IfSome asking.piece (λ part. IsDivided test_of network_of runs_of tails prepared)) (prepared_outcome test_of network_of runs_of asking sizes dropped extra tails prepared) result
        → MeetsAnd (IfSome asking.piece (λ part. IsAnswerable asking.tail (Ok (question_about test_of network_of runs_of value sizes dropped extra))))
        (outcome_of_asked asking tails (question_about test_of network_of runs_of value sizes dropped extra)) result
    by None same prepared is meets = refusal-meets _ _ (refusal.Unfit option.Tail) result meets
    by (Some tails) same (Ok problem) is meets =
        other-meets _ _ _ _ result
        (ap (λ v. Ok (text_for asking tails (question_about test_of network_of runs_of v sizes dropped extra))) is.0
        ∙ sym (ap (λ what. told asking tails what (question_about test_of network_of runs_of value sizes dropped extra)) is.1))
        (if-asked _ _ (λ divided. record {
          question = question_about test_of network_of runs_of value sizes dropped extra;
          tails = tails;
          is_wanted = refl;
          are_asked = same;
          divisible = subst (λ v. IsDivisible (test_of v) (runs_of v) (network_of v) tails) is.0 divided;
        }) asking.piece) meets
    by (Some tails) same (Err (prepare.TooWide what)) is meets =
        subst (λ wanted. MeetsAnd (IfSome asking.piece (λ part. IsAnswerable asking.tail (Ok (question_about test_of network_of runs_of value sizes dropped extra)))) wanted result)
        (sym (ap (λ w. told asking tails w (question_about test_of network_of runs_of value sizes dropped extra)) is))
        (refusal-meets _ _ (refusal.TooWide what) result meets)
    by (Some tails) same (Err prepare.NoMemory) is meets =
        no-memory _ _ (told asking tails (too_wide (test_of value)) (question_about test_of network_of runs_of value sizes dropped extra)) result meets

-- a prepared problem has the tails of the value that it was prepared of
pub prepared-tails : {X : Type 0} (test_of : X → ConditionalTest) (value : X) (prepared : Result X PrepareFault) (has : Tails) → has ≡ tails_in (test_of value)
    → Prepares test_of value prepared → IfOk prepared (λ problem. has ≡ tails_in (test_of problem))
prepared-tails {X} test_of value (Ok problem) has same is = same ∙ ap (λ (v : X). tails_in (test_of v)) (sym is.0)
prepared-tails {X} test_of value (Err fault) has same is = tt

-- tails are told by each of them
pub same-tails : (found : Tails) (has : Tail → Bool) → ((tail : Tail) → asks found tail ≡ has tail) → found ≡ tails_by has
same-tails found has same = rw (sym (same Less), sym (same Greater), sym (same Two)) refl
