use Rattle.std.proofs.Common.{◌≡◌, ◌∙◌, ◌^◌, ◌≤◌, length, Err, sym, ap, subst}
use Rattle.std.proofs.lemmas.Result.{err_from_is_err_and}
use Rattle.weights.specs.declared.TheConstants.{MAX}
use Rattle.weights.proofs.Centred.{not-wide, total-wide}
use Rattle.one_sample_tests.specs.SignedSamples.{SignedSample, nonzero, one_sample_test, sample_of, used_scores}
use Rattle.one_sample_tests.specs.SampleSteps.{IsMadeOf}
use Rattle.one_sample_tests.proofs.FittingSamples.{refused, total-of, used-many}
use Rattle.one_sample_tests.proofs.one_sample.prepare.Goals as goal

pub returns-in_default : goal.returns-in_default
returns-in_default c =
    let sample : SignedSample = sample_of c.args.kind c.args.differences in
    let many : c.number_used.result ≡ length (used_scores sample) = c.number_used.ensures ∙ ap (λ ds. length (nonzero ds)) c.as_slice.ensures ∙ sym (used-many sample) in
    total-wide (one_sample_test sample) (total-of sample) (rw many at c.in_default.ensures)

pub returns-in_err-made : goal.returns-in_err-made
returns-in_err-made c =
    let sample : SignedSample = sample_of c.args.kind c.args.differences in
    let many : c.number_used.result ≡ length (used_scores sample) = c.number_used.ensures ∙ ap (λ ds. length (nonzero ds)) c.as_slice.ensures ∙ sym (used-many sample) in
    let total : 2 ^ length (used_scores sample) ≤ MAX = rw many at c.in-Some.ensures.0 in
    let p = err_from_is_err_and c.from_residual.result c.from_residual.ensures.1 in
    rw (p.1, p.2) (refused sample c.in_err-made.field-0.0 total (subst (λ ds. IsMadeOf (sample_of c.args.kind ds) (Err c.in_err-made.field-0.0)) c.as_slice-2.ensures c.in_err-made.ensures))

pub new-sum-requires : goal.new-sum-requires
new-sum-requires c = (rw c.as_slice-2.ensures at c.in_ok-made.ensures).0

pub of-requires : goal.of-requires
of-requires c = rw c.new-sum.ensures (rw c.as_slice-2.ensures at c.in_ok-made.ensures).1

pub returns : goal.returns
returns c =
    let sample : SignedSample = sample_of c.args.kind c.args.differences in
    let made = (rw c.as_slice-2.ensures at c.in_ok-made.ensures).0 in
    (c.of.ensures ∙ c.new-sum.ensures, not-wide (one_sample_test sample) (total-of sample) made.total_fits made.bound_fits)
