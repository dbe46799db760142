use Rattle.std.proofs.Common.{◌≡◌, ◌∙◌, ◌*◌, ◌^◌, ◌≤◌, refl, sym, ap, subst, arith}
use Rattle.weights.specs.declared.TheConstants.{MAX}
use Rattle.midranks.specs.Ties.{tie_groups}
use Rattle.one_sample_tests.specs.SignedSamples.{SignedSample, magnitudes, nonzero, sample_of, signs_of, used_sizes}
use Rattle.one_sample_tests.specs.SampleSteps.{AreSignScores}
use Rattle.one_sample_tests.proofs.FittingSamples.{few-sizes, scored-some, total-of, used-many, used-small}
use Rattle.one_sample_tests.proofs.scored_marks.made_of.Goals as goal

pub magnitudes-requires : goal.magnitudes-requires
magnitudes-requires c = rw (c.as_slice.ensures ∙ c.in_ok-used.ensures) (used-small c.args.differences.now c.requires.size)

pub sign_scored-requires : goal.sign_scored-requires
sign_scored-requires c =
    let sizes : c.as_slice-3.result.now ≡ magnitudes (nonzero c.args.differences.now) = c.as_slice-3.ensures ∙ c.in_ok-sizes.ensures ∙ ap magnitudes (c.as_slice.ensures ∙ c.in_ok-used.ensures) in
    rw sizes (omega (arith, few-sizes c.args.differences.now, c.requires.few))

pub frame_of-frame-requires-clause-some : goal.frame_of-frame-requires-clause-some
frame_of-frame-requires-clause-some c =
    let sizes : c.as_slice-3.result.now ≡ magnitudes (nonzero c.args.differences.now) = c.as_slice-3.ensures ∙ c.in_ok-sizes.ensures ∙ ap magnitudes (c.as_slice.ensures ∙ c.in_ok-used.ensures) in
    let are : AreSignScores c.args.kind (magnitudes (nonzero c.args.differences.now)) c.in-Ok.scored = subst (λ ss. AreSignScores c.args.kind ss c.in-Ok.scored) sizes c.in-Ok.ensures in
    scored-some c.args.kind (nonzero c.args.differences.now) c.in-Ok.scored.list are.list

pub returns : goal.returns
returns c =
    let sample : SignedSample = sample_of c.args.kind c.args.differences.now in
    let sizes : c.as_slice-3.result.now ≡ used_sizes sample = c.as_slice-3.ensures ∙ c.in_ok-sizes.ensures ∙ ap magnitudes (c.as_slice.ensures ∙ c.in_ok-used.ensures) in
    let are : AreSignScores c.args.kind (used_sizes sample) c.in-Ok.scored = subst (λ ss. AreSignScores c.args.kind ss c.in-Ok.scored) sizes c.in-Ok.ensures in
    let marks : c.as_slice-5.result.now ≡ signs_of (nonzero sample.differences) = c.as_slice-5.ensures ∙ c.in_ok-marks.ensures ∙ ap signs_of (c.as_slice-2.ensures ∙ c.in_ok-used.ensures) in
    let bound : 2 * c.in-Ok.scored.sum ≤ MAX = c.in-Some.ensures.0 in (
      record {
        scores = are.list;
        groups = c.in_ok-groups.ensures.groups ∙ ap tie_groups (c.as_slice-4.ensures ∙ are.list);
        total_fits = rw (used-many sample) (omega (arith, c.requires.total, c.requires.fits));
        bound_fits = omega (arith, bound, are.sum);
      },
      rw (c.frame_of-frame.ensures, are.list, marks) (record { statistic = refl; scale = are.scale; total = c.requires.total ∙ ap (λ n. 2 ^ n) (sym (used-many sample)) ∙ sym (total-of sample); two = refl }),
    )
