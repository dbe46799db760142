use Rattle.std.proofs.Common.{◌≡◌, List, true, refl, sym, ◌∙◌, arith}
use Rattle.std.specs.Prelude.{ℤ}
use Rattle.std.proofs.lemmas.Result.{IfOk-weaker}
use Rattle.weights.specs.Conditional.{numerator}
use Rattle.weights.specs.declared.tails.Tail.{Tail}
use Rattle.weights.specs.declared.tails.Tail.TheVariants.{Less}
use Rattle.networks.specs.Asked.{asks}
use Rattle.networks.specs.EachTail.{sum_for}
use Rattle.networks.specs.Follows.{AreNumerators}
use Rattle.networks.specs.Judged.{judge_of, rule_in}
use Rattle.networks.specs.declared.verdicts.Judge.{Judge}
use Rattle.networks.proofs.Following.{numerator-counted}
use Rattle.score_convolution.specs.DrawnSums.{passing_signs}
use Rattle.score_convolution.proofs.Numerators.{judged, numerator-is}
use Rattle.one_sample_tests.specs.SignNetwork.{mark_network}
use Rattle.one_sample_tests.specs.SignedSamples.{SignedSample, one_sample_test, used_scores}
use Rattle.one_sample_tests.proofs.mark_sum.MarkSumUnweightedTest.numerators.Goals as goal

-- what the network has is drawn
passing-is : (sample : SignedSample) (judge : Judge) (scores : List ℤ) → judge ≡ judge_of (one_sample_test sample) → scores ≡ used_scores sample → (t : Tail) → numerator (one_sample_test sample) t ≡ passing_signs (rule_in judge t) scores
passing-is sample judge scores e f t = rw (e, f) (numerator-counted (one_sample_test sample) refl refl t)

pub sign_sums-requires-clause-total : goal.sign_sums-requires-clause-total
sign_sums-requires-clause-total c = rw (c.as_slice-scores.ensures ∙ c.made.ensures.scores) c.made.ensures.total_fits

pub sign_sums-requires-clause-small : goal.sign_sums-requires-clause-small
sign_sums-requires-clause-small c = rw (c.as_slice-scores.ensures ∙ c.made.ensures.scores) (omega (arith, c.made.ensures.bound_fits))

pub sign_sums-requires-clause-judged : goal.sign_sums-requires-clause-judged
sign_sums-requires-clause-judged c = record {
  judge = c.args.judge;
  intervals = judged (one_sample_test c.args.self.now) _ (mark_network c.args.self.now) _ c.in_ok-stages.ensures c.requires.judge (c.sound.ensures.follows Less);
}

pub sign_sums-requires-clause-same : goal.sign_sums-requires-clause-same
sign_sums-requires-clause-same c t =
    numerator-is (one_sample_test c.args.self.now) t _ (mark_network c.args.self.now) _ c.in_ok-stages.ensures (c.sound.ensures.follows t) refl
    ∙ passing-is c.args.self.now c.args.judge _ c.requires.judge (c.as_slice-scores.ensures ∙ c.made.ensures.scores) t

pub returns : goal.returns
returns c =
    IfOk-weaker c.sign_sums.result
    (λ sums. (t : Tail) → asks c.args.tails t ≡ true → (sum_for sums t).sum ≡ passing_signs (rule_in c.args.judge t) c.as_slice-scores.result.now)
    (AreNumerators (one_sample_test c.args.self.now) c.args.tails)
    (λ sums each t asked. each t asked ∙ sym (passing-is c.args.self.now c.args.judge _ c.requires.judge (c.as_slice-scores.ensures ∙ c.made.ensures.scores) t)) c.sign_sums.ensures
