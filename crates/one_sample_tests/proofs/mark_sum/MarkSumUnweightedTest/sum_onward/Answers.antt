use Rattle.std.proofs.Common.{◌≡◌, ◌≤◌, ◌-◌, ◌^◌, ℕ, List, length, drop, take, ap, sym, subst, ◌∙◌, arith}
use Rattle.std.specs.Prelude.{ℤ, ◌+◌, All, IfOk, unsigned_abs}
use Rattle.std.proofs.lemmas.List.{length-drop, take_all}
use Rattle.weights.specs.declared.TheConstants.{MAX}
use Rattle.weights.specs.declared.tails.Tail.{Tail}
use Rattle.weights.specs.Numbers.{absolute_sum}
use Rattle.midranks.specs.Ties.{tie_groups}
use Rattle.midranks.specs.declared.ties.Tie.{Tie}
use Rattle.node_pool.specs.Nodes.{weighted}
use Rattle.node_pool.specs.PoolSteps.{nodes_of}
use Rattle.networks.specs.Completions.{extreme_weight, total_weight}
use Rattle.networks.specs.Judged.{judge_of, rule_in}
use Rattle.networks.specs.Network.{Network, IsReached}
use Rattle.networks.specs.declared.verdicts.Judge.{Judge}
use Rattle.stage_network.specs.FromKeys.{AreStarts}
use Rattle.score_convolution.specs.DrawRows.{number_of}
use Rattle.score_convolution.specs.DrawnSums.{passing_onward}
use Rattle.one_sample_tests.specs.SampleSteps.{AreStages, subjects_of}
use Rattle.one_sample_tests.specs.SignNetwork.{mark_network}
use Rattle.one_sample_tests.specs.SignedSamples.{SignedSample, one_sample_test, used_scores}
use Rattle.one_sample_tests.proofs.FittingSamples.{stages-fit}
use Rattle.one_sample_tests.proofs.MarksLeft.{extreme-left, keys-small, left-few, left-near, total-left}
use Rattle.one_sample_tests.proofs.mark_sum.MarkSumUnweightedTest.sum_onward.Goals as goal

-- the scores of those who are left
all-left : (sample : SignedSample) (groups : List Tie) (stage : ℕ) (left scores : List ℤ) → groups ≡ tie_groups (used_scores sample) → left ≡ subjects_of (take (length groups - stage) (drop stage groups)) → scores ≡ left → scores ≡ subjects_of (drop stage (tie_groups (used_scores sample)))
all-left sample groups stage left scores e f h =
    h ∙ f ∙ ap subjects_of (take_all (length groups - stage) (drop stage groups) (omega (arith, length-drop stage groups))) ∙ ap (λ (ts : List Tie). subjects_of (drop stage ts)) e

pub sign_sum_onward-requires-clause-starts : goal.sign_sum_onward-requires-clause-starts
sign_sum_onward-requires-clause-starts c = subst (λ (n : Network). AreStarts n c.args.stage c.args.keys.now c.args.weights.now) (sym c.in_ok-stages.ensures) c.requires.starts

pub sign_sum_onward-requires-clause-few : goal.sign_sum_onward-requires-clause-few
sign_sum_onward-requires-clause-few c =
    let sample : SignedSample = c.args.self.now in
    let fit = stages-fit sample c.made.ensures.total_fits c.made.ensures.bound_fits in
    subst (λ (xs : List ℤ). 2 ^ length xs ≤ MAX) (sym (all-left sample c.as_slice.result.now c.args.stage c.in_ok-left.left c.as_slice-scores.result.now (c.as_slice.ensures ∙ c.made.ensures.groups) c.in_ok-left.ensures c.as_slice-scores.ensures))
    (left-few (tie_groups (used_scores sample)) (judge_of (one_sample_test sample)) fit c.args.stage)

pub sign_sum_onward-requires-clause-near : goal.sign_sum_onward-requires-clause-near
sign_sum_onward-requires-clause-near c =
    let sample : SignedSample = c.args.self.now in
    let fit = stages-fit sample c.made.ensures.total_fits c.made.ensures.bound_fits in
    subst (λ (xs : List ℤ). absolute_sum xs ≤ MAX) (sym (all-left sample c.as_slice.result.now c.args.stage c.in_ok-left.left c.as_slice-scores.result.now (c.as_slice.ensures ∙ c.made.ensures.groups) c.in_ok-left.ensures c.as_slice-scores.ensures))
    (left-near (tie_groups (used_scores sample)) (judge_of (one_sample_test sample)) fit c.args.stage c.requires.starts.within)

pub sign_sum_onward-requires-clause-small : goal.sign_sum_onward-requires-clause-small
sign_sum_onward-requires-clause-small c =
    let sample : SignedSample = c.args.self.now in
    let fit = stages-fit sample c.made.ensures.total_fits c.made.ensures.bound_fits in
    subst (λ (xs : List ℤ). All (λ k. unsigned_abs k + absolute_sum xs ≤ MAX) c.args.keys.now) (sym (all-left sample c.as_slice.result.now c.args.stage c.in_ok-left.left c.as_slice-scores.result.now (c.as_slice.ensures ∙ c.made.ensures.groups) c.in_ok-left.ensures c.as_slice-scores.ensures))
    (keys-small (tie_groups (used_scores sample)) (judge_of (one_sample_test sample)) fit c.args.stage c.args.keys.now c.args.weights.now c.requires.starts)

pub sign_sum_onward-requires-clause-total : goal.sign_sum_onward-requires-clause-total
sign_sum_onward-requires-clause-total c =
    let sample : SignedSample = c.args.self.now in
    let fit = stages-fit sample c.made.ensures.total_fits c.made.ensures.bound_fits in
    let stage : ℕ = c.args.stage in
    let here : Network = mark_network sample in
    subst (λ (n : Network). (k : List ℤ) → IsReached n stage k → total_weight n stage k ≡ 2 ^ length c.as_slice-scores.result.now) (sym c.in_ok-stages.ensures)
    (subst (λ (xs : List ℤ). (k : List ℤ) → IsReached here stage k → total_weight here stage k ≡ 2 ^ length xs) (sym (all-left sample c.as_slice.result.now stage c.in_ok-left.left c.as_slice-scores.result.now (c.as_slice.ensures ∙ c.made.ensures.groups) c.in_ok-left.ensures c.as_slice-scores.ensures))
    (λ k r. total-left (tie_groups (used_scores sample)) (judge_of (one_sample_test sample)) fit stage k r c.requires.starts.within))

pub sign_sum_onward-requires-clause-same : goal.sign_sum_onward-requires-clause-same
sign_sum_onward-requires-clause-same c =
    let sample : SignedSample = c.args.self.now in
    let fit = stages-fit sample c.made.ensures.total_fits c.made.ensures.bound_fits in
    let stage : ℕ = c.args.stage in
    let tail : Tail = c.args.tail in
    let here : Network = mark_network sample in
    subst (λ (n : Network). (k : List ℤ) → IsReached n stage k → extreme_weight n tail stage k ≡ passing_onward (rule_in c.args.judge tail) (number_of k) c.as_slice-scores.result.now) (sym c.in_ok-stages.ensures)
    (subst (λ (xs : List ℤ). (k : List ℤ) → IsReached here stage k → extreme_weight here tail stage k ≡ passing_onward (rule_in c.args.judge tail) (number_of k) xs) (sym (all-left sample c.as_slice.result.now stage c.in_ok-left.left c.as_slice-scores.result.now (c.as_slice.ensures ∙ c.made.ensures.groups) c.in_ok-left.ensures c.as_slice-scores.ensures))
    (subst (λ (j : Judge). (k : List ℤ) → IsReached here stage k → extreme_weight here tail stage k ≡ passing_onward (rule_in j tail) (number_of k) (subjects_of (drop stage (tie_groups (used_scores sample))))) (sym c.requires.judge)
    (λ k r. extreme-left (tie_groups (used_scores sample)) (judge_of (one_sample_test sample)) fit tail stage k r c.requires.starts.within)))

pub returns : goal.returns
returns c =
    subst (λ (n : Network). IfOk c.sign_sum_onward.result (λ sum. sum ≡ weighted (extreme_weight n c.args.tail c.args.stage) (nodes_of n.width c.args.keys.now c.args.weights.now))) c.in_ok-stages.ensures c.sign_sum_onward.ensures
