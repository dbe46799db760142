use Rattle.std.proofs.Common.{◌≡◌, refl, subst}
use Rattle.std.specs.Prelude.{None, Ok}
use Rattle.report.specs.declared.headings.Extra.TheVariants as extra
use Rattle.report.specs.declared.headings.Sizes.{Sizes}
use Rattle.sample_reader.specs.Data.{data_of}
use Rattle.sample_reader.specs.Groups.{GroupData}
use Rattle.scores.specs.declared.kinds.ScoreKind.TheVariants.{Wilcoxon}
use Rattle.two_sample_tests.specs.Columns.{two_sample_network}
use Rattle.two_sample_tests.specs.TwoSamples.{two_sample_test}
use Rattle.run_outcome.specs.CauseSteps.{Answers}
use Rattle.run_outcome.specs.Outcome.{Outcome, asking_of_made}
use Rattle.run_outcome.specs.Question.{question_about}
use Rattle.run_outcome.specs.declared.reports.Asking.{Asking}
use Rattle.exact_run.specs.GroupQuestions.{group_rows}
use Rattle.exact_run.specs.MadeData.{made_groups}
use Rattle.run_outcome.proofs.PartAnswered.{meets}
use Rattle.exact_run.proofs.made_data.made_report.Goals as goal

abbrev IsReport : Asking → Sizes → GroupData → Outcome → Type 0
IsReport asking sizes groups result =
    Answers asking (Ok (question_about two_sample_test two_sample_network two_sample_network (record { kind = Wilcoxon; groups = groups }) sizes None extra.None)) result

-- of variables: the made groups would be computed
same-report : (asking own : Asking) (sizes : Sizes) (groups made : GroupData) (result : Outcome) → asking ≡ own → sizes ≡ group_rows groups → groups ≡ made → IsReport asking sizes groups result → IsReport own (group_rows made) made result
same-report asking own sizes groups made result ask size group is =
    subst (λ (x : GroupData). IsReport own (group_rows x) x result) group
    (subst (λ (x : Sizes). IsReport own x groups result) size (subst (λ (x : Asking). IsReport x sizes groups result) ask is))

pub returns : goal.returns
returns c =
    let groups = data_of c.in-Ok.groups in
    meets _ _ c.report_two_samples.result
    (same-report _ (asking_of_made c.args.number) _ groups (made_groups c.args.number) c.report_two_samples.result c.of_made.ensures.asked c.sizes_of.ensures c.in-Ok.ensures.groups
    (c.report_two_samples.ensures (record { kind = Wilcoxon; groups = groups }) c.prepare-problem.ensures refl))
