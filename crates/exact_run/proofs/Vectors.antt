-- Worked files, whose outcomes are computed from the definitions.
use Rattle.std.proofs.Common.{◌≡◌, ◌∷◌, [], Some, Ok, Err, refl}
use Rattle.std.specs.Prelude.{codes}
use Rattle.std.specs.Fmt.{digits}
use Rattle.csv.specs.Machine.{next_record}
use Rattle.csv.specs.Reading.{records_from, strip_bom}
use Rattle.number_text.specs.CountTexts.{count_of}
use Rattle.number_text.specs.NumberTexts.{units_of, value_of}
use Rattle.weights.specs.Numbers.{lcm}
use Rattle.record_reader.specs.declared.faults.Kind.TheVariants as kind
use Rattle.record_reader.specs.declared.missing.Missing.TheVariants.{Drop}
use Rattle.midranks.specs.Midranks.{doubled_midrank, midranks_among, number_below, number_equal}
use Rattle.sample_reader.specs.PooledSample.{paired_subjects}
use Rattle.scores.specs.RawScores.{decimals, is_whole, raw_score}
use Rattle.settings.specs.Options.{settings_without_options}
use Rattle.settings.specs.declared.names.OptionName.TheVariants as option
use Rattle.settings.specs.declared.names.TestName.TheVariants as test
use Rattle.settings.specs.declared.settings.Settings.{Settings}
use Rattle.settings.specs.declared.tails.TailChoice.TheVariants as choice
use Rattle.report.specs.Report.{dropped_line, extra_lines, group_line, group_lines, head_text, report_text, size_lines, spread_lines, statistic_line, tail_line, tail_lines, title_line, total_line}
use Rattle.report.specs.Shift.{differences_line, estimate_line, limit_line, limits_lines, miss_line, shift_text}
use Rattle.report.specs.declared.refusals.Refusal.TheVariants as refusal
use Rattle.shift_limits.specs.Differences.{differences_between, labelled_values}
use Rattle.run_outcome.specs.Outcome.{outcome_of_bytes}
use Rattle.exact_run.specs.Tests.{tests}

abbrev rank_sum : Settings
rank_sum = settings_without_options test.RankSum (codes "f.csv")

-- a whole file and its whole report
six_values : outcome_of_bytes tests rank_sum (codes "group,value\nx,1\nx,2\nx,3\ny,4\ny,5\ny,6\n")
    ≡ Ok (codes "test ranksum\ngroup 3 x\ngroup 3 y\nstatistic 30/2\ntotal 20\nless 20/20 1.000000\ngreater 1/20 0.050000\ntwo 2/20 0.100000\n")
unfolding outcome_of_bytes records_from next_record strip_bom value_of units_of paired_subjects midranks_among doubled_midrank number_below number_equal report_text head_text title_line size_lines group_lines group_line dropped_line extra_lines statistic_line total_line tail_lines tail_line spread_lines digits
six_values = refl

-- another order of the groups, and one tail
turned : outcome_of_bytes tests (record rank_sum { order = codes "y" ∷ codes "x" ∷ []; tail = choice.Less }) (codes "group,value\nx,1\nx,2\ny,3\n")
    ≡ Ok (codes "test ranksum\ngroup 1 y\ngroup 2 x\nstatistic 6/2\ntotal 3\nless 1/3 0.333333\n")
unfolding outcome_of_bytes records_from next_record strip_bom value_of units_of paired_subjects midranks_among doubled_midrank number_below number_equal report_text head_text title_line size_lines group_lines group_line dropped_line extra_lines statistic_line total_line tail_lines tail_line spread_lines digits
turned = refl

-- labels that are not those of the file
other_labels : outcome_of_bytes tests (record rank_sum { order = codes "x" ∷ codes "z" ∷ [] }) (codes "group,value\nx,1\nx,2\ny,3\n") ≡ Err (refusal.Unfit option.Order)
unfolding outcome_of_bytes records_from next_record strip_bom value_of units_of
other_labels = refl

-- a file that ends too early, before its labels are compared
one_group : outcome_of_bytes tests (record rank_sum { order = codes "x" ∷ codes "z" ∷ [] }) (codes "group,value\nx,1\nx,2\n") ≡ Err (refusal.Row (record { row = 3; field = 0; kind = kind.EndsEarly }))
unfolding outcome_of_bytes records_from next_record strip_bom value_of units_of
one_group = refl

-- rows with a missing field are left out and counted, whatever else is wrong with them
left_out : outcome_of_bytes tests (record rank_sum { missing = Drop }) (codes "group,value\nx,1\nx,2\nz,NA\nx,3\ny,4\n,seven\ny,5\ny,6\n")
    ≡ Ok (codes "test ranksum\ngroup 3 x\ngroup 3 y\ndropped 2\nstatistic 30/2\ntotal 20\nless 20/20 1.000000\ngreater 1/20 0.050000\ntwo 2/20 0.100000\n")
unfolding outcome_of_bytes records_from next_record strip_bom value_of units_of paired_subjects midranks_among doubled_midrank number_below number_equal report_text head_text title_line size_lines group_lines group_line dropped_line extra_lines statistic_line total_line tail_lines tail_line spread_lines digits
left_out = refl

-- where they are not, the first of them is a fault
not_left_out : outcome_of_bytes tests rank_sum (codes "group,value\nx,1\nx,NA\n,seven\n") ≡ Err (refusal.Row (record { row = 3; field = 2; kind = kind.Missing }))
unfolding outcome_of_bytes records_from next_record strip_bom value_of units_of
not_left_out = refl

-- where all rows are left out, the file ends too early at its last one
none_left : outcome_of_bytes tests (record (settings_without_options test.Sign (codes "f.csv")) { missing = Drop }) (codes "d\nNA\n \n") ≡ Err (refusal.Row (record { row = 3; field = 0; kind = kind.EndsEarly }))
unfolding outcome_of_bytes records_from next_record strip_bom value_of units_of
none_left = refl

abbrev shifted : Settings
shifted = settings_without_options test.Shift (codes "f.csv")

-- the estimate of a shift with its limits, which miss a fifth
limited : outcome_of_bytes tests (record shifted { miss = record { above = 1; below = 5 } }) (codes "group,value\nx,1\nx,2\nx,3\ny,4\ny,5\ny,6\n")
    ≡ Ok (codes "shift\ngroup 3 x\ngroup 3 y\ndifferences 9\nestimate 6/2\nlower 2/1\nupper 4/1\ntotal 20\nmiss 4/20 0.200000\n")
unfolding outcome_of_bytes records_from next_record strip_bom value_of units_of paired_subjects decimals is_whole raw_score labelled_values differences_between shift_text size_lines group_lines group_line dropped_line limits_lines differences_line estimate_line limit_line total_line miss_line digits
limited = refl

-- no limits miss a twentieth of three labellings; a row is left out, and the groups stand in another order
unlimited : outcome_of_bytes tests (record shifted { order = codes "y" ∷ codes "x" ∷ []; missing = Drop }) (codes "group,value\nx,1.5\ny,\ny,2\ny,4.25\n")
    ≡ Ok (codes "shift\ngroup 2 y\ngroup 1 x\ndropped 1\ndifferences 2\nestimate -325/200\nlower none\nupper none\ntotal 3\nmiss 0/3 0.000000\n")
unfolding outcome_of_bytes records_from next_record strip_bom value_of units_of paired_subjects decimals is_whole raw_score labelled_values differences_between shift_text size_lines group_lines group_line dropped_line limits_lines differences_line estimate_line limit_line total_line miss_line digits
unlimited = refl

-- a third label is refused as for the tests of two samples
third_label : outcome_of_bytes tests shifted (codes "group,value\nx,1\ny,2\nz,3\n") ≡ Err (refusal.Row (record { row = 4; field = 1; kind = kind.GroupTooMany }))
unfolding outcome_of_bytes records_from next_record strip_bom value_of units_of
third_label = refl

-- Fisher's test with odds: of six labellings three weigh 4 and three weigh 2
abbrev with_odds : Settings
with_odds = record (settings_without_options test.Fisher (codes "f.csv")) { odds = Some (record { above = 2; below = 1 }) }

odds_of_two : outcome_of_bytes tests with_odds (codes "a,b\n2,0\n1,1\n") ≡ Ok (codes "test fisher\ntable 2 by 2 sum 4\nstatistic 2/1\ntotal 18\nless 18/18 1.000000\ngreater 12/18 0.666667\n")
unfolding outcome_of_bytes records_from next_record strip_bom value_of units_of count_of report_text head_text title_line size_lines dropped_line extra_lines statistic_line total_line tail_lines tail_line spread_lines digits
odds_of_two = refl

-- a greater table has no tail of one side
odds_of_three_columns : outcome_of_bytes tests with_odds (codes "a,b,c\n2,0,1\n1,1,0\n") ≡ Err (refusal.Unfit option.Tail)
unfolding outcome_of_bytes records_from next_record strip_bom value_of units_of count_of
odds_of_three_columns = refl

-- two strata, each of two labellings, of which one weighs 2
strata_with_odds : outcome_of_bytes tests (record with_odds { test = test.Strata }) (codes "s,a,b,c,d\none,1,0,0,1\ntwo,0,1,1,0\n")
    ≡ Ok (codes "test strata\nstrata 2 sum 4\nstatistic 1/1\ntotal 9\nless 5/9 0.555556\ngreater 8/9 0.888889\n")
unfolding outcome_of_bytes records_from next_record strip_bom value_of units_of count_of lcm report_text head_text title_line size_lines dropped_line extra_lines statistic_line total_line tail_lines tail_line spread_lines digits
strata_with_odds = refl
