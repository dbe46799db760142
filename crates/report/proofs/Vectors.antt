-- Worked rows of the definitions, by computation.
use Rattle.std.specs.Prelude.{◌≡◌, [], ◌∷◌, ◌++◌, codes, Some, None, true, false, pos, negsuc}
use Rattle.std.specs.Fmt.{digits}
use Rattle.std.proofs.Common.{refl}
use Rattle.record_reader.specs.declared.faults.Kind.TheVariants.{EndsEarly, NotNumber}
use Rattle.scores.specs.declared.kinds.ScoreKind.TheVariants.{Raw}
use Rattle.settings.specs.declared.names.OptionName.TheVariants as option
use Rattle.settings.specs.declared.names.TestName.TheVariants as test
use Rattle.settings.specs.declared.names.UsageFault.TheVariants as usage
use Rattle.report.specs.Decimals.{six_decimals}
use Rattle.report.specs.Refusals.{refusal_line_text}
use Rattle.report.specs.Report.{dropped_line, extra_lines, group_line, group_lines, head_text, merged_text, node_line, node_lines, report_text, size_lines, spread_lines, statistic_line, tail_line, tail_lines, title_line, total_line, value_line}
use Rattle.report.specs.Shift.{differences_line, estimate_line, limit_line, limits_lines, miss_line, shift_text}
use Rattle.report.specs.declared.headings.Extra.TheVariants as extra
use Rattle.report.specs.declared.headings.Sizes.TheVariants.{Groups, Pairs, Table}
use Rattle.report.specs.declared.headings.Title.TheVariants.{Drill, Test}
use Rattle.report.specs.declared.refusals.Refusal.TheVariants as refusal

an_eighth : six_decimals 1 8 ≡ codes "0.125000"
an_eighth = refl

half_up : six_decimals 1 2000000 ≡ codes "0.000001"
half_up = refl

down : six_decimals 1 2000001 ≡ codes "0.000000"
down = refl

nearly_one : six_decimals 19999999 20000000 ≡ codes "1.000000"
nearly_one = refl

-- two samples of three values, with the open keys of each tail
ranks :
    report_text (Test test.RankSum) (Groups (codes "x" ∷ codes "y" ∷ []) (3 ∷ 3 ∷ [])) None extra.None (record {
      statistic = pos 30;
      scale = 2;
      total = 20;
      less = Some (record { sum = 20; opened = 0 });
      greater = Some (record { sum = 1; opened = 3 });
      two = Some (record { sum = 2; opened = 5 });
    }) true None
    ≡ codes "test ranksum\ngroup 3 x\ngroup 3 y\nstatistic 30/2\ntotal 20\nless 20/20 1.000000\ngreater 1/20 0.050000\ntwo 2/20 0.100000\nnodes less 0\nnodes greater 3\nnodes two 5\n"
unfolding report_text head_text title_line size_lines group_lines group_line dropped_line extra_lines statistic_line total_line tail_lines tail_line node_lines node_line spread_lines digits
ranks = refl

-- a table with a negative value in the distribution, and one tail
linear :
    report_text (Test test.Linear) (Table 2 3 4) None extra.None (record {
      statistic = negsuc 3;
      scale = 1;
      total = 6;
      less = Some (record { sum = 1; opened = 0 });
      greater = None;
      two = None;
    }) false (Some (record { value = negsuc 3; weight = 1 } ∷ record { value = pos 2; weight = 5 } ∷ []))
    ≡ codes "test linear\ntable 2 by 3 sum 4\nstatistic -4/1\ntotal 6\nless 1/6 0.166667\nat -4 1\nat 2 5\n"
unfolding report_text head_text title_line size_lines dropped_line extra_lines statistic_line total_line tail_lines tail_line spread_lines value_line digits
linear = refl

-- six pairs, and two rows more that were left out
left_out :
    report_text (Test test.Sign) (Pairs 6 5) (Some 2) extra.None (record {
      statistic = pos 5;
      scale = 1;
      total = 32;
      less = None;
      greater = Some (record { sum = 1; opened = 0 });
      two = None;
    }) false None
    ≡ codes "test sign\nrows 6 used 5\ndropped 2\nstatistic 5/1\ntotal 32\ngreater 1/32 0.031250\n"
unfolding report_text head_text title_line size_lines dropped_line extra_lines statistic_line total_line tail_lines tail_line spread_lines digits
left_out = refl

-- rows are told to be left out also where none is, and before what a test has beside the sizes
none_left_out : dropped_line (Some 0) ++ extra_lines (extra.Scores Raw) ≡ codes "dropped 0\nscores raw\n"
unfolding dropped_line extra_lines digits
none_left_out = refl

heads : title_line (Drill 7) ++ extra_lines (extra.Scores Raw) ++ extra_lines (extra.Peak 2) ≡ codes "test drill 7\nscores raw\npeak 2\n"
unfolding title_line extra_lines digits
heads = refl

-- the shift of two samples of three values
shift :
    shift_text (Groups (codes "x" ∷ codes "y" ∷ []) (3 ∷ 3 ∷ [])) None (record {
      differences = 9;
      places = 1;
      middle = pos 6;
      lower = Some (pos 2);
      upper = Some (pos 4);
      total = 20;
      missed = 4;
    })
    ≡ codes "shift\ngroup 3 x\ngroup 3 y\ndifferences 9\nestimate 6/2\nlower 2/1\nupper 4/1\ntotal 20\nmiss 4/20 0.200000\n"
unfolding shift_text size_lines group_lines group_line dropped_line limits_lines differences_line estimate_line limit_line total_line miss_line digits
shift = refl

-- no limits, and a negative estimate in hundredths
unlimited :
    shift_text (Groups (codes "x" ∷ codes "y" ∷ []) (1 ∷ 2 ∷ [])) (Some 0) (record {
      differences = 2;
      places = 100;
      middle = negsuc 324;
      lower = None;
      upper = None;
      total = 3;
      missed = 0;
    })
    ≡ codes "shift\ngroup 1 x\ngroup 2 y\ndropped 0\ndifferences 2\nestimate -325/200\nlower none\nupper none\ntotal 3\nmiss 0/3 0.000000\n"
unfolding shift_text size_lines group_lines group_line dropped_line limits_lines differences_line estimate_line limit_line total_line miss_line digits
unlimited = refl

control : group_line 1 (97 ∷ 31 ∷ 127 ∷ 128 ∷ []) ≡ codes "group 1 a??" ++ 128 ∷ 10 ∷ []
unfolding group_line digits
control = refl

not_a_number : refusal_line_text (refusal.Row (record { row = 4; field = 2; kind = NotNumber })) ≡ codes "refused: row 4 field 2: not a number\n"
unfolding digits
not_a_number = refl

ends_early : refusal_line_text (refusal.Row (record { row = 3; field = 0; kind = EndsEarly })) ≡ codes "refused: row 3: ends too early\n"
unfolding digits
ends_early = refl

unknown_test : refusal_line_text (refusal.Usage (usage.Value option.Test)) ≡ codes "refused: value of TEST\n"
unknown_test = refl

not_with : refusal_line_text (refusal.Usage (usage.Pairing option.Tail test.Kw)) ≡ codes "refused: --tail with kw\n"
not_with = refl

-- the first of these reports by its lines down to the total, and the numerator of one tail
merged :
    merged_text (head_text (Test test.RankSum) (Groups (codes "x" ∷ codes "y" ∷ []) (3 ∷ 3 ∷ [])) None extra.None (pos 30) 2 20) 20 None (Some 1) None
    ≡ codes "test ranksum\ngroup 3 x\ngroup 3 y\nstatistic 30/2\ntotal 20\ngreater 1/20 0.050000\n"
unfolding merged_text head_text title_line size_lines group_lines group_line dropped_line extra_lines statistic_line total_line tail_lines tail_line digits
merged = refl

in_another_line : refusal_line_text (refusal.PieceLine 7) ≡ codes "refused: piece line 7\n"
unfolding digits
in_another_line = refl

of_another_run : refusal_line_text (refusal.Foreign 2) ≡ codes "refused: foreign piece 2\n"
unfolding digits
of_another_run = refl

twice : refusal_line_text (refusal.Doubled 12) ≡ codes "refused: doubled piece 12\n"
unfolding digits
twice = refl

never : refusal_line_text (refusal.MissingPart 0) ≡ codes "refused: missing part 0\n"
unfolding digits
never = refl

not_alike : refusal_line_text (refusal.Unequal 64) ≡ codes "refused: unequal piece 64\n"
unfolding digits
not_alike = refl

not_fitting : refusal_line_text (refusal.Unfit option.RowScores) ≡ codes "refused: --row-scores does not fit the data\n"
not_fitting = refl
