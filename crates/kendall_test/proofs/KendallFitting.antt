-- What holds of a test of Kendall's K whose total passes no limit.
use Rattle.std.proofs.Common.{◌≡◌, ℕ, ◌<◌, ◌≤◌, List, [], length, inl, refl, sym, ◌∙◌, ap, subst, arith, lit≤}
use Rattle.std.specs.Prelude.{ℤ, pos, unsigned_abs}
use Rattle.std.specs.List.{All, AllByRecursion, sum}
use Rattle.std.proofs.Math.Nat.{mul-le-mul}
use Rattle.std.proofs.lemmas.List.{length-map, map-id}
use Rattle.std.proofs.lemmas.List.Elements.{All-from_recursion}
use Rattle.weights.specs.declared.rules.Rule.TheVariants.{Far}
use Rattle.weights.specs.declared.tails.Tail.{Tail}
use Rattle.weights.specs.declared.TheConstants.{MAX}
use Rattle.weights.specs.Labellings.{counts_of, labels, number_of_labellings}
use Rattle.weights.specs.Rules.{RuleFits}
use Rattle.weights.proofs.Centred.{far-fits, measured-is}
use Rattle.weights.proofs.Counted.{count_of}
use Rattle.weights.proofs.Filters.{map-same, all_weaker}
use Rattle.weights.proofs.Members.{Contains-labellings, IsLabelling, labelling_from}
use Rattle.midranks.specs.Ties.{tie_groups}
use Rattle.midranks.specs.declared.ties.Tie.{Tie}
use Rattle.midranks.proofs.TieLemmas.{groups-ascend}
use Rattle.sample_reader.specs.Twins.{TwinData}
use Rattle.sample_reader.specs.Groups.{GroupData}
use Rattle.sample_reader.specs.PooledSample.{labels_of, values_of}
use Rattle.sample_reader.specs.declared.samples.Twins.{Twins}
use Rattle.sample_reader.specs.declared.subjects.Subject.{Subject}
use Rattle.networks.specs.Follows.{Follows}
use Rattle.networks.specs.Judged.{judge_of}
use Rattle.networks.specs.declared.verdicts.Judge.{Judge}
use Rattle.room_network.proofs.RoomFollows.{room_follows}
use Rattle.label_network.specs.LabelRooms.{label_weight}
use Rattle.labelled.specs.LabelTests.{IsSound, IsWithin}
use Rattle.labelled.proofs.LabelLaws.{label-judge}
use Rattle.pooled_columns.specs.PooledColumns.{column_sizes}
use Rattle.pooled_columns.proofs.PooledLabels.{pooled-counts, pooled-labels}
use Rattle.pooled_columns.proofs.PooledValues.{length-pooled, pooled-rises}
use Rattle.pooled_columns.proofs.TieColumns.{columns-sum, grouped}
use Rattle.weights.specs.Grouped.{columns_of}
use Rattle.kendall_test.specs.Kendall.{kendall_says, kendall_statistic, kendall_subjects, kendall_test, place_among, places_of}
use Rattle.kendall_test.specs.KendallNetwork.{kendall_stages, sample_meaning}
use Rattle.kendall_test.specs.KendallSteps.{AreKendallCounts, IsKendall}
use Rattle.kendall_test.proofs.KendallNarrows.{kendall_measure}
use Rattle.kendall_test.proofs.KendallPlans.{kendall_gives, moved}
use Rattle.kendall_test.proofs.KendallValues.{value-is, values_of_ties}
use Rattle.kendall_test.proofs.PairSums.{statistic-few}
use Rattle.kendall_test.proofs.Places.{groups-few, places-below, places-counted}

-- ---- of a sample that was read

pub read-paired : (sample : Twins) → length sample.second ≡ length sample.first
read-paired sample = sample.one_second_each ∙ sym sample.one_first_each

pub read-few : (sample : Twins) → length sample.first ≤ 120
read-few sample = omega (arith, sample.one_first_each, sample.few_enough)

-- ---- of its two values of each subject

pub value-fits : (v : ℤ) → unsigned_abs v ≤ 14400 → RuleFits (Far 1 (pos 0) 0) v
value-fits v h = far-fits 1 (pos 0) v (lit≤ tt) (omega (arith, h))

module _ (sample : TwinData) where
  abbrev firsts : List ℤ
  firsts = values_of (kendall_subjects sample)

  abbrev rows : List ℕ
  rows = column_sizes sample.second

  -- the subjects are those of a group each, whose number is the place of their second value
  abbrev as_groups : GroupData
  as_groups = record { labels = []; members = places_of sample.second; values = sample.first }

  module _ (long : length sample.second ≡ length sample.first) (few : length sample.first ≤ 120) where
    as-many : length (places_of sample.second) ≡ length sample.first
    as-many = length-map sample.second (place_among (tie_groups sample.second)) ∙ long

    pub firsts-long : length (values_of (kendall_subjects sample)) ≡ length sample.first
    firsts-long = length-pooled as_groups as-many

    pub firsts-few : length (values_of (kendall_subjects sample)) ≤ 120
    firsts-few = omega (arith, firsts-long, few)

    labels-below : AllByRecursion (λ l. l < length (tie_groups sample.second)) (labels_of (kendall_subjects sample))
    labels-below = pooled-labels (λ l. l < length (tie_groups sample.second)) as_groups as-many (places-below sample.second)

    pub labels-small : All (λ l. l < 256) (labels_of (kendall_subjects sample))
    labels-small = All-from_recursion (λ l. l < 256) (labels_of (kendall_subjects sample)) (all_weaker (λ l. l < length (tie_groups sample.second)) (λ l. l < 256) (λ l h. omega (arith, h, groups-few sample.second, long, few)) (labels_of (kendall_subjects sample)) labels-below)

    labels-long : length (labels_of (kendall_subjects sample)) ≡ length (values_of (kendall_subjects sample))
    labels-long = length-map (kendall_subjects sample) (λ (s : Subject). s.label) ∙ sym (length-map (kendall_subjects sample) (λ (s : Subject). s.value))

    labels-counted : counts_of (length rows) (labels_of (kendall_subjects sample)) ≡ rows
    labels-counted = map-same (λ i. count_of i (labels_of (kendall_subjects sample))) (λ i. count_of i (places_of sample.second)) (λ i. sym (pooled-counts as_groups as-many i)) (labels (length rows)) ∙ places-counted sample.second

    pub rows-sum : sum (column_sizes sample.second) ≡ length (values_of (kendall_subjects sample))
    rows-sum = columns-sum sample.second ∙ long ∙ sym firsts-long

    pub rows-short : length (column_sizes sample.second) ≤ 120
    rows-short = omega (arith, length-map (tie_groups sample.second) (λ (t : Tie). t.count), groups-few sample.second, long, few)

    pub are-kendall_counts : number_of_labellings (column_sizes sample.second) ≤ MAX → AreKendallCounts (column_sizes (values_of (kendall_subjects sample))) (column_sizes sample.second)
    are-kendall_counts fits = record {
      level = columns-sum firsts ∙ sym rows-sum;
      few = omega (arith, rows-sum, firsts-few);
      short = rows-short;
      total = fits;
    }

    pub bound-fits : (kendall_says sample).bound ≤ MAX
    bound-fits = omega (arith, mul-le-mul firsts-few firsts-few)

    module _ (fits : number_of_labellings (column_sizes sample.second) ≤ MAX) where
      pub within : IsWithin (kendall_says sample)
      within = record {
        few = omega (arith, rows-short);
        total_fits = fits;
        shown = refl;
        observed = Contains-labellings rows (labels_of (kendall_subjects sample)) (record {
          over = record {
            long = labels-long ∙ sym rows-sum;
            below = subst (λ k. AllByRecursion (λ l. l < k) (labels_of (kendall_subjects sample))) (sym (length-map (tie_groups sample.second) (λ (t : Tie). t.count))) labels-below;
          };
          counted = labels-counted;
        });
        fits = λ xs m. value-fits _ (statistic-few firsts xs firsts-few);
      }

      pub is-kendall : (judge : Judge) → judge ≡ judge_of (kendall_test sample) → IsKendall (column_sizes (values_of (kendall_subjects sample))) (column_sizes sample.second) judge
      is-kendall judge e = record {
        counts = are-kendall_counts fits;
        rules_fit = λ v h. label-judge (kendall_says sample) within judge e v (value-fits v h);
      }

      pub same-firsts : values_of_ties (tie_groups firsts) ≡ firsts
      same-firsts = grouped (λ v. v) firsts (pooled-rises as_groups) ∙ map-id firsts

      follows : (tail : Tail) → Follows (kendall_test sample) tail (kendall_stages sample)
      follows tail =
          room_follows (sample_meaning sample) label_weight (record { first_long = refl; next_long = λ g room c e. refl }) (kendall_measure (column_sizes firsts) rows (judge_of (kendall_test sample)) (are-kendall_counts fits)) (kendall_test sample) tail (λ xs. moved rows (columns_of (length rows) (column_sizes firsts) xs)) (record {
            judge_is = refl;
            gives = kendall_gives (column_sizes firsts) rows (are-kendall_counts fits);
            values = λ xs o.
                let l : IsLabelling rows xs = labelling_from rows xs o in
                measured-is (kendall_test sample) refl tail xs
                ∙ ap (λ vs. kendall_statistic vs xs) (sym same-firsts)
                ∙ value-is (column_sizes firsts) rows (judge_of (kendall_test sample)) (tie_groups firsts) xs refl (groups-ascend firsts) (l.over.long ∙ rows-sum ∙ sym (columns-sum firsts)) (omega (arith, l.over.long, rows-sum, firsts-few)) l.over.below l.counted;
          })

      pub kendall-sound : IsSound (kendall_says sample) (kendall_stages sample) (kendall_stages sample)
      kendall-sound = record { within = within; follows = follows; written = λ tail. inl refl }
