-- What holds of a runs test whose total passes no limit.
use Rattle.std.proofs.Common.{◌≡◌, ℕ, ◌+◌, ◌*◌, ◌<◌, ◌≤◌, List, length, refl, sym, ◌∙◌, ap, subst, arith}
use Rattle.std.specs.Prelude.{pos}
use Rattle.std.specs.List.{All, AllByRecursion, sum}
use Rattle.std.proofs.Math.Nat.{mul-le-mul}
use Rattle.std.proofs.lemmas.List.Elements.{recursion_from_All}
use Rattle.weights.specs.declared.rules.Rule.TheVariants.{Far}
use Rattle.weights.specs.declared.TheConstants.{MAX}
use Rattle.weights.specs.Labellings.{counts_of, number_of_labellings}
use Rattle.weights.specs.Rules.{RuleFits}
use Rattle.weights.proofs.Centred.{far_natural-fits}
use Rattle.weights.proofs.Members.{Contains-labellings, IsLabelling, labelling_from}
use Rattle.weights.proofs.Sized.{sum-counts_of}
use Rattle.weights.proofs.CellSums.{sum-two}
use Rattle.sample_reader.specs.Data.{sequence_data_of}
use Rattle.sample_reader.specs.Sequences.{SequenceData}
use Rattle.sample_reader.specs.declared.samples.Sequence.{Sequence}
use Rattle.networks.specs.declared.verdicts.Judge.{Judge}
use Rattle.networks.specs.Judged.{judge_of}
use Rattle.label_network.specs.LabelNetwork.{label_network}
use Rattle.labelled.specs.LabelTests.{IsSound, IsWithin}
use Rattle.labelled.proofs.LabelLaws.{label-follows, label-judge}
use Rattle.runs_test.specs.RunNetwork.{sequence_meaning, written_network}
use Rattle.runs_test.specs.Runs.{row_counts, rows_with, runs, runs_says, runs_test}
use Rattle.runs_test.specs.RunSteps.{AreRuns, IsRunning}
use Rattle.runs_test.proofs.RunNarrows.{runs_measure}
use Rattle.runs_test.proofs.RunValues.{runs-few, value-is}
use Rattle.runs_test.proofs.RunWriting.{written}

-- ---- the numbers of few rows

pub centre-few : (a b : ℕ) → a + b ≤ 10000 → (a + b) + 2 * (a * b) ≤ 200010000
centre-few a b h =
    let one : a ≤ 10000 = omega (arith, h) in
    let two : b ≤ 10000 = omega (arith, h) in
    let most : a * b ≤ 10000 * 10000 = mul-le-mul one two in
    omega (arith, h, most)

-- ---- of a sequence

module _ (sequence : Sequence) where
  pub sizes-are : sequence.sizes ≡ row_counts (sequence_data_of sequence)
  sizes-are = sequence.counted ∙ ap (λ k. counts_of k sequence.members) sequence.two

  pub labels-below : All (λ label. label < 2) sequence.members
  labels-below = subst (λ k. All (λ label. label < k) sequence.members) sequence.two sequence.labels_exist

  pub are-runs : number_of_labellings sequence.sizes ≤ MAX → AreRuns (sequence_data_of sequence) sequence.sizes
  are-runs fits = record {
    sizes_are = sizes-are;
    labels = labels-below;
    few = sequence.few_enough;
    total_fits = subst (λ ns. number_of_labellings ns ≤ MAX) sizes-are fits;
  }

module _ (s : SequenceData) (sizes : List ℕ) (r : AreRuns s sizes) where
  labels : AllByRecursion (λ l. l < 2) s.members
  labels = recursion_from_All (λ l. l < 2) s.members r.labels

  whole : sum (row_counts s) ≡ length s.members
  whole = sum-counts_of (length s.members) 2 s.members (record { long = refl; below = labels })

  pub rows-are : rows_with s 0 + rows_with s 1 ≡ length s.members
  rows-are = sym (sum-two (rows_with s 0) (rows_with s 1)) ∙ whole

  pub rows-few : rows_with s 0 + rows_with s 1 ≤ 10000
  rows-few = omega (arith, rows-are, r.few)

  pub bound-fits : (runs_says s).bound ≤ MAX
  bound-fits = omega (arith, mul-le-mul r.few r.few)

  centre-near : length s.members + 2 * (rows_with s 0 * rows_with s 1) ≤ 200010000
  centre-near = subst (λ n. n + 2 * (rows_with s 0 * rows_with s 1) ≤ 200010000) rows-are (centre-few (rows_with s 0) (rows_with s 1) rows-few)

  runs-fit : (n : ℕ) → n ≤ 40000 → RuleFits (Far (length s.members) (pos (length s.members + 2 * (rows_with s 0 * rows_with s 1))) 0) (pos n)
  runs-fit n h = far_natural-fits (length s.members) (length s.members + 2 * (rows_with s 0 * rows_with s 1)) n (omega (arith, r.few)) (omega (arith, centre-near)) (omega (arith, mul-le-mul r.few h))

  member-long : (xs : List ℕ) → IsLabelling (row_counts s) xs → length xs ≡ rows_with s 0 + rows_with s 1
  member-long xs l = l.over.long ∙ sum-two (rows_with s 0) (rows_with s 1)

  pub within : IsWithin (runs_says s)
  within = record {
    few = omega arith;
    total_fits = r.total_fits;
    shown = refl;
    observed = Contains-labellings (row_counts s) s.members (record { over = record { long = sym whole; below = labels }; counted = refl });
    fits = λ xs m. runs-fit (runs xs) (omega (arith, runs-few xs, member-long xs (labelling_from (row_counts s) xs m), rows-few));
  }

  pub is-running : (judge : Judge) → judge ≡ judge_of (runs_test s) → IsRunning (rows_with s 0) (rows_with s 1) judge
  is-running judge e = record { few = rows-few; rules_fit = λ n h. label-judge (runs_says s) within judge e (pos n) (runs-fit n h) }

  pub runs-sound : IsSound (runs_says s) (label_network (sequence_meaning s)) (written_network s)
  runs-sound = record {
    within = within;
    follows = label-follows (runs_says s) (sequence_meaning s) (runs_measure (rows_with s 0) (rows_with s 1) (judge_of (runs_test s))) refl refl
        (λ xs m. (let l : IsLabelling (row_counts s) xs = labelling_from (row_counts s) xs m in
        value-is (rows_with s 0) (rows_with s 1) (judge_of (runs_test s)) xs (member-long xs l) l.over.below));
    written = written s;
  }
