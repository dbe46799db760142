-- The numbers of strata, of which none passes a limit, and what is kept of samples that are prepared.
use Rattle.std.proofs.Common.{◌≡◌, ℕ, ◌+◌, ◌-◌, ◌*◌, ◌≤◌, List, [], ◌∷◌, length, map, inl, refl, sym, ◌∙◌, ap, subst, arith, lit≤}
use Rattle.std.specs.Prelude.{ℤ, pos, slice_index, unsigned_abs}
use Rattle.std.specs.List.{AllByRecursion, concat, sum, sum_by}
use Rattle.std.proofs.Math.Nat.{mul-le-mul_right, mul-le-mul}
use Rattle.std.proofs.lemmas.List.Elements.{All-from_recursion}
use Rattle.std.proofs.lemmas.List.Sums.{sum_by-cons}
use Rattle.weights.specs.Conditional.{ConditionalTest, total}
use Rattle.weights.specs.Labellings.{number_of_labellings}
use Rattle.weights.specs.Numbers.{absolute_sum}
use Rattle.weights.specs.Rules.{RuleFits}
use Rattle.weights.specs.declared.TheConstants.{MAX}
use Rattle.weights.specs.declared.rules.Rule.TheVariants.{Far}
use Rattle.weights.specs.declared.tails.Tail.{Tail}
use Rattle.weights.proofs.CellSums.{sum-two}
use Rattle.weights.proofs.Centred.{IsCentred, far-fits, measured-is, rule-fits}
use Rattle.weights.proofs.Sums.{sum_by-map}
use Rattle.scores.specs.Scores.{labelled_sum}
use Rattle.scores.proofs.LabelledSums.{labelled-within}
use Rattle.sample_reader.specs.StrataGroups.{StrataGroupData}
use Rattle.sample_reader.specs.declared.subjects.Subject.{Subject}
use Rattle.networks.specs.Follows.{Follows}
use Rattle.networks.specs.Judged.{JudgeFits, judge_of}
use Rattle.networks.specs.declared.verdicts.Judge.{Judge}
use Rattle.networks.proofs.Following.{judge-fits}
use Rattle.labelled.proofs.UnweightedLaws.{can-be-answered}
use Rattle.room_network.specs.RoomNetworks.{room_network}
use Rattle.room_network.proofs.RoomKeys.{plan_widths}
use Rattle.room_network.proofs.RoomFollows.{room_follows}
use Rattle.stratified_ranks.specs.RankMade.{AreLists, AreRanked, RanksFit, StrataFacts}
use Rattle.stratified_ranks.specs.RankNetworks.{AreUsable, ranked_strata_network}
use Rattle.stratified_ranks.specs.RankRooms.{column_ranks, rank_columns, left, rank_meaning, rank_plan, rank_weight, second_of, ways_of}
use Rattle.stratified_ranks.specs.RankSteps.{AreFitColumns, AreRankSums, later_ways}
use Rattle.stratified_ranks.specs.StrataSteps.{ArePartsSound, part_centre, part_of, part_sizes, parts_total}
use Rattle.stratified_ranks.specs.StratifiedRanks.{ranked_strata_test, ranks_in, second_size, strata_subjects, stratified_rank_test, two_sizes}
use Rattle.stratified_ranks.specs.declared.rank_columns.Column.{Column}
use Rattle.stratified_ranks.specs.declared.rank_made.RankedStrata.{RankedStrata}
use Rattle.stratified_ranks.specs.declared.rank_strata.Part.{Part}
use Rattle.stratified_ranks.proofs.RankColumns.{IsStratum, columns-ranks, columns-sizes, columns-sound, ranks-total, second-within}
use Rattle.stratified_ranks.proofs.RankLabellings.{later-ways, later_sizes, none-behind, number-more, number_joined, second_counts}
use Rattle.stratified_ranks.proofs.RankPlans.{later-some, plan_sound, rank_measure, ways-some}
use Rattle.stratified_ranks.proofs.RankSums.{sound-columns}
use Rattle.stratified_ranks.proofs.RankStatistic.{gives, statistic-is}
use Rattle.stratified_ranks.proofs.StrataSubjects.{bound-fits, strata-are}
use Rattle.stratified_ranks.proofs.TwoParts.{halves}

-- ---- the sizes of strata

two-sizes : (s : List Subject) → IsStratum s → part_sizes (part_of s) ≡ two_sizes s
two-sizes s h =
    let first : length s - second_size s ≡ slice_index (two_sizes s) 0 = omega (arith, h.level) in
    ap (λ n. n ∷ second_size s ∷ []) first

all-sizes : (strata : List (List Subject)) → AllByRecursion IsStratum strata → map part_sizes (map part_of strata) ≡ map two_sizes strata
all-sizes [] all = refl
all-sizes (s ∷ strata) all = ap (λ x. x ∷ map part_sizes (map part_of strata)) (two-sizes s all.0) ∙ ap (λ xs. two_sizes s ∷ xs) (all-sizes strata all.1)

number-parts : (strata : List (List Subject)) → AllByRecursion IsStratum strata → number_joined (map two_sizes strata) ≡ parts_total (map part_of strata)
number-parts [] all = refl
number-parts (s ∷ strata) all =
    number-more (two_sizes s) (map two_sizes strata)
    ∙ ap (λ x. number_of_labellings x * number_joined (map two_sizes strata)) (sym (two-sizes s all.0))
    ∙ ap (λ n. number_of_labellings (part_sizes (part_of s)) * n) (number-parts strata all.1)

sound-each : (strata : List (List Subject)) → AllByRecursion IsStratum strata → AllByRecursion (λ (p : Part). p.second ≤ p.subjects) (map part_of strata)
sound-each [] all = tt
sound-each (s ∷ strata) all = (omega (arith, all.0.level), sound-each strata all.1)

parts-sound : (strata : List (List Subject)) → AllByRecursion IsStratum strata → ArePartsSound (map part_of strata)
parts-sound strata all = record { each = All-from_recursion (λ (p : Part). p.second ≤ p.subjects) (map part_of strata) (sound-each strata all) }

pub centre-is : (strata : List (List Subject)) → sum_by part_centre (map part_of strata) ≡ sum_by (λ s. second_size s * (length s + 1)) strata
centre-is strata = sum_by-map part_centre part_of strata

sizes-two : (strata : List (List Subject)) → AllByRecursion IsStratum strata → map sum (map two_sizes strata) ≡ map (λ (p : Part). p.subjects) (map part_of strata)
sizes-two [] a = refl
sizes-two (s ∷ strata) a = ap (λ n. n ∷ map sum (map two_sizes strata)) (sum-two (slice_index (two_sizes s) 0) (second_size s) ∙ a.0.level) ∙ ap (λ ns. length s ∷ ns) (sizes-two strata a.1)

-- ---- strata whose numbers pass no limit

absolutes : (xs : List ℕ) → absolute_sum (map pos xs) ≡ sum xs
absolutes [] = refl
absolutes (x ∷ xs) = omega (arith, absolutes xs, sum_by-cons (λ v. v) x xs)

centre-within : (strata : List (List Subject)) → AllByRecursion IsStratum strata → sum_by (λ s. second_size s * (length s + 1)) strata ≤ sum_by (λ s. length s * (length s + 1)) strata
centre-within [] all = omega arith
centre-within (s ∷ strata) all =
    omega (arith, centre-within strata all.1, mul-le-mul_right (length s + 1) (let h : second_size s ≤ length s = omega (arith, all.0.level) in h), sum_by-cons (λ (s : List Subject). second_size s * (length s + 1)) s strata, sum_by-cons (λ (s : List Subject). length s * (length s + 1)) s strata)

record AreFitStrata (strata : List (List Subject)) : Type 0 where
  pub each : AllByRecursion IsStratum strata
  pub total_fits : total (ranked_strata_test strata) ≤ MAX
  pub bound_fits : (ranked_strata_test strata).bound ≤ MAX

module _ (strata : List (List Subject)) (f : AreFitStrata strata) where
  abbrev test : ConditionalTest
  test = ranked_strata_test strata

  abbrev centre : ℕ
  centre = sum_by (λ s. second_size s * (length s + 1)) strata

  abbrev whole : ℕ
  whole = sum (column_ranks (rank_columns strata))

  ranks-fit : whole + whole ≤ MAX
  ranks-fit = omega (arith, f.bound_fits, ranks-total strata)

  total-is : ways_of (left (rank_columns strata)) (second_of (rank_columns strata)) * later_ways (rank_columns strata) ≡ total test
  total-is =
      ap (λ n. ways_of (left (rank_columns strata)) (second_of (rank_columns strata)) * n) (sym (later-ways (rank_columns strata)))
      ∙ sym (number-more (halves (left (rank_columns strata)) (second_of (rank_columns strata))) (later_sizes (rank_columns strata)))
      ∙ ap number_joined (columns-sizes strata f.each)
      ∙ none-behind (map two_sizes strata) (λ xs. 1)

  fit : AreFitColumns (rank_columns strata)
  fit = record { sound = sound-columns (rank_columns strata) (columns-sound strata f.each); within = second-within strata f.each; total_fits = omega (arith, total-is, f.total_fits); ranks_fit = omega (arith, ranks-fit) }

  ranks-absolute : absolute_sum (map pos (concat (map ranks_in strata))) ≡ whole
  ranks-absolute = ap absolute_sum (sym (columns-ranks strata f.each)) ∙ absolutes (column_ranks (rank_columns strata))

  value-fits : (v : ℤ) → unsigned_abs v ≤ whole → RuleFits (Far 1 (pos centre) 0) v
  value-fits v h = far-fits 1 (pos centre) v (lit≤ tt) (omega (arith, h, ranks-fit, centre-within strata f.each, ranks-total strata))

  statistic-within : (xs : List ℕ) → unsigned_abs (test.statistic xs) ≤ whole
  statistic-within xs = omega (arith, labelled-within 1 (map pos (concat (map ranks_in strata))) xs, ranks-absolute)

  centred : IsCentred test 1 (pos centre)
  centred = record {
    by = refl;
    observed = value-fits (test.statistic test.observed) (statistic-within test.observed);
    each = λ r m. value-fits (test.statistic r) (statistic-within r);
  }

  judge-at : (v : ℤ) → unsigned_abs v ≤ whole → JudgeFits (judge_of test) v
  judge-at v h = judge-fits test (judge_of test) refl v (λ tail. rule-fits test centred tail v (value-fits v h))

  sums-fit : AreRankSums (rank_columns strata) (judge_of test)
  sums-fit = record { fit = fit; judge_fits = judge-at }

  follows : (tail : Tail) → Follows test tail (ranked_strata_network strata)
  follows tail =
      room_follows (rank_meaning (rank_columns strata) (judge_of test)) (rank_weight (rank_columns strata)) (plan_widths (rank_plan (rank_columns strata)) (plan_sound (rank_columns strata) fit))
      (rank_measure (rank_columns strata) fit (judge_of test)) test tail (second_counts (rank_columns strata))
      (record { judge_is = refl; gives = gives strata f.each; values = λ xs m. measured-is test refl tail xs ∙ statistic-is strata f.each (judge_of test) xs })

  total-some : 1 ≤ total test
  total-some = omega (arith, total-is, mul-le-mul (ways-some (left (rank_columns strata)) (second_of (rank_columns strata))) (later-some (rank_columns strata)))

-- ---- samples

module _ (samples : StrataGroupData) (u : AreUsable samples) where
  abbrev strata : List (List Subject)
  strata = strata_subjects samples

  each : AllByRecursion IsStratum (strata_subjects samples)
  each = strata-are samples u

  pub strata-facts : StrataFacts samples
  strata-facts = record { sound = parts-sound strata each; total_is = number-parts strata each }

  -- where the labellings pass no limit
  fitting : parts_total (map part_of (strata_subjects samples)) ≤ MAX → AreFitStrata (strata_subjects samples)
  fitting h = record { each = each; total_fits = omega (arith, number-parts strata each, h); bound_fits = bound-fits samples u }

  pub ranks-are : (parts : List Part) → parts ≡ map part_of (strata_subjects samples) → parts_total parts ≤ MAX → RanksFit samples parts
  ranks-are parts e h =
      let f : AreFitStrata strata = fitting (rw e at h) in
      let centre : sum_by part_centre parts ≤ absolute_sum (map pos (concat (map ranks_in strata))) = rw e (omega (arith, ranks-absolute strata f, ranks-total strata, centre-is strata, centre-within strata each)) in
      let twice : absolute_sum (map pos (concat (map ranks_in strata))) + absolute_sum (map pos (concat (map ranks_in strata))) ≤ MAX = omega (arith, ranks-absolute strata f, ranks-fit strata f) in
      record { twice = twice; centre = centre; centre_fits = omega (arith, centre, twice) }

  -- what is kept
  pub ranked : (made : RankedStrata) → AreLists (strata_subjects samples) made.strata → made.sizes ≡ map (λ (p : Part). p.subjects) made.strata.parts → parts_total (map part_of (strata_subjects samples)) ≤ MAX → AreRanked samples made
  ranked made lists sizes h =
      let f : AreFitStrata strata = fitting h in
      record {
        usable = u;
        lists = lists;
        sound = subst ArePartsSound (sym lists.parts) (parts-sound strata each);
        parts = ap (map part_sizes) lists.parts ∙ all-sizes strata each;
        sizes = sizes-two strata each ∙ ap (map (λ (p : Part). p.subjects)) (sym lists.parts) ∙ sym sizes;
        ranks_fit = rw lists.ranks (omega (arith, ranks-absolute strata f, (fit strata f).ranks_fit));
        fit = rw lists.columns (fit strata f);
        sums_fit = rw lists.columns (sums-fit strata f);
        answered = can-be-answered (stratified_rank_test samples) (centred strata f) (λ r. refl) refl (total-some strata f) f.total_fits (follows strata f) (λ tail. inl refl);
      }

-- the numbers of a frame
pub value-apart : (ranks : List ℤ) (labels : List ℕ) (centre : ℕ) → absolute_sum ranks + absolute_sum ranks ≤ MAX → centre ≤ absolute_sum ranks → RuleFits (Far 1 (pos centre) 0) (labelled_sum 1 ranks labels)
value-apart ranks labels centre h k = far-fits 1 (pos centre) (labelled_sum 1 ranks labels) (lit≤ tt) (omega (arith, labelled-within 1 ranks labels, h, k))

-- the network of the rooms and the measure that are built
pub network-same : (strata : List (List Subject)) (rooms measured : List Column) (judge : Judge) → rooms ≡ rank_columns strata → measured ≡ rank_columns strata → judge ≡ judge_of (ranked_strata_test strata)
    → room_network (rank_meaning measured judge) (rank_weight rooms) ≡ ranked_strata_network strata
network-same strata rooms measured judge a b e = rw (a, b, e) refl
