-- What holds of Fisher's test of a table with odds whose total passes no limit.
use Rattle.std.proofs.Common.{◌≡◌, ℕ, ◌+◌, ◌-◌, ◌^◌, ◌≤◌, List, [], ◌∷◌, length, true, Some, None, Err, inl, inr, refl, sym, ◌∙◌, arith, lit≤}
use Rattle.std.specs.Prelude.{ℤ, slice_index}
use Rattle.std.specs.List.{AllByRecursion, Contains, sum_by}
use Rattle.std.proofs.Math.Nat.{one-le-pow}
use Rattle.std.proofs.lemmas.Bool.{cases_lt, le-ltb, lt-ltb}
use Rattle.std.proofs.lemmas.List.Sums.{sum_by-cons}
use Rattle.weights.specs.declared.tails.Tail.{Tail}
use Rattle.weights.specs.declared.tails.Tail.TheVariants.{Less, Greater, Two}
use Rattle.weights.specs.declared.TheConstants.{MAX}
use Rattle.weights.specs.declared.odds.Odds.{Odds}
use Rattle.weights.specs.declared.wide.PrepareFault.{PrepareFault}
use Rattle.weights.specs.declared.wide.PrepareFault.TheVariants.{NoMemory, TooWide}
use Rattle.weights.specs.declared.wide.WideOf.{WideOf}
use Rattle.weights.specs.declared.wide.WideOf.TheVariants.{Total}
use Rattle.weights.specs.Conditional.{observed_statistic, total}
use Rattle.weights.specs.Frames.{IsShown}
use Rattle.weights.specs.Grouped.{columns_of}
use Rattle.weights.specs.Labellings.{labellings, number_of_labellings}
use Rattle.weights.specs.Rules.{RuleFits, measured, rule_of}
use Rattle.weights.specs.Wide.{Prepares, too_wide}
use Rattle.weights.proofs.Centred.{at_least-fits, at_most-fits, no-distance, no-times, total-wide as wide-total}
use Rattle.weights.proofs.FirstLabel.{number_of_labellings-positive}
use Rattle.networks.specs.Judged.{judge_of}
use Rattle.networks.proofs.Following.{judge-fits}
use Rattle.networks.specs.Follows.{Follows}
use Rattle.networks.proofs.Elements.{term-le-sum_by}
use Rattle.room_network.specs.Meanings.{way_value}
use Rattle.room_network.proofs.RoomFollows.{room_follows}
use Rattle.label_network.specs.LabelNetwork.{over_rooms}
use Rattle.label_network.specs.LabelRooms.{IsLabelled}
use Rattle.label_network.specs.Linear.{IsLinear}
use Rattle.label_network.proofs.LabelPlans.{label_width}
use Rattle.label_network.proofs.LinearNarrows.{linear_measure}
use Rattle.label_network.proofs.OverRooms.{over_measure, over_value}
use Rattle.table_reader.specs.TableLayout.{TableData}
use Rattle.table_sums.specs.Tables.{column_sums, is_two_by_two, row_sums}
use Rattle.table_sums.specs.TableSteps.{IsTable}
use Rattle.weights.specs.Odds.{IsOdds}
use Rattle.table_sums.proofs.MarginSums.{few-labels, length-columns, length-rows, level, subjects-few}
use Rattle.fisher_test.specs.FisherExact.{first_cell, fisher_test}
use Rattle.fisher_test.specs.FisherNetworks.{first_scores}
use Rattle.fisher_test.proofs.FisherTests.{first-value, linear-by, square, statistic-first}
use Rattle.fisher_test.proofs.FisherTests as fisher
use Rattle.two_by_two.specs.FisherOdds.{WeightedTable, labels_weight, odds_test}
use Rattle.two_by_two.specs.OddsNetworks.{cell_meaning, odds_network, odds_weights}
use Rattle.two_by_two.specs.OddsSteps.{AreWeighted, OddsFacts, OddsLabels, IsWeightedTable, cells_weight, odds_total}
use Rattle.two_by_two.proofs.OddsLaws.{cell-within-row, cells-total, odds_give, pair-sum, product_left, product_right, some-weight}

-- with weights of at least 1
all-weighty : (p : List ℕ → ℕ) → ((xs : List ℕ) → 1 ≤ p xs) → (xss : List (List ℕ)) → AllByRecursion (λ xs. 1 ≤ p xs) xss
all-weighty p h [] = tt
all-weighty p h (xs ∷ xss) = (h xs, all-weighty p h xss)

no-fewer : (p : List ℕ → ℕ) → ((xs : List ℕ) → 1 ≤ p xs) → (xss : List (List ℕ)) → length xss ≤ sum_by p xss
no-fewer p h [] = omega arith
no-fewer p h (xs ∷ xss) = omega (arith, h xs, no-fewer p h xss, sum_by-cons p xs xss)

pub measured-is : (w : WeightedTable) (tail : Tail) (xs : List ℕ) → measured (odds_test w) tail xs ≡ (odds_test w).statistic xs
measured-is w Less xs = refl
measured-is w Greater xs = refl
measured-is w Two xs = refl

pub rule-fits : (w : WeightedTable) (tail : Tail) (v : ℤ) → RuleFits (rule_of (odds_test w) tail) v
rule-fits w Less v = at_most-fits (observed_statistic (odds_test w)) v
rule-fits w Greater v = at_least-fits (observed_statistic (odds_test w)) v
rule-fits w Two v = record { least_factor = lit≤ tt; observed = no-distance (observed_statistic (odds_test w)); times = no-times v; apart = no-distance v }

module _ (w : WeightedTable) (i : IsOdds w.odds) where
  own-weight : (xs : List ℕ) → 1 ≤ labels_weight w.odds (column_sums w.table) (row_sums w.table) xs
  own-weight xs = some-weight w.odds i (slice_index (row_sums w.table) 0) (first_cell (column_sums w.table) xs)

  pub shown : IsShown (odds_test w)
  shown = record { has = refl; statistic_is = λ r. refl; weighty = all-weighty (labels_weight w.odds (column_sums w.table) (row_sums w.table)) own-weight (labellings (row_sums w.table)) }

  -- there are no more labellings than these weigh
  pub labellings-weigh : number_of_labellings (row_sums w.table) ≤ total (odds_test w)
  labellings-weigh = no-fewer (labels_weight w.odds (column_sums w.table) (row_sums w.table)) own-weight (labellings (row_sums w.table))

  pub total-some : 1 ≤ total (odds_test w)
  total-some = omega (arith, labellings-weigh, number_of_labellings-positive (row_sums w.table))

  pub total-wide : (total (odds_test w) ≤ MAX → ⊥) → too_wide (odds_test w) ≡ Some Total
  total-wide wide = wide-total (odds_test w) refl wide

  pub not-wide : total (odds_test w) ≤ MAX → too_wide (odds_test w) ≡ None
  not-wide h = rw (le-ltb MAX (total (odds_test w)) h) refl

  -- what is too wide without odds is too wide with them
  wider : (what : WideOf) → too_wide (fisher_test w.table) ≡ Some what → too_wide (odds_test w) ≡ Some what
  wider what e = elim (cases_lt MAX (total (fisher_test w.table))) [
    | inl l ↦
        let here : too_wide (fisher_test w.table) ≡ Some Total = rw (lt-ltb MAX (total (fisher_test w.table)) l) refl in
        total-wide (λ h. omega (arith, l, fisher.total-is w.table, labellings-weigh, h)) ∙ sym here ∙ e
    | inr l ↦
        let none : too_wide (fisher_test w.table) ≡ None = rw (le-ltb MAX (total (fisher_test w.table)) (omega (arith, l))) refl in
        absurd (cc (none, e))
  ]

  pub refused : (fault : PrepareFault) → Prepares {V = TableData} fisher_test w.table (Err fault) → Prepares {V = WeightedTable} odds_test w (Err fault)
  refused (TooWide what) e = wider what e
  refused NoMemory e = tt

-- two columns and two rows
module _ (t : TableData) (two : is_two_by_two t ≡ true) where
  pub two-columns : length (column_sums t) ≡ 2
  two-columns = length-columns t ∙ (square t two).1

  pub two-rows : length (row_sums t) ≡ 2
  two-rows = length-rows t ∙ (square t two).0

  pub first-row-fits : slice_index (row_sums t) 0 ≤ slice_index (column_sums t) 0 + slice_index (column_sums t) 1
  first-row-fits = omega (arith, level t, pair-sum (row_sums t) two-rows, pair-sum (column_sums t) two-columns)

  pub columns-few : IsTable t → slice_index (column_sums t) 0 + slice_index (column_sums t) 1 ≤ 512000000
  columns-few i = omega (arith, level t, subjects-few t i, pair-sum (column_sums t) two-columns)

  pub cells-are : (odds : Odds) → cells_weight odds (slice_index (column_sums t) 0) (slice_index (column_sums t) 1) (slice_index (row_sums t) 0) ≡ odds_total odds (column_sums t) (row_sums t)
  cells-are odds = cells-total odds (column_sums t) (row_sums t) two-columns two-rows (sym (level t))

module _ (w : WeightedTable) (sum_of : ℕ) (i : IsWeightedTable w sum_of) where
  pub bounded : total (odds_test w) ≤ MAX
  bounded = omega (arith, i.total_is, i.total_fits)

  labelled : IsLabelled (column_sums w.table) (row_sums w.table)
  labelled = record {
    level = sym (level w.table);
    units = omega (arith, subjects-few w.table i.fitting);
    few = few-labels w.table i.fitting;
    total = i.fitting.total_fits;
  }

  pub are-weighted : AreWeighted w.odds (column_sums w.table) (row_sums w.table) sum_of
  are-weighted = record {
    some_odds = i.some_odds;
    two_columns = two-columns w.table i.square;
    two_rows = two-rows w.table i.square;
    labelled = labelled;
    total_is = i.total_is;
    total_fits = i.total_fits;
  }

  linear : IsLinear first_scores (row_sums w.table) first_scores (column_sums w.table) (judge_of (odds_test w))
  linear = linear-by w.table i.fitting (judge_of (odds_test w)) i.square (λ v. judge-fits (odds_test w) (judge_of (odds_test w)) refl v (λ tail. rule-fits w tail v))

  values : (tail : Tail) (xs : List ℕ) → measured (odds_test w) tail xs ≡ way_value (over_rooms (cell_meaning w)) (columns_of (length (row_sums w.table)) (column_sums w.table) xs)
  values tail xs =
      measured-is w tail xs ∙ statistic-first w.table i.fitting i.square xs ∙ first-value w.table i.fitting (judge_of (odds_test w)) i.square xs
      ∙ sym (over_value (cell_meaning w) (columns_of (length (row_sums w.table)) (column_sums w.table) xs))

  pub follows : (tail : Tail) → Follows (odds_test w) tail (odds_network w tail)
  follows tail =
      room_follows (over_rooms (cell_meaning w)) (odds_weights w.odds) (label_width (column_sums w.table) (row_sums w.table))
      (over_measure (cell_meaning w) (linear_measure first_scores (row_sums w.table) first_scores (column_sums w.table) (judge_of (odds_test w)) linear))
      (odds_test w) tail (columns_of (length (row_sums w.table)) (column_sums w.table)) (record {
        judge_is = refl;
        gives = odds_give w.odds (column_sums w.table) (row_sums w.table) (two-columns w.table i.square) (two-rows w.table i.square) (sym (level w.table));
        values = λ xs m. values tail xs;
      })

  pub odds_facts : OddsFacts w sum_of
  odds_facts = record {
    total_is = i.total_is;
    bounded = bounded;
    some = total-some w i.some_odds;
    shown = shown w i.some_odds;
    weighted = are-weighted;
    linear = linear;
  }

  pub odds_labels : (xs : List ℕ) → Contains (labellings (row_sums w.table)) xs → OddsLabels w xs
  odds_labels xs m =
      let cell : ℕ = first_cell (column_sums w.table) xs in
      let upper : ℕ = slice_index (row_sums w.table) 0 in
      let fits : labels_weight w.odds (column_sums w.table) (row_sums w.table) xs ≤ MAX = omega (arith, bounded, term-le-sum_by (labels_weight w.odds (column_sums w.table) (row_sums w.table)) (labellings (row_sums w.table)) xs m) in
      record {
        within = cell-within-row (slice_index (column_sums w.table) 0) (row_sums w.table) (two-rows w.table i.square) xs m;
        above = omega (arith, fits, product_left (w.odds.above ^ cell) (w.odds.below ^ (upper - cell)) (one-le-pow (upper - cell) w.odds.below i.some_odds.below_some));
        below = omega (arith, fits, product_right (w.odds.above ^ cell) (w.odds.below ^ (upper - cell)) (one-le-pow cell w.odds.above i.some_odds.above_some));
        fits = fits;
      }
