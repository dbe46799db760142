-- The network of strata keeps the laws, and its stages are the labellings of the strata, grouped by their first cells.
use Rattle.std.proofs.Common.{◌≡◌, ℕ, zero, suc, ◌+◌, ◌-◌, ◌*◌, ◌<◌, ◌≤◌, cond, Bool, List, [], ◌∷◌, ◌++◌, length, drop, map, get_or, set, refl, sym, ◌∙◌, ap, subst, arith, add-one}
use Rattle.std.specs.Prelude.{ℤ, pos, ◌+ℤ◌, slice_index, Contains, Option, Some, None}
use Rattle.std.specs.List.{AllByRecursion, concat, filter, range_with_len, sum_by}
use Rattle.std.proofs.lemmas.Int.{ints}
use Rattle.std.proofs.lemmas.List.{length-map}
use Rattle.std.proofs.lemmas.List.Elements.{All-contains, All-from_recursion}
use Rattle.std.proofs.lemmas.List.Sums.{sum_by-cons}
use Rattle.weights.specs.declared.odds.Odds.{Odds}
use Rattle.weights.specs.declared.tails.Tail.{Tail}
use Rattle.weights.specs.declared.TheConstants.{MAX}
use Rattle.weights.specs.Conditional.{ConditionalTest, total}
use Rattle.weights.specs.Labellings.{labellings}
use Rattle.weights.specs.Rules.{measured}
use Rattle.weights.proofs.CellSums.{zeros_in}
use Rattle.weights.proofs.Centred.{measured-is}
use Rattle.weights.proofs.Filters.{all_map, all_weaker}
use Rattle.weights.proofs.Members.{range-below}
use Rattle.weights.proofs.Sums.{sum_by-filter, sum_by-map, sum_by-same, sum_by-same_where}
use Rattle.enumerate.proofs.JoinedMembers.{own}
use Rattle.networks.specs.Addends.{Addends, first_sum, high, low, over_earlier, over_stages, reach, stage_total, stride, totals, zeros}
use Rattle.networks.specs.Follows.{Follows}
use Rattle.networks.specs.Judged.{JudgeFits, judge_of}
use Rattle.networks.specs.SoundAddends.{AddsBetween, IsAdditive}
use Rattle.networks.specs.declared.verdicts.Judge.{Judge}
use Rattle.networks.proofs.AdditiveLaws.{additive_intervals, value_even}
use Rattle.networks.proofs.Flat.{AllAt, AllParts, IsJoined, ends_flat, total_flat}
use Rattle.networks.proofs.Parts.{AreStages as AreParts, IsStage, Pieces, product_weight, summed}
use Rattle.strata_cells.specs.declared.stratum.Stratum.{Stratum}
use Rattle.strata_cells.specs.Strata.{cell_weight, cells_in, stratum_cell, first_cells, first_row, greatest_cell, least_cell, row_counts, size, strata_labellings, stratum_at}
use Rattle.strata_cells.proofs.FirstCells.{IsRowed, cell-zeros, cells-joined, cells-meet, cells-same, cells-total, each-rowed, left-within, member-zeros, no-labels, right-within, term-within, weight-some, zeros-joined, row_labellings}
use Rattle.strata_cells.proofs.StrataSums.{drop-head, past-end}
use Rattle.stratified_tests.specs.StrataTests.{stratified_test, weight_by}
use Rattle.stratified_tests.specs.StrataNetwork.{cell_choices, cells_from, strata_addends, stratified_network, weighed_cell}
use Rattle.stratified_tests.specs.StrataSteps.{AreOdds, AreStages, greatest_sum, strata_total, stratum_total}
use Rattle.weights.proofs.Ranges.{range-different}
use Rattle.stratified_tests.proofs.OddsLaws.{cell-is, weight-joined, weight-least, weight-none}
use Rattle.weights.proofs.Products.{product-some}

-- ---- one stratum

module _ (odds : Option Odds) where
  stage-same : (s : Stratum) (f : List ℤ → ℕ) → sum_by (λ x. weight_by odds (first_row s) (stratum_cell s x) * f (pos (stratum_cell s x) ∷ [])) (row_labellings s) ≡ sum_by (λ c. weighed_cell odds s (slice_index c 0) * f (pos (slice_index c 0) ∷ [])) (cell_choices s)
  stage-same s f =
      let cells : List ℕ = range_with_len (least_cell s) (greatest_cell s + 1 - least_cell s) in
      cells-same s (λ x. weight_by odds (first_row s) x * f (pos x ∷ []))
      ∙ sum_by-same (λ x. cell_weight s x * (weight_by odds (first_row s) x * f (pos x ∷ []))) (λ x. weighed_cell odds s x * f (pos x ∷ [])) (λ x. each (cell_weight s x) (weight_by odds (first_row s) x) (weighed_cell odds s x) (f (pos x ∷ [])) (cell-is odds s x)) cells
      ∙ sym (sum_by-map (λ c. weighed_cell odds s (slice_index c 0) * f (pos (slice_index c 0) ∷ [])) (λ x. x ∷ []) cells)
    where
      each : (m n w k : ℕ) → w ≡ m * n → m * (n * k) ≡ w * k
      each m n w k e = rw e (omega arith)

range-total : (odds : Option Odds) (s : Stratum) → sum_by (weighed_cell odds s) (cells_in s) ≡ stratum_total odds s
range-total None s = cells-total s
range-total (Some o) s = refl

-- so much in all
choices-total : (odds : Option Odds) (s : Stratum) → sum_by (λ c. weighed_cell odds s (slice_index c 0)) (cell_choices s) ≡ stratum_total odds s
choices-total odds s =
    sum_by-map (λ c. weighed_cell odds s (slice_index c 0)) (λ x. x ∷ []) (cells_in s)
    ∙ range-total odds s

pub weighed-some : (odds : Option Odds) → AreOdds odds → (s : Stratum) (x : ℕ) → least_cell s ≤ x → x ≤ greatest_cell s → 1 ≤ weighed_cell odds s x
weighed-some odds o s x l h = omega (arith, cell-is odds s x, product-some (cell_weight s x) (weight_by odds (first_row s) x) (weight-some s x l h) (weight-least odds o (first_row s) x))

-- ---- choices

choice-low : (least n : ℕ) → AllByRecursion (λ c. least ≤ slice_index c 0) (cells_from least n)
choice-low least zero = tt
choice-low least (suc n) = (omega arith, all_weaker (λ c. least + 1 ≤ slice_index c 0) (λ c. least ≤ slice_index c 0) (λ c h. omega (arith, h)) (cells_from (least + 1) n) (choice-low (least + 1) n))

choice-high : (least n : ℕ) → AllByRecursion (λ c. slice_index c 0 < least + n) (cells_from least n)
choice-high least n = all_map (λ c. slice_index c 0 < least + n) (λ x. x ∷ []) (range_with_len least n) (range-below least n)

pub record IsCell (s : Stratum) (c : List ℕ) : Type 0 where
  pub low : least_cell s ≤ slice_index c 0
  pub high : slice_index c 0 ≤ greatest_cell s

all-cells : (s : Stratum) → AllByRecursion (IsCell s) (cell_choices s)
all-cells s = both (cells_from (least_cell s) n) (choice-low (least_cell s) n) (choice-high (least_cell s) n)
  where
    n : ℕ
    n = greatest_cell s + 1 - least_cell s

    both : (cs : List (List ℕ)) → AllByRecursion (λ c. least_cell s ≤ slice_index c 0) cs → AllByRecursion (λ c. slice_index c 0 < least_cell s + (greatest_cell s + 1 - least_cell s)) cs → AllByRecursion (IsCell s) cs
    both [] l h = tt
    both (c ∷ cs) l h = (record { low = l.0; high = omega (arith, h.0, cells-meet s) }, both cs l.1 h.1)

-- ---- the network

-- a part is a labelling of its stage's stratum
pub record IsPart (strata : List Stratum) (g : ℕ) (x : List ℕ) : Type 0 where
  pub early : g < length strata
  pub rowed : IsRowed (stratum_at strata g) x

module _ (odds : Option Odds) (strata : List Stratum) (judge : Judge) where
  abbrev a : Addends
  a = strata_addends odds strata judge

  pub choice-cell : (g : ℕ) (c : List ℕ) → Contains (a.choices g) c → IsCell (stratum_at strata g) c
  choice-cell g c m =
      let s = stratum_at strata g in
      All-contains (IsCell s) (cell_choices s) c (All-from_recursion (IsCell s) (cell_choices s) (all-cells s)) m

  pub stage-total : (g : ℕ) → stage_total a g ≡ stratum_total odds (stratum_at strata g)
  stage-total g = choices-total odds (stratum_at strata g)

  total-from : (ts : List Stratum) (g : ℕ) → drop g strata ≡ ts → totals a (length ts) g ≡ strata_total odds ts
  total-from [] g d = refl
  total-from (t ∷ ts) g d =
      let here = drop-head g strata t ts d in
      let first : stage_total a g ≡ stratum_total odds t = stage-total g ∙ ap (stratum_total odds) here.0 in
      let rest : totals a (length ts) (g + 1) ≡ strata_total odds ts = total-from ts (g + 1) here.1 in
      rw (first, rest) refl

  adds-between : (g : ℕ) (c : List ℕ) → IsCell (stratum_at strata g) c → AddsBetween a g c
  adds-between g c i = record { wide = refl; between = ((omega (arith, ints, i.low), omega (arith, ints, i.high)), tt) }

  stride-is : (g : ℕ) → stride a g ≡ greatest_cell (stratum_at strata g)
  stride-is g = let meet = cells-meet (stratum_at strata g) in omega (arith, meet)

  reach-from : (ts : List Stratum) (g : ℕ) → drop g strata ≡ ts → over_earlier (stride a) (g + length ts) ≡ over_earlier (stride a) g + greatest_sum ts
  reach-from [] g d = ap (over_earlier (stride a)) (let e : g + 0 ≡ g = omega arith in e) ∙ omega arith
  reach-from (t ∷ ts) g d =
      let here = drop-head g strata t ts d in
      let own : stride a g ≡ greatest_cell t = stride-is g ∙ ap greatest_cell here.0 in
      let rest : over_earlier (stride a) (g + 1 + length ts) ≡ over_earlier (stride a) (g + 1) + greatest_sum ts = reach-from ts (g + 1) here.1 in
      let next : over_earlier (stride a) (g + 1) ≡ over_earlier (stride a) g + stride a g = ap (over_earlier (stride a)) (add-one g) in
      ap (over_earlier (stride a)) (let e : g + suc (length ts) ≡ g + 1 + length ts = omega arith in e)
      ∙ omega (arith, own, rest, next, sum_by-cons greatest_cell t ts)

  reach-is : reach a ≡ greatest_sum strata
  reach-is = ap (over_earlier (stride a)) (let e : length strata ≡ 0 + length strata = omega arith in e) ∙ reach-from strata 0 refl ∙ omega arith

  ends-from : (f : Stratum → ℕ) (ts : List Stratum) (g : ℕ) → drop g strata ≡ ts → over_stages (λ g. pos (f (stratum_at strata g))) (length ts) g ≡ pos (sum_by f ts)
  ends-from f [] g d = refl
  ends-from f (t ∷ ts) g d =
      let here = drop-head g strata t ts d in
      let own : f (stratum_at strata g) ≡ f t = ap f here.0 in
      rw own (omega (arith, ints, ends-from f ts (g + 1) here.1, sum_by-cons f t ts))

  zero-plus : (t : ℤ) → pos 0 +ℤ t ≡ t
  zero-plus t = omega (arith, ints)

  ends-at : (f : Stratum → ℕ) → pos 0 +ℤ over_stages (λ g. pos (f (stratum_at strata g))) (length strata - 0) 0 ≡ pos (sum_by f strata)
  ends-at f = zero-plus (over_stages (λ g. pos (f (stratum_at strata g))) (length strata - 0) 0) ∙ ap (λ m. over_stages (λ g. pos (f (stratum_at strata g))) m 0) (let e : length strata - 0 ≡ length strata = omega arith in e) ∙ ends-from f strata 0 refl

  high-is : high a 0 (zeros a) ≡ pos (greatest_sum strata)
  high-is = ends-at greatest_cell

  low-is : low a 0 (zeros a) ≡ pos (sum_by least_cell strata)
  low-is = ends-at least_cell

  pub sound_stages : AreStages odds strata judge → IsAdditive a
  sound_stages s = record {
    slots_some = omega arith;
    slots_few = omega arith;
    some_choice = λ g h e. no-choice (stratum_at strata g) e;
    different = λ g h. range-different (least_cell (stratum_at strata g)) (greatest_cell (stratum_at strata g) + 1 - least_cell (stratum_at strata g));
    weighty = λ g c h m. (let i = choice-cell g c m in weighed-some odds s.odds_are (stratum_at strata g) (slice_index c 0) i.low i.high);
    fits = omega (arith, total-from strata 0 refl, s.total_fits);
    between = λ g h. all_weaker (IsCell (stratum_at strata g)) (AddsBetween a g) (λ c i. adds-between g c i) (a.choices g) (all-cells (stratum_at strata g));
    sums_fit = omega (arith, reach-is, s.sums_fit);
    measured = refl;
    low_fits = subst (JudgeFits judge) (sym low-is) s.low_fits;
    high_fits = subst (JudgeFits judge) (sym high-is) s.high_fits;
  }
    where
      no-choice : (s : Stratum) → cells_from (least_cell s) (greatest_cell s + 1 - least_cell s) ≡ [] → ⊥
      no-choice s e = (let some : greatest_cell s + 1 - least_cell s ≡ suc (greatest_cell s - least_cell s) = omega (arith, cells-meet s) in absurd (cc (rw some at e)))

  -- ---- its parts

  pieces : Pieces
  pieces = record {
    mass = λ g x. weight_by odds (first_row (stratum_at strata g)) (stratum_cell (stratum_at strata g) x);
    added = λ g x. pos (stratum_cell (stratum_at strata g) x) ∷ [];
  }

  all-one : (g : ℕ) (xs : List (List ℕ)) → AllByRecursion (λ x. length (pieces.added g x) ≡ 1) xs
  unfolding pieces
  all-one g [] = tt
  all-one g (x ∷ xs) = (refl, all-one g xs)

  stages-from : (ts : List Stratum) (g : ℕ) → drop g strata ≡ ts → AreParts a pieces g (map labellings (map row_counts ts))
  unfolding pieces
  stages-from [] g d = tt
  stages-from (t ∷ ts) g d =
      let here = drop-head g strata t ts d in (
        subst (λ s. IsStage a pieces g (row_labellings s)) here.0 (record {
          same = stage-same odds (stratum_at strata g);
          closed = λ s i f. absurd (cc s);
          wide = all-one g (row_labellings (stratum_at strata g));
        }),
        stages-from ts (g + 1) here.1,
      )

  parts-from : (ts : List Stratum) (g : ℕ) → drop g strata ≡ ts → g + length ts ≡ length strata → AllParts (IsPart strata) g (map labellings (map row_counts ts))
  parts-from [] g d e = tt
  parts-from (t ∷ ts) g d e =
      let here = drop-head g strata t ts d in
      (all_weaker (IsRowed t) (IsPart strata g) (λ x r. record { early = omega (arith, e); rowed = subst (λ s. IsRowed s x) (sym here.0) r }) (row_labellings t) (each-rowed t), parts-from ts (g + 1) here.1 (omega (arith, e)))

  plus-none : (t : ℤ) → t +ℤ pos 0 ≡ t
  plus-none t = omega (arith, ints)

  grouped-plus : (k : ℤ) (m n : ℕ) → k +ℤ pos (m + n) ≡ (k +ℤ pos m) +ℤ pos n
  grouped-plus k m n = omega (arith, ints)

  measures-from : (ts : List Stratum) (g : ℕ) (k : ℤ) (xs : List (List ℕ)) → drop g strata ≡ ts → AllAt (IsPart strata) g xs → k +ℤ pos (first_cells ts (concat xs)) ≡ first_sum (summed pieces.added g (k ∷ []) xs)
  unfolding pieces
  measures-from ts g k [] d h = ap (λ n. k +ℤ pos n) (no-labels ts) ∙ plus-none k
  measures-from [] g k (x ∷ xs) d h = absurd (omega (arith, h.0.early, past-end g strata d))
  measures-from (t ∷ ts) g k (x ∷ xs) d h =
      let here = drop-head g strata t ts d in
      let long : length x ≡ size t = h.0.rowed.long ∙ ap size here.0 in
      ap (λ n. k +ℤ pos n) (cells-joined t ts x (concat xs) long) ∙ grouped-plus k (stratum_cell t x) (first_cells ts (concat xs))
      ∙ ap (λ (s : Stratum). (k +ℤ pos (stratum_cell s x)) +ℤ pos (first_cells ts (concat xs))) (sym here.0)
      ∙ measures-from ts (g + 1) (k +ℤ pos (stratum_cell (stratum_at strata g) x)) xs here.1 h.1

  -- what a list of labels weighs, also where it is cut off after some strata
  abbrev own_weight : List ℕ → ℕ
  own_weight labels = weight_by odds (zeros_in labels) (first_cells strata labels)

  within-from : (ts : List Stratum) (g : ℕ) (xs : List (List ℕ)) → drop g strata ≡ ts → AllAt (IsPart strata) g xs → first_cells ts (concat xs) ≤ zeros_in (concat xs)
  within-from ts g [] d h = omega (arith, no-labels ts)
  within-from [] g (x ∷ xs) d h = absurd (omega (arith, h.0.early, past-end g strata d))
  within-from (t ∷ ts) g (x ∷ xs) d h =
      let here = drop-head g strata t ts d in
      let long : length x ≡ size t = h.0.rowed.long ∙ ap size here.0 in
      omega (arith, cells-joined t ts x (concat xs) long, zeros-joined x (concat xs), cell-zeros t x, within-from ts (g + 1) xs here.1 h.1)

  weighs-from : (ts : List Stratum) (g : ℕ) (xs : List (List ℕ)) → drop g strata ≡ ts → AllAt (IsPart strata) g xs → weight_by odds (zeros_in (concat xs)) (first_cells ts (concat xs)) ≡ product_weight pieces.mass g xs
  unfolding pieces
  weighs-from ts g [] d h = ap (weight_by odds 0) (no-labels ts) ∙ weight-none odds
  weighs-from [] g (x ∷ xs) d h = absurd (omega (arith, h.0.early, past-end g strata d))
  weighs-from (t ∷ ts) g (x ∷ xs) d h =
      let here = drop-head g strata t ts d in
      let ys : List ℕ = concat xs in
      let long : length x ≡ size t = h.0.rowed.long ∙ ap size here.0 in
      let zeros : zeros_in x ≡ first_row t = h.0.rowed.zeros ∙ ap first_row here.0 in
      ap (λ n. weight_by odds n (first_cells (t ∷ ts) (x ++ ys))) (zeros-joined x ys ∙ ap (λ n. n + zeros_in ys) zeros)
      ∙ ap (weight_by odds (first_row t + zeros_in ys)) (cells-joined t ts x ys long)
      ∙ weight-joined odds (first_row t) (zeros_in ys) (stratum_cell t x) (first_cells ts ys) (omega (arith, cell-zeros t x, zeros)) (within-from ts (g + 1) xs here.1 h.1)
      ∙ ap (λ (s : Stratum). weight_by odds (first_row s) (stratum_cell s x) * weight_by odds (zeros_in ys) (first_cells ts ys)) (sym here.0)
      ∙ ap (λ n. weight_by odds (first_row (stratum_at strata g)) (stratum_cell (stratum_at strata g) x) * n) (weighs-from ts (g + 1) xs here.1 h.1)

  joined : (measure : List ℕ → ℤ) → ((r : List ℕ) → measure r ≡ pos (first_cells strata r)) → IsJoined a pieces (IsPart strata) measure own_weight
  joined measure is = record {
    measures = λ xs h. is (concat xs) ∙ sym (zero-plus (pos (first_cells strata (concat xs)))) ∙ measures-from strata 0 (pos 0) xs refl h;
    weighs = λ xs h. weighs-from strata 0 xs refl h;
  }

  pub all-weighed : totals a (length strata) 0 ≡ strata_total odds strata
  all-weighed = total-from strata 0 refl

  pub all-parts : AllParts (IsPart strata) 0 (map labellings (map row_counts strata))
  all-parts = parts-from strata 0 refl (omega arith)

module _ (odds : Option Odds) (strata : List Stratum) where
  -- a member has all its labels, and so weighs what the test says
  abbrev WeighsSame : List ℕ → Type 0
  WeighsSame r = weight_by odds (zeros_in r) (first_cells strata r) ≡ weight_by odds (sum_by first_row strata) (first_cells strata r)

  all-same : AllByRecursion WeighsSame (strata_labellings strata)
  all-same = all_weaker (Contains (strata_labellings strata)) WeighsSame (λ r m. ap (λ n. weight_by odds n (first_cells strata r)) (member-zeros strata r m)) (strata_labellings strata) (own (strata_labellings strata))

  pub parts-many : length (map labellings (map row_counts strata)) ≡ length strata
  parts-many = length-map (map row_counts strata) labellings ∙ length-map strata row_counts

  pub total-is : total (stratified_test odds strata) ≡ strata_total odds strata
  total-is =
      let judge : Judge = judge_of (stratified_test odds strata) in
      let whole : totals (a odds strata judge) (length strata) 0 ≡ sum_by (own_weight odds strata judge) (strata_labellings strata) =
      total_flat (a odds strata judge) (pieces odds strata judge) (IsPart strata) (λ r. pos (first_cells strata r)) (own_weight odds strata judge) (joined odds strata judge (λ r. pos (first_cells strata r)) (λ r. refl)) (map labellings (map row_counts strata)) parts-many (stages-from odds strata judge strata 0 refl) (all-parts odds strata judge) in
      sym (sum_by-same_where WeighsSame (own_weight odds strata judge) (stratified_test odds strata).weight (λ r e. e) (strata_labellings strata) all-same)
      ∙ sym whole ∙ all-weighed odds strata judge

  filtered : (q : List ℕ → Bool) (rs : List (List ℕ)) → AllByRecursion WeighsSame rs → sum_by (λ r. weight_by odds (zeros_in r) (first_cells strata r)) (filter q rs) ≡ sum_by (stratified_test odds strata).weight (filter q rs)
  filtered q rs all =
      let w : List ℕ → ℕ = λ r. weight_by odds (zeros_in r) (first_cells strata r) in
      let v : List ℕ → ℕ = (stratified_test odds strata).weight in
      sum_by-filter w q rs
      ∙ sum_by-same_where WeighsSame (λ r. cond (q r) (w r) 0) (λ r. cond (q r) (v r) 0) (λ r e. ap (λ n. cond (q r) n 0) e) rs all
      ∙ sym (sum_by-filter v q rs)

  pub strata-follow : (tail : Tail) → AreStages odds strata (judge_of (stratified_test odds strata)) → Follows (stratified_test odds strata) tail (stratified_network odds strata tail)
  strata-follow tail s =
      let test : ConditionalTest = stratified_test odds strata in
      let judge : Judge = judge_of test in
      let sound : IsAdditive (a odds strata judge) = sound_stages odds strata judge s in
      let measure : List ℕ → ℤ = measured test tail in
      record {
        intervals = additive_intervals (a odds strata judge) sound;
        ends = λ p.
            ends_flat (a odds strata judge) (pieces odds strata judge) (IsPart strata) measure (own_weight odds strata judge) (joined odds strata judge measure (measured-is test refl tail)) (map labellings (map row_counts strata)) parts-many (stages-from odds strata judge strata 0 refl) (λ sorted. value_even (a odds strata judge) sound) (all-parts odds strata judge) p
            ∙ filtered (λ r. p (measure r)) (strata_labellings strata) all-same;
      }

-- ---- what its functions compute

range-some : (f : ℕ → ℕ) (l n k : ℕ) → n ≡ suc k → 1 ≤ f l → 1 ≤ sum_by f (range_with_len l n)
range-some f l n k e h = subst (λ m. 1 ≤ sum_by f (range_with_len l m)) (sym e) (omega (arith, sum_by-cons f l (range_with_len (l + 1) k), h))

module _ (odds : Option Odds) (o : AreOdds odds) where
  pub stratum-some : (s : Stratum) → 1 ≤ stratum_total odds s
  stratum-some s =
      let meet : least_cell s ≤ greatest_cell s = cells-meet s in
      let long : greatest_cell s + 1 - least_cell s ≡ suc (greatest_cell s - least_cell s) = omega (arith, meet) in
      let some : 1 ≤ sum_by (weighed_cell odds s) (cells_in s) = range-some (weighed_cell odds s) (least_cell s) (greatest_cell s + 1 - least_cell s) (greatest_cell s - least_cell s) long (weighed-some odds o s (least_cell s) (omega arith) meet) in
      omega (arith, some, range-total odds s)

  pub all-some : (ts : List Stratum) → 1 ≤ strata_total odds ts
  all-some [] = omega arith
  all-some (t ∷ ts) = product-some (stratum_total odds t) (strata_total odds ts) (stratum-some t) (all-some ts)

  pub one-within : (ts : List Stratum) (g : ℕ) → g < length ts → stratum_total odds (stratum_at ts g) ≤ strata_total odds ts
  one-within [] g h = absurd (omega (arith, h))
  one-within (t ∷ ts) zero h = left-within (stratum_total odds t) (strata_total odds ts) (all-some ts)
  one-within (t ∷ ts) (suc g) h =
      let more : strata_total odds ts ≤ stratum_total odds t * strata_total odds ts = right-within (stratum_total odds t) (strata_total odds ts) (stratum-some t) in
      omega (arith, more, one-within ts g (omega (arith, h)))

  pub cell-fits : (strata : List Stratum) (g : ℕ) → g < length strata → strata_total odds strata ≤ MAX → stratum_total odds (stratum_at strata g) ≤ MAX
  cell-fits strata g h m = omega (arith, one-within strata g h, m)

-- one of the weights is within them all
pub weight-within : (odds : Option Odds) (s : Stratum) (x : ℕ) → least_cell s ≤ x → x ≤ greatest_cell s → weighed_cell odds s x ≤ stratum_total odds s
weight-within odds s x l h = omega (arith, term-within (weighed_cell odds s) (least_cell s) (greatest_cell s) x l h, range-total odds s)

pub next-cells : (n : ℕ) (choice : List ℕ) → length choice ≡ 1 → get_or choice 0 0 < n
    → let next = set choice 0 (get_or choice 0 0 + 1) in cells_from (get_or choice 0 0 + 1) (n - get_or choice 0 0) ≡ next ∷ cells_from (slice_index next 0 + 1) (n - slice_index next 0)
next-cells n [] long h = absurd (omega arith)
next-cells n (j ∷ k ∷ choice) long h = absurd (omega arith)
next-cells n (j ∷ []) long h = let e : n - j ≡ suc (n - (j + 1)) = omega (arith, h) in rw e refl
