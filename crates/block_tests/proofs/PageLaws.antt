-- The network of Page's sum is lawful, and its completions end at Page's sums.
use Rattle.std.proofs.Common.{◌≡◌, ◌≢◌, ℕ, zero, suc, ◌+◌, ◌*◌, ◌-◌, ◌<◌, ◌≤◌, List, [], ◌∷◌, ◌++◌, length, drop, map, get_or, set, reverse, refl, sym, ◌∙◌, ap, arith}
use Rattle.std.specs.Prelude.{ℤ, pos, ◌+ℤ◌, ◌≤ℤ◌, nat_abs, slice_index, slice_index_or, Contains}
use Rattle.std.specs.List.{All, AllByRecursion, concat, range_with_len, sum_by}
use Rattle.std.proofs.Math.Nat.{mul-le-mul_right}
use Rattle.std.proofs.lemmas.Int.{ints}
use Rattle.std.proofs.lemmas.List.Elements.{All-contains, All-from_recursion, recursion_from_All}
use Rattle.std.proofs.lemmas.List.Sums.{sum_by-cons}
use Rattle.weights.specs.Conditional.{ascending_values, value_weight}
use Rattle.weights.specs.Labellings.{labellings, number_of_labellings}
use Rattle.weights.specs.declared.lines.Line.{Line}
use Rattle.networks.specs.declared.verdicts.Judge.{Judge}
use Rattle.weights.proofs.FirstLabel.{number_of_labellings-positive}
use Rattle.weights.proofs.Filters.{all_map, all_weaker}
use Rattle.weights.proofs.Members.{IsLabelling, range-below}
use Rattle.weights.proofs.Sums.{sum_by-filter, sum_by-map, sum_by-one, sum_by-same}
use Rattle.networks.specs.Addends.{reach, stage_total, stride}
use Rattle.networks.proofs.AdditiveKeys.{least_small, most_small, over_stages-some}
use Rattle.networks.specs.Follows.{statistic_sums}
use Rattle.networks.specs.Lines.{IsSpreadOf}
use Rattle.networks.specs.SoundAddends.{AddsBetween, IsAdditive}
use Rattle.stage_network.proofs.DistributionLines.{distribution-is, insert-each}
use Rattle.networks.proofs.Flat.{AllAt}
use Rattle.networks.proofs.Parts.{AreStages as AreParts, Pieces, summed}
use Rattle.enumerate.proofs.JoinedMembers.{each-labelling}
use Rattle.rank_assignments.specs.BoundSteps.{IsSmall}
use Rattle.block_tests.specs.BlockNetworks.{arrangement_test, block_at, first_arrangement, line_of, no_line, line_addends, page_lines, places_from}
use Rattle.block_tests.specs.BlockSteps.{AreStages, IsWhole}
use Rattle.block_tests.specs.BlockTests.{cut, page_sum, treatment_sums}
use Rattle.block_tests.proofs.Arranged.{first-labelling, length-first}
use Rattle.weights.proofs.Ranges.{range-different}
use Rattle.block_tests.proofs.Lines.{over-lines}
use Rattle.block_tests.proofs.PageOrder.{page-least, page-most}
use Rattle.block_tests.proofs.SquareLaws.{first-small}
use Rattle.block_tests.proofs.Staged.{IsArranged, at-head, over-within, total-fits, whole-at}
use Rattle.block_tests.proofs.TreatmentSums.{page-added, page-within, page-zeros, sums-front, sums-none}

-- ---- the lines of one block

pub each-one : (rs : List (List ℕ)) → AllByRecursion (λ r. 1 ≤ 1) rs
each-one [] = tt
each-one (r ∷ rs) = (omega arith, each-one rs)

pub lines-are : (counts : List ℕ) → IsSpreadOf (statistic_sums (arrangement_test counts)) (page_lines counts)
lines-are counts = distribution-is (arrangement_test counts) (each-one (labellings counts))

-- every sum over the arrangements is one over the lines
pub over-page : (counts : List ℕ) (f : ℤ → ℕ) → sum_by (λ (l : Line). l.weight * f l.value) (page_lines counts) ≡ sum_by (λ x. f (pos (page_sum 1 x))) (labellings counts)
over-page counts f = over-lines (λ x. pos (page_sum 1 x)) (labellings counts) (page_lines counts) (λ p. (lines-are counts).told p ∙ sum_by-filter (λ x. 1) (λ x. p (pos (page_sum 1 x))) (labellings counts)) f

pub lines-total : (counts : List ℕ) → sum_by (λ (l : Line). l.weight) (page_lines counts) ≡ number_of_labellings counts
lines-total counts =
    sum_by-same (λ (l : Line). l.weight) (λ (l : Line). l.weight * 1) (λ l. (let e : l.weight ≡ l.weight * 1 = omega arith in e)) (page_lines counts)
    ∙ over-page counts (λ v. 1) ∙ sum_by-one (labellings counts)

pub some-line : (counts : List ℕ) → 1 ≤ length (page_lines counts)
some-line counts = by (page_lines counts) (lines-total counts)
  where
    by : (lines : List Line) → sum_by (λ (l : Line). l.weight) lines ≡ number_of_labellings counts → 1 ≤ length lines
    by [] e = absurd (omega (arith, e, number_of_labellings-positive counts))
    by (l ∷ lines) e = omega arith

pub ascending-all : (P : ℤ → Type 0) (vs : List ℤ) → AllByRecursion P vs → AllByRecursion P (ascending_values vs)
ascending-all P [] a = tt
ascending-all P (v ∷ vs) a = insert-each P v (ascending_values vs) a.0 (ascending-all P vs a.1)

abbrev HasEnds : List ℕ → ℤ → Type 0
HasEnds counts v = (pos (page_sum 1 (reverse (first_arrangement counts))) ≤ℤ v) × (v ≤ℤ pos (page_sum 1 (first_arrangement counts)))

lines-between : (counts : List ℕ) → AllByRecursion (λ (l : Line). HasEnds counts l.value) (page_lines counts)
lines-between counts =
    all_map (λ (l : Line). HasEnds counts l.value) (value_weight (arrangement_test counts)) (ascending_values (map (λ x. pos (page_sum 1 x)) (labellings counts)))
    (ascending-all (HasEnds counts) (map (λ x. pos (page_sum 1 x)) (labellings counts))
    (all_map (HasEnds counts) (λ x. pos (page_sum 1 x)) (labellings counts)
    (all_weaker (IsLabelling counts) (λ x. HasEnds counts (pos (page_sum 1 x))) (λ x l. (let low = page-least counts x l in let high = page-most counts x l in (omega (arith, ints, low), omega (arith, ints, high)))) (labellings counts) (each-labelling counts))))

-- ---- places as choices

pub over-places : (F : Line → ℕ) (lines : List Line) → sum_by (λ c. F (get_or lines (get_or c 0 0) no_line)) (places_from 0 (length lines)) ≡ sum_by F lines
over-places F lines = sum_by-map (λ c. F (get_or lines (get_or c 0 0) no_line)) (λ i. i ∷ []) (range_with_len 0 (length lines)) ∙ from 0 lines lines refl
  where
    from : (i : ℕ) (all rest : List Line) → drop i all ≡ rest → sum_by (λ j. F (get_or all j no_line)) (range_with_len i (length rest)) ≡ sum_by F rest
    from i all [] e = refl
    from i all (l ∷ rest) e =
        let here = at-head all i l rest no_line e in
        sum_by-cons (λ j. F (get_or all j no_line)) i (range_with_len (i + 1) (length rest))
        ∙ ap (λ m. F m + sum_by (λ j. F (get_or all j no_line)) (range_with_len (i + 1) (length rest))) here.0
        ∙ ap (λ n. F l + n) (from (i + 1) all rest here.1)
        ∙ sym (sum_by-cons F l rest)

pub each-place : (n : ℕ) → AllByRecursion (λ c. slice_index c 0 < n) (places_from 0 n)
each-place n = all_map (λ c. slice_index c 0 < n) (λ i. i ∷ []) (range_with_len 0 n) (all_weaker (λ i. i < 0 + n) (λ i. i < n) (λ i h. omega (arith, h)) (range_with_len 0 n) (range-below 0 n))

pub place-within : (n : ℕ) (c : List ℕ) → Contains (places_from 0 n) c → slice_index c 0 < n
place-within n c m = All-contains (λ c. slice_index c 0 < n) (places_from 0 n) c (All-from_recursion (λ c. slice_index c 0 < n) (places_from 0 n) (each-place n)) m

pub line-has : (P : Line → Type 0) (counts c : List ℕ) → AllByRecursion P (page_lines counts) → slice_index c 0 < length (page_lines counts) → P (line_of counts c)
line-has P counts c all h = All-from_recursion P (page_lines counts) all (slice_index c 0) no_line h

pub line-weight : (counts c : List ℕ) → Contains (places_from 0 (length (page_lines counts))) c → 1 ≤ (line_of counts c).weight
line-weight counts c m = line-has (λ l. 1 ≤ l.weight) counts c (lines-are counts).positive (place-within (length (page_lines counts)) c m)

-- ---- the network

pub page-total : (blocks : List (List ℕ)) (judge : Judge) (g : ℕ) → stage_total (line_addends blocks judge) g ≡ number_of_labellings (block_at blocks g)
page-total blocks judge g = over-places (λ (l : Line). l.weight) (page_lines (block_at blocks g)) ∙ lines-total (block_at blocks g)

page-adds : (blocks : List (List ℕ)) (judge : Judge) (g : ℕ) → AllByRecursion (AddsBetween (line_addends blocks judge) g) (places_from 0 (length (page_lines (block_at blocks g))))
page-adds blocks judge g =
    let counts : List ℕ = block_at blocks g in
    all_weaker (λ c. slice_index c 0 < length (page_lines counts)) (AddsBetween (line_addends blocks judge) g)
    (λ c h. (let ends = line-has (λ l. HasEnds counts l.value) counts c (lines-between counts) h in record { wide = refl; between = (ends, tt) }))
    (places_from 0 (length (page_lines counts))) (each-place (length (page_lines counts)))

some-place : (n : ℕ) → 1 ≤ n → places_from 0 n ≢ []
some-place zero h e = absurd (omega arith)
some-place (suc n) h e = cc

first-page-small : (k : ℕ) (counts : List ℕ) → k ≤ 8 → IsWhole k counts → page_sum 1 (first_arrangement counts) ≤ 1152
first-page-small k counts narrow w =
    let long : length (first_arrangement counts) ≡ k = length-first counts ∙ w.treatments in
    let all : AllByRecursion (λ z. z ≤ 16) (first_arrangement counts) = recursion (first-small counts w.few) in
    let most : page_sum 1 (first_arrangement counts) ≤ length (first_arrangement counts) * (9 * 16) = page-within 16 1 9 (first_arrangement counts) all (omega (arith, long, narrow)) in
    let eight : length (first_arrangement counts) ≤ 8 = omega (arith, long, narrow) in
    let few : length (first_arrangement counts) * (9 * 16) ≤ 8 * (9 * 16) = mul-le-mul_right (9 * 16) eight in
    omega (arith, most, few)
  where
    recursion : All (λ z. z ≤ 16) (first_arrangement counts) → AllByRecursion (λ z. z ≤ 16) (first_arrangement counts)
    recursion a = recursion_from_All (λ z. z ≤ 16) (first_arrangement counts) a

module _ (k : ℕ) (blocks : List (List ℕ)) (judge : Judge) (s : AreStages k blocks judge) where
  most-small : (g : ℕ) → g < length blocks → page_sum 1 (first_arrangement (block_at blocks g)) ≤ 1152
  most-small g h = first-page-small k (block_at blocks g) s.narrow (whole-at k blocks g s.whole h)

  least-small : (g : ℕ) → g < length blocks → page_sum 1 (reverse (first_arrangement (block_at blocks g))) ≤ 1152
  least-small g h = omega (arith, most-small g h, page-least (block_at blocks g) (first_arrangement (block_at blocks g)) (first-labelling (block_at blocks g)))

  reach-small : reach (line_addends blocks judge) ≤ 11520000
  reach-small =
      let all : reach (line_addends blocks judge) ≤ length blocks * 1152 = over-within (stride (line_addends blocks judge)) (length blocks) 1152 (λ g h. (let low = least-small g h in let high = most-small g h in omega (arith, low, high))) in
      omega (arith, all, s.few)

  end-fits : (e : ℤ) → pos 0 ≤ℤ e → nat_abs e + 0 ≤ reach (line_addends blocks judge) → IsSmall (pos 0 +ℤ e)
  end-fits e some h = (omega (arith, ints, some), (let few : nat_abs e ≤ 11520000 = omega (arith, h, reach-small) in omega (arith, ints, some, few)))

  pub page_additive : IsAdditive (line_addends blocks judge)
  page_additive = record {
    slots_some = omega arith;
    slots_few = omega arith;
    some_choice = λ g h. some-place (length (page_lines (block_at blocks g))) (some-line (block_at blocks g));
    different = λ g h. range-different 0 (length (page_lines (block_at blocks g)));
    weighty = λ g c h m. line-weight (block_at blocks g) c m;
    fits = total-fits (line_addends blocks judge) blocks (λ g h. page-total blocks judge g) s.ways_fit;
    between = λ g h. page-adds blocks judge g;
    sums_fit = omega (arith, reach-small);
    measured = refl;
    low_fits = s.judge_fits _ (end-fits _ (over_stages-some (line_addends blocks judge).least (length blocks - 0) (λ g h. omega (arith, ints)) (length blocks - 0) 0 (omega arith)) (least_small (line_addends blocks judge) 0 (omega arith)));
    high_fits = s.judge_fits _ (end-fits _ (over_stages-some (line_addends blocks judge).most (length blocks - 0) (λ g h. omega (arith, ints)) (length blocks - 0) 0 (omega arith)) (most_small (line_addends blocks judge) 0 (omega arith)));
  }

-- ---- rearrangements

abbrev pub page_pieces : Pieces
page_pieces = record { mass = λ g x. 1; added = λ g x. pos (page_sum 1 x) ∷ [] }

one-each : (rs : List (List ℕ)) → AllByRecursion (λ r. length (pos (page_sum 1 r) ∷ []) ≡ 1) rs
one-each [] = tt
one-each (r ∷ rs) = (refl, one-each rs)

page-parts : (blocks : List (List ℕ)) (judge : Judge) (rest : List (List ℕ)) (g : ℕ) → drop g blocks ≡ rest → AreParts (line_addends blocks judge) page_pieces g (map labellings rest)
page-parts blocks judge [] g e = tt
page-parts blocks judge (b ∷ rest) g e =
    let here = at-head blocks g b rest [] e in (
      record {
        same = λ f.
            sum_by-same (λ x. 1 * f (pos (page_sum 1 x) ∷ [])) (λ x. f (pos (page_sum 1 x) ∷ [])) (λ x. (let n : 1 * f (pos (page_sum 1 x) ∷ []) ≡ f (pos (page_sum 1 x) ∷ []) = omega arith in n)) (labellings b)
            ∙ sym (over-page b (λ v. f (v ∷ [])))
            ∙ sym (over-places (λ (l : Line). l.weight * f (l.value ∷ [])) (page_lines b))
            ∙ ap (λ counts. sum_by (λ c. (line_of counts c).weight * f ((line_of counts c).value ∷ [])) (places_from 0 (length (page_lines counts)))) (sym here.0);
        closed = λ sorted i f. absurd (cc sorted);
        wide = one-each (labellings b);
      },
      page-parts blocks judge rest (g + 1) here.1,
    )

pub page-stages : (blocks : List (List ℕ)) (judge : Judge) → AreParts (line_addends blocks judge) page_pieces 0 (map labellings blocks)
page-stages blocks judge = page-parts blocks judge blocks 0 refl

summed-page : (n k m g s : ℕ) (xs : List (List ℕ)) → AllAt (IsArranged n k) g xs → g + m ≡ n → summed (λ i x. pos (page_sum 1 x) ∷ []) g (pos s ∷ []) xs ≡ pos (s + page_sum 1 (treatment_sums k (cut k m (concat xs)))) ∷ []
summed-page n k m g s [] all e =
    let none : page_sum 1 (treatment_sums k (cut k m [])) ≡ 0 = ap (page_sum 1) (sums-none k m) ∙ page-zeros 1 k in
    let same : s ≡ s + page_sum 1 (treatment_sums k (cut k m [])) = omega (arith, none) in
    ap (λ t. pos t ∷ []) same
summed-page n k zero g s (x ∷ xs) all e = absurd (omega (arith, all.0.early, e))
summed-page n k (suc m) g s (x ∷ xs) all e =
    let one : pos s +ℤ pos (page_sum 1 x) ≡ pos (s + page_sum 1 x) = omega (arith, ints) in
    let front : page_sum 1 (treatment_sums k (cut k (suc m) (x ++ concat xs))) ≡ page_sum 1 x + page_sum 1 (treatment_sums k (cut k m (concat xs))) = ap (page_sum 1) (sums-front k m x (concat xs) all.0.long) ∙ page-added 1 x (treatment_sums k (cut k m (concat xs))) in
    let both : (s + page_sum 1 x) + page_sum 1 (treatment_sums k (cut k m (concat xs))) ≡ s + page_sum 1 (treatment_sums k (cut k (suc m) (x ++ concat xs))) = omega (arith, front) in
    ap (λ z. summed (λ i x. pos (page_sum 1 x) ∷ []) (g + 1) (z ∷ []) xs) one
    ∙ summed-page n k m (g + 1) (s + page_sum 1 x) xs all.1 (omega (arith, e))
    ∙ ap (λ t. pos t ∷ []) both

pub page-measured : (n k : ℕ) (xs : List (List ℕ)) → AllAt (IsArranged n k) 0 xs → pos (page_sum 1 (treatment_sums k (cut k n (concat xs)))) ≡ slice_index_or (summed (λ g x. pos (page_sum 1 x) ∷ []) 0 (pos 0 ∷ []) xs) 0 (pos 0)
page-measured n k xs all =
    let sums = summed-page n k n 0 0 xs all (omega arith) in
    let none : page_sum 1 (treatment_sums k (cut k n (concat xs))) ≡ 0 + page_sum 1 (treatment_sums k (cut k n (concat xs))) = omega arith in
    ap pos none ∙ sym (ap (λ zs. slice_index_or zs 0 (pos 0)) sums)

-- ---- steps through the places

pub first-place : (n : ℕ) (choice : List ℕ) → 1 ≤ n → length choice ≡ 1 → places_from 0 n ≡ set choice 0 0 ∷ places_from (slice_index (set choice 0 0) 0 + 1) (n - (slice_index (set choice 0 0) 0 + 1))
first-place n [] h e = absurd (omega arith)
first-place n (x ∷ y ∷ ys) h e = absurd (omega arith)
first-place zero (x ∷ []) h e = absurd (omega arith)
first-place (suc n) (x ∷ []) h e = (let rest : suc n - 1 ≡ n = omega arith in ap (λ m. (0 ∷ []) ∷ places_from 1 m) (sym rest))

pub next-place : (n : ℕ) (choice : List ℕ) → length choice ≡ 1 → slice_index choice 0 + 1 < n
    → places_from (slice_index choice 0 + 1) (n - (slice_index choice 0 + 1)) ≡ set choice 0 (slice_index choice 0 + 1) ∷ places_from (slice_index (set choice 0 (slice_index choice 0 + 1)) 0 + 1) (n - (slice_index (set choice 0 (slice_index choice 0 + 1)) 0 + 1))
next-place n [] e h = absurd (omega arith)
next-place n (x ∷ y ∷ ys) e h = absurd (omega arith)
next-place n (x ∷ []) e h = (let rest : n - (x + 1) ≡ suc (n - (x + 1 + 1)) = omega arith in ap (places_from (x + 1)) rest)

pub no-place : (n i : ℕ) → n ≤ i + 1 → places_from (i + 1) (n - (i + 1)) ≡ []
no-place n i h = (let none : n - (i + 1) ≡ 0 = omega arith in ap (places_from (i + 1)) none)
