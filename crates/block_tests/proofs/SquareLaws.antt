-- The network of squares is lawful, and its completions end at the squares of the treatments' sums.
use Rattle.std.proofs.Common.{◌≡◌, ℕ, zero, suc, ◌+◌, ◌*◌, ◌-◌, ◌<◌, ◌≤◌, List, [], ◌∷◌, length, drop, map, get_or, replicate, refl, sym, ◌∙◌, ap, subst, arith, inl, inr}
use Rattle.std.specs.Prelude.{ℤ, pos, ◌+ℤ◌, ◌≤ℤ◌, ◌^◌, min, nat_abs, slice_index}
use Rattle.std.specs.List.{All, AllByRecursion, concat, sum, sum_by}
use Rattle.std.proofs.Math.Nat.{mul-le-mul}
use Rattle.std.proofs.Math.Seq.{take-length}
use Rattle.std.proofs.lemmas.Bool.{cases_lt}
use Rattle.std.proofs.lemmas.Int.{ints}
use Rattle.std.proofs.lemmas.List.{get_or_past, length-map, length-replicate}
use Rattle.std.proofs.lemmas.List.Elements.{All-from_recursion}
use Rattle.std.proofs.lemmas.List.Sums.{sum_by-cons}
use Rattle.weights.specs.Labellings.{labellings}
use Rattle.weights.specs.declared.TheConstants.{MAX}
use Rattle.networks.specs.declared.verdicts.Judge.{Judge}
use Rattle.weights.proofs.Members.{IsLabelling}
use Rattle.weights.proofs.Sums.{sum_by-map, sum_by-one}
use Rattle.weights.proofs.Filters.{all_weaker}
use Rattle.networks.specs.declared.additive.CentredSquares.{CentredSquares}
use Rattle.networks.specs.Addends.{Addends, from_mean, from_zero, least_sum_to_come, most_sum_to_come, over_earlier, reach, square, stride, summed_ends}
use Rattle.networks.specs.PartialSums.{plus}
use Rattle.networks.specs.SoundAddends.{AddsBetween, IsAdditive, IsSquared}
use Rattle.networks.proofs.Flat.{AllAt}
use Rattle.networks.proofs.Parts.{AreStages as AreParts, Pieces, summed}
use Rattle.enumerate.proofs.JoinedMembers.{each-labelling}
use Rattle.rank_assignments.specs.BoundSteps.{IsSmall}
use Rattle.networks.specs.Distances.{correction_limit, far_square, farthest, near_square, nearest, squared, sum_limit}
use Rattle.networks.proofs.AdditiveKeys.{least_small, most_small}
use Rattle.networks.proofs.SquaredDistances.{mean-within, squares-rise}
use Rattle.block_tests.specs.BlockNetworks.{block_at, first_arrangement, greatest_block_cell, least_block_cell, square_addends}
use Rattle.block_tests.specs.BlockSteps.{AreSquares, AreStages, IsWhole, cells_sum}
use Rattle.block_tests.specs.BlockTests.{added, cut, square_sum, treatment_sums}
use Rattle.block_tests.proofs.Arranged.{between-ends, cells-swapped, first-labelling, sum_by-first}
use Rattle.block_tests.proofs.Different.{arrangements-different}
use Rattle.block_tests.proofs.Staged.{IsArranged, at-head, over-blocks, over-within, some-arrangement, total-fits, whole-at}
use Rattle.block_tests.proofs.TreatmentSums.{added-assoc, added-zeros, length-added, length-sums, sums-front, sums-none, zeros-added}

-- ---- one stage

pos-between : (a b : ℕ) (x : List ℕ) → AllByRecursion (λ z. (a ≤ z) × (z ≤ b)) x → AllByRecursion (λ z. (pos a ≤ℤ z) × (z ≤ℤ pos b)) (map pos x)
pos-between a b [] h = tt
pos-between a b (z ∷ x) h = ((omega (arith, ints, h.0.0), omega (arith, ints, h.0.1)), pos-between a b x h.1)

wide_between : (squares : CentredSquares) (k : ℕ) (blocks : List (List ℕ)) (judge : Judge) (g : ℕ) → All (IsWhole k) blocks → g < length blocks → AllByRecursion (AddsBetween (square_addends squares k blocks judge) g) (labellings (block_at blocks g))
wide_between squares k blocks judge g whole h =
    all_weaker (IsLabelling (block_at blocks g)) (AddsBetween (square_addends squares k blocks judge) g)
    (λ x l. record {
      wide = length-map x pos ∙ l.over.long ∙ (whole-at k blocks g whole h).treatments;
      between = pos-between (least_block_cell (block_at blocks g)) (greatest_block_cell (block_at blocks g)) x (between-ends (block_at blocks g) x l);
    }) (labellings (block_at blocks g)) (each-labelling (block_at blocks g))

-- a cell is at most 16
pub first-small : (counts : List ℕ) → length counts ≤ 17 → All (λ z. z ≤ 16) (first_arrangement counts)
first-small counts few i d h = (let l : get_or (first_arrangement counts) i d < length counts = All-from_recursion (λ z. z < length counts) (first_arrangement counts) (first-labelling counts).over.below i d h in omega (arith, l, few))

pub cell-small : (counts : List ℕ) (i : ℕ) → length counts ≤ 17 → slice_index (first_arrangement counts) i ≤ 16
cell-small counts i few = elim (cases_lt i (length (first_arrangement counts))) [
  | inl l ↦ first-small counts few i 0 l
  | inr l ↦ (let none : slice_index (first_arrangement counts) i ≡ 0 = get_or_past (first_arrangement counts) i 0 l in omega (arith, none))
]

stride-small : (squares : CentredSquares) (k : ℕ) (blocks : List (List ℕ)) (judge : Judge) → All (IsWhole k) blocks → (g : ℕ) → g < length blocks → stride (square_addends squares k blocks judge) g ≤ 16
stride-small squares k blocks judge whole g h =
    let few = (whole-at k blocks g whole h).few in
    let least : least_block_cell (block_at blocks g) ≤ 16 = cell-small (block_at blocks g) 0 few in
    let most : greatest_block_cell (block_at blocks g) ≤ 16 = cell-small (block_at blocks g) (length (first_arrangement (block_at blocks g)) - 1) few in
    omega (arith, least, most)

-- what is said of the ends of sums that are nothing yet
zeros-ends : (f : ℕ → ℕ → ℕ) (l h : ℤ) (n k : ℕ) → f (nat_abs (pos 0 +ℤ l)) (nat_abs (pos 0 +ℤ h)) ≤ n → summed_ends f l h (replicate k (pos 0)) ≤ k * n
zeros-ends f l h n zero e = omega arith
zeros-ends f l h n (suc k) e = omega (arith, sum_by-cons (λ z. f (nat_abs (z +ℤ l)) (nat_abs (z +ℤ h))) (pos 0) (replicate k (pos 0)), e, zeros-ends f l h n k e)

-- so the first interval is small
module _ (q beside k : ℕ) (l h : ℤ) (narrow : k ≤ 8) (centre : q ≤ sum_limit) (few : beside ≤ correction_limit) (low : nat_abs l + 0 ≤ 160000) (high : nat_abs h + 0 ≤ 160000) where
  low-here : nat_abs (pos 0 +ℤ l) ≤ 160000
  low-here = grind (arith, ints, low)

  high-here : nat_abs (pos 0 +ℤ h) ≤ 160000
  high-here = grind (arith, ints, high)

  ends-small : (f : ℕ → ℕ → ℕ) → f (nat_abs (pos 0 +ℤ l)) (nat_abs (pos 0 +ℤ h)) ≤ squared 33714432 → IsSmall (pos (beside + summed_ends f l h (replicate k (pos 0))))
  ends-small f e =
      let same : squared 33714432 ≤ squared 33714432 = omega arith in
      let all : k * squared 33714432 ≤ 8 * squared 33714432 = mul-le-mul narrow same in
      let top : beside + summed_ends f l h (replicate k (pos 0)) ≤ 2 ^ 60 = omega (arith, zeros-ends f l h (squared 33714432) k e, all, few) in
      (omega (arith, ints), omega (arith, ints, top))

  near-small : IsSmall (pos (beside + summed_ends (near_square q) l h (replicate k (pos 0))))
  near-small = ends-small (near_square q) (squares-rise (nearest q (nat_abs (pos 0 +ℤ l)) (nat_abs (pos 0 +ℤ h))) 33714432 (omega (arith, low-here, centre)))

  far-small : IsSmall (pos (beside + summed_ends (far_square q) l h (replicate k (pos 0))))
  far-small = ends-small (far_square q) (squares-rise (farthest q (nat_abs (pos 0 +ℤ l)) (nat_abs (pos 0 +ℤ h))) 33714432 (omega (arith, high-here, centre)))

least-small : (n b : ℕ) → IsSmall (pos n) → IsSmall (pos (min b n))
least-small n b h = (omega (arith, ints), (let k : min b n ≤ n = omega arith in omega (arith, ints, k, h.1)))

module _ (squares : CentredSquares) (k : ℕ) (blocks : List (List ℕ)) (judge : Judge) (s : AreStages k blocks judge) (r : AreSquares k blocks squares) where
  reach-small : reach (square_addends squares k blocks judge) ≤ 160000
  reach-small =
      let all : reach (square_addends squares k blocks judge) ≤ length blocks * 16 = over-within (stride (square_addends squares k blocks judge)) (length blocks) 16 (stride-small squares k blocks judge s.whole) in
      omega (arith, all, s.few)

  each_sum : ℕ → ℕ
  each_sum g = sum (first_arrangement (block_at blocks g))

  squared_sums : IsSquared (square_addends squares k blocks judge) squares
  unfolding each_sum
  squared_sums =
      let all : over_earlier (λ g. sum (first_arrangement (block_at blocks g))) (length blocks) ≡ cells_sum blocks = over-blocks (λ counts. sum (first_arrangement counts)) blocks (length blocks) (omega arith) ∙ ap (sum_by (λ counts. sum (first_arrangement counts))) (take-length blocks) in
      record {
        least_some = λ g h. omega (arith, ints);
        most_some = λ g h. omega (arith, ints);
        each = λ g. sum (first_arrangement (block_at blocks g));
        alike = λ g h. all_weaker (IsLabelling (block_at blocks g)) (λ x. sum_by nat_abs (map pos x) ≡ sum (first_arrangement (block_at blocks g))) (λ x l. sum_by-map nat_abs pos x ∙ sum_by-first (λ v. v) (block_at blocks g) x l) (labellings (block_at blocks g)) (each-labelling (block_at blocks g));
        bounded = rw all r.bounded;
        within = rw all r.within;
        beside_is = rw all r.beside_is;
        bound_fits = r.bound_fits;
        reach_small = omega (arith, reach-small);
        centre_small = r.centre_small;
        beside_small = r.beside_small;
      }

  pub square_additive : IsAdditive (square_addends squares k blocks judge)
  square_additive =
      let a : Addends = square_addends squares k blocks judge in
      let least : nat_abs (least_sum_to_come a 0) + 0 ≤ 160000 = omega (arith, least_small a 0 (omega arith), reach-small) in
      let most : nat_abs (most_sum_to_come a 0) + 0 ≤ 160000 = omega (arith, most_small a 0 (omega arith), reach-small) in
      record {
        slots_some = s.some;
        slots_few = omega (arith, s.narrow);
        some_choice = λ g h. some-arrangement (block_at blocks g);
        different = λ g h. arrangements-different (block_at blocks g);
        weighty = λ g c h m. omega arith;
        fits = total-fits (square_addends squares k blocks judge) blocks (λ g h. sum_by-one (labellings (block_at blocks g))) s.ways_fit;
        between = λ g h. wide_between squares k blocks judge g s.whole h;
        sums_fit = omega (arith, reach-small);
        measured = squared_sums;
        low_fits = s.judge_fits _ (near-small squares.centre squares.beside k (least_sum_to_come a 0) (most_sum_to_come a 0) s.narrow r.centre_small r.beside_small least most);
        high_fits = s.judge_fits _ (least-small _ squares.bound (far-small squares.centre squares.beside k (least_sum_to_come a 0) (most_sum_to_come a 0) s.narrow r.centre_small r.beside_small least most));
      }

-- ---- what tells the squares

pub squares-from-zero : (k bound : ℕ) (blocks : List (List ℕ)) → squared (cells_sum blocks) ≤ bound → bound ≤ MAX → AreSquares k blocks (from_zero bound)
squares-from-zero k bound blocks h fits = record {
  bounded = h;
  within = omega arith;
  beside_is = omega arith;
  bound_fits = fits;
  centre_small = omega arith;
  beside_small = omega arith;
}

pub squares-from-mean : (k bound : ℕ) (blocks : List (List ℕ)) (x : CentredSquares) → x ≡ from_mean k (cells_sum blocks) bound → squared (cells_sum blocks) ≤ bound → bound ≤ MAX → x.centre ≤ sum_limit → x.beside ≤ correction_limit → AreSquares k blocks x
squares-from-mean k bound blocks x same h fits centre beside =
    subst (AreSquares k blocks) (sym same) (record {
      bounded = h;
      within = mean-within k (cells_sum blocks);
      beside_is = refl;
      bound_fits = fits;
      centre_small = subst (λ (y : CentredSquares). y.centre ≤ sum_limit) same centre;
      beside_small = subst (λ (y : CentredSquares). y.beside ≤ correction_limit) same beside;
    })

-- ---- rearrangements

abbrev pub square_pieces : Pieces
square_pieces = record { mass = λ g x. 1; added = λ g x. map pos x }

pub stage-parts : (squares : CentredSquares) (k : ℕ) (blocks : List (List ℕ)) (judge : Judge) → All (IsWhole k) blocks → (rest : List (List ℕ)) (g : ℕ) → drop g blocks ≡ rest → AreParts (square_addends squares k blocks judge) square_pieces g (map labellings rest)
stage-parts squares k blocks judge whole [] g e = tt
stage-parts squares k blocks judge whole (b ∷ rest) g e =
    let here = at-head blocks g b rest [] e in
    let own : IsWhole k b = subst (IsWhole k) here.0 (whole-at k blocks g whole here.2) in (
      record {
        same = λ f. ap (λ counts. sum_by (λ x. 1 * f (map pos x)) (labellings counts)) (sym here.0);
        closed = λ sorted i f. cells-swapped b i (λ v. 1 * f v);
        wide = all_weaker (IsLabelling b) (λ x. length (map pos x) ≡ k) (λ x l. length-map x pos ∙ l.over.long ∙ own.treatments) (labellings b) (each-labelling b);
      },
      stage-parts squares k blocks judge whole rest (g + 1) here.1,
    )

pub plus-pos : (xs ys : List ℕ) → length xs ≡ length ys → plus (map pos xs) (map pos ys) ≡ map pos (added xs ys)
plus-pos [] [] e = refl
plus-pos [] (y ∷ ys) e = absurd (omega arith)
plus-pos (x ∷ xs) [] e = absurd (omega arith)
plus-pos (x ∷ xs) (y ∷ ys) e = (let first : pos x +ℤ pos y ≡ pos (x + y) = omega (arith, ints) in rw (first, plus-pos xs ys (omega arith)) refl)

summed-is : (n k m g : ℕ) (key : List ℕ) (xs : List (List ℕ)) → AllAt (IsArranged n k) g xs → g + m ≡ n → length key ≡ k → summed (λ i x. map pos x) g (map pos key) xs ≡ map pos (added key (treatment_sums k (cut k m (concat xs))))
summed-is n k m g key [] all e long = ap (map pos) (sym (ap (added key) (sums-none k m) ∙ added-zeros k key long))
summed-is n k zero g key (x ∷ xs) all e long = absurd (omega (arith, all.0.early, e))
summed-is n k (suc m) g key (x ∷ xs) all e long =
    ap (λ zs. summed (λ i x. map pos x) (g + 1) zs xs) (plus-pos key x (long ∙ sym all.0.long))
    ∙ summed-is n k m (g + 1) (added key x) xs all.1 (omega (arith, e)) (length-added k key x (omega (arith, long)) all.0.long)
    ∙ ap (map pos) (added-assoc key x (treatment_sums k (cut k m (concat xs))) ∙ ap (added key) (sym (sums-front k m x (concat xs) all.0.long)))

squares-pos : (xs : List ℕ) → sum_by square (map pos xs) ≡ square_sum xs
squares-pos xs = sum_by-map square pos xs

zeros-pos : (k : ℕ) → replicate k (pos 0) ≡ map pos (replicate k 0)
zeros-pos zero = refl
zeros-pos (suc k) = ap (λ zs. pos 0 ∷ zs) (zeros-pos k)

pub squares-measured : (n k : ℕ) (xs : List (List ℕ)) → AllAt (IsArranged n k) 0 xs → pos (square_sum (treatment_sums k (cut k n (concat xs)))) ≡ pos (sum_by square (summed (λ g x. map pos x) 0 (replicate k (pos 0)) xs))
squares-measured n k xs all =
    ap pos (sym (ap (sum_by square) (ap (λ zs. summed (λ g x. map pos x) 0 zs xs) (zeros-pos k) ∙ summed-is n k n 0 (replicate k 0) xs all (omega arith) (length-replicate k 0) ∙ ap (map pos) (zeros-added k (treatment_sums k (cut k n (concat xs))) (length-sums k n (concat xs))))
    ∙ squares-pos (treatment_sums k (cut k n (concat xs)))))

pub square-stages : (squares : CentredSquares) (k : ℕ) (blocks : List (List ℕ)) (judge : Judge) → All (IsWhole k) blocks → AreParts (square_addends squares k blocks judge) square_pieces 0 (map labellings blocks)
square-stages squares k blocks judge whole = stage-parts squares k blocks judge whole blocks 0 refl
