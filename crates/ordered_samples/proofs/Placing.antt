-- Subjects placed column by column, and sizes that are taken away in place.
use Rattle.std.proofs.Common.{◌≡◌, ℕ, zero, suc, ◌+◌, ◌*◌, ◌<◌, ◌≤◌, List, [], ◌∷◌, length, get_or, set, take, drop, true, refl, sym, ◌∙◌, ap, arith, add-one, drop-cons}
use Rattle.std.specs.List.{sum}
use Rattle.std.proofs.lemmas.List.{length-drop}
use Rattle.std.proofs.lemmas.List.Sums.{sum_by-drop_more}
use Rattle.weights.specs.Grouped.{fits, minus}
use Rattle.weights.specs.Labellings.{counts_of}
use Rattle.label_network.proofs.Narrowing.{fits-self, minus-within}
use Rattle.ordered_samples.specs.declared.used_pairs.UsedPair.{UsedPair}
use Rattle.ordered_samples.specs.PairCounts.{column_points, open_points, sure_points}
use Rattle.ordered_samples.specs.Umbrella.{subject_pairs}
use Rattle.ordered_samples.specs.UmbrellaSteps.{points_from}
use Rattle.ordered_samples.proofs.PairPoints.{open-is, points-fall, sure-first}
use Rattle.ordered_samples.proofs.PairValues.{counts-left}

-- ---- one place of a list is written

pub first-of_drop : (xs : List ℕ) (i : ℕ) → get_or (drop i xs) 0 0 ≡ get_or xs i 0
first-of_drop [] zero = refl
first-of_drop [] (suc i) = refl
first-of_drop (x ∷ xs) zero = refl
first-of_drop (x ∷ xs) (suc i) = first-of_drop xs i

-- two lists that are the same from place i on
pub same-at : (xs ys : List ℕ) (i : ℕ) → drop i xs ≡ drop i ys → get_or xs i 0 ≡ get_or ys i 0
same-at xs ys i e = sym (first-of_drop xs i) ∙ ap (λ zs. get_or zs 0 0) e ∙ first-of_drop ys i

drop-one_more : (xs : List ℕ) (i : ℕ) → drop (i + 1) xs ≡ drop 1 (drop i xs)
drop-one_more xs i = rw add-one (by xs i)
  where
    by : (xs : List ℕ) (i : ℕ) → drop (suc i) xs ≡ drop 1 (drop i xs)
    by [] zero = refl
    by [] (suc i) = refl
    by (x ∷ xs) zero = refl
    by (x ∷ xs) (suc i) = by xs i

drop-set : (xs : List ℕ) (i x : ℕ) → drop (i + 1) (set xs i x) ≡ drop (i + 1) xs
drop-set xs i x = rw add-one (by xs i)
  where
    by : (xs : List ℕ) (i : ℕ) → drop (suc i) (set xs i x) ≡ drop (suc i) xs
    by [] i = refl
    by (y ∷ ys) zero = refl
    by (y ∷ ys) (suc i) = by ys i

pub same-later : (xs ys : List ℕ) (i x : ℕ) → drop i xs ≡ drop i ys → drop (i + 1) (set xs i x) ≡ drop (i + 1) ys
same-later xs ys i x e = drop-set xs i x ∙ drop-one_more xs i ∙ ap (drop 1) e ∙ sym (drop-one_more ys i)

-- ---- columns

-- the subjects of the columns before g are placed
pub record IsPlacing (qs : List UsedPair) (rows columns labels initial : List ℕ) (g : ℕ) (left later : List ℕ) (sum_so_far : ℕ) : Type 0 where
  pub counted : counts_of (length rows) later ≡ left
  pub within : fits left rows ≡ true
  pub long : length later ≡ sum (drop g columns)
  pub small : sum_so_far ≤ g * 19200000000
  pub adding : sum_so_far + points_from qs rows left (drop g columns) later ≡ points_from qs rows initial columns labels

module _ (qs : List UsedPair) (rows columns labels initial : List ℕ) (g : ℕ) (left later : List ℕ) (s : ℕ) (before : g < length columns) (k : IsPlacing qs rows columns labels initial g left later s) where
  pub column-fits : fits (counts_of (length rows) (take (get_or columns g 0) later)) left ≡ true
  column-fits = (counts-left (length rows) (get_or columns g 0) later left k.counted).0

  pub placing-next : (front back next : List ℕ) (p : ℕ) → front ≡ take (get_or columns g 0) later → back ≡ drop (get_or columns g 0) later → next ≡ minus left (counts_of (length rows) front) → p ≡ column_points qs rows left (counts_of (length rows) front) → p ≤ 19200000000
      → IsPlacing qs rows columns labels initial (g + 1) next back (s + p)
  placing-next front back next p e f n q few =
      let part = counts-left (length rows) (get_or columns g 0) later left k.counted in
      let taken : counts_of (length rows) front ≡ counts_of (length rows) (take (get_or columns g 0) later) = ap (counts_of (length rows)) e in
      let parts : drop g columns ≡ get_or columns g 0 ∷ drop (g + 1) columns = rw add-one (drop-cons columns g 0 before) in
      let now : next ≡ minus left (counts_of (length rows) (take (get_or columns g 0) later)) = n ∙ ap (minus left) taken in
      record {
        counted = ap (counts_of (length rows)) f ∙ sym part.1 ∙ sym now;
        within = rw now (minus-within left (counts_of (length rows) (take (get_or columns g 0) later)) rows part.0 k.within);
        long = omega (arith, ap length f, length-drop (get_or columns g 0) later, k.long, sum_by-drop_more (λ v. v) columns g 0 before);
        small = omega (arith, k.small, few);
        adding = rw (now, f) (omega (arith, k.adding, (ap (λ cs. points_from qs rows left cs later) parts), (q ∙ ap (column_points qs rows left) taken)));
      }

-- ---- no more than all pairs add

module _ (qs : List UsedPair) (rows : List ℕ) where
  points-within : (cs r xs : List ℕ) → counts_of (length rows) xs ≡ r → fits r rows ≡ true → points_from qs rows r cs xs ≤ sure_points qs rows r + open_points qs r
  points-within [] r xs e f = omega arith
  points-within (c ∷ cs) r xs e f =
      let x : List ℕ = counts_of (length rows) (take c xs) in
      let part = counts-left (length rows) c xs r e in
      omega (arith, points-fall rows r x f part.0 qs, points-within cs (minus r x) (drop c xs) (sym part.1) (minus-within r x rows part.0 f))

  pub points-bounded : (columns xs : List ℕ) → counts_of (length rows) xs ≡ rows → points_from qs rows rows columns xs ≤ 2 * subject_pairs qs rows
  points-bounded columns xs e = omega (arith, points-within columns rows xs e (fits-self rows), sure-first qs rows, open-is qs rows)
