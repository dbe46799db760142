-- First cells: the law of one stratum, and what the labels of several give.
use Rattle.std.proofs.Common.{◌≡◌, ℕ, zero, suc, ◌+◌, ◌-◌, ◌*◌, ◌<◌, ◌≤◌, cond, nat_eq, List, [], ◌∷◌, ◌++◌, length, length-append, length-take, drop, take, map, replicate, refl, sym, ◌∙◌, ap, arith}
use Rattle.std.specs.Prelude.{Contains, slice_index}
use Rattle.std.specs.List.{AllByRecursion, concat, range_with_len, sum, sum_by}
use Rattle.std.proofs.Math.Nat.{mul-le-mul, mul-le-mul_left, mul-le-mul_right}
use Rattle.std.proofs.Math.Seq.{drop-append_seam, take-append_seam}
use Rattle.std.proofs.lemmas.List.{length-replicate, take-append-le}
use Rattle.std.proofs.lemmas.List.Sums.{count_by-le-length, sum_by-append, sum_by-cons, sum_by-take-drop, sum_by-take-le}
use Rattle.weights.specs.Labellings.{labellings}
use Rattle.weights.specs.Numbers.{binomial}
use Rattle.weights.proofs.Binomials.{binomial-positive}
use Rattle.weights.proofs.CellSums.{by_cells, divided, zeros_in}
use Rattle.weights.proofs.Filters.{all_weaker}
use Rattle.weights.proofs.Members.{labelling_from}
use Rattle.weights.proofs.Sums.{sum_by-one, sum_by-same}
use Rattle.enumerate.proofs.JoinedMembers.{none-joined, own, parts-of}
use Rattle.strata_cells.specs.declared.stratum.Stratum.{Stratum}
use Rattle.strata_cells.specs.Strata.{cell_weight, cells_in, cells_of, stratum_cell, first_cells, first_column, first_row, greatest_cell, least_cell, own_labels, row_counts, second_row, size, strata_labellings, stratum_at}
use Rattle.strata_cells.specs.StrataLimits.{labelled}
use Rattle.strata_cells.proofs.StrataSums.{next-drop}

-- ---- one stratum

-- all ways to label a stratum's subjects, in the order of its columns, by its rows
abbrev pub row_labellings : Stratum → List (List ℕ)
row_labellings s = labellings (row_counts s)

pub cells-meet : (s : Stratum) → least_cell s ≤ greatest_cell s
cells-meet s = omega arith

pub cells-same : (s : Stratum) (f : ℕ → ℕ) → sum_by (λ x. f (stratum_cell s x)) (row_labellings s) ≡ sum_by (λ x. cell_weight s x * f x) (cells_in s)
cells-same s f =
    let c : ℕ = first_column s in
    let k : ℕ = size s - first_column s in
    let n : ℕ = first_row s in
    let all : c + k ≡ n + second_row s = omega arith in
    let low : n - k ≡ least_cell s = omega arith in
    by_cells c k n (second_row s) f all
    ∙ ap (λ l. sum_by (λ x. cell_weight s x * f x) (range_with_len l (greatest_cell s + 1 - l))) low

-- so many labellings in all
pub cells-total : (s : Stratum) → sum_by (cell_weight s) (cells_in s) ≡ labelled s
cells-total s = sum_by-same (cell_weight s) (λ x. cell_weight s x * 1) (λ x. omega arith) (cells_in s) ∙ sym (cells-same s (λ x. 1)) ∙ sum_by-one (row_labellings s)

-- a factor is within a product of numbers that are not 0
pub left-within : (a b : ℕ) → 1 ≤ b → a ≤ a * b
left-within a b h = let more : a * 1 ≤ a * b = mul-le-mul_left a h in omega (arith, more)

pub right-within : (a b : ℕ) → 1 ≤ a → b ≤ a * b
right-within a b h = let more : 1 * b ≤ a * b = mul-le-mul_right b h in omega (arith, more)

pub record AreWays (s : Stratum) (x : ℕ) : Type 0 where
  pub cell : x ≤ first_row s
  pub column : 1 ≤ binomial (first_column s) x
  pub others : 1 ≤ binomial (size s - first_column s) (first_row s - x)

-- there are ways to fill a stratum with a first cell
pub are-ways : (s : Stratum) (x : ℕ) → least_cell s ≤ x → x ≤ greatest_cell s → AreWays s x
are-ways s x l h = record {
  cell = omega (arith, h);
  column = binomial-positive (first_column s) x (omega (arith, h));
  others = binomial-positive (size s - first_column s) (first_row s - x) (omega (arith, l));
}

pub weight-some : (s : Stratum) (x : ℕ) → least_cell s ≤ x → x ≤ greatest_cell s → 1 ≤ cell_weight s x
weight-some s x l h = let ways = are-ways s x l h in mul-le-mul ways.column ways.others

-- one of a range's terms is within their sum
pub term-within : (f : ℕ → ℕ) (low high x : ℕ) → low ≤ x → x ≤ high → f x ≤ sum_by f (range_with_len low (high + 1 - low))
term-within f low high x l h =
    let before : ℕ = x - low in
    let after : ℕ = high - x in
    let long : high + 1 - low ≡ before + (1 + after) = omega (arith, l, h) in
    let at : low + before ≡ x = omega (arith, l) in
    let cut : sum_by f (range_with_len low (before + (1 + after))) ≡ sum_by f (range_with_len low before) + sum_by f (range_with_len (low + before) (1 + after)) = divided f low before (1 + after) in
    let here : sum_by f (range_with_len x (1 + after)) ≡ sum_by f (range_with_len x 1) + sum_by f (range_with_len (x + 1) after) = divided f x 1 after in
    let one : sum_by f (range_with_len x 1) ≡ f x = sum_by-cons f x [] ∙ omega arith in
    rw long (omega (arith, rw at at cut, here, one))

-- ---- labels of a stratum

-- a labelling has a label for each subject, and the first row's is as frequent as that row is long
pub record IsRowed (s : Stratum) (x : List ℕ) : Type 0 where
  pub long : length x ≡ size s
  pub zeros : zeros_in x ≡ first_row s

pub rowed : (s : Stratum) (x : List ℕ) → Contains (row_labellings s) x → IsRowed s x
rowed s x m =
    let l = labelling_from (row_counts s) x m in
    record {
      long = l.over.long ∙ omega (arith, sum_by-cons (λ v. v) (first_row s) (second_row s ∷ []), sum_by-cons (λ v. v) (second_row s) []);
      zeros = ap (λ ys. slice_index ys 0) l.counted;
    }

pub each-rowed : (s : Stratum) → AllByRecursion (IsRowed s) (row_labellings s)
each-rowed s = all_weaker (Contains (row_labellings s)) (IsRowed s) (rowed s) (row_labellings s) (own (row_labellings s))

pub rows-sum : (s : Stratum) → sum (row_counts s) ≡ size s
rows-sum s = omega (arith, sum_by-cons (λ v. v) (first_row s) (second_row s ∷ []), sum_by-cons (λ v. v) (second_row s) [])

-- ---- labels of several strata

take-none : (n : ℕ) → take {A = ℕ} n [] ≡ []
take-none zero = refl
take-none (suc n) = refl

drop-none : (n : ℕ) → drop {A = ℕ} n [] ≡ []
drop-none zero = refl
drop-none (suc n) = refl

pub no-labels : (ts : List Stratum) → first_cells ts [] ≡ 0
no-labels [] = refl
no-labels (t ∷ ts) = rw (take-none (first_column t), drop-none (size t)) (omega (arith, no-labels ts))

-- the cells of a stratum's labels, and those of the next
pub cells-joined : (t : Stratum) (ts : List Stratum) (x ys : List ℕ) → length x ≡ size t → first_cells (t ∷ ts) (x ++ ys) ≡ stratum_cell t x + first_cells ts ys
cells-joined t ts x ys long =
    let column : take (first_column t) (x ++ ys) ≡ take (first_column t) x = take-append-le (first_column t) x ys (omega (arith, long)) in
    let rest : drop (size t) (x ++ ys) ≡ ys = ap (λ n. drop n (x ++ ys)) (sym long) ∙ drop-append_seam x ys in
    rw (column, rest) refl

-- a first cell has at most the first row's labels
pub cell-zeros : (t : Stratum) (x : List ℕ) → stratum_cell t x ≤ zeros_in x
cell-zeros t x = sum_by-take-le (λ l. cond (nat_eq l 0) 1 0) x (first_column t)

pub zeros-joined : (x ys : List ℕ) → zeros_in (x ++ ys) ≡ zeros_in x + zeros_in ys
zeros-joined x ys = sum_by-append (λ l. cond (nat_eq l 0) 1 0) x ys

pub cell-within : (s : Stratum) (labels : List ℕ) → stratum_cell s labels ≤ size s
cell-within s labels = omega (arith, count_by-le-length (λ l. nat_eq l 0) (take (first_column s) labels), length-take (first_column s) labels)

pub cells-within : (strata : List Stratum) (labels : List ℕ) → first_cells strata labels ≤ sum_by size strata
cells-within [] labels = omega arith
cells-within (s ∷ strata) labels = omega (arith, cell-within s labels, cells-within strata (drop (size s) labels), sum_by-cons size s strata)

zeros-all : (n : ℕ) → zeros_in (replicate n 0) ≡ n
zeros-all zero = refl
zeros-all (suc n) = omega (arith, zeros-all n, sum_by-cons (λ l. cond (nat_eq l 0) 1 0) 0 (replicate n 0))

zeros-none : (n : ℕ) → zeros_in (replicate n 1) ≡ 0
zeros-none zero = refl
zeros-none (suc n) = omega (arith, zeros-none n, sum_by-cons (λ l. cond (nat_eq l 0) 1 0) 1 (replicate n 1))

pub own-long : (s : Stratum) → length (own_labels s) ≡ size s
own-long s =
    let column : List ℕ = replicate s.a 0 ++ replicate s.c 1 in
    let others : List ℕ = replicate s.b 0 ++ replicate s.d 1 in
    omega (
      arith,
      length-append {A = ℕ} column others,
      length-append {A = ℕ} (replicate s.a 0) (replicate s.c 1),
      length-append {A = ℕ} (replicate s.b 0) (replicate s.d 1),
      length-replicate {A = ℕ} s.a 0,
      length-replicate {A = ℕ} s.c 1,
      length-replicate {A = ℕ} s.b 0,
      length-replicate {A = ℕ} s.d 1,
    )

pub own-cell : (s : Stratum) → stratum_cell s (own_labels s) ≡ s.a
own-cell s =
    let column : List ℕ = replicate s.a 0 ++ replicate s.c 1 in
    let others : List ℕ = replicate s.b 0 ++ replicate s.d 1 in
    let long : length column ≡ first_column s = omega (arith, length-append {A = ℕ} (replicate s.a 0) (replicate s.c 1), length-replicate {A = ℕ} s.a 0, length-replicate {A = ℕ} s.c 1) in
    let front : take (first_column s) (own_labels s) ≡ column = ap (λ n. take n (column ++ others)) (sym long) ∙ take-append_seam column others in
    ap zeros_in front ∙ sum_by-append (λ l. cond (nat_eq l 0) 1 0) (replicate s.a 0) (replicate s.c 1) ∙ omega (arith, zeros-all s.a, zeros-none s.c)

pub own-cells : (strata : List Stratum) → first_cells strata (concat (map own_labels strata)) ≡ sum_by (λ (s : Stratum). s.a) strata
own-cells [] = refl
own-cells (s ∷ strata) = cells-joined s strata (own_labels s) (concat (map own_labels strata)) (own-long s) ∙ omega (arith, own-cell s, own-cells strata, sum_by-cons (λ (s : Stratum). s.a) s strata)

-- the lengths of the parts of a member
pub sizes-are : (strata : List Stratum) → map sum (map row_counts strata) ≡ map size strata
sizes-are [] = refl
sizes-are (s ∷ strata) = rw (rows-sum s, sizes-are strata) refl

-- how many labels of a member are those of first rows
pub member-zeros : (strata : List Stratum) (r : List ℕ) → Contains (strata_labellings strata) r → zeros_in r ≡ sum_by first_row strata
member-zeros [] r m = ap zeros_in (none-joined r m)
member-zeros (s ∷ strata) r m =
    let p = parts-of (row_counts s) (map row_counts strata) r m in
    let split : zeros_in (take (sum (row_counts s)) r) + zeros_in (drop (sum (row_counts s)) r) ≡ zeros_in r = sum_by-take-drop (λ l. cond (nat_eq l 0) 1 0) r (sum (row_counts s)) in
    omega (arith, split, (rowed s (take (sum (row_counts s)) r) p.front).zeros, member-zeros strata (drop (sum (row_counts s)) r) p.rest, sum_by-cons first_row s strata)

pub cells-sum : (strata : List Stratum) (labels : List ℕ) → first_cells strata labels ≡ sum (cells_of strata labels)
cells-sum [] labels = refl
cells-sum (s ∷ strata) labels = omega (arith, cells-sum strata (drop (size s) labels), sum_by-cons (λ v. v) (stratum_cell s labels) (cells_of strata (drop (size s) labels)))

-- first cells so far
pub record IsCounted (strata : List Stratum) (labels : List ℕ) (i sum : ℕ) (later : List ℕ) : Type 0 where
  pub counting : sum + first_cells (drop i strata) later ≡ first_cells strata labels

module _ (strata : List Stratum) (labels : List ℕ) where
  module _ (i sum : ℕ) (later : List ℕ) (h : i < length strata) (s : IsCounted strata labels i sum later) where
    step : first_cells (drop i strata) later ≡ stratum_cell (stratum_at strata i) later + first_cells (drop (i + 1) strata) (drop (size (stratum_at strata i)) later)
    step = rw (next-drop strata i h) refl

    pub count-room : sum + stratum_cell (stratum_at strata i) later ≤ sum_by size strata
    count-room = omega (arith, s.counting, step, cells-within strata labels)
