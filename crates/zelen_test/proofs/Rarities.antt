-- How many labellings with the observed sum give the same first cells as a labelling, and products of the weights of first cells: the product of the first cells' weights.
use Rattle.std.proofs.Common.{◌≡◌, ℕ, zero, suc, ◌+◌, ◌-◌, ◌*◌, ◌<◌, ◌≤◌, cond, Bool, true, false, ◌&&◌, List, [], ◌∷◌, length, drop, take, nat_eq, eq-eqb, inl, inr, refl, sym, ◌∙◌, ap, arith, map, subst, ◌⊎◌, mul_assoc}
use Rattle.std.specs.Prelude.{Contains, ⊤, min}
use Rattle.std.specs.Cmp.Lexicographic.{pointwise, same_text}
use Rattle.std.specs.List.{sum, sum_by}
use Rattle.std.proofs.lemmas.Bool.{cases_lt}
use Rattle.weights.proofs.CellSums.{zeros_in}
use Rattle.weights.proofs.Chosen.{one_if}
use Rattle.weights.proofs.Ranges.{range-none, range-one}
use Rattle.weights.proofs.Sums.{sum_by-filter, sum_by-same, sum_by-zero}
use Rattle.enumerate.proofs.JoinedMembers.{parts-of}
use Rattle.strata_cells.specs.declared.stratum.Stratum.{Stratum}
use Rattle.strata_cells.specs.Strata.{cell_weight, cells_in, cells_of, cells_weight, stratum_cell, first_cells, first_column, greatest_cell, least_cell, row_counts, size, strata_labellings, stratum_at}
use Rattle.strata_cells.proofs.CellLaws.{by-cells, cell_lists, over-step, over_cells}
use Rattle.strata_cells.proofs.FirstCells.{cells-meet, cells-same, cells-sum, rows-sum, row_labellings, left-within, right-within, weight-some}
use Rattle.networks.proofs.Elements.{term-le-sum_by}
use Rattle.strata_cells.proofs.StrataSums.{next-drop}
use Rattle.zelen_test.specs.Zelen.{has_sum, observed_strata_labels, rarity}
use Rattle.std.proofs.Math.Nat.{mul-le-mul}
use Rattle.std.proofs.lemmas.List.{drop_min}
use Rattle.zelen_test.proofs.LabellingsWithSum.{over-none}
use Rattle.zelen_test.specs.ZelenMade.{own_cells}

-- first cells that labellings of the strata give
abbrev pub AreCells : List Stratum → List ℕ → Type 0
AreCells [] [] = ⊤
AreCells [] (c ∷ cells) = ⊥
AreCells (s ∷ strata) [] = ⊥
AreCells (s ∷ strata) (c ∷ cells) = (least_cell s ≤ c) × (c ≤ greatest_cell s) × AreCells strata cells

pub cells-long : (strata : List Stratum) (cells : List ℕ) → AreCells strata cells → length cells ≡ length strata
cells-long [] [] a = refl
cells-long [] (c ∷ cells) a = absurd a
cells-long (s ∷ strata) [] a = absurd a
cells-long (s ∷ strata) (c ∷ cells) a = ap suc (cells-long strata cells a.2)

cells-some : (strata : List Stratum) (cells : List ℕ) → AreCells strata cells → 1 ≤ cells_weight strata cells
cells-some [] [] a = omega arith
cells-some [] (c ∷ cells) a = absurd a
cells-some (s ∷ strata) [] a = absurd a
cells-some (s ∷ strata) (c ∷ cells) a = mul-le-mul (weight-some s c a.0 a.1) (cells-some strata cells a.2)

times-cond : (a : ℕ) (b : Bool) (n : ℕ) → a * cond b n 0 ≡ cond b (a * n) 0
times-cond a true n = refl
times-cond a false n = omega arith

-- these first cells alone
over-one : (strata : List Stratum) (cells : List ℕ) → AreCells strata cells → over_cells strata (λ others. one_if (pointwise nat_eq cells others)) ≡ cells_weight strata cells
over-one [] [] a = over-none (λ others. one_if (pointwise nat_eq [] others))
over-one [] (c ∷ cells) a = absurd a
over-one (s ∷ strata) [] a = absurd a
over-one (s ∷ strata) (c ∷ cells) a =
    let g : ℕ → ℕ = λ x. cell_weight s x * cells_weight strata cells in
    over-step s strata (λ others. one_if (pointwise nat_eq (c ∷ cells) others))
    ∙ sum_by-same (λ x. cell_weight s x * over_cells strata (λ others. one_if (nat_eq c x && pointwise nat_eq cells others))) (λ x. cond (nat_eq c x) (g x) 0) (λ x. ap (λ n. cell_weight s x * n) (inner (over-one strata cells a.2) (nat_eq c x)) ∙ times-cond (cell_weight s x) (nat_eq c x) (cells_weight strata cells)) (cells_in s)
    ∙ range-one g c (least_cell s) (greatest_cell s + 1 - least_cell s) a.0 (omega (arith, a.0, a.1))
  where
    inner : over_cells strata (λ others. one_if (pointwise nat_eq cells others)) ≡ cells_weight strata cells → (b : Bool) → over_cells strata (λ others. one_if (b && pointwise nat_eq cells others)) ≡ cond b (cells_weight strata cells) 0
    inner later true = later
    inner later false = sum_by-same (λ others. cells_weight strata others * 0) (λ others. 0) (λ others. omega arith) (cell_lists strata) ∙ sum_by-zero (cell_lists strata)

-- a labelling gives such first cells
cell-in : (s : Stratum) (x : List ℕ) → Contains (row_labellings s) x → (least_cell s ≤ stratum_cell s x) × (stratum_cell s x ≤ greatest_cell s)
cell-in s x m =
    let f : ℕ → ℕ = λ y. one_if (nat_eq (stratum_cell s x) y) in
    let one : f (stratum_cell s x) ≡ 1 = ap one_if (eq-eqb (stratum_cell s x) (stratum_cell s x) refl) in
    let some : 1 ≤ sum_by (λ y. cell_weight s y * f y) (cells_in s) = omega (arith, term-le-sum_by (λ r. f (stratum_cell s r)) (row_labellings s) x m, one, cells-same s f) in
    elim (cases_lt (stratum_cell s x) (least_cell s)) [
      | inl few ↦ absurd (omega (arith, some, none f (inl few)))
      | inr least ↦ elim (cases_lt (greatest_cell s) (stratum_cell s x)) [
        | inl many ↦ absurd (omega (arith, some, none f (inr (omega (arith, many, cells-meet s)))))
        | inr most ↦ (omega (arith, least), omega (arith, most))
      ]
    ]
  where
    none : (f : ℕ → ℕ) → (stratum_cell s x < least_cell s) ⊎ (least_cell s + (greatest_cell s + 1 - least_cell s) ≤ stratum_cell s x) → sum_by (λ y. cell_weight s y * one_if (nat_eq (stratum_cell s x) y)) (cells_in s) ≡ 0
    none f out =
        sum_by-same (λ y. cell_weight s y * one_if (nat_eq (stratum_cell s x) y)) (λ y. cond (nat_eq (stratum_cell s x) y) (cell_weight s y * 1) 0) (λ y. times-cond (cell_weight s y) (nat_eq (stratum_cell s x) y) 1) (cells_in s)
        ∙ range-none (λ y. cell_weight s y * 1) (stratum_cell s x) (least_cell s) (greatest_cell s + 1 - least_cell s) out

front-cell : (s : Stratum) (r : List ℕ) → size s ≤ length r → stratum_cell s (take (size s) r) ≡ stratum_cell s r
front-cell s r h = ap zeros_in (take-front (first_column s) (size s) r (omega arith))
  where
    take-front : (m n : ℕ) (xs : List ℕ) → m ≤ n → take m (take n xs) ≡ take m xs
    take-front zero n xs h = refl
    take-front (suc m) zero xs h = absurd (omega (arith, h))
    take-front (suc m) (suc n) [] h = refl
    take-front (suc m) (suc n) (x ∷ xs) h = ap (λ ys. x ∷ ys) (take-front m n xs (omega (arith, h)))

pub member-cells : (strata : List Stratum) (r : List ℕ) → Contains (strata_labellings strata) r → AreCells strata (cells_of strata r)
member-cells [] r m = tt
member-cells (s ∷ strata) r m =
    let p = parts-of (row_counts s) (map row_counts strata) r m in
    let long : sum (row_counts s) ≡ size s = rows-sum s in
    let front = cell-in s (take (size s) r) (subst (λ n. Contains (row_labellings s) (take n r)) long p.front) in
    let same = front-cell s r (omega (arith, p.long, long)) in
    (omega (arith, front.0, same), omega (arith, front.1, same), member-cells strata (drop (size s) r) (subst (λ n. Contains (strata_labellings strata) (drop n r)) long p.rest))

module _ (strata : List Stratum) (labels : List ℕ) where
  abbrev cells : List ℕ
  cells = cells_of strata labels

  abbrev given : ℕ
  given = first_cells strata (observed_strata_labels strata)

  -- the same first cells have the same sum
  same-sum : first_cells strata labels ≡ given → (other : List ℕ) (b : Bool) → pointwise nat_eq cells (cells_of strata other) ≡ b → cond (has_sum strata given other) (one_if b) 0 ≡ one_if b
  same-sum made other false e = by (has_sum strata given other)
    where
      by : (b : Bool) → ◌≡◌ {A = ℕ} (cond b 0 0) 0
      by true = refl
      by false = refl
  same-sum made other true e =
      let same : cells ≡ cells_of strata other = same_text cells (cells_of strata other) (sym e) in
      let summed : first_cells strata other ≡ given = cells-sum strata other ∙ ap sum (sym same) ∙ sym (cells-sum strata labels) ∙ made in
      ap (λ b. cond b 1 0) (eq-eqb (first_cells strata other) given summed)

  pub rarity-by : AreCells strata cells → first_cells strata labels ≡ given → rarity strata labels ≡ cells_weight strata cells
  rarity-by a made =
      sum_by-filter (λ other. one_if (pointwise nat_eq cells (cells_of strata other))) (has_sum strata given) (strata_labellings strata)
      ∙ sum_by-same (λ other. cond (has_sum strata given other) (one_if (pointwise nat_eq cells (cells_of strata other))) 0) (λ other. one_if (pointwise nat_eq cells (cells_of strata other))) (λ other. same-sum made other (pointwise nat_eq cells (cells_of strata other)) refl) (strata_labellings strata)
      ∙ by-cells strata (λ others. one_if (pointwise nat_eq cells others))
      ∙ over-one strata cells a

  pub rarity-is : Contains (strata_labellings strata) labels → first_cells strata labels ≡ given → rarity strata labels ≡ cells_weight strata cells
  rarity-is m made = rarity-by (member-cells strata labels m) made

-- the product of the weights before stratum i, and the cells from it on
pub record IsWeighing (strata : List Stratum) (all i product : ℕ) (cells : List ℕ) : Type 0 where
  pub are : AreCells (drop i strata) cells
  pub some : 1 ≤ product
  pub weighing : product * cells_weight (drop i strata) cells ≡ all

pub weigh-first : (strata : List Stratum) (cells : List ℕ) → AreCells strata cells → IsWeighing strata (cells_weight strata cells) 0 1 cells
weigh-first strata cells a = record { are = a; some = omega arith; weighing = omega arith }

-- what is known of the cell of stratum i: it can be had, its weight and the product with it are
-- within the whole, and the product goes on with it
pub record IsNextCell (strata : List Stratum) (all i product x : ℕ) (later : List ℕ) : Type 0 where
  pub least : least_cell (stratum_at strata i) ≤ x
  pub most : x ≤ greatest_cell (stratum_at strata i)
  pub weight : cell_weight (stratum_at strata i) x ≤ all
  pub within : product * cell_weight (stratum_at strata i) x ≤ all
  pub next : IsWeighing strata all (i + 1) (product * cell_weight (stratum_at strata i) x) later

module _ (strata : List Stratum) (all i product x : ℕ) (later : List ℕ) (h : i < length strata) (w : IsWeighing strata all i product (x ∷ later)) where
  abbrev s : Stratum
  s = stratum_at strata i

  abbrev after : List Stratum
  after = drop (i + 1) strata

  here : AreCells (stratum_at strata i ∷ drop (i + 1) strata) (x ∷ later)
  here = subst (λ ts. AreCells ts (x ∷ later)) (next-drop strata i h) w.are

  step : product * (cell_weight s x * cells_weight after later) ≡ all
  step = subst (λ ts. product * cells_weight ts (x ∷ later) ≡ all) (next-drop strata i h) w.weighing

  weight : 1 ≤ cell_weight s x
  weight = weight-some s x here.0 here.1

  product-within : product * cell_weight s x ≤ all
  product-within = omega (arith, left-within (product * cell_weight s x) (cells_weight after later) (cells-some after later here.2), mul_assoc product (cell_weight s x) (cells_weight after later), step)

  next-cell : IsNextCell strata all i product x later
  next-cell = record {
    least = here.0;
    most = here.1;
    weight = omega (arith, right-within product (cell_weight s x) w.some, product-within);
    within = product-within;
    next = record {
      are = here.2;
      some = mul-le-mul w.some weight;
      weighing = mul_assoc product (cell_weight s x) (cells_weight after later) ∙ step;
    };
  }

-- ---- the cells that are left

pub next-own : {strata : List Stratum} {all i product : ℕ} → i < length strata → IsWeighing strata all i product (own_cells (drop i strata)) → IsNextCell strata all i product (stratum_at strata i).a (own_cells (drop (i + 1) strata))
next-own {strata} {all} {i} {product} h w = next-cell strata all i product _ _ h (subst (IsWeighing strata all i product) (ap own_cells (next-drop strata i h)) w)

labels-step : (strata : List Stratum) (i : ℕ) (later : List ℕ) → i < length strata
    → cells_of (drop i strata) later ≡ stratum_cell (stratum_at strata i) later ∷ cells_of (drop (i + 1) strata) (drop (min (length later) (size (stratum_at strata i))) later)
labels-step strata i later h =
    let least : min (length later) (size (stratum_at strata i)) ≡ min (size (stratum_at strata i)) (length later) = omega arith in
    let rest : drop (min (length later) (size (stratum_at strata i))) later ≡ drop (size (stratum_at strata i)) later = ap (λ n. drop n later) least ∙ drop_min (size (stratum_at strata i)) later in
    ap (λ ts. cells_of ts later) (next-drop strata i h) ∙ ap (λ (l : List ℕ). stratum_cell (stratum_at strata i) later ∷ cells_of (drop (i + 1) strata) l) (sym rest)

pub next-labels : {strata : List Stratum} {all i product : ℕ} (later : List ℕ) → i < length strata → IsWeighing strata all i product (cells_of (drop i strata) later)
    → IsNextCell strata all i product (stratum_cell (stratum_at strata i) later) (cells_of (drop (i + 1) strata) (drop (min (length later) (size (stratum_at strata i))) later))
next-labels {strata} {all} {i} {product} later h w = next-cell strata all i product _ _ h (subst (IsWeighing strata all i product) (labels-step strata i later h) w)
