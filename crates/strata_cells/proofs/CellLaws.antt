-- Sums over the labellings of strata, by the first cells that they give.
use Rattle.std.proofs.Common.{◌≡◌, ℕ, ◌*◌, List, [], ◌∷◌, ◌++◌, length, drop, take, map, refl, sym, ◌∙◌, ap, arith, mul_assoc}
use Rattle.std.specs.List.{sum_by}
use Rattle.std.proofs.Math.Seq.{drop-append_seam}
use Rattle.std.proofs.lemmas.List.{take-append-le}
use Rattle.std.proofs.lemmas.List.Sums.{sum_by-cons}
use Rattle.weights.specs.Labellings.{product}
use Rattle.weights.proofs.Sums.{sum_by-fronts, sum_by-same, sum_by-same_where, sum_by-scaled}
use Rattle.enumerate.proofs.JoinedMembers.{over_joined}
use Rattle.strata_cells.specs.declared.stratum.Stratum.{Stratum}
use Rattle.strata_cells.specs.Strata.{cell_weight, cells_in, cells_of, cells_weight, stratum_cell, first_column, row_counts, size, strata_labellings}
use Rattle.strata_cells.proofs.FirstCells.{IsRowed, cells-same, each-rowed, row_labellings}

-- the lists of one first cell for each stratum
abbrev pub cell_lists : List Stratum → List (List ℕ)
cell_lists strata = product (map cells_in strata)

-- the first cells of a stratum's labels, and those of the next
pub cells_of-joined : (s : Stratum) (strata : List Stratum) (x ys : List ℕ) → length x ≡ size s → cells_of (s ∷ strata) (x ++ ys) ≡ stratum_cell s x ∷ cells_of strata ys
cells_of-joined s strata x ys long =
    let column : take (first_column s) (x ++ ys) ≡ take (first_column s) x = take-append-le (first_column s) x ys (omega (arith, long)) in
    let rest : drop (size s) (x ++ ys) ≡ ys = ap (λ n. drop n (x ++ ys)) (sym long) ∙ drop-append_seam x ys in
    rw (column, rest) refl

-- ---- over lists of first cells

abbrev pub over_cells : List Stratum → (List ℕ → ℕ) → ℕ
over_cells strata f = sum_by (λ cells. cells_weight strata cells * f cells) (cell_lists strata)

pub over-step : (s : Stratum) (strata : List Stratum) (f : List ℕ → ℕ) → over_cells (s ∷ strata) f ≡ sum_by (λ x. cell_weight s x * over_cells strata (λ cells. f (x ∷ cells))) (cells_in s)
over-step s strata f =
    sum_by-fronts (λ cells. cells_weight (s ∷ strata) cells * f cells) (λ x. x) (λ x. cell_lists strata) (cells_in s)
    ∙ sum_by-same _ (λ x. cell_weight s x * over_cells strata (λ cells. f (x ∷ cells))) (λ x.
    sum_by-same (λ cells. cell_weight s x * cells_weight strata cells * f (x ∷ cells)) (λ cells. cell_weight s x * (cells_weight strata cells * f (x ∷ cells))) (λ cells. mul_assoc (cell_weight s x) (cells_weight strata cells) (f (x ∷ cells))) (cell_lists strata)
    ∙ sum_by-scaled (cell_weight s x) (λ cells. cells_weight strata cells * f (x ∷ cells)) (cell_lists strata)) (cells_in s)

module _ (s : Stratum) (strata : List Stratum) (f : List ℕ → ℕ) where
  -- what the others add with a first cell of the first stratum
  abbrev others : ℕ → ℕ
  others x = over_cells strata (λ cells. f (x ∷ cells))

  with-first : ((g : List ℕ → ℕ) → sum_by (λ r. g (cells_of strata r)) (strata_labellings strata) ≡ over_cells strata g) → sum_by (λ r. f (cells_of (s ∷ strata) r)) (strata_labellings (s ∷ strata)) ≡ over_cells (s ∷ strata) f
  with-first again =
      over_joined (row_counts s) (map row_counts strata) (λ r. f (cells_of (s ∷ strata) r))
      ∙ sum_by-same_where (IsRowed s) (λ x. sum_by (λ ys. f (cells_of (s ∷ strata) (x ++ ys))) (strata_labellings strata)) (λ x. others (stratum_cell s x)) one (row_labellings s) (each-rowed s)
      ∙ cells-same s others
      ∙ sym (over-step s strata f)
    where
      one : (x : List ℕ) → IsRowed s x → sum_by (λ ys. f (cells_of (s ∷ strata) (x ++ ys))) (strata_labellings strata) ≡ others (stratum_cell s x)
      one x r = sum_by-same (λ ys. f (cells_of (s ∷ strata) (x ++ ys))) (λ ys. f (stratum_cell s x ∷ cells_of strata ys)) (λ ys. ap f (cells_of-joined s strata x ys r.long)) (strata_labellings strata) ∙ again (λ cells. f (stratum_cell s x ∷ cells))

-- of any number that the first cells determine, summed over the labellings: each list of first cells counts as often as labellings give it
pub by-cells : (strata : List Stratum) (f : List ℕ → ℕ) → sum_by (λ r. f (cells_of strata r)) (strata_labellings strata) ≡ over_cells strata f
by-cells [] f = sum_by-cons (λ r. f (cells_of [] r)) [] [] ∙ omega arith ∙ sym (sum_by-cons (λ cells. cells_weight [] cells * f cells) [] [])
by-cells (s ∷ strata) f = with-first s strata f (by-cells strata)
