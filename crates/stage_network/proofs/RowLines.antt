-- The nodes of rows, cell by cell and row by row.
use Rattle.std.proofs.Common.{◌≡◌, ℕ, zero, suc, ◌+◌, ◌<◌, List, [], ◌∷◌, ◌++◌, length, take, map, replicate, get_or, refl, sym, ◌∙◌, ap, arith, append-nil, append_assoc}
use Rattle.std.specs.Prelude.{ℤ}
use Rattle.std.proofs.lemmas.List.{length-take-le}
use Rattle.node_pool.specs.Nodes.{Node, node}
use Rattle.count_arrays.specs.Rows.{row_nodes, stepped}
use Rattle.count_arrays.proofs.RowNodes.{row-parts}
use Rattle.stage_network.specs.ArcSteps.{lift}
use Rattle.stage_network.specs.RowSteps.{Row, all_nodes, row_whole}
use Rattle.stage_network.proofs.OpenKeys.{map-append}

-- empty cells
pub map-replicate : {X : Type 0} (number : X → ℕ) (m : ℕ) (x : X) → number x ≡ 0 → map number (replicate m x) ≡ replicate m 0
map-replicate number zero x e = refl
map-replicate number (suc m) x e = rw (e, map-replicate number m x e) refl

-- one element more
take-one : (xs : List ℕ) (i : ℕ) → i < length xs → take (i + 1) xs ≡ take i xs ++ get_or xs i 0 ∷ []
take-one [] i h = absurd (omega (arith, h))
take-one (x ∷ xs) zero h = refl
take-one (x ∷ xs) (suc i) h =
    let e : suc i + 1 ≡ suc (i + 1) = omega arith in
    rw e (ap (λ ys. x ∷ ys) (take-one xs i (omega (arith, h))))

-- one cell more
pub cells-more : (r : List ℤ) (lowest stride : ℤ) (xs : List ℕ) (i : ℕ) → i < length xs → (old was now : List Node) (room : List ℤ) (x : ℕ) → room ≡ r → x ≡ get_or xs i 0 → was ≡ old ++ lift r (row_nodes lowest stride (take i xs)) → now ≡ was ++ lift room (row_nodes (stepped lowest stride i) stride (x ∷ [])) → now ≡ old ++ lift r (row_nodes lowest stride (take (i + 1) xs))
cells-more r lowest stride xs i low old was now room x same is before more =
    let here = row_nodes (stepped lowest stride i) stride (get_or xs i 0 ∷ []) in
    more ∙ ap (λ q. was ++ lift q (row_nodes (stepped lowest stride i) stride (x ∷ []))) same
    ∙ ap (λ m. was ++ lift r (row_nodes (stepped lowest stride i) stride (m ∷ []))) is
    ∙ ap (λ ns. ns ++ lift r here) before
    ∙ append_assoc old (lift r (row_nodes lowest stride (take i xs))) (lift r here)
    ∙ ap (λ ns. old ++ ns)
    (sym (map-append (λ (a : Node). node (r ++ a.key) a.weight) (row_nodes lowest stride (take i xs)) here)
    ∙ ap (lift r) (ap (λ m. row_nodes lowest stride (take i xs) ++ row_nodes (stepped lowest stride m) stride (get_or xs i 0 ∷ [])) (sym (length-take-le i xs (omega (arith, low))))
    ∙ sym (row-parts lowest stride (take i xs) (get_or xs i 0 ∷ [])) ∙ ap (row_nodes lowest stride) (sym (take-one xs i low))))

-- one row more
pub rows-more : (rows : List Row) (i : ℕ) (d : Row) → i < length rows → all_nodes (take (i + 1) rows) ≡ all_nodes (take i rows) ++ row_whole (get_or rows i d)
rows-more [] i d h = absurd (omega (arith, h))
rows-more (r ∷ rows) zero d h = append-nil (row_whole r)
rows-more (r ∷ rows) (suc i) d h =
    let e : suc i + 1 ≡ suc (i + 1) = omega arith in
    rw e (ap (λ ns. row_whole r ++ ns) (rows-more rows i d (omega (arith, h))) ∙ sym (append_assoc (row_whole r) (all_nodes (take i rows)) (row_whole (get_or rows i d))))
