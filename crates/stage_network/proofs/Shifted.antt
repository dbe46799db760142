-- A row that an arc shifts.
use Rattle.std.proofs.Common.{◌≡◌, ◌≢◌, ℕ, zero, suc, ◌+◌, ◌-◌, ◌*◌, ◌<◌, ◌≤◌, List, [], ◌∷◌, ◌++◌, length, take, drop, get_or, refl, sym, ◌∙◌, ap, subst, arith}
use Rattle.std.specs.Prelude.{ℤ, ◌+ℤ◌}
use Rattle.std.specs.List.{Contains, AllByRecursion, sum}
use Rattle.std.proofs.lemmas.Int.{ints}
use Rattle.std.proofs.lemmas.List.Sums.{sum_by-cons}
use Rattle.node_pool.specs.Nodes.{Node, node, weighted}
use Rattle.count_arrays.specs.Rows.{row_nodes}
use Rattle.count_arrays.proofs.RowSums.{positive, weighted-row, row_sum-one}
use Rattle.networks.specs.Network.{Network, IsReached}
use Rattle.stage_network.specs.NodeSteps.{AreNodes}
use Rattle.stage_network.specs.ArcSteps.{Arc, AllFine, IsFine, bucket, chosen, lift, segment, spread_out}
use Rattle.stage_network.proofs.Roomwise.{all_at, all_segment, fill-step}
use Rattle.stage_network.proofs.OneArc.{no_arc, place_below, place_is}
use Rattle.stage_network.proofs.Stepping.{reached_at}
use Rattle.stage_network.specs.declared.row_heads.Shift.{Shift}
use Rattle.stage_network.specs.RowSteps.{Row, IsShift, AreShifts, all_nodes, moved}

-- the summed weight of a row's cells
pub row-weight : (lowest stride : ℤ) (cells : List ℕ) → weighted (λ k. 1) (row_nodes lowest stride cells) ≡ sum cells
row-weight lowest stride cells = weighted-row (λ k. 1) lowest stride cells ∙ row_sum-one lowest stride cells

-- what is known of a node that an arc starts from
abbrev pub Starts : Network → ℕ → List ℕ → ℕ → Node → Type 0
Starts n g c weight a = IsReached n g a.key × Contains (n.choices g a.key) c × (n.weight g a.key c ≡ weight)

module _ (n : Network) (g width weight : ℕ) (room : List ℤ) (c : List ℕ) (step : ℤ) (moves : (p : ℤ) → IsReached n g (room ++ p ∷ []) → Contains (n.choices g (room ++ p ∷ [])) c → drop width (n.next g (room ++ p ∷ []) c) ≡ (p +ℤ step) ∷ []) (f : List ℤ → ℕ) where
  turned : (l s : ℤ) (cells : List ℕ) → weighted f (row_nodes ((l +ℤ s) +ℤ step) s cells) ≡ weighted f (row_nodes ((l +ℤ step) +ℤ s) s cells)
  turned l s cells = ap (λ z. weighted f (row_nodes z s cells)) (let e : (l +ℤ s) +ℤ step ≡ (l +ℤ step) +ℤ s = omega (arith, ints) in e)

  pub moved-row : (l s : ℤ) (cells : List ℕ) → AllByRecursion (Starts n g c weight) (lift room (row_nodes l s cells)) → weighted (λ k. f (drop width k)) (chosen n g c (lift room (row_nodes l s cells))) ≡ weighted f (row_nodes (l +ℤ step) s cells) * weight
  moved-row l s [] a = omega arith
  moved-row l s (zero ∷ cells) a = moved-row (l +ℤ s) s cells a ∙ ap (λ m. m * weight) (turned l s cells)
  moved-row l s (suc d ∷ cells) a = rw (positive d) (by (moved-row (l +ℤ s) s cells) (rw (positive d) at a))
    where
      by : (AllByRecursion (Starts n g c weight) (lift room (row_nodes (l +ℤ s) s cells)) → weighted (λ k. f (drop width k)) (chosen n g c (lift room (row_nodes (l +ℤ s) s cells))) ≡ weighted f (row_nodes ((l +ℤ s) +ℤ step) s cells) * weight) → AllByRecursion (Starts n g c weight) (lift room (node (l ∷ []) (suc d) ∷ row_nodes (l +ℤ s) s cells)) → weighted (λ k. f (drop width k)) (chosen n g c (lift room (node (l ∷ []) (suc d) ∷ row_nodes (l +ℤ s) s cells))) ≡ weighted f (node ((l +ℤ step) ∷ []) (suc d) ∷ row_nodes ((l +ℤ step) +ℤ s) s cells) * weight
      by next a =
          let k = room ++ l ∷ [] in
          let here : f (drop width (n.next g k c)) ≡ f ((l +ℤ step) ∷ []) = ap f (moves l a.0.0 a.0.1) in
          let all = sum_by-cons (λ (b : Node). b.weight * f (drop width b.key)) (node (n.next g k c) (suc d * n.weight g k c)) (chosen n g c (lift room (row_nodes (l +ℤ s) s cells))) in
          all ∙ ap (λ m. m + weighted (λ k. f (drop width k)) (chosen n g c (lift room (row_nodes (l +ℤ s) s cells)))) (rw (here, a.0.2) (turn (suc d) weight (f ((l +ℤ step) ∷ []))))
          ∙ ap (λ m. (suc d * f ((l +ℤ step) ∷ [])) * weight + m) ((next a.1) ∙ ap (λ m. m * weight) (turned l s cells))
          ∙ sym (spread (suc d * f ((l +ℤ step) ∷ [])) (weighted f (row_nodes ((l +ℤ step) +ℤ s) s cells)) weight)
          ∙ ap (λ m. m * weight) (sym (sum_by-cons (λ (b : Node). b.weight * f b.key) (node ((l +ℤ step) ∷ []) (suc d)) (row_nodes ((l +ℤ step) +ℤ s) s cells)))
        where
          turn : (a w y : ℕ) → (a * w) * y ≡ (a * y) * w
          turn a w y = grind arith

          spread : (a b w : ℕ) → (a + b) * w ≡ a * w + b * w
          spread a b w = grind arith

-- an arc, by its row
pub shifted : (n : Network) (g width : ℕ) (rows : List Row) (rooms : List Node) (w : Arc) (s : Shift) (d : Row) → AreNodes n g (all_nodes rows) → IsFine n g width (all_nodes rows) rooms w → IsShift n g width rows w s → (f : List ℤ → ℕ) → weighted (λ k. f (drop width k)) (chosen n g w.choice (segment w.start w.end (all_nodes rows))) ≡ weighted f (moved (get_or rows s.row d) s.step) * w.weight
shifted n g width rows rooms w s d are fine shift f =
    let row = get_or rows s.row d in
    let all : AllByRecursion (Starts n g w.choice w.weight) (segment w.start w.end (all_nodes rows)) = all_segment (Starts n g w.choice w.weight) w.start w.end (all_nodes rows) (λ i e h j. (reached_at n g (all_nodes rows) i e are.reached (omega (arith, j, fine.chosen.last)), fine.chosen.allowed i e h j, fine.chosen.weighs i e h j)) in
    ap (λ ns. weighted (λ k. f (drop width k)) (chosen n g w.choice ns)) (shift.is d)
    ∙ moved-row n g width w.weight row.room w.choice s.step (shift.moves d) f row.lowest row.stride row.cells (subst (AllByRecursion (Starts n g w.choice w.weight)) (shift.is d) all)

-- the last of the arcs to a room, before a place, by its row
module _ (n : Network) (g width : ℕ) (rows : List Row) (rooms : List Node) (arcs : List Arc) (shifts : List Shift) (are : AreNodes n g (all_nodes rows)) (fine : AllFine n g width (all_nodes rows) rooms arcs) (shift : AreShifts n g width rows arcs shifts) (t place : ℕ) (some : place ≢ 0) (within : place ≤ length arcs) (here : (i : ℕ) (d : Arc) → place ≡ suc i → (get_or arcs i d).target ≡ t) (s : Shift) (same : s ≡ get_or shifts (place - 1) s) where
  arc-shift : IsShift n g width rows (get_or arcs (place - 1) no_arc) s
  arc-shift = subst (IsShift n g width rows (get_or arcs (place - 1) no_arc)) (sym same) (shift.all (place - 1) no_arc s (place_below place (length arcs) some within))

  pub shift-low : s.row < length rows
  shift-low = arc-shift.low

  pub shift-more : (weight : ℕ) → weight ≡ (get_or arcs (place - 1) no_arc).weight → (d : Row) (f : List ℤ → ℕ) → weighted (λ k. f (drop width k)) (spread_out n g (all_nodes rows) (bucket t (take place arcs))) ≡ weighted (λ k. f (drop width k)) (spread_out n g (all_nodes rows) (bucket t (take (place - 1) arcs))) + weighted f (moved (get_or rows s.row d) s.step) * weight
  shift-more weight is d f =
      let i = place - 1 in
      let nodes = all_nodes rows in
      let low : i < length arcs = place_below place (length arcs) some within in
      let arc = shifted n g width rows rooms (get_or arcs i no_arc) s d are (all_at (IsFine n g width nodes rooms) arcs i no_arc fine low) arc-shift f in
      fill-step n g nodes (λ k. f (drop width k)) t arcs i place no_arc low (here i no_arc (place_is place some)) (place_is place some ∙ omega arith)
      ∙ ap (λ m. weighted (λ k. f (drop width k)) (spread_out n g nodes (bucket t (take i arcs))) + m) (arc ∙ ap (λ m. weighted f (moved (get_or rows s.row d) s.step) * m) (sym is))

-- one cell alone has any stride
pub one-cell : (l s t : ℤ) (cells : List ℕ) → length cells ≡ 1 → row_nodes l s cells ≡ row_nodes l t cells
one-cell l s t [] e = refl
one-cell l s t (c ∷ []) e = refl
one-cell l s t (c ∷ d ∷ cells) e = absurd (omega (arith, e))
