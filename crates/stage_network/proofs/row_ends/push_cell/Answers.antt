use Rattle.std.proofs.Common.{◌≡◌, ◌≢◌, ℕ, zero, suc, ◌++◌, ◌∷◌, List, [], ap, sym, ◌∙◌, refl, rules, append-nil}
use Rattle.std.specs.Prelude.{ℤ, pos}
use Rattle.std.proofs.lemmas.Int.{to_z-of_z}
use mir.Syntax.{w128}
use Rattle.node_pool.specs.Nodes.{node}
use Rattle.count_arrays.specs.Rows.{row_nodes, stepped}
use Rattle.count_arrays.proofs.RowSums.{positive}
use Rattle.stage_network.specs.ArcSteps.{lift}
use Rattle.stage_network.proofs.row_ends.push_cell.Goals as goal

no_node : (r : List ℤ) (z s : ℤ) (m : ℕ) → m ≡ 0 → lift r (row_nodes z s (m ∷ [])) ≡ []
no_node r z s m e = rw e refl

one_node : (r : List ℤ) (z s : ℤ) (m : ℕ) → m ≢ 0 → lift r (row_nodes z s (m ∷ [])) ≡ node (r ++ z ∷ []) m ∷ []
one_node r z s zero h = absurd (h refl)
one_node r z s (suc m) h = rw (positive m) refl

pub returns-then-value-eq0-clause-nodes : goal.returns-then-value-eq0-clause-nodes
returns-then-value-eq0-clause-nodes g c =
    let s = pos c.args.stride in
    sym (append-nil c.args.nodes.now.nodes)
    ∙ ap (λ ns. c.args.nodes.now.nodes ++ ns) (sym (no_node c.args.nodes.now.room (stepped c.args.lowest s c.args.i) s (g.C.Count.number c.args.cell) (sym c.value.ensures.value ∙ c.if-value-eq0.true)))

pub returns-clause-nodes : goal.returns-clause-nodes
returns-clause-nodes g c =
    let s = pos c.args.stride in
    let z = stepped c.args.lowest s c.args.i in
    let num = g.C.Count.number c.args.cell in
    let key : c.as_slice.result.now ≡ z ∷ [] = c.as_slice.ensures ∙ ap (λ x. x ∷ []) (to_z-of_z w128 c.in_ok-number.number (search rules) ∙ (rw (to_z-of_z w128 c.args.lowest c.ranges.lowest) at c.in_ok-number.ensures)) in
    c.in_ok-push.ensures.nodes
    ∙ ap (λ k. c.args.nodes.now.nodes ++ node (c.args.nodes.now.room ++ k) num ∷ []) key
    ∙ ap (λ ns. c.args.nodes.now.nodes ++ ns) (sym (one_node c.args.nodes.now.room z s num (λ e. c.if-value-eq0.false (c.value.ensures.value ∙ e))))
