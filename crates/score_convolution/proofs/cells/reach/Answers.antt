use Rattle.std.proofs.Common.{◌≡◌, ◌++◌, ◌-◌, ℕ, zero, suc, map, replicate, refl, ◌∙◌, ap, arith}
use Rattle.std.specs.Vec.{vec_len}
use Rattle.std.proofs.lemmas.List.{map-append, take_all}
use Rattle.node_pool.specs.Nodes.{weighted}
use Rattle.count_arrays.specs.Rows.{row_nodes}
use Rattle.score_convolution.proofs.RowSteps.{longer}
use Rattle.score_convolution.proofs.cells.reach.Goals as goal

nothing : {X : Type 0} (number : X → ℕ) (m : ℕ) (x : X) → number x ≡ 0 → map number (replicate m x) ≡ replicate m 0
nothing number zero x e = refl
nothing number (suc m) x e = rw (e, nothing number m x e) refl

pub returns-in_ok-resize-clause-same : goal.returns-in_ok-resize-clause-same
returns-in_ok-resize-clause-same g c = λ f lowest stride.
    let num = g.C.Count.number in
    let was = c.args.cells.now.items in
    let more : ℕ = c.args.end - vec_len c.args.cells.now in
    let all = take_all c.args.end was (omega (arith, c.if-len-end.true, c.len.ensures, c.args.cells.now.ok.0)) in
    ap (λ xs. weighted f (row_nodes lowest stride (map num xs))) (c.in_ok-resize.ensures.items ∙ ap (λ xs. xs ++ replicate more c.cell_of-none.result) all)
    ∙ ap (λ xs. weighted f (row_nodes lowest stride xs)) (map-append num was (replicate more c.cell_of-none.result) ∙ ap (λ xs. map num was ++ xs) (nothing num more c.cell_of-none.result c.cell_of-none.ensures))
    ∙ longer f lowest stride (map num was) more
