use Rattle.std.proofs.Common.{◌≡◌, ◌+◌, ◌-◌, ℕ, List, length, map, take, drop, get_or, ap, sym, ◌∙◌, arith}
use Rattle.std.proofs.lemmas.List.{take_all, length-drop, length-map, drop-map, get_or-drop}
use Rattle.count_arrays.specs.Rows.{row_nodes, stepped}
use Rattle.stage_network.proofs.Stretches.{front-empty}
use Rattle.stage_network.proofs.row_settling.next_full.Goals as goal

behind : {X : Type 0} (number : X → ℕ) (cells : List X) (from : ℕ) → map number (take (length cells - from) (drop from cells)) ≡ drop from (map number cells)
behind number cells from = ap (map number) (take_all (length cells - from) (drop from cells) (omega (arith, length-drop from cells))) ∙ sym (drop-map number from cells)

pub returns-clause-full : goal.returns-clause-full
returns-clause-full g c = λ h.
    let cells = c.args.cells.now in
    let from = c.args.from in
    let r = c.first_full.result in
    let at : get_or (map g.C.Count.number (take (length cells - from) (drop from cells))) r 0 ≡ get_or (map g.C.Count.number cells) (from + r) 0 = ap (λ ws. get_or ws r 0) (behind g.C.Count.number cells from) ∙ get_or-drop from (map g.C.Count.number cells) r 0 in
    omega (arith, c.first_full.ensures.full (omega (arith, h, ap length (take_all (length cells - from) (drop from cells) (omega (arith, length-drop from cells))) ∙ length-drop from cells, c.requires)), at)

pub returns-clause-empty : goal.returns-clause-empty
returns-clause-empty g c = λ lowest stride.
    let cells = c.args.cells.now in
    let xs = map g.C.Count.number cells in
    let from = c.args.from in
    let r = c.first_full.result in
    let long : length (take (length cells - from) (drop from cells)) ≡ length cells - from = ap length (take_all (length cells - from) (drop from cells) (omega (arith, length-drop from cells))) ∙ length-drop from cells in
    let told : row_nodes lowest stride (drop from xs) ≡ row_nodes (stepped lowest stride r) stride (drop r (drop from xs)) = rw (behind g.C.Count.number cells from) at (c.first_full.ensures.empty lowest stride) in
    let same : (from + r) - from ≡ r = omega arith in
    ap (λ m. row_nodes lowest stride (take m (drop from xs))) same
    ∙ front-empty lowest stride (drop from xs) r (omega (arith, length-drop from xs, length-map cells g.C.Count.number, c.first_full.ensures.within, long, c.requires)) told
