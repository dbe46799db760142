use Rattle.std.proofs.Common.{◌≡◌, ◌+◌, ◌<◌, length, get_or, set, ap, sym, ◌∙◌, rules, FitsSigned, to_z, of_z}
use Rattle.std.specs.Prelude.{pos}
use mir.Syntax.{w128}
use Rattle.std.proofs.lemmas.Int.{to_z-of_z}
use Rattle.std.proofs.lemmas.List.{get_or-set_same, get_or_read}
use Rattle.node_pool.specs.PoolSteps.{weight_of}
use Rattle.node_pool.proofs.pool.raise.Goals as goal

pub raised-requires : goal.raised-requires
raised-requires g c =
    let low : c.args.place < length c.args.cells.now.items = rw c.args.cells.now.ok.0 at c.requires.within in
    let f : FitsSigned w128 c.index.result.now = search rules in
    let read : to_z w128 (of_z w128 c.index.result.now) ≡ get_or c.args.cells.now.items c.args.place (pos 0) = to_z-of_z w128 c.index.result.now f ∙ get_or_read c.args.cells.now.items c.args.place c.index.result.now low c.index.ensures (pos 0) in
    record { fits = rw read c.requires.fits }

pub returns-clause-cells : goal.returns-clause-cells
returns-clause-cells g c =
    let low : c.args.place < length c.args.cells.now.items = rw c.args.cells.now.ok.0 at c.requires.within in
    ap (set c.args.cells.now.items c.args.place) (sym (get_or-set_same c.args.cells.now.items c.args.place (to_z w128 (of_z w128 c.raised.result)) (pos 0) low))

pub returns-clause-weight : goal.returns-clause-weight
returns-clause-weight g c =
    let low : c.args.place < length c.args.cells.now.items = rw c.args.cells.now.ok.0 at c.requires.within in
    let f : FitsSigned w128 c.index.result.now = search rules in
    let s : FitsSigned w128 c.raised.result = search rules in
    let read : to_z w128 (of_z w128 c.index.result.now) ≡ get_or c.args.cells.now.items c.args.place (pos 0) = to_z-of_z w128 c.index.result.now f ∙ get_or_read c.args.cells.now.items c.args.place c.index.result.now low c.index.ensures (pos 0) in
    ap weight_of (get_or-set_same c.args.cells.now.items c.args.place (to_z w128 (of_z w128 c.raised.result)) (pos 0) low ∙ to_z-of_z w128 c.raised.result s) ∙ c.raised.ensures ∙ ap (λ z. weight_of z + g.C.Count.number c.args.weight) read
