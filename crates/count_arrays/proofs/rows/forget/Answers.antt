use Rattle.std.proofs.Common.{ℕ, ◌<◌, List, length, map, get_or, ap, ◌∙◌, arith}
use Rattle.std.proofs.lemmas.List.{length-map, length-set, map-set}
use Rattle.count_arrays.proofs.RowNodes.{none-all, none-set}
use Rattle.count_arrays.proofs.rows.forget.Goals as goal

pub loop-i-preserved : goal.loop-i-preserved
loop-i-preserved g c =
    let cells : List ℕ = map g.C.Count.number c.loop-i.cells in
    let low : c.loop-i.i < length cells = rw (length-map c.loop-i.cells g.C.Count.number) (omega (arith, c.loop-i-test.true, c.loop-i.invariant.long)) in
    record {
      long = length-set c.loop-i.cells c.loop-i.i c.args.none ∙ c.loop-i.invariant.long;
      none = λ j h. ap (λ ns. get_or ns j 0) (map-set g.C.Count.number c.loop-i.cells c.loop-i.i c.args.none) ∙ none-set cells c.loop-i.i (g.C.Count.number c.args.none) low c.requires c.loop-i.invariant.none j h;
    }

pub returns-clause-empty : goal.returns-clause-empty
returns-clause-empty g c =
    let cells : List ℕ = map g.C.Count.number c.loop-i.cells in
    none-all cells c.loop-i.i (rw (length-map c.loop-i.cells g.C.Count.number) (omega (arith, c.loop-i-test.false, c.loop-i.invariant.long))) c.loop-i.invariant.none
