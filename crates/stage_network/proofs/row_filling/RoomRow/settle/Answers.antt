use Rattle.std.proofs.Common.{length, map, ap, sym, ◌∙◌, arith, rules, FitsSigned}
use Rattle.std.specs.Prelude.{pos}
use Rattle.std.proofs.lemmas.Int.{to_z-of_z}
use Rattle.std.proofs.lemmas.List.{with_items_is}
use mir.Syntax.{w128}
use Rattle.count_arrays.specs.Rows.{row_nodes}
use Rattle.stage_network.specs.ArcSteps.{lift}
use Rattle.stage_network.proofs.Sweeps.{closed-none, staying-none}
use Rattle.stage_network.proofs.row_filling.RoomRow.settle.Goals as goal

pub returns-in_ok-all-in-Open-clause-settled : goal.returns-in_ok-all-in-Open-clause-settled
returns-in_ok-all-in-Open-clause-settled g c =
    let was = c.args.self.now in
    let f : FitsSigned w128 was.lowest = search rules in
    let value = c.as_mut_slice-cells.ensures.value in
    let told = c.in_ok-all-in-Open.ensures in
    let done = rw (value, to_z-of_z w128 was.lowest f) at told.settled in
    rw (c.in-Open.is, with_items_is was.cells c.settle_open.new.cells (told.long ∙ ap length value ∙ sym was.cells.ok.0)) done

pub returns-in-All-clause-settled : goal.returns-in-All-clause-settled
returns-in-All-clause-settled g c =
    let n = g.S.Stages.network c.args.stages.now in
    let was = c.args.self.now in
    let nodes = lift c.args.room.now (row_nodes was.lowest (pos was.stride) (map g.C.Count.number was.cells.items)) in
    rw c.in-All.is (record {
      nodes = sym (staying-none n c.args.stage nodes);
      sum = λ t. omega (arith, closed-none n t c.args.stage nodes);
      opened = λ t. omega arith;
    })
