use Rattle.std.proofs.Common.{ap, arith, refl, ◌∙◌}
use Rattle.stage_network.specs.RowSteps.{RowList, all_nodes}
use Rattle.stage_network.proofs.Starting.{starts-course, starts-swept}
use Rattle.stage_network.proofs.row_sweeps.RowSweep.from_keys.Goals as goal

pub returns-clause-sweeping : goal.returns-clause-sweeping
returns-clause-sweeping g c =
    let n = g.S.Stages.network c.args.stages.now in
    let starts = c.requires.starts in
    let told = c.in_ok-sums.ensures in
    record {
      lawful = c.stages-count.ensures.lawful;
      starts = starts-course n c.args.keep c.args.stage c.args.keys.now c.args.weights.now starts g.C.Count.LIMIT c.requires.limit;
      stores = record {
        roomed = c.room_width-width.ensures.roomed;
        rows = told.width;
        ahead = ap (λ (l : RowList). l.width) c.new-3.ensures ∙ c.room_width-width.ensures.width;
        arcs = c.in_ok-arcs.ensures;
        row = told.ready;
      };
      keeps = refl;
      gone = 0;
      stands = omega arith;
      within = starts.within;
      swept = starts-swept n c.args.keep c.args.stage c.args.keys.now c.args.weights.now starts c.in_ok-sums.sums (all_nodes c.settle_rows.new.kept.rows) told.nodes told.sum told.opened;
    }
