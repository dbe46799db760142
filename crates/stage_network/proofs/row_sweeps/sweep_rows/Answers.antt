use Rattle.std.proofs.Common.{◌≡◌, subst, arith}
use Rattle.networks.specs.declared.tail_sums.Kept.{Kept}
use Rattle.stage_network.specs.NodeSteps.{AllReached}
use Rattle.stage_network.specs.SweepSteps.{HasSwept, first_course}
use Rattle.stage_network.specs.RowSteps.{all_nodes}
use Rattle.stage_network.specs.RowSweeps.{IsRowSweeping}
use Rattle.stage_network.proofs.Courses.{swept-last}
use Rattle.stage_network.proofs.RowCourses.{rows-reached, rows-light}
use Rattle.stage_network.proofs.row_sweeps.sweep_rows.Goals as goal

pub returns : goal.returns
returns g c =
    let n = g.S.Stages.network c.args.stages.now in
    let sweep = c.advance_to.new.self in
    let nodes = all_nodes sweep.rows.rows in
    let told = c.in_ok-advance_to.ensures in
    let s = subst (λ (k : Kept). IsRowSweeping n (g.S.Roomed.room_width c.args.stages.now) (g.S.Roomed.step_width c.args.stages.now) g.C.Count.LIMIT g.C.Count.number (first_course n k) sweep) c.in_ok-sweep.ensures.sweeping.keeps told.sweeping in
    let end : sweep.stage ≡ n.count = omega (arith, told.stage, c.stages-count.ensures.count) in
    let last : s.gone ≡ n.count = omega (arith, s.stands, end) in
    record {
      swept = swept-last n s.lawful g.C.Count.LIMIT c.args.keep s.starts sweep.sums nodes (subst (λ m. HasSwept n (first_course n c.args.keep) m sweep.sums nodes) last s.swept);
      wide = s.stores.rows;
      reached = subst (λ m. AllReached n m nodes) end (rows-reached n _ _ _ _ _ sweep s);
      fits = rows-light n _ _ _ _ _ sweep s;
    }
