use Rattle.networks.specs.Follows.{open_keys}
use Rattle.run_outcome.specs.Outcome.{way_of}
use Rattle.run_outcome.proofs.Showable.{quotients}
use Rattle.run_outcome.proofs.reports.report_for.Goals as goal

pub compose-requires : goal.compose-requires
compose-requires g c =
    let same = c.in_ok-answer.ensures.answer in
    let some = rw same at c.in_ok-answer.ensures.some in
    rw same (quotients (g.P.Plain.test c.args.problem.now) (open_keys (g.P.Prepared.network c.args.problem.now)) c.args.tails (way_of c.args.asking.nodes) c.requires.fits some)
