use Rattle.run_outcome.proofs.PreparedOutcome.{asked_outcome}
use Rattle.run_outcome.proofs.reports.report_prepared.Goals as goal

pub returns : goal.returns
returns g c = λ value is same.
    let heading = c.args.heading.now in
    asked_outcome g.P.Plain.test g.P.Prepared.network g.P.Prepared.running c.args.asking heading.sizes heading.dropped heading.extra value _ _ is (rw same at c.report_on.ensures)
