use Rattle.run_outcome.specs.Outcome.{asking_of}
use Rattle.run_outcome.proofs.PartAnswered.{answered-bytes, answered-rows}
use Rattle.run_outcome.proofs.Readings.{short-outcome}
use Rattle.run_outcome.proofs.command.report_of.Goals as goal

pub returns-in-Ok-clause-meets : goal.returns-in-Ok-clause-meets
returns-in-Ok-clause-meets g c =
    let settings = c.args.settings.now in
    rw (short-outcome g.C.Catalogue.questions settings c.args.bytes.now c.requires.short)
    (answered-rows g.C.Catalogue.questions settings.test (asking_of settings c.args.bytes.now) settings _ _ (rw (c.in-Ok.ensures, c.of.ensures.asked) at c.report_in.ensures)).outcome

pub returns-in-Ok-clause-answerable : goal.returns-in-Ok-clause-answerable
returns-in-Ok-clause-answerable g c = λ other.
    let settings = c.args.settings.now in
    answered-bytes g.C.Catalogue.questions settings c.args.bytes.now _
    ((answered-rows g.C.Catalogue.questions settings.test (asking_of settings c.args.bytes.now) settings _ _ (rw (c.in-Ok.ensures, c.of.ensures.asked) at c.report_in.ensures)).answerable other)
