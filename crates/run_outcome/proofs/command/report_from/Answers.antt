use Rattle.std.proofs.Common.{Err, ap}
use Rattle.run_outcome.proofs.PartAnswered.{answered-held}
use Rattle.run_outcome.proofs.Readings.{held-outcome, long-outcome}
use Rattle.run_outcome.proofs.command.report_from.Goals as goal

pub returns-in-Ok-clause-comes : goal.returns-in-Ok-clause-comes
returns-in-Ok-clause-comes g c =
    let name = rw c.as_str.ensures at c.in-Ok.ensures.bytes in
    held-outcome g.C.Catalogue.questions _ c.args.settings.now (g.S.Source.held c.args.source.now c.args.settings.now.file) c.in-Ok.bytes _ name (rw c.as_slice.ensures at c.report_of.ensures.meets)

pub returns-in-Ok-clause-answerable : goal.returns-in-Ok-clause-answerable
returns-in-Ok-clause-answerable g c = λ other.
    let name = rw c.as_str.ensures at c.in-Ok.ensures.bytes in
    answered-held g.C.Catalogue.questions c.args.settings.now c.in-Ok.bytes (g.S.Source.held c.args.source.now c.args.settings.now.file) _ name ((rw c.as_slice.ensures at c.report_of.ensures.answerable) other)

pub returns-in-Err-TooLong-clause-comes : goal.returns-in-Err-TooLong-clause-comes
returns-in-Err-TooLong-clause-comes g c =
    let name = rw c.as_str.ensures at c.in-Err-TooLong.ensures.long in
    long-outcome g.C.Catalogue.questions c.args.settings.now (g.S.Source.held c.args.source.now c.args.settings.now.file) (name (ap Err c.in-Err-TooLong.field-0-is))
