use Rattle.std.proofs.Common.{append_assoc, codes}
use Rattle.report.specs.Refusals.{option_text}
use Rattle.report.proofs.refusals.push_text.Goals as goal

pub returns-in-Unfit-clause-text : goal.returns-in-Unfit-clause-text
returns-in-Unfit-clause-text c =
    rw (c.in-Unfit.is, c.push.ensures, c.push_option.ensures.text) (append_assoc c.args.line.now (option_text c.in-Unfit.name) (codes " does not fit the data"))

pub returns-in-TooLong-clause-text : goal.returns-in-TooLong-clause-text
returns-in-TooLong-clause-text c = rw c.in-TooLong.is c.push-in-TooLong.ensures

pub returns-in-MissingPart-clause-text : goal.returns-in-MissingPart-clause-text
returns-in-MissingPart-clause-text c =
    rw c.in-MissingPart.is c.push_place-in-MissingPart.ensures.text
