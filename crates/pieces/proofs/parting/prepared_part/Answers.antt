use Rattle.std.proofs.Common.{sym, subst, ap, ◌∙◌}
use Rattle.piece_texts.specs.PieceTexts.{SumFits}
use Rattle.pieces.proofs.parting.prepared_part.Goals as goal

pub returns-clause-sums : goal.returns-clause-sums
returns-clause-sums g c = ap (λ s. record { closed = c.in_ok-own.own.closed; sum = s }) c.in_ok-sum_of.ensures ∙ c.in_ok-own.ensures.cut.sums

pub returns-clause-fits : goal.returns-clause-fits
returns-clause-fits g c = subst SumFits (sym (returns-clause-sums g c)) c.in_ok-own.ensures.fits
