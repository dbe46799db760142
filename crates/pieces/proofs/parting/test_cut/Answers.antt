use Rattle.std.proofs.Common.{subst}
use Rattle.networks.specs.Laws.{IsLawful}
use Rattle.networks.specs.Network.{Network}
use Rattle.piece_texts.specs.PieceTexts.{SumFits}
use Rattle.pieces.specs.Cuts.{PiecesAddUp, piece_sum}
use Rattle.pieces.specs.Parting.{IsPartCut}
use Rattle.pieces.proofs.parting.test_cut.Goals as goal

pub returns-clause-cut : goal.returns-clause-cut
returns-clause-cut g c = subst (λ (n : Network). IsPartCut n c.args.tail c.args.at c.args.parts c.args.part c.in_ok-own.own) c.in_ok-stages.ensures.built c.in_ok-own.ensures.cut

pub returns-clause-fits : goal.returns-clause-fits
returns-clause-fits g c = subst (λ (n : Network). SumFits (piece_sum n c.args.tail c.args.at c.args.parts c.args.part)) c.in_ok-stages.ensures.built c.in_ok-own.ensures.fits

pub returns-clause-add : goal.returns-clause-add
returns-clause-add g c = subst (λ (n : Network). PiecesAddUp n c.args.tail c.args.at c.args.parts) c.in_ok-stages.ensures.built c.in_ok-own.ensures.add

pub returns-clause-lawful : goal.returns-clause-lawful
returns-clause-lawful g c = subst IsLawful c.in_ok-stages.ensures.built c.stages-lawful.ensures.lawful
