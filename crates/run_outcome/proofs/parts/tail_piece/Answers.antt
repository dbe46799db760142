use Rattle.std.proofs.Common.{◌≡◌, ◌∙◌, true, rules, ap}
use Rattle.std.specs.Prelude.{Some}
use Rattle.networks.specs.Network.{Network}
use Rattle.pieces.specs.Cuts.{piece_sum}
use Rattle.pieces.proofs.WrittenPieces.{piece-written}
use Rattle.run_outcome.proofs.parts.tail_piece.Goals as goal

pub returns-clause-sums : goal.returns-clause-sums
returns-clause-sums g c =
    let part = c.args.part in
    let asked : c.args.is_asked ≡ true = search rules in
    let n : Network = g.P.Prepared.running c.args.problem.now c.args.tail in
    let q : Network = g.P.Prepared.network c.args.problem.now c.args.tail in
    let whole : c.in_ok-sums.sums ≡ piece_sum q c.args.tail part.at part.parts part.part =
    c.in_ok-sums.ensures.sums ∙ piece-written n q c.args.tail (c.in_ok-sums.ensures.written c.args.tail (c.requires.has asked)) part.at part.parts part.part in
    rw asked (ap Some whole)
