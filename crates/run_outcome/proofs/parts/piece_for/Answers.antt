use Rattle.std.proofs.Common.{rules, arith, ◌≡◌, ◌≤◌}
use Rattle.weights.specs.Conditional.{ConditionalTest, total}
use Rattle.weights.specs.declared.TheConstants.{MAX}
use Rattle.weights.specs.declared.tails.Tail.{Tail}
use Rattle.networks.specs.Network.{Network}
use Rattle.piece_texts.specs.PieceTexts.{line_count}
use Rattle.run_outcome.specs.Outcome.{head_for}
use Rattle.run_outcome.specs.Question.{Question, question_about}
use Rattle.run_outcome.proofs.PiecesFormed.{divisible-by, lines-within, piece-formed}
use Rattle.run_outcome.proofs.parts.piece_for.Goals as goal

pub piece_text-requires : goal.piece_text-requires
piece_text-requires g c =
    let test : ConditionalTest = g.P.Plain.test c.args.problem.now in
    let network : Tail → Network = g.P.Prepared.network c.args.problem.now in
    let running : Tail → Network = g.P.Prepared.running c.args.problem.now in
    let heading = c.args.heading.now in
    let question : Question = question_about g.P.Plain.test g.P.Prepared.network g.P.Prepared.running c.args.problem.now heading.sizes heading.dropped heading.extra in
    let all : c.frame-frame.result.total ≡ total test = c.frame-frame.ensures.frame.total in
    let head : c.in_ok-head.head ≡ head_for c.args.asking question = search rules in
    let few : line_count c.in_ok-head.head ≤ MAX = omega (arith, lines-within c.in_ok-head.head, c.len-long.ensures) in
    let is = divisible-by test running network c.args.tails c.has_tail-shown.ensures.shown.has c.frame-frame.ensures.some c.requires.fits c.in_ok-tail_piece.ensures.serves c.in_ok-tail_piece-2.ensures.serves c.in_ok-tail_piece-3.ensures.serves in
    rw (head, all, c.in_ok-tail_piece.ensures.sums, c.in_ok-tail_piece-2.ensures.sums, c.in_ok-tail_piece-3.ensures.sums) (piece-formed c.args.part c.args.asking c.args.tails question c.requires.part c.requires.asked is (rw head at few))
