use Rattle.std.proofs.Common.{rules}
use Rattle.piece_texts.specs.Merges.{IsComplete}
use Rattle.piece_texts.proofs.EachPart.{all-add-up}
use Rattle.piece_texts.proofs.merging.merge.Goals as goal

pub returns-else-is_err-clause-parts : goal.returns-else-is_err-clause-parts
returns-else-is_err-clause-parts c =
    let none : IsComplete c.args.pieces.now = search rules in
    all-add-up c.args.pieces.now c.len-count.ensures.formed none
