use Rattle.std.proofs.Common.{rules, ◌≡◌, length, [], true, sym, subst, arith}
use Rattle.piece_texts.specs.ReaderSteps.{reading, is_whole}
use Rattle.piece_texts.specs.ReadPieces.{AreTexts}
use Rattle.piece_texts.proofs.FaultLines.{no-length, read-more, read-fault, read-end, read-formed, read-whole}
use Rattle.piece_texts.proofs.reading.read_pieces.Goals as goal
use Rattle.piece_texts.proofs.reading.read_pieces.Goals.{else-is_empty-via-then-is_empty+else-is_whole, else-is_empty-via-else-is_empty}

pub returns-in-Ok-false : goal.returns-in-Ok-false
returns-in-Ok-false c = (read-fault c.args.bytes.now c.loop-line.rest.now c.in-Some.line.now c.in-Some.more.now c.loop-line.number (reading c.loop-line.reader) c.loop-line.invariant.read c.in-Some.ensures.cut.0 c.in-Some.ensures.cut.1 (search rules))

pub loop-line-preserved : goal.loop-line-preserved
loop-line-preserved c = record {
  read = read-more c.args.bytes.now c.loop-line.rest.now c.in-Some.line.now c.in-Some.more.now c.loop-line.number (reading c.loop-line.reader) (reading c.step.new.self) c.loop-line.invariant.read c.in-Some.ensures.cut.0 c.in-Some.ensures.cut.1 (search rules);
  few = omega (arith, c.loop-line.invariant.few, c.in-Some.ensures.shorter);
}

pub of-requires : goal.of-requires
of-requires c = read-formed c.args.bytes.now c.loop-line.rest.now c.loop-line.number (reading c.loop-line.reader) c.loop-line.invariant.read

pub returns-then-is_whole : goal.returns-then-is_whole
returns-then-is_whole c =
    let long : length c.loop-line.rest.now ≡ 0 = search rules in
    let none : c.loop-line.rest.now ≡ [] = no-length c.loop-line.rest.now long in
    let yes' : is_whole (reading c.loop-line.reader) ≡ true = search rules in
    subst (AreTexts c.args.bytes.now) (sym c.of.ensures) (read-whole c.args.bytes.now c.loop-line.rest.now c.loop-line.number (reading c.loop-line.reader) c.loop-line.invariant.read none yes')

pub returns-else-is_empty : goal.returns-else-is_empty
returns-else-is_empty c = (read-end c.args.bytes.now c.loop-line.rest.now c.loop-line.number (reading c.loop-line.reader) c.loop-line.invariant.read c.in_default.ensures.cut (search rules))
