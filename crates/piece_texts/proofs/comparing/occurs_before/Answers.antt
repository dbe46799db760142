use Rattle.std.proofs.Common.{rules, ◌≡◌, ◌<◌, length, true, false, nat_eq, sym, arith}
use Rattle.piece_texts.specs.Places.{piece_at}
use Rattle.piece_texts.proofs.FirstPlaces.{occurs-more, occurs-within}
use Rattle.piece_texts.proofs.comparing.occurs_before.Goals as goal

pub returns-then-at-part : goal.returns-then-at-part
returns-then-at-part c =
    let low : c.loop-i.i < length c.args.pieces.now = omega (arith, c.loop-i-test.true, c.requires) in
    let is : nat_eq (piece_at c.args.pieces.now c.loop-i.i).part c.args.part ≡ true = search rules in
    sym (occurs-within c.args.part c.args.pieces.now c.loop-i.i c.args.end c.loop-i-test.true low is)

pub loop-i-preserved : goal.loop-i-preserved
loop-i-preserved c =
    let low : c.loop-i.i < length c.args.pieces.now = omega (arith, c.loop-i-test.true, c.requires) in
    let is : nat_eq (piece_at c.args.pieces.now c.loop-i.i).part c.args.part ≡ false = search rules in
    record {
      within = omega (arith, c.loop-i-test.true);
      none = occurs-more c.args.part c.args.pieces.now c.loop-i.i low c.loop-i.invariant.none is;
    }
