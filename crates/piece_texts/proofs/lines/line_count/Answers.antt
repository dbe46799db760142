use Rattle.std.proofs.Common.{rules, ◌≡◌, ◌≤◌, cond, nat_eq, get_or, Bool, true, false, arith}
use Rattle.piece_texts.proofs.TextsGrow.{count-next}
use Rattle.piece_texts.proofs.lines.line_count.Goals as goal

one_at_most : (b : Bool) → cond b 1 0 ≤ 1
one_at_most true = omega arith
one_at_most false = omega arith

pub loop-i-preserved : goal.loop-i-preserved
loop-i-preserved c =
    let one : c.one_if-count.result ≡ cond (nat_eq (get_or c.args.bytes.now c.loop-i.i 0) 10) 1 0 = search rules in
    record {
      counted = omega (arith, count-next c.args.bytes.now c.loop-i.i c.loop-i-test.true, c.loop-i.invariant.counted, one);
      few = omega (arith, c.loop-i.invariant.few, one, one_at_most (nat_eq (get_or c.args.bytes.now c.loop-i.i 0) 10));
    }
