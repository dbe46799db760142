use Rattle.std.proofs.Common.{◌≡◌, ◌+◌, ◌^◌, arith}
use Rattle.report.proofs.Quotients.{digit-more, rounded-up, whole-le}
use Rattle.report.proofs.decimals.millionths_of.Goals as goal

pub loop-turn-preserved : goal.loop-turn-preserved
loop-turn-preserved c =
    let tenth = c.next_digit-tenth.ensures in
    let next = digit-more c.loop-turn._turn c.args.numerator c.args.denominator c.loop-turn.whole c.loop-turn.rest c.next_digit-tenth.result.digit c.next_digit-tenth.result.rest c.loop-turn.invariant.is tenth.is in
    record {
      is = next;
      below = tenth.below;
      few = whole-le (10 ^ (c.loop-turn._turn + 1)) c.args.numerator c.args.denominator _ c.next_digit-tenth.result.rest c.requires.part c.requires.some next;
    }

pub returns-then-denominator-rest-clause-value : goal.returns-then-denominator-rest-clause-value
returns-then-denominator-rest-clause-value c =
    let all : c.loop-turn._turn ≡ 6 = omega arith in
    let is = rw all at c.loop-turn.invariant.is in
    rounded-up c.args.numerator c.args.denominator c.loop-turn.whole c.loop-turn.rest is c.loop-turn.invariant.below (omega arith)
