use Rattle.std.proofs.Common.{arith, length-set, ◌∙◌}
use Rattle.kendall_test.proofs.CodeLaws.{last-small, read-next}
use Rattle.kendall_test.proofs.count_codes.read_code.Goals as goal

pub overflow_add-bits : goal.overflow_add-bits
overflow_add-bits c = omega (arith, c.requires.small, c.last_mark.ensures, last-small c.args.units c.requires.few)

pub loop-i-preserved : goal.loop-i-preserved
loop-i-preserved c = record {
  long = length-set c.loop-i.counts c.loop-i.i c.first_count.result ∙ c.loop-i.invariant.long;
  read = rw (c.first_count.ensures, c.later_bits-bits.ensures) (read-next _ c.loop-i.i c.loop-i.bits c.loop-i.counts _ (omega (arith, c.loop-i-test.true, c.loop-i.invariant.long)) c.loop-i.invariant.long c.loop-i.invariant.read);
}
