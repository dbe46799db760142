use Rattle.std.proofs.Common.{◌≡◌, ◌+◌, ◌-◌, ◌^◌, drop, arith, ◌<◌}
use Rattle.kendall_test.specs.CountCodes.{marks}
use Rattle.kendall_test.proofs.CodeLaws.{last-within, marks-at, marks-small}
use Rattle.kendall_test.proofs.count_codes.code_bits.Goals as goal

pub with_count-bits-requires-clause-small : goal.with_count-bits-requires-clause-small
with_count-bits-requires-clause-small c =
    let i : c.loop-i.i ≡ c.loop-i.i - 1 + 1 = omega (arith, c.loop-i-test.true) in
    let here : c.loop-i.bits ≡ marks (drop (c.loop-i.i - 1 + 1) c.args.counts.now) = rw i at c.loop-i.invariant.here in
    rw (here, marks-at c.args.counts.now (c.loop-i.i - 1) (omega (arith, c.loop-i-test.true, c.loop-i.invariant.within))) (marks-small c.args.counts.now (c.loop-i.i - 1) c.requires)

pub overflow_sub-result : goal.overflow_sub-result
overflow_sub-result c =
    let start : c.loop-i.i ≡ 0 = omega (arith, c.loop-i-test.false) in
    let all : c.loop-i.bits ≡ marks c.args.counts.now = rw start at c.loop-i.invariant.here in
    rw (c.last_mark.ensures, c.total_of.ensures, all) (last-within c.args.counts.now)

pub returns-clause-small : goal.returns-clause-small
returns-clause-small c =
    let start : c.loop-i.i ≡ 0 = omega (arith, c.loop-i-test.false) in
    let all : c.loop-i.bits ≡ marks c.args.counts.now = rw start at c.loop-i.invariant.here in
    let few : c.loop-i.bits < 2 ^ 120 = rw all (marks-small c.args.counts.now 0 c.requires) in
    omega (arith, few)
