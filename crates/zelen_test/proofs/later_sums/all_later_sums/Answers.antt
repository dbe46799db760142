use Rattle.std.proofs.Common.{◌≡◌, ◌++◌, ◌∷◌, [], List, ap, ◌∙◌, arith}
use Rattle.zelen_test.specs.declared.later_sums.LaterSums.{LaterSums}
use Rattle.zelen_test.proofs.LaterSums.{least-few, most-few, end-is, later-at, later_sums-first, later_sums-next, later_sums-whole}
use Rattle.zelen_test.proofs.later_sums.all_later_sums.Goals as goal

pub least_sum-least-requires-clause-fits : goal.least_sum-least-requires-clause-fits
least_sum-least-requires-clause-fits c = omega (arith, least-few c.args.strata.now c.args.sum c.requires 0)

pub greatest_sum-most-requires-clause-fits : goal.greatest_sum-most-requires-clause-fits
greatest_sum-most-requires-clause-fits c = omega (arith, most-few c.args.strata.now c.args.sum c.requires 0)

pub loop-done-init : goal.loop-done-init
loop-done-init c =
    let one : c.push.new.self.items ≡ c.in_ok-end_of.field-0 ∷ [] = c.in_ok-push.ensures.items ∙ ap (λ (xs : List LaterSums). xs ++ c.in_ok-end_of.field-0 ∷ []) c.new-later_sums.ensures.items in
    let e = c.in_ok-end_of.ensures in (
      omega arith,
      rw one (later_sums-first c.args.strata.now c.args.sum c.requires c.in_ok-end_of.field-0 (end-is c.args.strata.now c.args.sum c.requires c.in_ok-end_of.field-0 e.least e.most e.first e.numbers)),
    )

pub index-later-requires : goal.index-later-requires
index-later-requires c = omega (arith, c.loop-done.invariant.1.long, c.loop-done-test.true)

pub sums_from-requires-clause-later : goal.sums_from-requires-clause-later
sums_from-requires-clause-later c = later-at c.args.strata.now c.args.sum c.requires c.loop-done.done c.loop-done.later_sums.items c.index-later.result.now c.loop-done-test.true c.loop-done.invariant.1 c.index-later.ensures

pub loop-done-preserved : goal.loop-done-preserved
loop-done-preserved c = (
  omega (arith, c.loop-done-test.true),
  rw c.in_ok-push-2.ensures.items (later_sums-next c.args.strata.now c.args.sum c.requires c.loop-done.done c.loop-done.later_sums.items c.in-Some.next c.loop-done-test.true c.loop-done.invariant.1 (rw c.in-Some.is at c.in_ok-next.ensures)),
)

pub returns : goal.returns
returns c = later_sums-whole c.args.strata.now c.args.sum c.requires c.loop-done.done c.loop-done.later_sums.items (omega (arith, c.loop-done-test.false)) c.loop-done.invariant.1
