use Rattle.std.proofs.Common.{◌≡◌, ◌∙◌, arith, eqb, false, get_or}
use Rattle.std.proofs.lemmas.Bool.Decides.{nat_tests}
use Rattle.std.proofs.lemmas.Int.{ints}
use Rattle.worked_networks.proofs.RankLaws.{ranked_key, three_items, three_same}
use Rattle.worked_networks.proofs.ranks.RanksStages.apply.Goals as goal

pub overflow_add-next-else-choice-eq0 : goal.overflow_add-next-else-choice-eq0
overflow_add-next-else-choice-eq0 c =
    let r = c.args.self.now in
    let here = ranked_key r.first r.second r.observed r.few c.args.stage c.args.key.now c.requires.reached in
    omega (arith, ints, here.sum_is, here.small, here.left, r.few)

pub returns-then-choice-eq0-clause-next : goal.returns-then-choice-eq0-clause-next
returns-then-choice-eq0-clause-next c =
    let r = c.args.self.now in
    let here = ranked_key r.first r.second r.observed r.few c.args.stage c.args.key.now c.requires.reached in
    three_items _ _ _ _ c.requires.room
    ∙ rw c.if-choice-eq0.true (three_same _ _ _ _ _ _ (omega (arith, ints, here.first_is, here.left, r.few)) (omega (arith, ints, here.second_is, here.left, r.few)) (omega (arith, ints, here.sum_is, here.small)))

pub returns-else-choice-eq0-clause-next : goal.returns-else-choice-eq0-clause-next
returns-else-choice-eq0-clause-next c =
    let r = c.args.self.now in
    let here = ranked_key r.first r.second r.observed r.few c.args.stage c.args.key.now c.requires.reached in
    let other : eqb (get_or c.args.choice.now 0 0) 0 ≡ false = grind (arith, nat_tests) in
    three_items _ _ _ _ c.requires.room
    ∙ rw other (three_same _ _ _ _ _ _ (omega (arith, ints, here.first_is, here.left, r.few)) (omega (arith, ints, here.second_is, here.left, r.few)) (omega (arith, ints, here.sum_is, here.small, here.left, r.few)))
