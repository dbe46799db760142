use Rattle.std.proofs.Common.{◌≡◌, ◌∙◌, ◌≤◌, ◌+◌, [], ◌∷◌, ap, refl, arith, eqb, false, get_or}
use Rattle.std.specs.Prelude.{ℤ}
use Rattle.std.proofs.lemmas.Bool.Decides.{nat_tests}
use Rattle.std.proofs.lemmas.Int.{ints}
use Rattle.weights.proofs.Items.{one_item}
use Rattle.worked_networks.proofs.ranks.RanksRoomed.step.Goals as goal

pub returns-then-choice-eq0 : goal.returns-then-choice-eq0
returns-then-choice-eq0 c = one_item _ _ c.requires.room ∙ rw c.if-choice-eq0.true refl

pub returns-else-choice-eq0 : goal.returns-else-choice-eq0
returns-else-choice-eq0 c =
    let few : c.args.self.now.first + c.args.self.now.second ≤ 126 = c.args.self.now.few in
    let other : eqb (get_or c.args.choice.now 0 0) 0 ≡ false = grind (arith, nat_tests) in
    one_item _ _ c.requires.room ∙ rw other (ap (λ (z : ℤ). z ∷ []) (omega (arith, ints, few, c.requires.before)))
