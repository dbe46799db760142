use Rattle.std.proofs.Common.{rules, ◌≡◌, true, refl}
use Rattle.weights.specs.declared.tails.Tail.TheVariants.{Two}
use Rattle.distribution.proofs.answers.asked_on_both.Goals as goal

pub returns : goal.returns
returns g c =
    let asked : c.args.asked ≡ true = search rules in
    rw (asked, c.in_ok-sums.ensures Two refl) refl
