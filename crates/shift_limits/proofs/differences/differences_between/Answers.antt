use Rattle.std.proofs.Common.{◌∙◌, ◌++◌, ◌-ℤ◌, ℤ, List, FitsSigned, get_or, map, pos, rules, sym, ap}
use Rattle.std.specs.Int.{w128}
use Rattle.std.proofs.lemmas.Int.{to_z-of_z}
use Rattle.shift_limits.proofs.Pairwise.{between-more, between-none}
use Rattle.shift_limits.proofs.differences.differences_between.Goals as goal

pub loop-value-init : goal.loop-value-init
loop-value-init c = c.new-list.ensures.items ∙ sym (between-none c.args.later.now)

pub loop-value-preserved : goal.loop-value-preserved
loop-value-preserved c =
    let earlier = c.args.earlier.now in
    let later = c.args.later.now in
    let i = c.loop-value.value-index in
    let x = get_or earlier i (pos 0) in
    let fits : FitsSigned w128 x = search rules in
    let told = rw (to_z-of_z w128 x fits) at c.in_ok-push_differences.ensures in
    told ∙ ap (λ (ds : List ℤ). ds ++ map (λ y. y -ℤ x) later) c.loop-value.invariant ∙ sym (between-more earlier later i (pos 0) c.loop-value-test.true)
