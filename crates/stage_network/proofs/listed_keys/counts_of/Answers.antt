use Rattle.std.proofs.Common.{◌≡◌, ◌≤◌, ◌∷◌, ◌++◌, [], get_or, length, map, take, nat_abs, pos, rules, ap, sym, ◌∙◌, arith, FitsSigned}
use Rattle.std.specs.Prelude.{ℤ}
use Rattle.std.proofs.lemmas.Int.{to_z-of_z}
use Rattle.std.proofs.lemmas.List.{map_more, take_all}
use mir.Syntax.{w128}
use Rattle.stage_network.proofs.listed_keys.counts_of.Goals as goal

pub loop-i-preserved : goal.loop-i-preserved
loop-i-preserved c =
    let i = c.loop-i.i in
    let x : ℤ = get_or c.args.numbers.now i (pos 0) in
    let fits : FitsSigned w128 x = search rules in
    let is : c.unsigned_abs.result ≡ nat_abs x = rw (to_z-of_z w128 x fits) at c.unsigned_abs.ensures.value in
    c.in_ok-push.ensures.items
    ∙ ap (λ ys. ys ++ c.unsigned_abs.result ∷ []) c.loop-i.invariant
    ∙ ap (λ y. map nat_abs (take i c.args.numbers.now) ++ y ∷ []) is
    ∙ sym (map_more nat_abs c.args.numbers.now i (pos 0) c.loop-i-test.true)

pub returns : goal.returns
returns c =
    let last : length c.args.numbers.now ≤ c.loop-i.i = omega (arith, c.loop-i-test.false) in
    c.loop-i.invariant ∙ ap (map nat_abs) (take_all c.loop-i.i c.args.numbers.now last)
