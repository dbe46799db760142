use Rattle.std.proofs.Common.{◌≡◌, ℕ, ◌≤◌, ◌∷◌, ◌++◌, [], get_or, length, map, take, pos, ap, sym, ◌∙◌, arith, to_z}
use Rattle.std.proofs.lemmas.Int.{to_z_pos}
use Rattle.std.proofs.lemmas.List.{map_more, take_all}
use mir.Syntax.{w128}
use Rattle.weights.specs.declared.TheConstants.{MAX}
use Rattle.pieces.proofs.listed.listed.Goals as goal

pub loop-i-preserved : goal.loop-i-preserved
loop-i-preserved c =
    let i = c.loop-i.i in
    let x : ℕ = get_or c.args.counts.now i 0 in
    let small : x ≤ MAX = c.requires i c.loop-i-test.true in
    let same : to_z w128 x ≡ pos x = to_z_pos w128 x (omega (arith, small)) in
    c.in_ok-push.ensures.ok
    ∙ ap (λ ys. ys ++ to_z w128 x ∷ []) c.loop-i.invariant
    ∙ ap (λ y. map pos (take i c.args.counts.now) ++ y ∷ []) same
    ∙ sym (map_more pos c.args.counts.now i 0 c.loop-i-test.true)

pub returns : goal.returns
returns c =
    let last : length c.args.counts.now ≤ c.loop-i.i = omega (arith, c.loop-i-test.false) in
    c.loop-i.invariant ∙ ap (map pos) (take_all c.loop-i.i c.args.counts.now last)
