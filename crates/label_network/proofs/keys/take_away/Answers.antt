use Rattle.std.proofs.Common.{◌≡◌, ◌<◌, ◌-◌, ℕ, List, get_or, length, map, ap, sym, ◌∙◌, arith, rules}
use Rattle.std.specs.Prelude.{nat_abs, pos}
use mir.Syntax.{w128}
use mir.Val.{to_z, of_z}
use Rattle.std.proofs.lemmas.Int.{to_z-of_z}
use Rattle.weights.specs.Grouped.{minus}
use Rattle.weights.proofs.Sized.{length-minus}
use Rattle.label_network.proofs.Rows.{get-within}
use Rattle.label_network.proofs.Rows.{grown, written, abs-at, pos-at, minus-at, length-abs, length-pos, fits-long}
use Rattle.label_network.proofs.keys.take_away.Goals as goal

pub less-requires-clause-fewer : goal.less-requires-clause-fewer
less-requires-clause-fewer c =
    rw (to_z-of_z w128 (get_or c.args.front.now c.loop-i.i (pos 0)) (search rules)) (omega (arith, get-within (map nat_abs c.args.front.now) c.args.choice.now c.loop-i.i c.requires.fitting, abs-at c.args.front.now c.loop-i.i c.loop-i-test.true))

pub loop-i-preserved : goal.loop-i-preserved
loop-i-preserved c =
    let x : ℕ = get_or c.args.choice.now c.loop-i.i 0 in
    let r : List ℕ = map nat_abs c.args.front.now in
    let long : length c.args.choice.now ≡ length r = fits-long c.args.choice.now r c.requires.fitting in
    let low : c.loop-i.i < length r = omega (arith, length-abs c.args.front.now, c.loop-i-test.true) in
    let room : c.loop-i.i < length (minus r c.args.choice.now) = omega (arith, low, length-minus r c.args.choice.now) in
    record {
      long = search rules;
      filled = grown c.loop-i.left (map pos (minus r c.args.choice.now)) c.loop-i.i (to_z w128 (of_z w128 c.less.result)) (pos 0) (omega (arith, c.loop-i.invariant.long, c.loop-i-test.true)) (omega (arith, room, length-pos (minus r c.args.choice.now))) c.loop-i.invariant.filled ((to_z-of_z w128 c.less.result (search rules) ∙ c.less.ensures ∙ ap (λ y. pos (nat_abs y - x)) (to_z-of_z w128 (get_or c.args.front.now c.loop-i.i (pos 0)) (search rules))) ∙ sym (pos-at (minus r c.args.choice.now) c.loop-i.i room ∙ ap pos (minus-at r c.args.choice.now c.loop-i.i low long ∙ ap (λ y. y - x) (abs-at c.args.front.now c.loop-i.i c.loop-i-test.true))));
    }

pub returns : goal.returns
returns c =
    let r : List ℕ = map nat_abs c.args.front.now in
    let last : c.loop-i.i ≡ length c.args.front.now = omega (arith, c.loop-i-test.false, c.loop-i.auto.i-end) in
    written c.loop-i.left (map pos (minus r c.args.choice.now)) c.loop-i.i (omega (arith, c.loop-i.invariant.long, last)) (omega (arith, length-pos (minus r c.args.choice.now), length-minus r c.args.choice.now, length-abs c.args.front.now, last)) c.loop-i.invariant.filled
