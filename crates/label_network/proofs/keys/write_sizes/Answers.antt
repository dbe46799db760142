use Rattle.std.proofs.Common.{◌≡◌, ℕ, get_or, length, map, sym, ◌∙◌, arith, rules}
use Rattle.std.specs.Prelude.{pos}
use mir.Syntax.{w128}
use mir.Val.{to_z}
use Rattle.label_network.proofs.Rows.{grown, written, pos-at, length-pos}
use Rattle.label_network.proofs.keys.write_sizes.Goals as goal

pub loop-i-preserved : goal.loop-i-preserved
loop-i-preserved c =
    let n : ℕ = get_or c.args.sizes.now c.loop-i.i 0 in
    let value : to_z w128 n ≡ pos n = search rules in
    record {
      long = search rules;
      filled = grown c.loop-i.front (map pos c.args.sizes.now) c.loop-i.i (to_z w128 n) (pos 0) (omega (arith, c.loop-i.invariant.long, c.loop-i-test.true)) (omega (arith, c.loop-i-test.true, length-pos c.args.sizes.now)) c.loop-i.invariant.filled (value ∙ sym (pos-at c.args.sizes.now c.loop-i.i c.loop-i-test.true));
    }

pub returns : goal.returns
returns c =
    let last : c.loop-i.i ≡ length c.args.sizes.now = omega (arith, c.loop-i-test.false, c.loop-i.auto.i-end) in
    written c.loop-i.front (map pos c.args.sizes.now) c.loop-i.i (omega (arith, c.loop-i.invariant.long, last)) (omega (arith, length-pos c.args.sizes.now, last)) c.loop-i.invariant.filled
