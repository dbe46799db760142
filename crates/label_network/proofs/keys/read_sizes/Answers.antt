use Rattle.std.proofs.Common.{◌≡◌, get_or, length, map, ap, sym, ◌∙◌, arith, rules}
use Rattle.std.specs.Prelude.{nat_abs, pos}
use mir.Syntax.{w128}
use Rattle.std.proofs.lemmas.Int.{to_z-of_z}
use Rattle.label_network.proofs.Rows.{grown, written, abs-at, length-abs}
use Rattle.label_network.proofs.keys.read_sizes.Goals as goal

pub loop-i-preserved : goal.loop-i-preserved
loop-i-preserved c =
    record {
      long = search rules;
      filled = grown c.loop-i.sizes (map nat_abs c.args.front.now) c.loop-i.i c.size_in.result 0 (omega (arith, c.loop-i.invariant.long, c.loop-i-test.true)) (omega (arith, length-abs c.args.front.now, c.loop-i-test.true)) c.loop-i.invariant.filled ((c.size_in.ensures ∙ ap nat_abs (to_z-of_z w128 (get_or c.args.front.now c.loop-i.i (pos 0)) (search rules))) ∙ sym (abs-at c.args.front.now c.loop-i.i c.loop-i-test.true));
    }

pub returns : goal.returns
returns c =
    let last : c.loop-i.i ≡ length c.args.front.now = omega (arith, c.loop-i-test.false, c.loop-i.auto.i-end) in
    written c.loop-i.sizes (map nat_abs c.args.front.now) c.loop-i.i (omega (arith, c.loop-i.invariant.long, last)) (omega (arith, length-abs c.args.front.now, last)) c.loop-i.invariant.filled
