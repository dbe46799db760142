use Rattle.std.proofs.Common.{◌*◌, ◌≤◌, ◌∙◌, ℕ, arith, get_or, rules, sym}
use Rattle.std.specs.Prelude.{pos}
use mir.Syntax.{w128}
use Rattle.std.proofs.lemmas.Int.{to_z_pos}
use Rattle.std.proofs.Math.Nat.{mul-le-mul}
use Rattle.label_network.proofs.Rows.{grown, written}
use Rattle.rank_assignments.specs.Assignments.{raises}
use Rattle.rank_assignments.proofs.AssignmentSteps.{length-raises, raise-at}
use Rattle.rank_assignments.proofs.assigned_sums.write_raises.Goals as goal

pub loop-i-preserved : goal.loop-i-preserved
loop-i-preserved c =
    let n : ℕ = get_or c.args.choice.now c.loop-i.i 0 in
    let one : n ≤ 1 = search rules in
    let small : c.args.value * n ≤ 16 * 1 = mul-le-mul c.requires.value one in
    record {
      long = search rules;
      filled = grown c.loop-i.step (raises c.args.value c.args.choice.now) c.loop-i.i _ (pos 0) (omega (arith, c.loop-i.invariant.long, c.loop-i-test.true)) (omega (arith, length-raises c.args.value c.args.choice.now, c.loop-i-test.true)) c.loop-i.invariant.filled (to_z_pos w128 (c.args.value * n) (omega (arith, small)) ∙ sym (raise-at c.args.value c.args.choice.now c.loop-i.i c.loop-i-test.true));
    }

pub returns : goal.returns
returns c =
    written c.loop-i.step (raises c.args.value c.args.choice.now) c.loop-i.i (omega (arith, c.loop-i.invariant.long, c.loop-i-test.false, c.loop-i.auto.i-end)) (omega (arith, length-raises c.args.value c.args.choice.now, c.loop-i-test.false, c.loop-i.auto.i-end)) c.loop-i.invariant.filled
