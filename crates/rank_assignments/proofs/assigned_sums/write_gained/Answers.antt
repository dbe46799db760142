use Rattle.std.proofs.Common.{◌≡◌, ◌<◌, ◌+◌, ◌*◌, ◌∙◌, ℕ, List, ap, arith, get_or, length, map, rules, sym, FitsSigned}
use Rattle.std.specs.Prelude.{nat_abs, pos}
use mir.Syntax.{w128}
use mir.Val.{to_z, of_z}
use Rattle.std.proofs.lemmas.Int.{to_z-of_z}
use Rattle.label_network.proofs.Rows.{abs-at, grown, length-abs, length-pos, pos-at, written}
use Rattle.rank_assignments.specs.Assignments.{gained}
use Rattle.rank_assignments.proofs.SumEnds.{length-gained}
use Rattle.rank_assignments.proofs.AssignmentSteps.{gained-at}
use Rattle.rank_assignments.proofs.assigned_sums.write_gained.Goals as goal

pub loop-i-preserved : goal.loop-i-preserved
loop-i-preserved c =
    let sums : List ℕ = map nat_abs c.args.partial.now in
    let after : List ℕ = gained c.args.value c.args.choice.now sums in
    let s : FitsSigned w128 c.gained_sum.result = search rules in
    let low : c.loop-i.i < length sums = omega (arith, length-abs c.args.partial.now, c.loop-i-test.true) in
    let room : c.loop-i.i < length after = omega (arith, low, length-gained c.args.value c.args.choice.now sums) in
    let value : to_z w128 (of_z w128 c.gained_sum.result) ≡ pos (nat_abs (get_or c.args.partial.now c.loop-i.i (pos 0)) + c.args.value * get_or c.args.choice.now c.loop-i.i 0) = to_z-of_z w128 c.gained_sum.result s ∙ c.gained_sum.ensures in
    let here : get_or (map pos after) c.loop-i.i (pos 0) ≡ pos (nat_abs (get_or c.args.partial.now c.loop-i.i (pos 0)) + c.args.value * get_or c.args.choice.now c.loop-i.i 0) =
    pos-at after c.loop-i.i room ∙ ap pos (gained-at c.args.value c.loop-i.i c.args.choice.now sums low (omega (arith, c.requires.as_many, length-abs c.args.partial.now)) ∙ ap (λ n. n + c.args.value * get_or c.args.choice.now c.loop-i.i 0) (abs-at c.args.partial.now c.loop-i.i c.loop-i-test.true)) in
    record {
      long = search rules;
      filled = grown c.loop-i.next (map pos after) c.loop-i.i (to_z w128 (of_z w128 c.gained_sum.result)) (pos 0) (omega (arith, c.loop-i.invariant.long, c.loop-i-test.true)) (omega (arith, room, length-pos after)) c.loop-i.invariant.filled (value ∙ sym here);
    }

pub returns : goal.returns
returns c =
    let sums : List ℕ = map nat_abs c.args.partial.now in
    let after : List ℕ = gained c.args.value c.args.choice.now sums in
    let last : c.loop-i.i ≡ length c.args.partial.now = omega (arith, c.loop-i-test.false, c.loop-i.auto.i-end) in
    written c.loop-i.next (map pos after) c.loop-i.i (omega (arith, c.loop-i.invariant.long, last)) (omega (arith, length-pos after, length-gained c.args.value c.args.choice.now sums, length-abs c.args.partial.now, last)) c.loop-i.invariant.filled
