use Rattle.std.proofs.Common.{◌≡◌, ◌<◌, ◌-◌, ◌∙◌, ◌&&◌, ◌∷◌, ℕ, zero, suc, List, [], Bool, true, false, ap, arith, cond, get_or, length, map, refl, rules, sym, FitsSigned}
use Rattle.std.specs.Prelude.{nat_abs, pos}
use mir.Syntax.{w128}
use mir.Val.{to_z, of_z}
use Rattle.std.proofs.lemmas.Bool.{lt-ltb}
use Rattle.std.proofs.lemmas.Int.{to_z-of_z}
use Rattle.label_network.proofs.Rows.{abs-at, grown, length-abs, length-pos, pos-at, written}
use Rattle.rank_assignments.specs.Upright.{lean, reflected}
use Rattle.rank_assignments.proofs.UprightSums.{length-reflected}
use Rattle.rank_assignments.proofs.leaning.write_upright.Goals as goal

length-either : (b : Bool) (c : ℕ) (s : List ℕ) → length (cond b (reflected c s) s) ≡ length s
length-either true c s = length-reflected c s
length-either false c s = refl

reflected-at : (b : Bool) (c : ℕ) (s : List ℕ) (i : ℕ) → i < length s → get_or (cond b (reflected c s) s) i 0 ≡ cond b (c - get_or s i 0) (get_or s i 0)
reflected-at true c [] i h = absurd (omega (arith, h))
reflected-at true c (n ∷ s) zero h = refl
reflected-at true c (n ∷ s) (suc i) h = reflected-at true c s i (omega (arith, h))
reflected-at false c s i h = refl

pub loop-i-preserved : goal.loop-i-preserved
loop-i-preserved c =
    let sums : List ℕ = map nat_abs c.args.sums.now in
    let after : List ℕ = cond c.lean-is_reflected.result (reflected c.args.number sums) sums in
    let s : FitsSigned w128 c.reflected_sum.result = search rules in
    let low : c.loop-i.i < length sums = omega (arith, length-abs c.args.sums.now, c.loop-i-test.true) in
    let room : c.loop-i.i < length after = omega (arith, low, length-either c.lean-is_reflected.result c.args.number sums) in
    let value : to_z w128 (of_z w128 c.reflected_sum.result) ≡ pos (cond c.lean-is_reflected.result (c.args.number - get_or sums c.loop-i.i 0) (get_or sums c.loop-i.i 0)) =
    to_z-of_z w128 c.reflected_sum.result s ∙ c.reflected_sum.ensures ∙ ap (λ n. pos (cond c.lean-is_reflected.result (c.args.number - n) n)) (sym (abs-at c.args.sums.now c.loop-i.i c.loop-i-test.true)) in
    let here : get_or (map pos after) c.loop-i.i (pos 0) ≡ pos (cond c.lean-is_reflected.result (c.args.number - get_or sums c.loop-i.i 0) (get_or sums c.loop-i.i 0)) =
    pos-at after c.loop-i.i room ∙ ap pos (reflected-at c.lean-is_reflected.result c.args.number sums c.loop-i.i low) in
    record {
      long = search rules;
      filled = grown c.loop-i.next (map pos after) c.loop-i.i (to_z w128 (of_z w128 c.reflected_sum.result)) (pos 0) (omega (arith, c.loop-i.invariant.long, c.loop-i-test.true)) (omega (arith, room, length-pos after)) c.loop-i.invariant.filled (value ∙ sym here);
    }

pub returns : goal.returns
returns c =
    let sums : List ℕ = map nat_abs c.args.sums.now in
    let after : List ℕ = cond c.lean-is_reflected.result (reflected c.args.number sums) sums in
    let last : c.loop-i.i ≡ length c.args.sums.now = omega (arith, c.loop-i-test.false, c.loop-i.auto.i-end) in
    written c.loop-i.next (map pos after) c.loop-i.i (omega (arith, c.loop-i.invariant.long, last)) (omega (arith, length-pos after, length-either c.lean-is_reflected.result c.args.number sums, length-abs c.args.sums.now, last)) c.loop-i.invariant.filled
    ∙ ap (λ b. map pos (cond b (reflected c.args.number sums) sums)) (c.lean-is_reflected.ensures ∙ sym (ap (λ b. b && lean c.args.number sums) (lt-ltb 0 c.args.number c.requires.some)))
