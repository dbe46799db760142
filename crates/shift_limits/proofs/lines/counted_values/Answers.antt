use Rattle.std.proofs.Common.{◌≡◌, ◌<◌, ◌^◌, ◌++◌, ◌∷◌, [], ◌∙◌, ℤ, List, ap, sym, arith, nat_abs, pos, to_z}
use Rattle.std.specs.Int.{w128}
use Rattle.std.proofs.lemmas.Int.{to_z_pos}
use Rattle.std.proofs.lemmas.List.Elements.{All-append, All-cons, All-nil}
use Rattle.std.proofs.lemmas.List.FromFn.{map-range_with_len_more}
use Rattle.shift_limits.proofs.lines.counted_values.Goals as goal

pub loop-i-preserved : goal.loop-i-preserved
loop-i-preserved c =
    let i = c.loop-i.i in
    let in_range : ℤ → Type 0 = λ v. nat_abs v < 10 ^ 36 in
    let small : in_range (pos i) = omega (arith, c.loop-i-test.true, c.requires) in
    let cast : to_z w128 i ≡ pos i = to_z_pos w128 i (omega (arith, c.loop-i-test.true, c.requires)) in
    let pushed = rw cast at c.in_ok-push.ensures.ok in
    record {
      values = pushed ∙ ap (λ (vs : List ℤ). vs ++ pos i ∷ []) c.loop-i.invariant.values ∙ sym (map-range_with_len_more pos 0 i i (omega arith));
      in_range = rw pushed (All-append in_range c.loop-i.values (pos i ∷ []) c.loop-i.invariant.in_range (All-cons in_range (pos i) [] small (All-nil in_range)));
    }
