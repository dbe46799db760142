use Rattle.std.proofs.Common.{rules, ◌≡◌, ◌≤◌, length, take, ◌+◌, ◌-◌, drop, arith, ap, sym, ◌∙◌}
use Rattle.std.proofs.lemmas.List.{length-drop}
use Rattle.outside.specs.Steady.{Steady}
use Rattle.outside.proofs.Joined.{joined}
use Rattle.outside.proofs.steady.SteadySource.give.Goals as goal

pub returns-clause-moves : goal.returns-clause-moves
returns-clause-moves c =
    let least = c.min-n.ensures in
    let left = c.len.ensures in
    let inv = c.self.invariant in
    let n = c.min-n.result in
    let g = c.self.inside.given in
    let bs = c.self.inside.bytes.items in
    let same : g + n - g ≡ n = omega arith in
    let whole : length bs ≡ c.len.result = search rules in
    let cut : c.copy_from_slice.new.self ≡ take n (drop g bs) = rw (same, c.deref.ensures.value) at c.copy_from_slice.ensures.after in
    let size : length (drop g bs) ≡ length bs - g = length-drop g bs in
    let le : n ≤ length (drop g bs) = omega (arith, least) in
    rw cut (sym (ap (λ (p : Steady). p.left) c.self.view_is) ∙ joined n g bs c.args.buf.now le)
