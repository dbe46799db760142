use Rattle.std.proofs.Common.{◌≡◌, ◌∙◌, ◌+◌, [], ◌∷◌, ap, arith, length, rules, FitsSigned}
use mir.Syntax.{w128}
use Rattle.std.proofs.lemmas.Int.{to_z-of_z}
use Rattle.packed_keys.proofs.DigitLists.{set-only}
use Rattle.packed_keys.proofs.GroupParts.{added-next, packed-of, step-behind, step-long}
use Rattle.packed_keys.proofs.PackedParts.{one-number}
use Rattle.packed_keys.proofs.groups.PackedGroupsRoomed.advance.Goals as goal

pub only_adds-requires : goal.only_adds-requires
only_adds-requires g c = step-long c.args.self.now.0.3 c.args.self.now.1 _ _ c.args.step.now c.requires.step

pub shifted-requires-clause-long : goal.shifted-requires-clause-long
shifted-requires-clause-long g c = step-long c.args.self.now.0.3 c.args.self.now.1 _ _ c.args.step.now c.requires.step

pub behind-requires : goal.behind-requires
behind-requires g c = step-long c.args.self.now.0.3 c.args.self.now.1 _ _ c.args.step.now c.requires.step

pub shifted-requires-clause-one : goal.shifted-requires-clause-one
shifted-requires-clause-one g c = one-number (packed-of (rw c.self.view_is at c.self.invariant)) c.args.stage c.args.room.now c.args.partial.now c.requires.room c.requires.reached

pub shifted-requires-clause-fits : goal.shifted-requires-clause-fits
shifted-requires-clause-fits g c =
    (added-next (rw c.self.view_is at c.self.invariant) c.args.stage c.args.room.now c.args.partial.now c.args.choice.now c.args.step.now c.requires.room c.requires.reached c.requires.before c.requires.allowed c.requires.step (c.only_adds.ensures c.if-only_adds.true)).0

pub advance-requires-clause-reached : goal.advance-requires-clause-reached
advance-requires-clause-reached g c = rw (← c.self.view_is) at c.requires.reached

pub advance-requires-clause-step : goal.advance-requires-clause-step
advance-requires-clause-step g c =
    rw (← c.self.view_is) at (c.behind.ensures ∙ step-behind c.args.self.now.0.3 c.args.self.now.1 _ _ c.args.step.now c.requires.step)

pub returns-then-only_adds : goal.returns-then-only_adds
returns-then-only_adds g c =
    let both = added-next (rw c.self.view_is at c.self.invariant) c.args.stage c.args.room.now c.args.partial.now c.args.choice.now c.args.step.now c.requires.room c.requires.reached c.requires.before c.requires.allowed c.requires.step (c.only_adds.ensures c.if-only_adds.true) in
    let fits : FitsSigned w128 c.shifted.result = search rules in
    let width = (g.M.Measure.meaning c.args.self.now.0.1).floor.width in
    let wide : width + length c.args.next.now ≡ width + 1 = c.requires.next in
    set-only c.args.next.now _ (omega (arith, wide)) ∙ ap (λ z. z ∷ []) (to_z-of_z w128 c.shifted.result fits ∙ c.shifted.ensures) ∙ both.1
