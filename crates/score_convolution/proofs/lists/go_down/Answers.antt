use Rattle.std.proofs.Common.{◌≡◌, ◌+◌, ◌-◌, ℕ, List, get_or, ap, drop, ◌∙◌, arith}
use Rattle.score_convolution.specs.Places.{draws_of}
use Rattle.score_convolution.specs.declared.lists.Spot.{Spot}
use Rattle.score_convolution.proofs.Spots.{spots-drop, spots-last, upper-is}
use Rattle.score_convolution.proofs.lists.go_down.Goals as goal

abbrev no_spot : Spot
no_spot = record { place = 0; draws = 0 }

pub overflow_add-draws : goal.overflow_add-draws
overflow_add-draws g c =
    let spots : List Spot = c.args.spots.now in
    let i : ℕ = c.loop-index.index - 1 in
    let on : i + 1 ≡ c.loop-index.index = omega (arith, c.loop-index-test.true) in
    omega (arith, spots-drop (λ p. 1) spots i c.at-draws.result (omega (arith, c.loop-index.invariant.upper.within, c.loop-index-test.true)), spots-last (λ p. 1) spots i, c.requires.light, c.loop-index.invariant.upper.draws, ap (λ j. draws_of (drop j spots)) on, ap (λ (s : Spot). s.draws) c.at-draws.ensures)

pub returns-else-at-least-clause-draws : goal.returns-else-at-least-clause-draws
returns-else-at-least-clause-draws g c =
    let spots : List Spot = c.args.spots.now in
    let u = c.loop-index.invariant in
    u.upper.draws ∙ upper-is c.args.least 0 spots c.loop-index.index c.at.result c.requires.rise u.enough (λ j e h. (let same : c.loop-index.index - 1 ≡ j = omega (arith, e) in omega (arith, c.if-at-least.false, ap (λ (s : Spot). s.place) c.at.ensures, ap (λ k. (get_or spots k c.at.result).place) same))) u.upper.within

pub returns-after-loop-index-clause-draws : goal.returns-after-loop-index-clause-draws
returns-after-loop-index-clause-draws g c =
    let u = c.loop-index.invariant in
    u.upper.draws ∙ upper-is c.args.least 0 c.args.spots.now c.loop-index.index no_spot c.requires.rise u.enough (λ j e h. absurd (omega (arith, e, c.loop-index-test.false))) u.upper.within
