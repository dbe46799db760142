use Rattle.std.proofs.Common.{◌≡◌, ◌∙◌, ◌∷◌, [], ℤ, pos, ap, arith}
use Rattle.std.proofs.lemmas.Int.{ints}
use mir.Syntax.{w128}
use mir.Val.{to_z}
use Rattle.weights.proofs.Items.{one_item}
use Rattle.count_rooms.proofs.one_count.write_remaining.Goals as goal

pub returns : goal.returns
returns c =
    let same : to_z w128 c.args.count ≡ pos c.args.count = omega (arith, ints, c.ranges.count.fits) in
    one_item c.args.room.now (to_z w128 c.args.count) c.requires ∙ ap (λ (z : ℤ). z ∷ []) same
