use Rattle.std.proofs.Common.{◌≡◌, ◌∷◌, [], ap, arith}
use Rattle.std.specs.Prelude.{pos, ◌+ℤ◌}
use Rattle.std.proofs.lemmas.Int.{ints}
use Rattle.room_network.specs.Meanings.{verdict_at}
use Rattle.room_network.proofs.measure.Measure.same_for.Goals as goal

pub returns : goal.returns
returns g c = λ d few.
    let same : c.args.partial +ℤ pos d ≡ c.args.partial = omega (arith, ints, few) in
    ap (λ z. verdict_at (g.Self.Measure.meaning c.args.self.now) c.args.tail c.args.stage c.args.room.now (z ∷ [])) same
