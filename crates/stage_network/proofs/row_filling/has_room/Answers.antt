use Rattle.std.proofs.Common.{◌≡◌, ◌≢◌, ℕ, zero, suc, ◌+◌, ◌*◌, ◌<◌, true, ◌-◌, nat_lt, arith, refl}
use Rattle.stage_network.proofs.row_filling.has_room.Goals as goal

room : (place every count far last len : ℕ) → count ≢ 0 → far ≡ every * (count - 1) → last ≡ place + far → nat_lt last len ≡ true → place + every * count < len + every
room place every zero far last len some is at low = absurd (some refl)
room place every (suc m) far last len some is at low =
    let more : every * suc m ≡ every * m + every = grind arith in
    let less : last < len = grind (arith, low) in
    let one : suc m - 1 ≡ m = omega arith in
    let far_is : far ≡ every * m = rw one at is in
    omega (arith, more, far_is, at, less)

pub returns-in-Some-checked_add : goal.returns-in-Some-checked_add
returns-in-Some-checked_add c = λ low. room c.args.place c.args.every c.args.count c.in-Some.far c.in-Some-checked_add.last c.args.len c.if-count-eq0.false c.in-Some.ensures.1 c.in-Some-checked_add.ensures.1 low
