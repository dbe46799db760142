-- Places of fields in a row.
use Rattle.std.proofs.Common.{◌≡◌, ℕ, ◌==◌, ◌≤◌, false, arith}
use Rattle.std.proofs.lemmas.Bool.{ne_eqb}

pub behind_first : (place : ℕ) → 1 ≤ place → (place == 0) ≡ false
behind_first place behind = ne_eqb place 0 (λ e. omega (arith, e, behind))
