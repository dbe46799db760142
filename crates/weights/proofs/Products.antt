-- A product of two numbers, each at least one.
use Rattle.std.proofs.Common.{ℕ, ◌*◌, ◌≤◌, arith}

pub product-some : (a b : ℕ) → 1 ≤ a → 1 ≤ b → 1 ≤ a * b
product-some a b h k = grind arith
