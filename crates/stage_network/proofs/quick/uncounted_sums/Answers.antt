use Rattle.std.proofs.Common.{ℕ}
use Rattle.networks.specs.declared.tail_sums.TailSum.{TailSum}

abbrev told : ℕ → TailSum
told sum = record { sum = sum; opened = 0 }
