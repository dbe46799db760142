-- What is said of the distribution of what the arrangements of one block add.
use Rattle.std.proofs.Common.{◌≡◌, ◌≤◌, ℕ, List, refl, arith}
use Rattle.std.specs.Prelude.{pos}
use Rattle.weights.specs.Conditional.{total}
use Rattle.weights.specs.Labellings.{labellings, number_of_labellings}
use Rattle.weights.proofs.Centred.{IsCentred, no_factor-fits}
use Rattle.weights.proofs.FirstLabel.{number_of_labellings-positive}
use Rattle.weights.proofs.Sums.{sum_by-one}
use Rattle.block_tests.specs.BlockNetworks.{arrangement_test}

pub arrangements-centred : (counts : List ℕ) → IsCentred (arrangement_test counts) 0 (pos 0)
arrangements-centred counts = record { by = refl; observed = no_factor-fits _; each = λ r m. no_factor-fits _ }

pub arrangements-total : (counts : List ℕ) → total (arrangement_test counts) ≡ number_of_labellings counts
arrangements-total counts = sum_by-one (labellings counts)

pub arrangements-some : (counts : List ℕ) → 1 ≤ total (arrangement_test counts)
arrangements-some counts = omega (arith, arrangements-total counts, number_of_labellings-positive counts)
