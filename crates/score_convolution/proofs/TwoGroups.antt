-- How many labellings of two groups there are.
use Rattle.std.proofs.Common.{◌≡◌, ℕ, ◌+◌, ◌-◌, ◌≤◌, [], ◌∷◌, arith}
use Rattle.weights.specs.Labellings.{number_of_labellings}
use Rattle.weights.specs.Numbers.{binomial}
use Rattle.weights.specs.declared.TheConstants.{MAX}
use Rattle.weights.proofs.Binomials.{binomial-left_out}
use Rattle.weights.proofs.CellSums.{two-rows}

pub left-fit : (all n : ℕ) → n ≤ all → number_of_labellings ((all - n) ∷ n ∷ []) ≤ MAX → binomial all (all - n) ≤ MAX
left-fit all n h fits =
    let whole : (all - n) + n ≡ all = omega (arith, h) in
    rw (two-rows (all - n) n, whole) at fits

pub drawn-fit : (all n : ℕ) → n ≤ all → number_of_labellings ((all - n) ∷ n ∷ []) ≤ MAX → binomial all n ≤ MAX
drawn-fit all n h fits = rw (← binomial-left_out all n h) (left-fit all n h fits)
