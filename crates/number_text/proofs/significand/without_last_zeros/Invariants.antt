use Rattle.std.proofs.Common.{◌≡◌, ◌-◌, ◌≤◌, ◌++◌, length, replicate}
use Rattle.number_text.proofs.significand.without_last_zeros.Given as goal

-- what was passed so far are zeros
abbrev pub invariant-loop-rest : goal.invariant-loop-rest
invariant-loop-rest l = record {
  bound : length l.digits ≤ length l.fn.digits;
  zeros : l.fn.digits ≡ l.digits ++ replicate (length l.fn.digits - length l.digits) 48;
}

abbrev pub decreases-loop-rest : goal.decreases-loop-rest
decreases-loop-rest l = length l.digits
