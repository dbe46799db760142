use Rattle.std.proofs.Common.{◌≡◌, map, nat_abs, take}
use Rattle.stage_network.proofs.listed_keys.counts_of.Given as goal

-- the numbers before this one are counted
abbrev pub invariant-loop-i : goal.invariant-loop-i
invariant-loop-i l = l.counts.items ≡ map nat_abs (take l.i l.numbers)
