use Rattle.std.proofs.Common.{◌≡◌, map, pos, take}
use Rattle.pieces.proofs.listed.listed.Given as goal

-- the counts before this one are listed
abbrev pub invariant-loop-i : goal.invariant-loop-i
invariant-loop-i l = l.numbers ≡ map pos (take l.i l.counts)
