use Rattle.std.proofs.Common.{◌≡◌, ◌≤◌, ℕ, List, length, ◌-◌}
use Rattle.std.specs.Io.KnownBytes.{Consumes}
use Rattle.outside.specs.declared.source.TheConstants.{LONGEST_FILE}
use Rattle.outside.proofs.source.read_all.Given as goal

abbrev pub invariant-loop-n : goal.invariant-loop-n
invariant-loop-n g l = record {
  short : length l.bytes ≤ LONGEST_FILE;
  read : Consumes (g.S.Source.held l.fn.source l.fn.name) (g.S.Source.left l.source) l.bytes;
  counts : g.S.Source.faults l.fn.source ≤ g.S.Source.faults l.source;
  keeps : (n : List ℕ) → g.S.Source.held l.source n ≡ g.S.Source.held l.fn.source n;
}

abbrev pub decreases-loop-n : goal.decreases-loop-n
decreases-loop-n g l = LONGEST_FILE - length l.bytes
