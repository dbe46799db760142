use Rattle.std.proofs.Common.{◌≡◌, drop}
use Rattle.std.specs.List.{sum}
use Rattle.label_network.specs.Meanings.{sizes_in}
use Rattle.sorted_tables.proofs.RaisedLoops.{IsSearched}
use Rattle.sorted_tables.proofs.gathering.next_gathered.Given as goal

abbrev pub invariant-loop-i : goal.invariant-loop-i
invariant-loop-i l = record {
  searched : IsSearched l.total (sizes_in l.fn.sizes) l.fn.counts l.counts l.i l.later l.equal;
  behind : l.behind ≡ sum (drop l.i (sizes_in l.fn.sizes));
}

abbrev pub decreases-loop-i : goal.decreases-loop-i
decreases-loop-i l = l.i
