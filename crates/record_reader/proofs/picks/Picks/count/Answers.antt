use Rattle.std.proofs.Common.{sym}
use Rattle.std.proofs.lemmas.List.FromFn.{length-range_with_len}
use Rattle.record_reader.proofs.picks.Picks.count.Goals as goal

pub returns-in-Natural : goal.returns-in-Natural
returns-in-Natural c = rw c.in-Natural.is (sym (length-range_with_len 1 c.args.width))
