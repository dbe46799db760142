use Rattle.std.proofs.Common.{◌++◌, drop}
use Rattle.node_runs.proofs.Ascending.{ascending-distinct}
use Rattle.node_runs.proofs.merger.Merger.len.Goals as goal

pub returns-clause-apart : goal.returns-clause-apart
returns-clause-apart g c = rw (← c.self.view_is) (ascending-distinct (c.self.inside.into.nodes ++ drop c.self.inside.at c.self.inside.from.nodes) c.self.invariant.ascending)
