use Rattle.std.proofs.Common.{◌≡◌, ◌++◌, map, take, pos}
use Rattle.stratified_ranks.proofs.rank_strata.push_naturals.Given as goal

abbrev pub invariant-loop-natural : goal.invariant-loop-natural
invariant-loop-natural l = l.signed ≡ l.fn.signed ++ map pos (take l.natural-index l.naturals)
