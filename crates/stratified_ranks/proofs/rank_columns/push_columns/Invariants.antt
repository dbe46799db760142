use Rattle.std.proofs.Common.{◌≡◌, ◌+◌, ◌++◌, drop}
use Rattle.midranks.specs.Ties.{values_in}
use Rattle.stratified_ranks.specs.RankRooms.{columns_after}
use Rattle.stratified_ranks.proofs.rank_columns.push_columns.Given as goal

abbrev pub invariant-loop-tie : goal.invariant-loop-tie
invariant-loop-tie l = record {
  counted : l.before + values_in (drop l.tie-index l.ties) ≡ values_in l.ties;
  pushed : l.columns ++ columns_after l.second l.before (drop l.tie-index l.ties) ≡ l.fn.columns ++ columns_after l.second 0 l.ties;
}
