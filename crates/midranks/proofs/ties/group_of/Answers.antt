use Rattle.std.proofs.Common.{rules}
use Rattle.std.specs.Prelude.{int_lt}
use Rattle.std.proofs.lemmas.List.Sorted.{IsPartitionPoint-from_clause}
use Rattle.midranks.proofs.Places.{group-found, groups-partitioned}
use Rattle.midranks.proofs.ties.group_of.Goals as goal

pub returns : goal.returns
returns c =
    let ties = c.args.ties.now in
    let value = c.args.value in
    let point = IsPartitionPoint-from_clause (λ t. int_lt t.value value) ties _ c.partition_point.ensures.partitioned (groups-partitioned ties value c.requires.ascending) (λ a r q k. search rules) in
    let both = group-found ties value _ c.requires.ascending c.requires.member point in
    record { within = both.0; found = both.1 }
