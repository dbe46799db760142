use Rattle.std.proofs.Common.{sym, rules}
use Rattle.std.specs.Prelude.{int_lt}
use Rattle.std.proofs.lemmas.List.Sorted.{IsPartitionPoint-from_clause}
use Rattle.networks.proofs.LinePlaces.{values-parted, place_is}
use Rattle.networks.proofs.lines.place_of.Goals as goal

pub returns : goal.returns
returns c =
    let point = IsPartitionPoint-from_clause (λ l. int_lt l.value c.args.value) _ _ c.partition_point.ensures.partitioned (values-parted c.args.value _ c.requires) (λ a r q k. search rules) in
    sym (place_is c.args.value _ _ c.partition_point.ensures.bound point)
