use Rattle.std.proofs.Common.{arith}
use Rattle.std.specs.Prelude.{pos}
use Rattle.worked_networks.proofs.RankLaws.{ways-binomial, ways-fit}
use Rattle.worked_networks.proofs.ranks.ways.Goals as goal

pub unreachable-requires : goal.unreachable-requires
unreachable-requires c =
    c.in-None.ensures (omega (arith, ways-binomial c.args.first c.args.second, ways-fit 0 0 (pos 0) c.args.first c.args.second c.requires))
