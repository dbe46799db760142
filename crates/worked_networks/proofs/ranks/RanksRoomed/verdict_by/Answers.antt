use Rattle.std.proofs.Common.{◌++◌, length, ap, arith}
use Rattle.std.proofs.lemmas.List.{length-append}
use Rattle.worked_networks.proofs.RankLaws.{Ranked, ranked}
use Rattle.worked_networks.proofs.ranks.RanksRoomed.verdict_by.Goals as goal

pub write_key-requires : goal.write_key-requires
write_key-requires c =
    let here : Ranked c.args.self.now.first c.args.self.now.second c.args.self.now.observed c.args.stage (c.args.room.now ++ c.args.partial.now) = ranked c.args.self.now.first c.args.self.now.second c.args.self.now.observed c.args.stage _ c.requires.reached in
    omega (arith, ap length here.3, length-append c.args.room.now c.args.partial.now)
