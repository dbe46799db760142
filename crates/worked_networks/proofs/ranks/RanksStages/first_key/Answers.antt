use Rattle.std.proofs.Common.{◌∙◌, refl, arith}
use Rattle.std.specs.Prelude.{pos}
use Rattle.worked_networks.proofs.RankLaws.{three_items, three_same}
use Rattle.std.proofs.lemmas.Int.{ints}
use Rattle.worked_networks.proofs.ranks.RanksStages.first_key.Goals as goal

pub returns : goal.returns
returns c = three_items _ _ _ _ c.requires ∙ three_same _ (pos c.args.self.now.first) _ (pos c.args.self.now.second) _ (pos 0) (omega (arith, ints, c.args.self.now.few)) (omega (arith, ints, c.args.self.now.few)) refl
