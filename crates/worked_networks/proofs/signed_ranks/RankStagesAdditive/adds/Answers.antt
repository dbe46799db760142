use Rattle.std.proofs.Common.{◌∙◌, ap, set, FitsSigned, rules}
use Rattle.std.specs.Int.{w128}
use Rattle.std.proofs.lemmas.Int.{to_z-of_z}
use Rattle.worked_networks.proofs.SignLaws.{sign_small}
use Rattle.weights.proofs.Items.{one_item}
use Rattle.worked_networks.proofs.signed_ranks.RankStagesAdditive.adds.Goals as goal

pub addend-requires-clause-sign : goal.addend-requires-clause-sign
addend-requires-clause-sign c = sign_small c.args.choice.now c.requires.allowed

pub returns-clause-added : goal.returns-clause-added
returns-clause-added c =
    let fits : FitsSigned w128 c.addend.result = search rules in
    ap (λ z. set c.args.added.now 0 z) (to_z-of_z w128 c.addend.result fits ∙ c.addend.ensures) ∙ one_item c.args.added.now _ c.requires.room
