use Rattle.std.proofs.Common.{◌∙◌, sym}
use mir.Syntax.{w128}
use Rattle.std.proofs.lemmas.Int.{to_z-of_z}
use Rattle.worked_networks.proofs.SignLaws.{measured-is}
use Rattle.worked_networks.proofs.signed_ranks.SignedRanksFramed.measure.Goals as goal

pub returns : goal.returns
returns c = to_z-of_z w128 c.value.result (record { sfits = c.value.type_inv }) ∙ c.value.ensures ∙ sym (measured-is c.args._tail c.args.labels.now)
