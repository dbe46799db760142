use Rattle.std.proofs.Common.{FitsSigned, rules}
use Rattle.std.specs.Int.{w128}
use Rattle.std.proofs.lemmas.Int.{to_z-of_z}
use Rattle.weights.proofs.Items.{two_items}
use Rattle.worked_networks.proofs.BlockLaws.{pair_of}
use Rattle.worked_networks.proofs.blocks.BlocksAdditive.adds.Goals as goal

pub doubled-requires : goal.doubled-requires
doubled-requires c = (pair_of c.args.choice.now c.requires.allowed).first

pub doubled-requires-2 : goal.doubled-requires-2
doubled-requires-2 c = (pair_of c.args.choice.now c.requires.allowed).second

pub returns-clause-added : goal.returns-clause-added
returns-clause-added c =
    let one : FitsSigned w128 c.doubled.result = search rules in
    let two : FitsSigned w128 c.doubled-2.result = search rules in
    rw (to_z-of_z w128 c.doubled.result one, to_z-of_z w128 c.doubled-2.result two, c.doubled.ensures, c.doubled-2.ensures) (two_items c.args.added.now _ _ c.requires.room)
