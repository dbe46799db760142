use Rattle.std.proofs.Common.{◌∙◌, refl, sym}
use mir.Syntax.{w128}
use Rattle.std.proofs.lemmas.Int.{to_z-of_z}
use Rattle.weights.proofs.Centred.{measured-is}
use Rattle.block_tests.specs.BlockNetworks.{arrangement_test}
use Rattle.block_tests.proofs.page.BlockFramed.measure.Goals as goal

pub returns : goal.returns
returns c = to_z-of_z w128 c.value.result (record { sfits = c.value.type_inv }) ∙ c.value.ensures ∙ sym (measured-is (arrangement_test c.args.self.now) refl c.args._tail c.args.labels.now)
