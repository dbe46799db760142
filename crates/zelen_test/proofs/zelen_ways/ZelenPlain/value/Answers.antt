use Rattle.std.proofs.Common.{◌∙◌, rules, ap, FitsSigned}
use Rattle.std.specs.Prelude.{pos}
use mir.Syntax.{w128}
use Rattle.std.proofs.lemmas.Int.{to_z-of_z}
use Rattle.zelen_test.proofs.zelen_ways.ZelenPlain.value.Goals as goal

pub returns : goal.returns
returns c =
    let fits : FitsSigned w128 c.held.result = search rules in
    to_z-of_z w128 c.held.result fits ∙ c.held.ensures ∙ ap pos (rw (c.as_slice.ensures, c.made.ensures.tables) at c.labels_weight.ensures ∙ c.member.ensures.rarity_is)
