use Rattle.std.proofs.Common.{SFits, ◌∙◌, rules, sym, to_z-of_z}
use mir.Syntax.{w128}
use Rattle.number_text.proofs.Scaling.{scaled_refused}
use Rattle.number_text.proofs.significand.scale.Goals as goal

pub returns-in_err-power-clause-scaled : goal.returns-in_err-power-clause-scaled
returns-in_err-power-clause-scaled c =
    let fits : SFits w128 c.args.power = search rules in
    let tried = simp to_z-of_z at c.try_from.ensures in
    c.from_residual.ensures ∙ sym (scaled_refused c.args.digits c.args.power c.try_from.result c.requires tried (sym c.ok.ensures.value ∙ c.in_err-power.was))
