use Rattle.std.proofs.Common.{ap, sym, ◌∙◌, rules}
use Rattle.std.specs.Prelude.{◌+ℤ◌}
use Rattle.std.proofs.lemmas.Int.{to_z-of_z}
use mir.Syntax.{w128}
use Rattle.count_arrays.proofs.RowSums.{stepped-is}
use Rattle.stage_network.proofs.row_arcs.number_at.Goals as goal

pub returns : goal.returns
returns c =
    let told = rw (to_z-of_z w128 c.args.lowest c.ranges.lowest, to_z-of_z w128 c.in_ok-far.far (search rules)) at c.in_ok-number.ensures in
    to_z-of_z w128 c.in_ok-number.number (search rules) ∙ told ∙ ap (λ z. c.args.lowest +ℤ z) c.in_ok-far.ensures ∙ sym (stepped-is c.args.lowest c.args.stride c.args.i)
