use Rattle.std.proofs.Common.{arith, sym}
use Rattle.std.specs.Int.{w128}
use Rattle.std.proofs.lemmas.Int.{to_z-of_z}
use Rattle.sorted_tables.proofs.FrontLines.{last-left}
use Rattle.sorted_tables.proofs.fronts.last_line.Goals as goal

pub value_of-requires : goal.value_of-requires
value_of-requires c = (last-left c.args.rows.now c.requires.front c.requires.last).few

pub overflow_mul-result-2 : goal.overflow_mul-result-2
overflow_mul-result-2 c =
    omega (arith, (rw (sym c.last_alike-alike.ensures) at (last-left c.args.rows.now c.requires.front c.requires.last)).light)

pub returns : goal.returns
returns c =
    rw (to_z-of_z w128 c.value_of.result (record { sfits = c.value_of.type_inv }), c.value_of.ensures)
    (rw (sym c.last_alike-alike.ensures) at (last-left c.args.rows.now c.requires.front c.requires.last)).one
