use Rattle.std.proofs.Common.{◌≡◌, ◌∙◌, ◌≤◌, get_or, ap, set, arith}
use Rattle.std.specs.Prelude.{pos, slice_index}
use Rattle.std.proofs.lemmas.Int.{ints}
use mir.Syntax.{w128}
use mir.Val.{to_z}
use Rattle.weights.specs.declared.TheConstants.{MAX}
use Rattle.strata_cells.specs.Strata.{stratum_at}
use Rattle.stratified_tests.specs.StrataNetwork.{weighed_cell}
use Rattle.stratified_tests.proofs.StrataLaws.{IsCell, cell-fits, choice-cell, weight-within}
use Rattle.weights.proofs.Items.{one_item}
use Rattle.stratified_tests.proofs.first_cell_stages.FirstCellStagesAdditive.adds.Goals as goal
use Rattle.stratified_tests.proofs.first_cell_stages.FirstCellStagesAdditive.adds.Goals.{After-as_slice}

-- the choice is a first cell of the stratum
cell : (c : After-as_slice) → IsCell (stratum_at c.args.self.now.strata c.args.stage) c.args.choice.now
cell c =
    let s = c.args.self.now in
    choice-cell s.odds s.strata s.judge c.args.stage c.args.choice.now c.requires.allowed

fits : (c : After-as_slice) → weighed_cell c.args.self.now.odds (stratum_at c.args.self.now.strata c.args.stage) (slice_index c.args.choice.now 0) ≤ MAX
fits c =
    let s = c.args.self.now in
    omega (arith, weight-within s.odds (stratum_at s.strata c.args.stage) (slice_index c.args.choice.now 0) (cell c).low (cell c).high, cell-fits s.odds s.sound.odds_are s.strata c.args.stage c.requires.before s.sound.total_fits)

pub weight-requires-clause-least : goal.weight-requires-clause-least
weight-requires-clause-least c = rw c.as_slice.ensures (cell (goal.at.weight-requires-clause-least c).After-as_slice).low

pub weight-requires-clause-greatest : goal.weight-requires-clause-greatest
weight-requires-clause-greatest c = rw c.as_slice.ensures (cell (goal.at.weight-requires-clause-greatest c).After-as_slice).high

pub weight-requires-clause-fits : goal.weight-requires-clause-fits
weight-requires-clause-fits c = rw c.as_slice.ensures (fits (goal.at.weight-requires-clause-fits c).After-as_slice)

pub returns-clause-added : goal.returns-clause-added
returns-clause-added c =
    let same : to_z w128 (get_or c.args.choice.now 0 0) ≡ pos (get_or c.args.choice.now 0 0) = omega (arith, ints, c.type_inv.choice 0) in
    ap (λ z. set c.args.added.now 0 z) same ∙ one_item c.args.added.now _ c.requires.room
