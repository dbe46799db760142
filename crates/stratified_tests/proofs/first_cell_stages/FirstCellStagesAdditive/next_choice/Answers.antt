use Rattle.std.proofs.Common.{◌≡◌, ◌∙◌, ◌<◌, get_or, ap}
use Rattle.strata_cells.specs.Strata.{greatest_cell}
use Rattle.strata_cells.specs.Strata.{stratum_at}
use Rattle.stratified_tests.proofs.StrataLaws.{next-cells}
use Rattle.stratified_tests.proofs.first_cell_stages.FirstCellStagesAdditive.next_choice.Goals as goal

pub returns-then-choice-greatest_cell : goal.returns-then-choice-greatest_cell
returns-then-choice-greatest_cell c =
    let greatest : c.greatest_cell.result ≡ greatest_cell (stratum_at c.args.self.now.strata c.args.stage) = c.greatest_cell.ensures ∙ ap (λ ss. greatest_cell (stratum_at ss c.args.stage)) c.as_slice.ensures in
    let more : get_or c.args.choice.now 0 0 < greatest_cell (stratum_at c.args.self.now.strata c.args.stage) = rw greatest at c.if-choice-greatest_cell.true in
    next-cells (greatest_cell (stratum_at c.args.self.now.strata c.args.stage)) c.args.choice.now c.requires.wide more
