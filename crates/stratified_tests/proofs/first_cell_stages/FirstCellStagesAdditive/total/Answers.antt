use Rattle.std.proofs.Common.{◌∙◌, ap, sym}
use Rattle.strata_cells.specs.Strata.{stratum_at}
use Rattle.stratified_tests.specs.StrataSteps.{stratum_total}
use Rattle.stratified_tests.proofs.StrataLaws.{cell-fits, stage-total}
use Rattle.stratified_tests.proofs.first_cell_stages.FirstCellStagesAdditive.total.Goals as goal

pub unreachable-requires : goal.unreachable-requires
unreachable-requires c =
    let s = c.args.self.now in
    c.in-None.ensures (rw c.as_slice.ensures (cell-fits s.odds s.sound.odds_are s.strata c.args.stage c.requires s.sound.total_fits))

pub returns : goal.returns
returns c =
    let s = c.args.self.now in
    c.in-Some.ensures.1 ∙ ap (λ ss. stratum_total s.odds (stratum_at ss c.args.stage)) c.as_slice.ensures ∙ sym (stage-total s.odds s.strata s.judge c.args.stage)
