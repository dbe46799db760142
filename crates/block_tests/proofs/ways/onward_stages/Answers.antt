use Rattle.std.proofs.Common.{◌∙◌, ap}
use Rattle.block_tests.specs.EvenBlocks.{assigned_before}
use Rattle.block_tests.proofs.ways.onward_stages.Goals as goal

pub returns-in_ok-at-in-Some : goal.returns-in_ok-at-in-Some
returns-in_ok-at-in-Some c =
    let at = c.in_ok-at-in-Some.ensures ∙ ap (λ bs. assigned_before bs c.args.stage) c.blocks-blocks.ensures.blocks in
    record {
      goes_on = rw at (rw c.in-Some.is at c.in_ok-stages-in-Friedman.ensures.goes_on);
      taken = rw c.in-Some.is at c.in_ok-stages-in-Friedman.ensures.taken;
    }
