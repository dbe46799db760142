use Rattle.std.proofs.Common.{◌≡◌, ◌∙◌, ap, sym, subst, length}
use Rattle.weights.specs.Labellings.{labellings}
use Rattle.enumerate.specs.Walk.{BeginsWith}
use Rattle.block_tests.specs.BlockNetworks.{block_at, first_arrangement}
use Rattle.block_tests.proofs.Arranged.{begins, length-first}
use Rattle.block_tests.proofs.Staged.{whole-at}
use Rattle.block_tests.proofs.Steps.{found-at}
use Rattle.block_tests.proofs.squares.SquareBlocksAdditive.first_choice.Goals as goal

pub write_cells-requires : goal.write_cells-requires
write_cells-requires c =
    let blocks = c.args.self.now.blocks.items in
    let here : c.index.result.now ≡ block_at blocks c.args.stage = found-at blocks c.args.stage c.index.result.now c.requires.before c.index.ensures in
    c.requires.room ∙ sym (ap length c.first.ensures.first ∙ ap (λ counts. length (first_arrangement counts)) here ∙ length-first (block_at blocks c.args.stage) ∙ (whole-at c.args.self.now.treatments blocks c.args.stage c.args.self.now.sound.whole c.requires.before).treatments)

pub returns : goal.returns
returns c =
    let blocks = c.args.self.now.blocks.items in
    let here : c.index.result.now ≡ block_at blocks c.args.stage = found-at blocks c.args.stage c.index.result.now c.requires.before c.index.ensures in
    let first : c.write_cells.new.choice ≡ first_arrangement (block_at blocks c.args.stage) = c.write_cells.ensures ∙ c.first.ensures.first ∙ ap first_arrangement here in
    subst (BeginsWith (labellings (block_at blocks c.args.stage))) (sym first) (begins (block_at blocks c.args.stage))
