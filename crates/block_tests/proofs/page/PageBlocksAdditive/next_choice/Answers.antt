use Rattle.std.proofs.Common.{◌≡◌, ◌<◌, ◌∙◌, ap, length, arith}
use Rattle.std.specs.Prelude.{slice_index}
use Rattle.block_tests.specs.BlockNetworks.{block_at, page_lines}
use Rattle.block_tests.proofs.PageLaws.{next-place, no-place, place-within}
use Rattle.block_tests.proofs.Steps.{found-at}
use Rattle.block_tests.proofs.page.PageBlocksAdditive.next_choice.Goals as goal

pub overflow_add-next : goal.overflow_add-next
overflow_add-next c =
    let lines : length c.lines.result.now ≡ length (page_lines (block_at c.args.self.now.blocks.items c.args.stage)) = ap length c.lines.ensures ∙ ap (λ counts. length (page_lines counts)) (found-at c.args.self.now.blocks.items c.args.stage c.index.result.now c.requires.before c.index.ensures) in
    let place : slice_index c.args.choice.now 0 < length (page_lines (block_at c.args.self.now.blocks.items c.args.stage)) = place-within (length (page_lines (block_at c.args.self.now.blocks.items c.args.stage))) c.args.choice.now c.requires.allowed in
    omega (arith, lines, place)

pub returns-then-next-count : goal.returns-then-next-count
returns-then-next-count c =
    let lines : length c.lines.result.now ≡ length (page_lines (block_at c.args.self.now.blocks.items c.args.stage)) = ap length c.lines.ensures ∙ ap (λ counts. length (page_lines counts)) (found-at c.args.self.now.blocks.items c.args.stage c.index.result.now c.requires.before c.index.ensures) in
    next-place (length (page_lines (block_at c.args.self.now.blocks.items c.args.stage))) c.args.choice.now c.requires.wide (omega (arith, lines, c.if-next-count.true))

pub returns-else-next-count : goal.returns-else-next-count
returns-else-next-count c =
    let lines : length c.lines.result.now ≡ length (page_lines (block_at c.args.self.now.blocks.items c.args.stage)) = ap length c.lines.ensures ∙ ap (λ counts. length (page_lines counts)) (found-at c.args.self.now.blocks.items c.args.stage c.index.result.now c.requires.before c.index.ensures) in
    no-place (length (page_lines (block_at c.args.self.now.blocks.items c.args.stage))) (slice_index c.args.choice.now 0) (omega (arith, lines, c.if-next-count.false))
