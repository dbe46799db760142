use Rattle.std.proofs.Common.{◌≡◌, ◌<◌, ◌∙◌, ap, set, get_or, length, arith, rules, FitsSigned, List, [], ◌∷◌}
use Rattle.std.specs.Prelude.{slice_index}
use Rattle.std.specs.Int.{w128}
use Rattle.std.proofs.lemmas.Int.{to_z-of_z}
use Rattle.weights.specs.declared.lines.Line.{Line}
use Rattle.block_tests.specs.BlockNetworks.{block_at, no_line, page_lines}
use Rattle.block_tests.proofs.PageLaws.{place-within}
use Rattle.weights.proofs.Items.{one_item}
use Rattle.block_tests.proofs.Steps.{found-at}
use Rattle.block_tests.proofs.page.PageBlocksAdditive.adds.Goals as goal

pub line_at-line-requires : goal.line_at-line-requires
line_at-line-requires c =
    let lines : length c.lines.result.now ≡ length (page_lines (block_at c.args.self.now.blocks.items c.args.stage)) = ap length c.lines.ensures ∙ ap (λ counts. length (page_lines counts)) (found-at c.args.self.now.blocks.items c.args.stage c.index.result.now c.requires.before c.index.ensures) in
    let place : slice_index c.args.choice.now 0 < length (page_lines (block_at c.args.self.now.blocks.items c.args.stage)) = place-within (length (page_lines (block_at c.args.self.now.blocks.items c.args.stage))) c.args.choice.now c.requires.allowed in
    omega (arith, lines, place)

pub returns-clause-added : goal.returns-clause-added
returns-clause-added c =
    let place = slice_index c.args.choice.now 0 in
    let lines = c.lines.ensures ∙ ap page_lines (found-at c.args.self.now.blocks.items c.args.stage c.index.result.now c.requires.before c.index.ensures) in
    let fits : FitsSigned w128 c.line_at-line.result.value = search rules in
    ap (λ z. set c.args.added.now 0 z) (to_z-of_z w128 c.line_at-line.result.value fits)
    ∙ one_item c.args.added.now _ c.requires.room ∙ ap (λ (l : Line). l.value ∷ []) (c.line_at-line.ensures ∙ ap (λ (ls : List Line). get_or ls place no_line) lines)

pub returns-clause-weight : goal.returns-clause-weight
returns-clause-weight c =
    let place = slice_index c.args.choice.now 0 in
    let lines = c.lines.ensures ∙ ap page_lines (found-at c.args.self.now.blocks.items c.args.stage c.index.result.now c.requires.before c.index.ensures) in
    ap (λ (l : Line). l.weight) (c.line_at-line.ensures ∙ ap (λ (ls : List Line). get_or ls place no_line) lines)
