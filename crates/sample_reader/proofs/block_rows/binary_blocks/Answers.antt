use Rattle.std.proofs.Common.{◌≡◌, Ok}
use Rattle.std.specs.List.{All}
use Rattle.std.proofs.lemmas.Result.{IfOk-weaker}
use Rattle.sample_reader.specs.CellLayouts.{binary_blocks_in}
use Rattle.sample_reader.specs.Data.{block_data_of}
use Rattle.sample_reader.specs.Values.{IsBinary}
use Rattle.sample_reader.proofs.BinaryBlocks.{cells-binary}
use Rattle.sample_reader.proofs.block_rows.binary_blocks.Goals as goal

pub returns-clause-binary : goal.returns-clause-binary
returns-clause-binary c =
    let missing = c.args.missing in
    let picks = c.args.picks.now in
    let rows = c.args.rows.now in
    IfOk-weaker c.blocks_of.result (λ blocks. binary_blocks_in missing picks rows ≡ Ok (block_data_of blocks)) (λ blocks. All IsBinary blocks.cells)
    (λ blocks e. cells-binary missing picks rows (block_data_of blocks) e) c.blocks_of.ensures.ok
