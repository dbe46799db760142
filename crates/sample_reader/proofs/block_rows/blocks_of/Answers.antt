use Rattle.std.proofs.Common.{arith}
use Rattle.sample_reader.specs.Cells.{cell_in}
use Rattle.sample_reader.proofs.WholeBlocks.{read_in-whole}
use Rattle.sample_reader.proofs.block_rows.blocks_of.Goals as goal

pub overflow_sub-blocks-2 : goal.overflow_sub-blocks-2
overflow_sub-blocks-2 c =
    let whole = read_in-whole (cell_in c.args.cell) c.args.missing c.args.picks.now c.args.rows.now c.in_ok-cells.cells c.requires c.in_ok-cells.ensures in
    omega (arith, whole.0, c.len.ensures, c.dropped.ensures)

pub into_blocks-requires : goal.into_blocks-requires
into_blocks-requires c =
    let whole = read_in-whole (cell_in c.args.cell) c.args.missing c.args.picks.now c.args.rows.now c.in_ok-cells.cells c.requires c.in_ok-cells.ensures in
    rw (c.len.ensures, c.dropped.ensures, c.width_in.ensures) whole.1
