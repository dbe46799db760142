use Rattle.std.proofs.Common.{◌-◌, arith, ◌∙◌}
use Rattle.label_network.specs.Meanings.{sizes_in}
use Rattle.label_network.proofs.Rows.{length-abs}
use Rattle.sorted_tables.proofs.WholeLists.{whole-lines, whole-front}
use Rattle.sorted_tables.proofs.choice_lines.list_choices.Goals as goal

pub list_behind-requires : goal.list_behind-requires
list_behind-requires c =
    rw (c.orders_of.ensures.orders, c.read_sizes.ensures)
    (whole-front c.args.column (c.total_of.result - c.args.column) (sizes_in c.args.room.now) c.args.binomials.now.width (omega (arith, length-abs c.args.room.now, c.requires.few)) c.requires.small c.requires.held c.requires.fits
    (omega (arith, rw c.read_sizes.ensures at c.total_of.ensures, c.requires.enough)))

pub returns : goal.returns
returns c =
    rw (c.orders_of.ensures.orders, c.read_sizes.ensures, c.new-lines.ensures.items) at c.in_ok-list_behind.ensures
    ∙ whole-lines c.args.column (c.total_of.result - c.args.column) (sizes_in c.args.room.now)
