use Rattle.worked_surface.proofs.Conditions.{may-pick-table}
use Rattle.worked_surface.proofs.table_reader_calls.table.Goals as goal

pub table-requires : goal.table-requires
table-requires c = may-pick-table c.args.two_by_two c.args.picks.now c.requires.least c.requires.most c.requires.square c.requires.from_one c.requires.distinct
