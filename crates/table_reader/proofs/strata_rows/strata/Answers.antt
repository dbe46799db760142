use Rattle.table_reader.proofs.WholeStrata.{read_in-whole}
use Rattle.table_reader.proofs.strata_rows.strata.Goals as goal

pub into_strata-requires : goal.into_strata-requires
into_strata-requires c = read_in-whole c.args.picks.now c.args.rows.now c.in_ok-read_in.field-0 c.requires c.in_ok-read_in.ensures
