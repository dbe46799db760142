use Rattle.sample_reader.proofs.WholeStrata.{strata-whole}
use Rattle.sample_reader.proofs.strata_rows.strata_groups.Goals as goal

pub into_strata_groups-requires : goal.into_strata_groups-requires
into_strata_groups-requires c = strata-whole c.args.missing c.args.picks.now c.args.rows.now c.in_ok-subjects.subjects c.requires c.in_ok-subjects.ensures
