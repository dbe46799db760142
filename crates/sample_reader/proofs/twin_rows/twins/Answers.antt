use Rattle.sample_reader.proofs.WholeTwins.{twins-whole}
use Rattle.sample_reader.proofs.twin_rows.twins.Goals as goal

pub into_twins-requires : goal.into_twins-requires
into_twins-requires c = twins-whole c.args.missing c.args.picks.now c.args.rows.now _ c.requires c.in_ok-read_in.ensures
