use Rattle.sample_reader.proofs.WholePairs.{read_in-whole}
use Rattle.sample_reader.proofs.pair_rows.pairs.Goals as goal

pub into_pairs-requires : goal.into_pairs-requires
into_pairs-requires c = read_in-whole c.args.missing c.args.picks.now c.args.rows.now c.in_ok-values.values c.requires c.in_ok-values.ensures
