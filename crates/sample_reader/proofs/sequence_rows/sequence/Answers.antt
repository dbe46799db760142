use Rattle.sample_reader.proofs.WholeSequence.{sequence-whole}
use Rattle.sample_reader.proofs.sequence_rows.sequence.Goals as goal

pub into_sequence-requires : goal.into_sequence-requires
into_sequence-requires c = sequence-whole c.args.missing c.args.picks.now c.args.rows.now c.in_ok-subjects.subjects c.requires c.in_ok-subjects.ensures
