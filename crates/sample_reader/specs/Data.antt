-- What samples stand for.
use Rattle.sample_reader.specs.Twins.{TwinData}
use Rattle.sample_reader.specs.CellLayouts.{BlockData}
use Rattle.sample_reader.specs.Groups.{GroupData}
use Rattle.sample_reader.specs.Sequences.{SequenceData}
use Rattle.sample_reader.specs.StrataGroups.{StrataGroupData}
use Rattle.sample_reader.specs.declared.samples.Twins.{Twins}
use Rattle.sample_reader.specs.declared.samples.Blocks.{Blocks}
use Rattle.sample_reader.specs.declared.samples.Groups.{Groups}
use Rattle.sample_reader.specs.declared.samples.Sequence.{Sequence}
use Rattle.sample_reader.specs.declared.samples.StrataGroups.{StrataGroups}

abbrev pub data_of : Groups → GroupData
data_of groups = record { labels = groups.labels; members = groups.members; values = groups.values }

abbrev pub block_data_of : Blocks → BlockData
block_data_of blocks =
    record { blocks = blocks.blocks; treatments = blocks.treatments; cells = blocks.cells }

abbrev pub strata_data_of : StrataGroups → StrataGroupData
strata_data_of samples = record {
  strata = samples.strata;
  labels = samples.labels;
  places = samples.places;
  members = samples.members;
  values = samples.values;
}

abbrev pub twin_data_of : Twins → TwinData
twin_data_of sample = record { first = sample.first; second = sample.second }

abbrev pub sequence_data_of : Sequence → SequenceData
sequence_data_of sequence = record { labels = sequence.labels; members = sequence.members }
