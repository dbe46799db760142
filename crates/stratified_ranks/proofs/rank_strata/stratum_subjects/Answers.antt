use Rattle.std.proofs.Common.{◌≡◌, ◌∙◌, sym}
use Rattle.sample_reader.specs.Data.{strata_data_of}
use Rattle.stratified_ranks.specs.StratifiedRanks.{stratum_subjects}
use Rattle.stratified_ranks.proofs.StrataSubjects.{few, labels-small, members-at, pooled-at, usable-from, values-at}
use Rattle.stratified_ranks.proofs.rank_strata.stratum_subjects.Goals as goal

pub ordered_subjects-requires : goal.ordered_subjects-requires
ordered_subjects-requires c =
    let s = strata_data_of c.args.samples.now in
    let u = usable-from c.args.samples.now in
    rw (c.as_slice-4.ensures, c.as_slice-3.ensures, c.in_ok-members.ensures, c.in_ok-values.ensures, c.as_slice-places.ensures, c.as_slice-2.ensures, c.as_slice.ensures) (members-at s u c.args.stratum ∙ sym (values-at s u c.args.stratum))

pub returns : goal.returns
returns c =
    let s = strata_data_of c.args.samples.now in
    let u = usable-from c.args.samples.now in
    let are : c.in_ok-subjects.subjects.items ≡ stratum_subjects s c.args.stratum = (rw (c.as_slice-3.ensures, c.as_slice-4.ensures, c.in_ok-values.ensures, c.in_ok-members.ensures, c.as_slice-places.ensures, c.as_slice.ensures, c.as_slice-2.ensures) at c.in_ok-subjects.ensures) ∙ pooled-at s u c.args.stratum in
    record { are = are; few = rw are (few s u c.args.stratum); small = rw are (labels-small s u c.args.stratum) }
