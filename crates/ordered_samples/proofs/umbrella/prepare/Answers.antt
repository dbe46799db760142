use Rattle.std.proofs.Common.{◌∙◌, refl, arith}
use Rattle.labelled.proofs.LabelLaws.{label-fits, label-wide}
use Rattle.sample_reader.specs.Data.{data_of}
use Rattle.pooled_columns.proofs.GroupFacts.{few_subjects, labels-small, sizes-whole}
use Rattle.ordered_samples.specs.Umbrella.{PeakedGroups, umbrella_says}
use Rattle.ordered_samples.proofs.FittingUmbrella.{bound-fits, pairs_are}
use Rattle.ordered_samples.proofs.umbrella.prepare.Goals as goal

pub multinomial-requires : goal.multinomial-requires
multinomial-requires c = rw (c.as_slice.ensures ∙ c.args.groups.now.counted) (omega (arith, sizes-whole c.args.groups.now, few_subjects c.args.groups.now))

pub returns-in_default : goal.returns-in_default
returns-in_default c =
    let samples : PeakedGroups = record { peak = c.args.peak; groups = data_of c.args.groups.now } in
    label-wide (umbrella_says samples) (rw (c.as_slice.ensures ∙ c.args.groups.now.counted) at c.in_default.ensures)

pub labels_in-requires : goal.labels_in-requires
labels_in-requires c = rw (c.deref.ensures.value ∙ c.in_ok-pooled.ensures) (labels-small c.args.groups.now)

pub subject_pairs-requires-clause-pairs : goal.subject_pairs-requires-clause-pairs
subject_pairs-requires-clause-pairs c =
    let samples : PeakedGroups = record { peak = c.args.peak; groups = data_of c.args.groups.now } in
    rw (c.as_slice-3.ensures ∙ c.in_ok-made.ensures.sizes, c.as_slice-2.ensures.value ∙ c.in_ok-made.ensures.pairs) (pairs_are samples c.in_ok-made.made c.in_ok-made.ensures)

pub invariant_of-samples : goal.invariant_of-samples
invariant_of-samples c = rw (c.in_ok-copy.ensures, c.in_ok-copy-2.ensures, c.in_ok-copy-3.ensures) c.in_ok-made.ensures

pub returns : goal.returns
returns c =
    let samples : PeakedGroups = record { peak = c.args.peak; groups = data_of c.args.groups.now } in
    (rw (c.new.ensures, c.in_ok-copy.ensures, c.in_ok-copy-2.ensures, c.in_ok-copy-3.ensures) refl, label-fits (umbrella_says samples) c.in_ok-made.ensures.total_fits (bound-fits samples c.in_ok-made.made c.in_ok-made.ensures))
