use Rattle.std.proofs.Common.{◌+◌, ◌*◌, ◌∙◌, FitsSigned, ap, rules, subst}
use Rattle.std.specs.Prelude.{pos}
use mir.Syntax.{w128}
use Rattle.std.proofs.lemmas.Int.{to_z-of_z}
use Rattle.labelled.proofs.LabelLaws.{label-fits, label-wide}
use Rattle.sample_reader.specs.Data.{sequence_data_of}
use Rattle.sample_reader.specs.Sequences.{SequenceData}
use Rattle.runs_test.specs.Runs.{rows_with, runs_says}
use Rattle.runs_test.specs.RunSteps.{AreRuns}
use Rattle.runs_test.proofs.RunsFitting.{bound-fits, rows-are, rows-few, sizes-are}
use Rattle.runs_test.proofs.runs.prepare.Goals as goal

pub returns-in_default : goal.returns-in_default
returns-in_default c = label-wide (runs_says (sequence_data_of c.args.sequence.now)) (rw (c.as_slice.ensures ∙ sizes-are c.args.sequence.now) at c.in_default.ensures)

pub of-requires : goal.of-requires
of-requires c = (rw c.as_slice.ensures at c.in-Some.ensures).0

pub centre_of-centre-requires : goal.centre_of-centre-requires
centre_of-centre-requires c =
    let s : SequenceData = c.in_ok-number.number in
    rw c.counts-sizes.ensures.sizes_are (rows-few s c.counts-sizes.result.now c.counts-sizes.ensures)

pub new-requires-clause-centre : goal.new-requires-clause-centre
new-requires-clause-centre c =
    let s : SequenceData = c.in_ok-number.number in
    let v : FitsSigned w128 c.centre_of-centre.result = search rules in
    rw (to_z-of_z w128 c.centre_of-centre.result v, c.centre_of-centre.ensures, c.counts-sizes.ensures.sizes_are)
    (ap (λ n. pos (n + 2 * (rows_with s 0 * rows_with s 1))) (rows-are s c.counts-sizes.result.now c.counts-sizes.ensures))

pub returns : goal.returns
returns c =
    let s : SequenceData = sequence_data_of c.args.sequence.now in
    let runs : AreRuns s c.counts-sizes.result.now = subst (λ (q : SequenceData). AreRuns q c.counts-sizes.result.now) c.in_ok-number.ensures c.counts-sizes.ensures in
    (c.new.ensures ∙ c.in_ok-number.ensures, label-fits (runs_says s) runs.total_fits (bound-fits s c.counts-sizes.result.now runs))
