use Rattle.std.proofs.Common.{◌∙◌, refl, arith}
use Rattle.weights.proofs.Centred.{not-wide, total-wide}
use Rattle.sample_reader.specs.Data.{strata_data_of}
use Rattle.sample_reader.specs.StrataGroups.{StrataGroupData}
use Rattle.stratified_ranks.specs.StratifiedRanks.{stratified_rank_test}
use Rattle.stratified_ranks.proofs.StrataSubjects.{bound-fits}
use Rattle.stratified_ranks.proofs.stratified_ranks.prepare.Goals as goal

pub returns-in_default : goal.returns-in_default
returns-in_default c =
    let samples : StrataGroupData = strata_data_of c.args.samples.now in
    let wide = rw c.in_default.is at c.in_ok-made.ensures in
    total-wide (stratified_rank_test samples) refl (λ fits. omega (arith, wide, fits))

pub of-requires : goal.of-requires
of-requires c = (rw c.in-Some.is at c.in_ok-made.ensures).0

pub of-requires-2 : goal.of-requires-2
of-requires-2 c = rw c.in_ok-sum.ensures (rw c.in-Some.is at c.in_ok-made.ensures).1

pub returns : goal.returns
returns c =
    let samples : StrataGroupData = strata_data_of c.args.samples.now in
    let made = (rw c.in-Some.is at c.in_ok-made.ensures).0 in
    (c.of-2.ensures ∙ c.in_ok-sum.ensures, not-wide (stratified_rank_test samples) refl made.answered.total_fits (bound-fits samples made.usable))
