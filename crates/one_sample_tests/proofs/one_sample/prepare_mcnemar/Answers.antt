use Rattle.std.proofs.Common.{◌≡◌, ◌∙◌, ℕ, ◌++◌, get_or, sym, ap}
use Rattle.std.specs.Prelude.{pos, ◌-ℤ◌, replicate}
use Rattle.weights.proofs.Centred.{total-wide}
use Rattle.table_reader.specs.Data.{table_data_of}
use Rattle.one_sample_tests.specs.SignedSamples.{discordant, one_sample_test}
use Rattle.one_sample_tests.proofs.FittingSamples.{discordant-few, discordant-many, discordant-small, total-of}
use Rattle.one_sample_tests.proofs.one_sample.prepare_mcnemar.Goals as goal

pub returns-in_default : goal.returns-in_default
returns-in_default c =
    let cells = rw c.as_slice-cells.ensures at c.in_default.ensures in
    total-wide (one_sample_test (discordant (table_data_of c.args.table.now))) (total-of (discordant (table_data_of c.args.table.now))) (rw (sym (discordant-many (table_data_of c.args.table.now))) at cells)

pub prepare-requires-clause-few : goal.prepare-requires-clause-few
prepare-requires-clause-few c =
    let a : ℕ = get_or c.as_slice-cells.result.now 1 0 in
    let b : ℕ = get_or c.as_slice-cells.result.now 2 0 in
    let are : c.push_times-2.new.values ≡ replicate a (pos 1) ++ replicate b (pos 0 -ℤ pos 1) =
    c.in_ok-push_times-2.ensures ∙ ap (λ ds. ds ++ replicate b (pos 0 -ℤ pos 1)) (c.in_ok-push_times.ensures ∙ ap (λ ds. ds ++ replicate a (pos 1)) c.empty-differences.ensures) in
    rw are (discordant-few a b c.in-Some.ensures.0)

pub prepare-requires-clause-fits : goal.prepare-requires-clause-fits
prepare-requires-clause-fits c =
    let a : ℕ = get_or c.as_slice-cells.result.now 1 0 in
    let b : ℕ = get_or c.as_slice-cells.result.now 2 0 in
    let are : c.push_times-2.new.values ≡ replicate a (pos 1) ++ replicate b (pos 0 -ℤ pos 1) =
    c.in_ok-push_times-2.ensures ∙ ap (λ ds. ds ++ replicate b (pos 0 -ℤ pos 1)) (c.in_ok-push_times.ensures ∙ ap (λ ds. ds ++ replicate a (pos 1)) c.empty-differences.ensures) in
    rw are (discordant-small a b)
