use denote.Enum.Bare.{differs_false, differs_true}
use Rattle.std.proofs.Common.{◌≡◌, sym, subst, List, ℕ, arith}
use Rattle.run_outcome.specs.declared.status.Status.{Status}
use Rattle.run_outcome.specs.declared.status.Status.TheVariants as status
use Rattle.run_outcome.specs.contracts.status.Status.{the_type}
use Rattle.run_in_memory.specs.Runs.{IsRun}
use Rattle.run_in_memory.proofs.Answered.{as_told, no_memory, refused, reported, without_room}
use Rattle.run_in_memory.proofs.answers.answer_in_memory.Goals as goal

as_done : {packed bytes report line : List ℕ} {came : Status} → came ≡ status.Done
    → IsRun packed bytes came report line → IsRun packed bytes status.Done report line
as_done {packed} {bytes} {report} {line} done run =
    subst (λ (s : Status). IsRun packed bytes s report line) done run

pub returns-in_default : goal.returns-in_default
returns-in_default c =
    as_told _ _ _ _ _ status.NoMemory _ c.without_report.ensures.status c.without_report.ensures.written
    (no_memory _ _ _ _ _ _ (rw (c.as_slice.ensures, c.refusal_line-line.ensures.line) at c.without_report.ensures.told))

pub returns-then-ne : goal.returns-then-ne
returns-then-ne c =
    let told = c.without_report-then-ne.ensures in
    as_told _ _ _ _ _ c.in-Ok.run'.status _ told.status told.written
    (refused _ _ _ _ _ _ c.in-Ok.run'.line.items _ _ c.in-Ok.ensures (differs_true the_type _ _ (sym c.if-ne.ensures)) (rw c.deref.ensures.value at told.told))

pub returns-then-len-out : goal.returns-then-len-out
returns-then-len-out c =
    let told = c.without_report-then-len-out.ensures in
    let done = differs_false the_type (record {}) c.in-Ok.run'.status status.Done (sym c.if-ne.ensures) in
    as_told _ _ _ _ _ status.WriteFault _ told.status told.written
    (without_room _ _ _ _ _ c.in-Ok.run'.report.items c.in-Ok.run'.line.items _ (as_done done c.in-Ok.ensures) (omega arith)
    (rw (c.as_slice-then-len-out.ensures, c.refusal_line-line-then-len-out.ensures.line) at told.told))

pub returns : goal.returns
returns c =
    let done = differs_false the_type (record {}) c.in-Ok.run'.status status.Done (sym c.if-ne.ensures) in
    reported _ _ _ _ _ c.in-Ok.run'.report.items c.in-Ok.run'.line.items _ (as_done done c.in-Ok.ensures) (omega arith) (rw c.deref-2.ensures.value at c.fill.ensures)
