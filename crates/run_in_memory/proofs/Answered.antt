-- What is promised of an answer, by how the run ended.
use Rattle.std.proofs.Common.{◌≡◌, ◌≢◌, ◌≤◌, ◌<◌, ◌∙◌, ◌++◌, ℕ, List, [], refl, sym, ap, subst, arith, take, drop, length}
use Rattle.std.proofs.Math.Nat.{min-eq_left}
use Rattle.std.proofs.Math.Seq.{take-length}
use Rattle.report.specs.Refusals.{refusal_line_text}
use Rattle.report.specs.declared.refusals.Refusal.TheVariants as refusal
use Rattle.run_outcome.specs.declared.status.Status.{Status}
use Rattle.run_outcome.specs.declared.status.Status.TheVariants as status
use Rattle.run_in_memory.specs.Answers.{IsAnswer, IsTooLong}
use Rattle.run_in_memory.specs.Places.{IsFilled, IsPut}
use Rattle.run_in_memory.specs.Runs.{IsRun, PromisesMerged, TookLine, outcome_in}
use Rattle.run_in_memory.specs.declared.answers.Answer.{Answer}
use Rattle.run_in_memory.proofs.Promised.{never, promised-no_memory, promised-no_room, promised-refusal, promised-report}

-- an answer is that of its status, where it wrote nothing
pub as_told : (packed bytes out told told_after : List ℕ) (came : Status) (answer : Answer)
    → answer.status ≡ came → answer.written ≡ 0
    → IsAnswer packed bytes out out told told_after
    (record { status = came; written = 0; told = answer.told })
    → IsAnswer packed bytes out out told told_after answer
as_told packed bytes out told told_after came answer same none is =
    subst (λ (s : Status). IsAnswer packed bytes out out told told_after (record { status = s; written = answer.written; told = answer.told })) (sym same)
    (subst (λ (w : ℕ). IsAnswer packed bytes out out told told_after (record { status = came; written = w; told = answer.told })) (sym none) is)

pub no_memory : (packed bytes out told told_after : List ℕ) (n : ℕ)
    → IsFilled told told_after n (refusal_line_text refusal.NoMemory)
    → IsAnswer packed bytes out out told told_after
    (record { status = status.NoMemory; written = 0; told = n })
no_memory packed bytes out told told_after n line = record {
  promises = promised-no_memory (outcome_in packed bytes) _ _ _ (IsFilled told told_after n) line;
  answerable = λ settings means e. absurd cc;
  merged = λ file means full memory. absurd (memory refl);
  merged_without_room = λ file means e. absurd cc;
  unchanged = λ other. (refl, refl);
  silent = λ e. absurd cc;
}

-- the line that a run told is the text
same-line : (told told_after line : List ℕ) (n : ℕ) → IsFilled told told_after n line
    → (text : List ℕ) → TookLine line text → IsFilled told told_after n text
same-line told told_after line n filled text took =
    subst (IsFilled told told_after n) (took.whole never) filled

pub refused : (packed bytes out told told_after report line : List ℕ) (came : Status) (n : ℕ)
    → IsRun packed bytes came report line → came ≢ status.Done → IsFilled told told_after n line
    → IsAnswer packed bytes out out told told_after
    (record { status = came; written = 0; told = n })
refused packed bytes out told told_after report line came n run other filled = record {
  promises = promised-refusal came (outcome_in packed bytes) _ _ _ _ _ _ _ (IsFilled told told_after n)
      (λ rose. never rose.1) other (same-line told told_after line n filled) run.promises;
  answerable = λ settings means e. absurd (other e);
  merged = λ file means full memory. (
    [],
    line,
    subst (λ (kept : List ℕ). PromisesMerged came bytes kept line)
        (run.unchanged (other, λ e. never (run.promises.write_fault e))) (run.merged file means),
    (refl, refl),
    filled,
  );
  merged_without_room = λ file means e. absurd (never (run.promises.write_fault e));
  unchanged = λ differs. (refl, refl);
  silent = λ e. absurd (other e);
}

-- ---- a report

-- a report that goes in is put whole
whole : (out out_after report : List ℕ) (n : ℕ) → length report ≤ length out
    → IsFilled out out_after n report → IsPut out out_after n report
whole out out_after report n room filled =
    let count : n ≡ length report = filled.0 ∙ min-eq_left room in
    let all : take n report ≡ report = ap (λ k. take k report) count ∙ take-length report in
    (count, filled.1 ∙ ap (λ front. front ++ drop n out) all)

-- no line is told
no-line : (told : List ℕ) → IsFilled told told 0 []
no-line told = (omega arith, refl)

pub reported : (packed bytes out out_after told report line : List ℕ) (n : ℕ)
    → IsRun packed bytes status.Done report line → length report ≤ length out
    → IsFilled out out_after n report
    → IsAnswer packed bytes out out_after told told
    (record { status = status.Done; written = n; told = 0 })
reported packed bytes out out_after told report line n run room filled =
    let put : IsPut out out_after n report = whole out out_after report n room filled in
    record {
      promises = promised-report (outcome_in packed bytes) _ _ _ _ _ (IsPut out out_after n) _ _
          (λ text same. subst (IsPut out out_after n) same put) run.promises;
      answerable = λ settings means e. run.answerable settings means e;
      merged = λ file means full memory. (
        report,
        line,
        run.merged file means,
        put,
        subst (IsFilled told told 0) (sym (run.silent refl)) (no-line told),
      );
      merged_without_room = λ file means e. absurd cc;
      unchanged = λ other. absurd (other refl);
      silent = λ e. (refl, refl);
    }

pub without_room : (packed bytes out told told_after report line : List ℕ) (n : ℕ)
    → IsRun packed bytes status.Done report line → length out < length report
    → IsFilled told told_after n (refusal_line_text refusal.WriteFault)
    → IsAnswer packed bytes out out told told_after
    (record { status = status.WriteFault; written = 0; told = n })
without_room packed bytes out told told_after report line n run long filled = record {
  promises = promised-no_room (outcome_in packed bytes) out _ _ _ _ _ (IsFilled told told_after n)
      (λ text same. subst (IsTooLong out) same long) filled run.promises;
  answerable = λ settings means e. absurd cc;
  merged = λ file means full memory. absurd (full refl);
  merged_without_room = λ file means e.
      (report, subst (λ (kept : List ℕ). PromisesMerged status.Done bytes report kept) (run.silent refl) (run.merged file means), long);
  unchanged = λ other. (refl, refl);
  silent = λ e. absurd cc;
}
