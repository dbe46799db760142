use Rattle.std.proofs.Common.{◌∙◌, ap, map, string_bytes}
use Rattle.run_in_memory.specs.Sinks.{fault_count}
use Rattle.run_in_memory.specs.declared.sinks.GrowingSink.{GrowingSink}
use Rattle.run_in_memory.proofs.Kept.{kept, whole_kept}
use Rattle.run_in_memory.proofs.runs.run_over.Goals as goal

pub returns : goal.returns
returns c =
    let run = c.run-status.ensures in
    let report = c.in_ok-whole.ensures in
    let line = c.in_ok-whole-2.ensures in
    kept _ _ _ _ (map string_bytes c.deref.result.now) c.new-source.result.bytes.now _ _ _
    (ap (map string_bytes) c.deref.ensures.value ∙ c.in_ok-words.ensures.texts) c.new-source.ensures
    (whole_kept _ _ _ _ _ c.new-report.ensures.bytes report.bytes (ap fault_count c.new-report.ensures.whole) (ap fault_count report.whole))
    (whole_kept _ _ _ _ _ c.new-line.ensures.bytes line.bytes (ap fault_count c.new-line.ensures.whole) (ap fault_count line.whole))
    (record {
      promises = run.promises;
      merged = run.merged;
      answerable = run.answerable;
      unchanged = λ early. ap (λ (s : GrowingSink). s.bytes.items) (run.unchanged early);
      silent = λ done. ap (λ (s : GrowingSink). s.bytes.items) (run.silent done);
    })
