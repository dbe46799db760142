use Rattle.record_reader.proofs.Reading.{IsReading}
use Rattle.record_reader.proofs.rows.records.Given as goal

abbrev pub invariant-loop-record : goal.invariant-loop-record
invariant-loop-record l = IsReading l.fn.separator l.fn.bytes l.record-iterator l.ends.items l.fields
