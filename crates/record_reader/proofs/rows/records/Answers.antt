use Rattle.std.proofs.Common.{Bor, List, ℕ, ◌≡◌, ◌∙◌, ◌++◌, ◌∷◌, [], Some, length, sym, refl, inl, inr}
use Rattle.csv.specs.Reading.{Reached, strip_bom}
use Rattle.csv.specs.Records.{fields_of}
use Rattle.csv.specs.declared.parser.State.TheVariants as state
use Rattle.csv.proofs.ReadFacts.{rows-end, rows-more}
use Rattle.record_reader.specs.Records.{config_of}
use Rattle.record_reader.proofs.Listed.{all_listed}
use Rattle.record_reader.proofs.Pieces.{none, pushed}
use Rattle.record_reader.proofs.Reading.{may-end}
use Rattle.record_reader.proofs.rows.records.Goals as goal

pub loop-record-init : goal.loop-record-init
unfolding Reached
loop-record-init c =
    let made = c.from_reader-reader.ensures in
    let delimiter = c.delimiter.ensures in
    let flexible = c.flexible.ensures in
    let headers = c.has_headers.ensures in
    rw (c.into_iter-record-iterator.ensures.into_iter_gives, c.new-ends.ensures.items, c.empty-fields.ensures) record {
      untrimmed = rw c.into_byte_records-record-items.ensures.rdr (rw (delimiter, flexible, headers) at made.trim ∙ c.new.ensures.trim);
      ready = rw c.into_byte_records-record-items.ensures.rdr (inr (inr (rw (delimiter, flexible, headers) at made.has_headers, made.headers)));
      flexible = rw c.into_byte_records-record-items.ensures.rdr (rw (delimiter, flexible) at made.flexible);
      config = rw c.into_byte_records-record-items.ensures.rdr (rw (delimiter, flexible, headers, c.new.ensures.config) at made.config);
      turns = c.into_byte_records-record-items.ensures.left;
      rest = strip_bom c.args.bytes.now;
      unread = rw c.into_byte_records-record-items.ensures.rdr made.source;
      rows = [];
      reached = rw c.into_byte_records-record-items.ensures.rdr (sym made.state, refl);
      kept = none;
    }

pub no_memory-requires : goal.no_memory-requires
no_memory-requires c =
    let reading = c.loop-record.invariant in
    let step = rw c.in-Err.is at ((c.in-Some.ensures.steps reading.turns reading.untrimmed).0 reading.ready) in
    may-end (λ (s : Bor (List ℕ)). Some s.now) c.loop-record.record-iterator.rdr c.next.new.self.rdr c.in-Err.error.kind reading.flexible step

pub loop-record-preserved : goal.loop-record-preserved
loop-record-preserved c =
    let reading = c.loop-record.invariant in
    let steps = c.in-Some.ensures.steps reading.turns reading.untrimmed in
    let step = rw c.in-Ok.is at (steps.0 reading.ready) in
    let flexible = rw c.in-Ok.is at steps.3 in
    let more = rows-more (λ (s : Bor (List ℕ)). Some s.now) c.loop-record.record-iterator.rdr c.next.new.self.rdr (fields_of c.in-Ok.record) (config_of c.args.separator) state.StartRecord (strip_bom c.args.bytes.now) reading.rest reading.rows reading.config reading.unread reading.reached step.0 in
    let ends : c.push.new.self.items ≡ c.loop-record.ends.items ++ length c.extend.new.self ∷ [] = rw c.len.ensures at c.in_ok-push-in-Ok.ensures.items in
    record {
      untrimmed = step.0.3 ∙ reading.untrimmed;
      ready = inl step.1;
      flexible = flexible ∙ reading.flexible;
      config = step.0.2 ∙ reading.config;
      turns = step.2;
      rest = more.0;
      unread = more.1;
      rows = reading.rows ++ fields_of c.in-Ok.record ∷ [];
      reached = more.2;
      kept = pushed (fields_of c.in-Ok.record) reading.kept c.in_ok-extend-in-Ok.ensures ends;
    }

pub invariant_of-result : goal.invariant_of-result
invariant_of-result c = c.loop-record.invariant.kept.cuts

pub returns : goal.returns
returns c =
    let reading = c.loop-record.invariant in
    let step = (c.in-None.ensures.steps reading.turns reading.untrimmed).0 reading.ready in
    reading.kept.view ∙ all_listed (config_of c.args.separator) (strip_bom c.args.bytes.now) reading.rows c.loop-record.record-iterator.rdr.state reading.rest reading.reached
    (rows-end (λ (s : Bor (List ℕ)). Some s.now) c.loop-record.record-iterator.rdr c.next.new.self.rdr [] (config_of c.args.separator) reading.rest reading.config reading.unread step)
