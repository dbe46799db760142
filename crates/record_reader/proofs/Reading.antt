-- A reader in the midst of a file.
use Rattle.std.proofs.Common.{Bor, ◌≡◌, ◌<◌, ℕ, List, Some, true, false}
use Rattle.csv.specs.Reading.{ExplainsRead, Reached, Ready, source_of, strip_bom}
use Rattle.csv.specs.declared.error.ErrorKind.{ErrorKind}
use Rattle.csv.specs.declared.error.ErrorKind.TheVariants as kind
use Rattle.csv.specs.declared.iter.ByteRecordsIntoIter.{ByteRecordsIntoIter}
use Rattle.csv.specs.declared.parser.State.TheVariants as state
use Rattle.csv.specs.declared.reader.Reader.{Reader}
use Rattle.csv.specs.declared.reader.Trim.TheVariants as trim
use Rattle.record_reader.specs.Records.{MayEnd, config_of}
use Rattle.record_reader.proofs.Pieces.{AreAll}

-- the records that were read are kept in these fields and ends, and the next ones are read as the first was
pub record IsReading (separator : ℕ) (bytes : List ℕ) (iterator : ByteRecordsIntoIter (Bor (List ℕ))) (ends : List ℕ) (fields : List (List ℕ)) : Type 0 where
  pub untrimmed : iterator.rdr.trim ≡ trim.None
  pub ready : Ready iterator.rdr
  pub flexible : iterator.rdr.flexible ≡ true
  pub config : iterator.rdr.config ≡ config_of separator
  pub turns : 0 < iterator.left
  pub rest : List ℕ
  pub unread : source_of (λ s. Some s.now) iterator.rdr ≡ Some rest
  pub rows : List (List (List ℕ))
  pub reached : Reached (config_of separator) state.StartRecord (strip_bom bytes) rows iterator.rdr.state rest
  pub kept : AreAll ends fields rows

-- a flexible reader of bytes ends with no error but these
pub may-end : {R : Type 0} (remaining : R → _) (old new : Reader R) (error : ErrorKind) → old.flexible ≡ true → ExplainsRead remaining old new false error
    → MayEnd error
may-end remaining old new (kind.Io cause) flexible why = tt
may-end remaining old new kind.OutOfMemory flexible why = tt
may-end remaining old new (kind.UnequalLengths position expected len) flexible why = cc (flexible, why.0)
may-end remaining old new (kind.Utf8 position error) flexible why = cc why.0
may-end remaining old new (kind.Serialize text) flexible why = why
may-end remaining old new (kind.Deserialize position error) flexible why = why
