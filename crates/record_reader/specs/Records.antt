-- The records of a file's bytes, in the words of `csv`.
use Rattle.std.specs.Prelude.{◌≡◌, ◌⊎◌, ⊤, ℕ, List}
use Rattle.csv.specs.Reading.{default_config, records, strip_bom}
use Rattle.csv.specs.declared.parser.Config.{Config}
use Rattle.csv.specs.declared.error.ErrorKind.{ErrorKind}
use Rattle.csv.specs.declared.error.ErrorKind.TheVariants as kind

abbrev pub tab : ℕ
tab = 9

abbrev pub comma : ℕ
comma = 44

abbrev pub semicolon : ℕ
semicolon = 59

-- a byte that may separate fields
abbrev pub IsSeparator : ℕ → Type 0
IsSeparator byte = (byte ≡ comma) ⊎ (byte ≡ semicolon) ⊎ (byte ≡ tab)

-- how `csv` reads by default, but with this separator
abbrev pub config_of : ℕ → Config
config_of separator = record default_config { delimiter = separator }

-- the records of a file, less one byte order mark at its start
abbrev pub records_of : ℕ → List ℕ → List (List (List ℕ))
records_of separator bytes = records (config_of separator) (strip_bom bytes)

-- an error that may end the reading of bytes as records of any length: want of memory, or an error
-- of the source
abbrev pub MayEnd : ErrorKind → Type 0
MayEnd (kind.Io error) = ⊤
MayEnd kind.OutOfMemory = ⊤
MayEnd (kind.UnequalLengths position expected length) = ⊥
MayEnd (kind.Utf8 position error) = ⊥
MayEnd (kind.Serialize text) = ⊥
MayEnd (kind.Deserialize position error) = ⊥
