-- The fields of tables and strata: counts.
use Rattle.std.specs.Prelude.{ℕ, ◌≤◌, List, All, Result, ok_or}
use Rattle.number_text.specs.CountTexts.{count_of}
use Rattle.record_reader.specs.declared.faults.Kind.{Kind}
use Rattle.record_reader.specs.declared.faults.Kind.TheVariants.{NotCount}
use Rattle.table_reader.specs.declared.TheConstants.{MOST_COUNT}

-- the count of a field
abbrev pub count_in : List ℕ → Result ℕ Kind
count_in text = ok_or (count_of MOST_COUNT text) NotCount

-- each number is in the range of counts
abbrev pub AreCounts : List ℕ → Type 0
AreCounts counts = All (λ count. count ≤ MOST_COUNT) counts
