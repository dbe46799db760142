-- What a source in memory is, and what a call does to it.
use Rattle.std.specs.Prelude.{◌≡◌, ℕ, ◌+◌, ◌==◌, Bool, true, false, List, if◌then◌else◌, [], ◌++◌, take, drop, length, min, Result, Ok, IsErr, IfOk}
use Rattle.std.specs.List.{list_any}
use Rattle.outside.specs.Faults.{last_count}
use Rattle.outside.specs.declared.source.Failed.{Failed}

-- its bytes, the most that a read gives, and the numbers of the calls that fail; whether it was
-- started, how many bytes were given since, the number of the last call, and the count of faults
pub record Held : Type 0 where
  pub bytes : List ℕ
  pub step : ℕ
  pub fail : List ℕ
  pub is_started : Bool
  pub given : ℕ
  pub calls : ℕ
  pub faults : ℕ

-- nothing is left before the first start
abbrev pub bytes_left : Held → List ℕ
bytes_left m = if m.is_started then drop m.given m.bytes else []

-- the first start is call 0
abbrev pub next_number : Held → ℕ
next_number m = if m.is_started then min (m.calls + 1) last_count else 0

-- the next call is one that fails
abbrev pub is_failing : Held → Bool
is_failing m = list_any (λ k. k == next_number m) m.fail

-- the next call is counted
abbrev pub counted : Held → Held
counted m = record m {
  is_started = true;
  calls = next_number m;
  faults = if is_failing m then min (m.faults + 1) last_count else m.faults;
}

abbrev pub after_start : Held → Held
after_start m = if is_failing m then counted m else record (counted m) { given = 0 }

-- how many bytes a read into this many places gives
abbrev pub count_given : Held → ℕ → ℕ
count_given m places = min (min m.step places) (length (bytes_left m))

-- a read before the first start gives nothing
abbrev pub IsIdle : Held → Held → Result ℕ Failed → Type 0
IsIdle old new result = (result ≡ Ok 0) × (new ≡ old)

-- a read into so many places gives the next bytes
abbrev pub Gives : Held → Held → Result ℕ Failed → ℕ → Type 0
Gives old new result places =
    (result ≡ Ok (count_given old places))
    × (new ≡ record (counted old) { given = old.given + count_given old places })

-- one read, which finds some bytes in the buffer and leaves others
pub record ReadsOnce (old new : Held) (result : Result ℕ Failed)
    (before after : List ℕ) : Type 0 where
  pub idle : old.is_started ≡ false → IsIdle old new result
  pub fails : old.is_started ≡ true → is_failing old ≡ true → IsErr result × (new ≡ counted old)
  pub gives : old.is_started ≡ true → is_failing old ≡ false → Gives old new result (length before)
  pub copies : IfOk result (λ n. after ≡ take n (bytes_left old) ++ drop n before)
