-- What a sink in memory is, and what a write does to it.
use Rattle.std.specs.Prelude.{◌≡◌, ℕ, ◌+◌, ◌<◌, ◌==◌, Bool, true, false, List, ◌++◌, take, length, min, nat_lt, ◌||◌, Result, Ok, IsErr}
use Rattle.std.specs.List.{list_any}
use Rattle.outside.specs.Faults.{last_count}
use Rattle.outside.specs.declared.source.Failed.{Failed}

-- what it took, how many bytes it has room for, the most that a write takes, and the numbers of the
-- writes that fail;
-- the number of the last write, and the count of faults
pub record Taken : Type 0 where
  pub bytes : List ℕ
  pub room : ℕ
  pub step : ℕ
  pub fail : List ℕ
  pub calls : ℕ
  pub faults : ℕ

abbrev pub next_write : Taken → ℕ
next_write t = min (t.calls + 1) last_count

-- how many bytes of a piece of this length a write takes
abbrev pub count_taken : Taken → ℕ → ℕ
count_taken t size = min t.step size

-- the next write fails, where it is to take n bytes
abbrev pub refuses_bytes : Taken → ℕ → Bool
refuses_bytes t n = nat_lt t.room (length t.bytes + n) || list_any (λ k. k == next_write t) t.fail

-- the next write of a piece of this length fails
abbrev pub is_failing : Taken → ℕ → Bool
is_failing t size = refuses_bytes t (count_taken t size)

abbrev pub after_fault : Taken → Taken
after_fault t = record t { calls = next_write t; faults = min (t.faults + 1) last_count }

abbrev pub after_write : Taken → List ℕ → Taken
after_write t piece =
    record t { calls = next_write t; bytes = t.bytes ++ take (count_taken t (length piece)) piece }

-- a write takes the first bytes of the piece
abbrev pub Takes : Taken → Taken → Result ℕ Failed → List ℕ → Type 0
Takes old new result piece =
    (result ≡ Ok (count_taken old (length piece))) × (new ≡ after_write old piece)

-- one write of a piece
pub record WritesOnce (old new : Taken) (result : Result ℕ Failed) (piece : List ℕ) : Type 0 where
  pub empty : length piece ≡ 0 → (result ≡ Ok 0) × (new ≡ old)
  pub fails : 0 < length piece → is_failing old (length piece) ≡ true
      → IsErr result × (new ≡ after_fault old)
  pub takes : 0 < length piece → is_failing old (length piece) ≡ false → Takes old new result piece
