-- The name of a run: what its words and its file come to.
use Rattle.std.specs.Prelude.{ℕ, List, ◌++◌}
use Rattle.hex.specs.Hex.{encode_lower}
use Rattle.sha2.specs.Sha256.{sha256}

-- the words of a run, without its part, and behind them the bytes of its file
abbrev pub run_name : List ℕ → List ℕ → List ℕ
run_name words file = encode_lower (sha256 (words ++ file))
