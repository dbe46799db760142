use Rattle.std.proofs.Common.{◌≡◌, map, string_bytes, drop}
use Rattle.packed_words.specs.PackedWords.{words_in}
use Rattle.packed_words.proofs.Steps.{behind, begun_with}
use Rattle.packed_words.proofs.words.Given as goal

abbrev pub invariant-loop-byte : goal.invariant-loop-byte
invariant-loop-byte l =
    words_in l.packed
    ≡ behind (map string_bytes l.words.items) (begun_with l.begun.items (words_in (drop l.byte-index l.packed)))
