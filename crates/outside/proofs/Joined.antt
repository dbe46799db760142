-- What a read gave, followed by what it left, is what was left before.
use Rattle.std.proofs.Common.{◌≡◌, ◌≤◌, ℕ, List, length, take, ◌+◌, ◌++◌, drop, arith, sym, ◌∙◌}
use Rattle.std.proofs.lemmas.List.{drop-drop, length-take-le, take-append-drop, take-append-le, take-take}

pub joined : (n given : ℕ) (bytes buf : List ℕ) → n ≤ length (drop given bytes) → drop given bytes ≡ take n (take n (drop given bytes) ++ drop n buf) ++ drop (given + n) bytes
joined n given bytes buf enough =
    let size : length (take n (drop given bytes)) ≡ n = length-take-le n (drop given bytes) enough in
    let front : take n (take n (drop given bytes) ++ drop n buf) ≡ take n (drop given bytes) =
    take-append-le n (take n (drop given bytes)) (drop n buf) (omega arith) ∙ take-take n n (drop given bytes) (omega arith) in
    rw (front, ← drop-drop n given bytes) (sym (take-append-drop n (drop given bytes)))
