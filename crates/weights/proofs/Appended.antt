-- What stands at a place of a list with one more element at its end.
use Rattle.std.proofs.Common.{◌≡◌, ℕ, ◌<◌, List, [], ◌∷◌, ◌++◌, length, get_or}
use Rattle.std.proofs.lemmas.List.{get_or_append_left}
use Rattle.std.proofs.Math.Seq.{get_or-append_seam}

pub get-front : {X : Type 0} (xs : List X) (y d : X) (i : ℕ) → i < length xs → get_or (xs ++ y ∷ []) i d ≡ get_or xs i d
get-front xs y d i h = get_or_append_left xs (y ∷ []) d i h

pub get-last : {X : Type 0} (xs : List X) (y d : X) (i : ℕ) → i ≡ length xs → get_or (xs ++ y ∷ []) i d ≡ y
get-last xs y d i e = rw e (get_or-append_seam xs y [] d)
