-- Short lists whose elements are all different.
use Rattle.std.proofs.Common.{◌≢◌, [], ◌∷◌, AllPairs, arith}
use Rattle.std.proofs.lemmas.List.Elements.{All-cons, All-nil}
use Rattle.std.proofs.lemmas.List.Kept.{AllPairs-cons}

pub none_apart : {X : Type 0} → AllPairs {X = X} ◌≢◌ []
none_apart i j d below within = absurd (omega arith)

pub one_apart : {X : Type 0} (x : X) → AllPairs ◌≢◌ (x ∷ [])
one_apart x = AllPairs-cons ◌≢◌ x [] (All-nil (λ y. x ≢ y)) none_apart

pub two_apart : {X : Type 0} (x y : X) → x ≢ y → AllPairs ◌≢◌ (x ∷ y ∷ [])
two_apart x y apart = AllPairs-cons ◌≢◌ x (y ∷ []) (All-cons (λ z. x ≢ z) y [] apart (All-nil (λ z. x ≢ z))) (one_apart y)
