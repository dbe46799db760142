-- A list of one number, or of two, written over.
use Rattle.std.proofs.Common.{◌≡◌, List, [], ◌∷◌, length, set, refl, arith}

pub one_item : {X : Type 0} (xs : List X) (x : X) → length xs ≡ 1 → set xs 0 x ≡ x ∷ []
one_item [] x e = absurd (omega (arith, e))
one_item (y ∷ []) x e = refl
one_item (y ∷ z ∷ ys) x e = absurd (omega (arith, e))

pub two_items : {X : Type 0} (xs : List X) (x y : X) → length xs ≡ 2 → set (set xs 0 x) 1 y ≡ x ∷ y ∷ []
two_items [] x y e = absurd (omega (arith, e))
two_items (a ∷ []) x y e = absurd (omega (arith, e))
two_items (a ∷ b ∷ []) x y e = refl
two_items (a ∷ b ∷ c ∷ xs) x y e = absurd (omega (arith, e))
