-- A list that is cut into pieces.
use Rattle.std.specs.Prelude.{◌≡◌, ◌≤◌, ◌-◌, ℕ, List, [], ◌∷◌, take, drop}

-- the pieces of a list: the first goes from the start to the first end, and each other one from
-- there to its own
unfoldable pub pieces : {X : Type 0} → ℕ → List ℕ → List X → List (List X)
pieces start [] items = []
pieces start (end ∷ ends) items = take (end - start) (drop start items) ∷ pieces end ends items

-- the ends rise from the start to the size of the list
unfoldable pub Cuts : ℕ → List ℕ → ℕ → Type 0
Cuts start [] size = start ≡ size
Cuts start (end ∷ ends) size = (start ≤ end) × Cuts end ends size
