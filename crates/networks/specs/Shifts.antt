-- Steps that shift: a partial is one number, and each step adds its one number to it.
use Rattle.std.specs.Prelude.{◌≡◌, ℕ, ◌+◌, ◌<◌, ℤ, pos, ◌+ℤ◌, List, [], ◌∷◌, ◌++◌, length, drop, get_or}
use Rattle.std.specs.List.{Contains}
use Rattle.networks.specs.Network.{Network, IsReached}

-- rooms of this width leave a partial of one number, which the one number of a step is added to
pub record IsShifting (n : Network) (width step_width : ℕ)
    (step_of : ℕ → List ℤ → List ℕ → List ℤ) : Type 0 where
  pub one : n.width ≡ width + 1
  pub step : step_width ≡ 1
  pub moves : (g : ℕ) (room : List ℤ) (p : ℤ) (c : List ℕ) → length room ≡ width
      → IsReached n g (room ++ p ∷ []) → g < n.count → Contains (n.choices g (room ++ p ∷ [])) c
      → drop width (n.next g (room ++ p ∷ []) c) ≡ (p +ℤ get_or (step_of g room c) 0 (pos 0)) ∷ []
