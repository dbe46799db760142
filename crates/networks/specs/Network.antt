-- A network of stages: its keys, the choices at a key, and where each choice leads, as functions.
use Rattle.std.specs.Prelude.{◌≡◌, ℕ, zero, suc, ◌<◌, ℤ, List, [], ◌∷◌, Bool, true, false}
use Rattle.std.specs.List.{Contains}
use Rattle.weights.specs.declared.tails.Tail.{Tail}
use Rattle.networks.specs.declared.stages.Verdict.{Verdict}

pub record Network : Type 0 where
  -- how many stages there are
  pub count : ℕ
  -- how many numbers a key has, and a choice
  pub width : ℕ
  pub choice_width : ℕ
  -- the key of stage 0
  pub first : List ℤ
  -- at a stage and key: the allowed choices in the order of the visit, and those after a choice
  pub choices : ℕ → List ℤ → List (List ℕ)
  pub later : ℕ → List ℤ → List ℕ → List (List ℕ)
  -- the weight of a choice's arc, and the key of the next stage that the choice reaches
  pub weight : ℕ → List ℤ → List ℕ → ℕ
  pub next : ℕ → List ℤ → List ℕ → List ℤ
  -- what is known of a key's completions
  pub verdict : Tail → ℕ → List ℤ → Verdict
  -- the value of a key of the last stage
  pub value : List ℤ → ℤ

-- k is reached at stage g
abbrev pub IsReached : Network → ℕ → List ℤ → Type 0
IsReached n zero k = k ≡ n.first
IsReached n (suc g) k =
    (j : List ℤ) × (c : List ℕ) × IsReached n g j × (g < n.count)
    × Contains (n.choices g j) c × (k ≡ n.next g j c)

-- the choices that are still to come at a key: from c on, or none
abbrev pub pending : Network → ℕ → List ℤ → Bool → List ℕ → List (List ℕ)
pending n g k true c = c ∷ n.later g k c
pending n g k false c = []
