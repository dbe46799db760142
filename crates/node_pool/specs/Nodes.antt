-- Nodes: keys with their weights, as a list.
use Rattle.std.specs.Prelude.{ℕ, ℤ, ◌*◌, List, [], ◌∷◌, map, Bool, cond}
use Rattle.std.specs.declared.cmp.Ordering.{Ordering}
use Rattle.std.specs.List.{sum_by}
use Rattle.std.specs.Ordering.{int_cmp, eq_by_cmp}
use Rattle.std.specs.Set.{is_member}
use Rattle.std.specs.Cmp.Lexicographic.{slice_cmp}

pub record Node : Type 0 where
  pub key : List ℤ
  pub weight : ℕ

abbrev pub node : List ℤ → ℕ → Node
node k w = record { key = k; weight = w }

-- the order of keys, and whether two are equal
abbrev pub key_cmp : List ℤ → List ℤ → Ordering
key_cmp = slice_cmp int_cmp

abbrev pub key_eq : List ℤ → List ℤ → Bool
key_eq = eq_by_cmp key_cmp

abbrev pub keys : List Node → List (List ℤ)
keys nodes = map (λ a. a.key) nodes

-- whether a key is among the nodes
abbrev pub is_held : List Node → List ℤ → Bool
is_held nodes k = is_member key_eq (keys nodes) k

-- the sum of weight times f over the nodes
abbrev pub weighted : (List ℤ → ℕ) → List Node → ℕ
weighted f nodes = sum_by (λ a. a.weight * f a.key) nodes

-- a key's weight, 0 where it is not held
abbrev pub weight_in : List Node → List ℤ → ℕ
weight_in [] k = 0
weight_in (a ∷ nodes) k = cond (key_eq a.key k) a.weight (weight_in nodes k)

-- what a list of nodes is seen as: the width of its keys, and the nodes in their order
pub record NodeRow : Type 0 where
  pub width : ℕ
  pub nodes : List Node
