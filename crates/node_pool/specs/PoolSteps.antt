-- How a pool and a list of nodes lie in memory.
use Rattle.std.specs.Prelude.{◌≡◌, ℕ, zero, suc, ℤ, pos, ◌+◌, ◌*◌, ◌^◌, ◌≤◌, List, [], ◌∷◌, ◌++◌, take, drop, length, get_or, cond}
use Rattle.std.specs.Int.{cast_unsigned}
use Rattle.std.specs.List.{AllByRecursion, IsDistinct}
use mir.Syntax.{w128}
use Rattle.node_pool.specs.Nodes.{Node, key_eq, keys}
use Rattle.node_pool.specs.TableSteps.{IsTable}

-- the keys, cut from the row, beside the weights
abbrev pub nodes_of : ℕ → List ℤ → List ℕ → List Node
nodes_of width row [] = []
nodes_of width row (w ∷ ws) =
    record { key = take width row; weight = w } ∷ nodes_of width (drop width row) ws

-- the nodes where a key's weight has grown: a new key stands at the end
abbrev pub put : List ℤ → ℕ → List Node → List Node
put k w [] = record { key = k; weight = w } ∷ []
put k w (a ∷ nodes) =
    let grown : Node = record { key = a.key; weight = a.weight + w } in
    cond (key_eq a.key k) (grown ∷ nodes) (a ∷ put k w nodes)

-- a number of buckets that is at least half empty with this many keys
pub record IsSizeFor (least count size : ℕ) : Type 0 where
  pub no_less : least ≤ size
  pub small : size ≤ 2 ^ 32
  pub half : 2 * count ≤ size

-- the weight that a number of a cell stands for, by its bits
abbrev pub weight_of : ℤ → ℕ
weight_of number = cast_unsigned w128 number

-- the keys and the weights of n cells: behind the numbers of its key each has its weight
abbrev pub keys_of : ℕ → ℕ → List ℤ → List ℤ
keys_of width zero cells = []
keys_of width (suc n) cells = take width cells ++ keys_of width n (drop (width + 1) cells)

abbrev pub weights_of : ℕ → ℕ → List ℤ → List ℕ
weights_of width zero cells = []
weights_of width (suc n) cells =
    weight_of (get_or cells width (pos 0)) ∷ weights_of width n (drop (width + 1) cells)

abbrev pub cell_nodes : ℕ → ℕ → List ℤ → List Node
cell_nodes width n cells = nodes_of width (keys_of width n cells) (weights_of width n cells)

-- the key of a cell
abbrev pub cell_key : ℕ → List ℤ → ℕ → List ℤ
cell_key width cells i = take width (drop (i * (width + 1)) cells)

-- n cells with room for more, each weight within a limit
pub record AreCells (width limit n : ℕ) (cells : List ℤ) (spare cell_room : ℕ) : Type 0 where
  pub long : length cells ≡ n * (width + 1)
  pub light : AllByRecursion (λ w. w ≤ limit) (weights_of width n cells)
  pub fit : (n + spare) * (width + 1) ≤ cell_room

-- a row of keys, their weights, slots and buckets, with slots for more
pub record IsPool (width : ℕ) (row : List ℤ) (weights slots buckets : List ℕ)
    (spare slot_room : ℕ) : Type 0 where
  pub widest : width ≤ 16
  pub table : IsTable width (length slots) row slots buckets
  pub long : length row ≡ length slots * width
  pub weighed : length weights ≡ length slots
  pub half : 2 * (length slots + spare) ≤ length buckets
  pub some : 1 ≤ length buckets
  pub small : length buckets ≤ 2 ^ 32
  pub apart : IsDistinct key_eq (keys (nodes_of width row weights))
  pub slots_fit : length slots + spare ≤ slot_room

-- the same of cells
pub record IsCellPool (width limit : ℕ) (cells : List ℤ) (slots buckets : List ℕ)
    (spare cell_room slot_room : ℕ) : Type 0 where
  pub stored : AreCells width limit (length slots) cells spare cell_room
  pub pool : IsPool width (keys_of width (length slots) cells)
      (weights_of width (length slots) cells) slots buckets spare slot_room

-- a row that has a key for each weight
pub record IsRow (width : ℕ) (row : List ℤ) (weights : List ℕ) : Type 0 where
  pub long : length row ≡ length weights * width
