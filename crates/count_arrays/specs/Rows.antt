-- A row of cells: the weights of the keys of one number that lie a stride apart, from the lowest
-- on. It stands for a list of nodes, and all that is said of a row is said of that list.
use Rattle.std.specs.Prelude.{◌≡◌, ℕ, zero, suc, ℤ, ◌+◌, ◌*◌, ◌+ℤ◌, pos, List, [], ◌∷◌, cond, nat_eq}
use Rattle.node_pool.specs.Nodes.{Node, node, weighted}

-- the number that lies so many strides behind another
abbrev pub stepped : ℤ → ℤ → ℕ → ℤ
stepped lowest stride zero = lowest
stepped lowest stride (suc n) = stepped (lowest +ℤ stride) stride n

-- the nodes of a row, ascending: the first cell is for this number, each other one a stride on; a
-- cell of weight 0 has none
abbrev pub row_nodes : ℤ → ℤ → List ℕ → List Node
row_nodes lowest stride [] = []
row_nodes lowest stride (c ∷ cells) =
    let rest = row_nodes (lowest +ℤ stride) stride cells in
    cond (nat_eq c 0) rest (node (lowest ∷ []) c ∷ rest)

-- the cells of one row are added to those of another, each times a weight, the first at a place and
-- each other one so many cells further on: every sum over the nodes grows by that over these cells,
-- as the nodes of a row that begins at this place, with strides so many times as long
abbrev pub IsPoured : List ℕ → ℕ → ℕ → ℕ → List ℕ → List ℕ → Type 0
IsPoured from weight place every old new = (f : List ℤ → ℕ) (lowest stride : ℤ)
    → weighted f (row_nodes lowest stride new)
    ≡ weighted f (row_nodes lowest stride old)
    + weighted f (row_nodes (stepped lowest stride place) (stepped (pos 0) stride every) from)
    * weight
