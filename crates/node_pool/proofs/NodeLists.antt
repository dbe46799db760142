-- Rows of keys and weights as lists of nodes.
use Rattle.std.proofs.Common.{◌≡◌, ℕ, zero, suc, ◌+◌, ◌*◌, ◌<◌, ◌≤◌, List, [], ◌∷◌, ◌++◌, length, take, drop, get_or, set, map, refl, arith, sym, ◌∙◌, ap}
use Rattle.std.specs.Prelude.{ℤ}
use Rattle.std.proofs.lemmas.List.{get_or-map, length-map, length-take-le, length-drop, take-append-le, drop-append-le, take_all, drop-drop, length-append, length_push}
use Rattle.node_pool.specs.Nodes.{Node}
use Rattle.node_pool.specs.TableSteps.{key_at}
use Rattle.node_pool.specs.PoolSteps.{IsRow, nodes_of}

-- the nodes that rows of keys and weights stand for
pub length-nodes : (width : ℕ) (row : List ℤ) (ws : List ℕ) → length (nodes_of width row ws) ≡ length ws
length-nodes width row [] = refl
length-nodes width row (w ∷ ws) = ap suc (length-nodes width (drop width row) ws)

pub nodes-at : (width : ℕ) (row : List ℤ) (ws : List ℕ) (i : ℕ) (d : Node) → i < length ws → get_or (nodes_of width row ws) i d ≡ record { key = key_at width row i; weight = get_or ws i 0 }
nodes-at width row [] i d h = absurd (omega arith)
nodes-at width row (w ∷ ws) zero d h = let start : 0 * width ≡ 0 = omega arith in rw start refl
nodes-at width row (w ∷ ws) (suc i) d h =
    let on : width + i * width ≡ suc i * width = omega arith in
    nodes-at width (drop width row) ws i d (omega (arith, h))
    ∙ ap (λ r. record { key = take width r; weight = get_or ws i 0 }) (drop-drop (i * width) width row ∙ ap (λ m. drop m row) on)

nodes-push : (width : ℕ) (row key : List ℤ) (ws : List ℕ) (w : ℕ) → length row ≡ length ws * width → length key ≡ width → nodes_of width (row ++ key) (ws ++ w ∷ []) ≡ nodes_of width row ws ++ record { key = key; weight = w } ∷ []
nodes-push width [] key [] w long wide = ap (λ k. record { key = k; weight = w } ∷ []) (take_all width key (omega arith))
nodes-push width (x ∷ row) key [] w long wide = absurd (omega arith)
nodes-push width row key (v ∷ ws) w long wide =
    let front : width ≤ length row = omega (arith, long) in
    let left : length (drop width row) ≡ length ws * width = omega (arith, long, length-drop width row) in
    rw (take-append-le width row key front, drop-append-le width row key front) (ap (λ ns. record { key = take width row; weight = v } ∷ ns) (nodes-push width (drop width row) key ws w left wide))

pub nodes-set : (width : ℕ) (row : List ℤ) (ws : List ℕ) (i w : ℕ) → i < length ws → nodes_of width row (set ws i w) ≡ set (nodes_of width row ws) i (record { key = key_at width row i; weight = w })
nodes-set width row [] i w h = absurd (omega arith)
nodes-set width row (v ∷ ws) zero w h = let start : 0 * width ≡ 0 = omega arith in rw start refl
nodes-set width row (v ∷ ws) (suc i) w h =
    let on : width + i * width ≡ suc i * width = omega arith in
    ap (λ ns. record { key = take width row; weight = v } ∷ ns) (nodes-set width (drop width row) ws i w (omega (arith, h))
    ∙ ap (λ r. set (nodes_of width (drop width row) ws) i (record { key = take width r; weight = w })) (drop-drop (i * width) width row ∙ ap (λ m. drop m row) on))

before : (width i n : ℕ) → i < n → i * width + width ≤ n * width
before width i n h = grind arith

-- the key at a place, when a key is added to the row
pub key_at-more : (width i n : ℕ) (row key : List ℤ) → i < n → length row ≡ n * width → key_at width (row ++ key) i ≡ key_at width row i
key_at-more width i n row key low long =
    let far : i * width + width ≤ length row = rw long (before width i n low) in
    let front : i * width ≤ length row = omega (arith, far) in
    let rest : width ≤ length (drop (i * width) row) = omega (arith, length-drop (i * width) row, far) in
    rw (drop-append-le (i * width) row key front, take-append-le width (drop (i * width) row) key rest) refl

pub key_at-new : (width n : ℕ) (row key : List ℤ) → length row ≡ n * width → length key ≡ width → key_at width (row ++ key) n ≡ key
key_at-new width n row key long wide = rw (← long, ← wide) (at_end row key)
  where
    at_end : (row key : List ℤ) → take (length key) (drop (length row) (row ++ key)) ≡ key
    at_end [] key = take_all (length key) key (omega arith)
    at_end (x ∷ row) key = at_end row key

pub number-read : {X : Type 0} (number : X → ℕ) (xs : List X) (i : ℕ) (x : X) → i < length xs → x ≡ get_or xs i x → number x ≡ get_or (map number xs) i 0
number-read number xs i x h e = ap number e ∙ sym (get_or-map number xs i x 0 h)

-- the weight at a place
pub weight-low : {X : Type 0} (number : X → ℕ) (width : ℕ) (row : List ℤ) (xs : List X) (i : ℕ) → i < length (nodes_of width row (map number xs)) → i < length xs
weight-low number width row xs i h = omega (arith, h, length-nodes width row (map number xs), length-map xs number)

pub weight-is : {X : Type 0} (number : X → ℕ) (width : ℕ) (row : List ℤ) (xs : List X) (i : ℕ) (x : X) (d : Node) → i < length (nodes_of width row (map number xs)) → x ≡ get_or xs i x → number x ≡ (get_or (nodes_of width row (map number xs)) i d).weight
weight-is number width row xs i x d h e =
    let low : i < length (map number xs) = omega (arith, h, length-nodes width row (map number xs)) in
    number-read number xs i x (weight-low number width row xs i h) e ∙ ap (λ (a : Node). a.weight) (sym (nodes-at width row (map number xs) i d low))

module _ {width : ℕ} {row : List ℤ} {ws : List ℕ} (rows : IsRow width row ws) where
  -- the key at a place
  pub key-fits : (i : ℕ) → i < length (nodes_of width row ws) → i * width + width ≤ length row
  key-fits i h = rw rows.long (before width i (length ws) (omega (arith, h, length-nodes width row ws)))

  pub key-is : (i : ℕ) (d : Node) → i < length (nodes_of width row ws) → key_at width row i ≡ (get_or (nodes_of width row ws) i d).key
  key-is i d h = ap (λ (a : Node). a.key) (sym (nodes-at width row ws i d (omega (arith, h, length-nodes width row ws))))

  pub key-wide : (i : ℕ) → i < length (nodes_of width row ws) → length (key_at width row i) ≡ width
  key-wide i h = length-take-le width (drop (i * width) row) (omega (arith, length-drop (i * width) row, key-fits i h))

  -- one more key
  pub row-more : (key : List ℤ) (w : ℕ) → length key ≡ width → IsRow width (row ++ key) (ws ++ w ∷ [])
  row-more key w wide = record { long = rw (length-append row key, length_push ws w) (omega (arith, rows.long, wide)) }

  pub nodes-more : (key : List ℤ) (w : ℕ) → length key ≡ width → nodes_of width (row ++ key) (ws ++ w ∷ []) ≡ nodes_of width row ws ++ record { key = key; weight = w } ∷ []
  nodes-more key w wide = nodes-push width row key ws w rows.long wide
