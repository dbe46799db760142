-- The nodes of rows of cells: parts of rows, and that the keys differ.
use Rattle.std.proofs.Common.{◌≡◌, ◌≢◌, ℕ, zero, suc, ◌+◌, ◌<◌, ◌≤◌, List, [], ◌∷◌, ◌++◌, length, take, drop, replicate, get_or, set, false, ◌-◌, ◌⊎◌, inl, inr, refl, arith, sym, ◌∙◌, ap}
use Rattle.std.specs.Prelude.{ℤ, ◌+ℤ◌, ◌<ℤ◌, pos}
use Rattle.std.specs.List.{AllByRecursion, IsDistinct}
use Rattle.std.proofs.lemmas.Int.{ints}
use Rattle.std.proofs.lemmas.List.{get_or-set_same, get_or-set_other}
use Rattle.node_pool.specs.Nodes.{node, key_eq, keys}
use Rattle.node_pool.proofs.Puts.{unlike}
use Rattle.count_arrays.specs.Rows.{row_nodes, stepped}
use Rattle.count_arrays.proofs.RowSums.{positive}

-- a row in two parts
pub row-parts : (lowest stride : ℤ) (xs ys : List ℕ) → row_nodes lowest stride (xs ++ ys) ≡ row_nodes lowest stride xs ++ row_nodes (stepped lowest stride (length xs)) stride ys
row-parts lowest stride [] ys = refl
row-parts lowest stride (zero ∷ xs) ys = row-parts (lowest +ℤ stride) stride xs ys
row-parts lowest stride (suc c ∷ xs) ys = rw (positive c) (ap (λ ns. node (lowest ∷ []) (suc c) ∷ ns) (row-parts (lowest +ℤ stride) stride xs ys))

-- each node has a weight
pub row-heavy : (lowest stride : ℤ) (cells : List ℕ) → AllByRecursion (λ a. 1 ≤ a.weight) (row_nodes lowest stride cells)
row-heavy lowest stride [] = tt
row-heavy lowest stride (zero ∷ cells) = row-heavy (lowest +ℤ stride) stride cells
row-heavy lowest stride (suc c ∷ cells) = rw (positive c) (omega arith, row-heavy (lowest +ℤ stride) stride cells)

-- no key is that of a number below the row
above : (z lowest stride : ℤ) (cells : List ℕ) → z <ℤ lowest → pos 0 <ℤ stride → AllByRecursion (λ k. key_eq (z ∷ []) k ≡ false) (keys (row_nodes lowest stride cells))
above z lowest stride [] low up = tt
above z lowest stride (zero ∷ cells) low up = above z (lowest +ℤ stride) stride cells (omega (arith, ints, low, up)) up
above z lowest stride (suc c ∷ cells) low up = rw (positive c) (unlike (z ∷ []) (lowest ∷ []) (apart z lowest low), above z (lowest +ℤ stride) stride cells (omega (arith, ints, low, up)) up)
  where
    first : List ℤ → ℤ
    first [] = pos 0
    first (x ∷ xs) = x

    apart : (z l : ℤ) → z <ℤ l → (z ∷ []) ≢ (l ∷ [])
    apart z l low e = let same : z ≡ l = ap first e in omega (arith, ints, low, same)

-- the keys of a row differ
pub row-distinct : (lowest stride : ℤ) (cells : List ℕ) → pos 0 <ℤ stride → IsDistinct key_eq (keys (row_nodes lowest stride cells))
unfolding IsDistinct
row-distinct lowest stride [] up = tt
row-distinct lowest stride (zero ∷ cells) up = row-distinct (lowest +ℤ stride) stride cells up
row-distinct lowest stride (suc c ∷ cells) up = rw (positive c) (above lowest (lowest +ℤ stride) stride cells (omega (arith, ints, up)) up, row-distinct (lowest +ℤ stride) stride cells up)

-- empty cells in front, and at the end
pub row-front : (lowest stride : ℤ) (cells : List ℕ) (i : ℕ) → ((j : ℕ) → j < i → get_or cells j 0 ≡ 0) → row_nodes lowest stride cells ≡ row_nodes (stepped lowest stride i) stride (drop i cells)
row-front lowest stride cells zero none = refl
row-front lowest stride [] (suc i) none = refl
row-front lowest stride (zero ∷ cells) (suc i) none = row-front (lowest +ℤ stride) stride cells i (λ j h. none (suc j) (omega (arith, h)))
row-front lowest stride (suc c ∷ cells) (suc i) none = absurd (over c (none 0 (omega arith)))
  where
    over : (c : ℕ) → suc c ≢ 0
    over c e = omega (arith, e)

pub row-back : (lowest stride : ℤ) (cells : List ℕ) (i : ℕ) → ((j : ℕ) → i ≤ j → get_or cells j 0 ≡ 0) → row_nodes lowest stride (take i cells) ≡ row_nodes lowest stride cells
row-back lowest stride [] zero none = refl
row-back lowest stride [] (suc i) none = refl
row-back lowest stride (zero ∷ cells) zero none = row-back (lowest +ℤ stride) stride cells zero (λ j h. none (suc j) (omega arith))
row-back lowest stride (suc c ∷ cells) zero none = absurd (over c (none 0 (omega arith)))
  where
    over : (c : ℕ) → suc c ≢ 0
    over c e = omega (arith, e)
row-back lowest stride (zero ∷ cells) (suc i) none = row-back (lowest +ℤ stride) stride cells i (λ j h. none (suc j) (omega (arith, h)))
row-back lowest stride (suc c ∷ cells) (suc i) none = rw (positive c) (ap (λ ns. node (lowest ∷ []) (suc c) ∷ ns) (row-back (lowest +ℤ stride) stride cells i (λ j h. none (suc j) (omega (arith, h)))))

-- a row of empty cells
pub row-none : (lowest stride : ℤ) (n : ℕ) → row_nodes lowest stride (replicate n 0) ≡ []
row-none lowest stride zero = refl
row-none lowest stride (suc n) = row-none (lowest +ℤ stride) stride n

-- of the numbers up to another, which are those below it and itself
less-or-same : (j i : ℕ) → j < i + 1 → (j < i) ⊎ (j ≡ i)
less-or-same zero zero h = inr refl
less-or-same zero (suc i) h = inl (omega arith)
less-or-same (suc j) zero h = absurd (omega (arith, h))
less-or-same (suc j) (suc i) h = elim (less-or-same j i (omega (arith, h))) [ inl l ↦ inl (omega (arith, l)) | inr e ↦ inr (ap suc e) ]

pub none-more : (cells : List ℕ) (i : ℕ) → ((j : ℕ) → j < i → get_or cells j 0 ≡ 0) → get_or cells i 0 ≡ 0 → (j : ℕ) → j < i + 1 → get_or cells j 0 ≡ 0
none-more cells i none here j h = elim (less-or-same j i h) [ inl l ↦ none j l | inr e ↦ ap (λ k. get_or cells k 0) e ∙ here ]

pub none-before : (cells : List ℕ) (i : ℕ) → ((j : ℕ) → i ≤ j → get_or cells j 0 ≡ 0) → get_or cells (i - 1) 0 ≡ 0 → (j : ℕ) → i - 1 ≤ j → get_or cells j 0 ≡ 0
none-before cells i none here j h = elim (less-or-same (i - 1) j (omega (arith, h))) [ inl l ↦ none j (omega (arith, l)) | inr e ↦ ap (λ k. get_or cells k 0) (sym e) ∙ here ]

pub none-past : (cells : List ℕ) (i : ℕ) → length cells ≤ i → get_or cells i 0 ≡ 0
none-past [] i h = refl
none-past (c ∷ cells) zero h = absurd (omega (arith, h))
none-past (c ∷ cells) (suc i) h = none-past cells i (omega (arith, h))

pub none-set : (cells : List ℕ) (i c : ℕ) → i < length cells → c ≡ 0 → ((j : ℕ) → j < i → get_or cells j 0 ≡ 0) → (j : ℕ) → j < i + 1 → get_or (set cells i c) j 0 ≡ 0
none-set cells i c low zero_is none j h = elim (less-or-same j i h) [ inl l ↦ get_or-set_other cells i j c 0 (below j i l) ∙ none j l | inr e ↦ ap (λ k. get_or (set cells i c) k 0) e ∙ get_or-set_same cells i c 0 low ∙ zero_is ]
  where
    below : (j i : ℕ) → j < i → j ≢ i
    below j i h e = omega (arith, h, e)

pub none-all : (cells : List ℕ) (i : ℕ) → length cells ≤ i → ((j : ℕ) → j < i → get_or cells j 0 ≡ 0) → (lowest stride : ℤ) → row_nodes lowest stride cells ≡ []
none-all cells i long none lowest stride = sym (row-back lowest stride cells 0 (λ j h. elim (less-or-not j i) [ inl l ↦ none j l | inr l ↦ none-past cells j (omega (arith, l, long)) ]))
  where
    less-or-not : (j i : ℕ) → (j < i) ⊎ (i ≤ j)
    less-or-not j zero = inr (omega arith)
    less-or-not zero (suc i) = inl (omega arith)
    less-or-not (suc j) (suc i) = elim (less-or-not j i) [ inl l ↦ inl (omega (arith, l)) | inr l ↦ inr (omega (arith, l)) ]
