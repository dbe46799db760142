-- What rows of cells sum to.
use Rattle.std.proofs.Common.{◌≡◌, ℕ, zero, suc, ◌+◌, ◌*◌, ◌<◌, ◌≤◌, List, [], ◌∷◌, length, take, get_or, set, false, cond, refl, arith, sym, ◌∙◌, ap}
use Rattle.std.specs.Prelude.{ℤ, ◌+ℤ◌, ◌-ℤ◌, ◌≤ℤ◌, pos, nat_eq, unsigned_abs, Option, Some, None, IfSome}
use Rattle.std.specs.List.{sum}
use Rattle.std.proofs.lemmas.Int.{ints}
use Rattle.std.proofs.lemmas.List.Sums.{sum_by-cons, sum_by-take-le, sum_by_more}
use Rattle.node_pool.specs.Nodes.{node, weighted}
use Rattle.count_arrays.specs.Rows.{row_nodes, stepped}

-- the sum over the cells, with those of weight 0
abbrev pub row_sum : (List ℤ → ℕ) → ℤ → ℤ → List ℕ → ℕ
row_sum f lowest stride [] = 0
row_sum f lowest stride (c ∷ cells) = c * f (lowest ∷ []) + row_sum f (lowest +ℤ stride) stride cells

pub positive : (c : ℕ) → nat_eq (suc c) 0 ≡ false
positive c = grind arith

pub sum-cons : (c : ℕ) (cells : List ℕ) → sum (c ∷ cells) ≡ c + sum cells
sum-cons c cells = sum_by-cons (λ x. x) c cells

pub weighted-row : (f : List ℤ → ℕ) (lowest stride : ℤ) (cells : List ℕ) → weighted f (row_nodes lowest stride cells) ≡ row_sum f lowest stride cells
weighted-row f lowest stride [] = refl
weighted-row f lowest stride (zero ∷ cells) = weighted-row f (lowest +ℤ stride) stride cells ∙ omega arith
weighted-row f lowest stride (suc c ∷ cells) =
    ap (λ b. weighted f (cond b (row_nodes (lowest +ℤ stride) stride cells) (node (lowest ∷ []) (suc c) ∷ row_nodes (lowest +ℤ stride) stride cells))) (positive c)
    ∙ sum_by-cons (λ a. a.weight * f a.key) (node (lowest ∷ []) (suc c)) (row_nodes (lowest +ℤ stride) stride cells)
    ∙ ap (λ s. suc c * f (lowest ∷ []) + s) (weighted-row f (lowest +ℤ stride) stride cells)

-- one cell changed
pub row_sum-set : (f : List ℤ → ℕ) (lowest stride : ℤ) (cells : List ℕ) (i c : ℕ) → i < length cells → row_sum f lowest stride (set cells i c) + get_or cells i 0 * f (stepped lowest stride i ∷ []) ≡ row_sum f lowest stride cells + c * f (stepped lowest stride i ∷ [])
row_sum-set f lowest stride [] i c h = absurd (omega arith)
row_sum-set f lowest stride (d ∷ cells) zero c h = omega arith
row_sum-set f lowest stride (d ∷ cells) (suc i) c h =
    let rest = row_sum-set f (lowest +ℤ stride) stride cells i c (omega (arith, h)) in
    omega (arith, rest)

-- one cell more
pub row_sum-more : (f : List ℤ → ℕ) (lowest stride : ℤ) (cells : List ℕ) (i : ℕ) → i < length cells → row_sum f lowest stride (take (suc i) cells) ≡ row_sum f lowest stride (take i cells) + get_or cells i 0 * f (stepped lowest stride i ∷ [])
row_sum-more f lowest stride [] i h = absurd (omega arith)
row_sum-more f lowest stride (d ∷ cells) zero h = omega arith
row_sum-more f lowest stride (d ∷ cells) (suc i) h =
    let rest = row_sum-more f (lowest +ℤ stride) stride cells i (omega (arith, h)) in
    omega (arith, rest)

-- steps follow steps
pub stepped-more : (lowest stride : ℤ) (m n : ℕ) → stepped lowest stride (m + n) ≡ stepped (stepped lowest stride m) stride n
stepped-more lowest stride zero n = let e : 0 + n ≡ n = omega arith in rw e refl
stepped-more lowest stride (suc m) n = let e : suc m + n ≡ suc (m + n) = omega arith in rw e (stepped-more (lowest +ℤ stride) stride m n)

-- many small steps from 0 are one great step
pub stepped-from : (a b stride : ℤ) (n : ℕ) → stepped (a +ℤ b) stride n ≡ a +ℤ stepped b stride n
stepped-from a b stride zero = refl
stepped-from a b stride (suc n) = ap (λ z. stepped z stride n) (assoc a b stride) ∙ stepped-from a (b +ℤ stride) stride n
  where
    assoc : (a b c : ℤ) → (a +ℤ b) +ℤ c ≡ a +ℤ (b +ℤ c)
    assoc a b c = omega (arith, ints)

pub stepped-far : (lowest stride : ℤ) (every i : ℕ) → stepped lowest (stepped (pos 0) stride every) i ≡ stepped lowest stride (i * every)
stepped-far lowest stride every zero = let e : 0 * every ≡ 0 = omega arith in rw e refl
stepped-far lowest stride every (suc i) =
    let e : suc i * every ≡ every + i * every = omega arith in
    rw e (
    ap (λ z. stepped z (stepped (pos 0) stride every) i) (sym (stepped-from lowest (pos 0) stride every) ∙ ap (λ z. stepped z stride every) (none lowest))
    ∙ stepped-far (stepped lowest stride every) stride every i
    ∙ sym (stepped-more lowest stride every (i * every)))
  where
    none : (a : ℤ) → a +ℤ pos 0 ≡ a
    none a = omega (arith, ints)

-- the sum of the weights
pub row_sum-one : (lowest stride : ℤ) (cells : List ℕ) → row_sum (λ k. 1) lowest stride cells ≡ sum cells
row_sum-one lowest stride [] = refl
row_sum-one lowest stride (c ∷ cells) = rw (row_sum-one (lowest +ℤ stride) stride cells, sum-cons c cells) (omega arith)

-- no cell weighs more than all
pub get_or-sum : (cells : List ℕ) (i : ℕ) → get_or cells i 0 ≤ sum cells
get_or-sum [] i = omega arith
get_or-sum (c ∷ cells) zero = rw (sum-cons c cells) (le c (sum cells))
  where
    le : (a b : ℕ) → a ≤ a + b
    le a b = omega arith
get_or-sum (c ∷ cells) (suc i) = rw (sum-cons c cells) (le (get_or cells i 0) c (sum cells) (get_or-sum cells i))
  where
    le : (x a b : ℕ) → x ≤ b → x ≤ a + b
    le x a b h = omega (arith, h)

pub sum-take : (cells : List ℕ) (i : ℕ) → sum (take i cells) ≤ sum cells
sum-take cells i = sum_by-take-le (λ x. x) cells i

-- a part of the first cells, times a weight
pub times-≤ : (a b weight : ℕ) → a ≤ b → a * weight ≤ b * weight
times-≤ a b weight h = grind arith

-- one more turn: what the next cell adds is within the whole
pub next-fits : (cells : List ℕ) (i weight : ℕ) → i < length cells → sum (take i cells) * weight + get_or cells i 0 * weight ≤ sum cells * weight
next-fits cells i weight h =
    let more = row_sum-more (λ k. 1) (pos 0) (pos 0) cells i h in
    let now : sum (take (suc i) cells) ≡ sum (take i cells) + get_or cells i 0 * 1 = sym (row_sum-one (pos 0) (pos 0) (take (suc i) cells)) ∙ more ∙ ap (λ s. s + get_or cells i 0 * 1) (row_sum-one (pos 0) (pos 0) (take i cells)) in
    let whole : sum (take i cells) + get_or cells i 0 ≤ sum cells = omega (arith, now, sum-take cells (suc i)) in
    let spread : (sum (take i cells) + get_or cells i 0) * weight ≡ sum (take i cells) * weight + get_or cells i 0 * weight = grind arith in
    omega (arith, spread, times-≤ (sum (take i cells) + get_or cells i 0) (sum cells) weight whole)

-- the place of a cell is within the row
pub place-low : (place every i n m : ℕ) → i < n → place + every * n < m + every → place + i * every < m
place-low place every i n m low room =
    let far : i * every + every ≤ every * n = before i n every low in
    omega (arith, far, room)
  where
    before : (i n every : ℕ) → i < n → i * every + every ≤ every * n
    before i n every h = grind arith

-- one cell of a row raised by one of another: every sum grows by that cell's
pub raised-sum : (f : List ℤ → ℕ) (lowest stride : ℤ) (old into from : List ℕ) (weight place every i : ℕ) → i < length from → place + i * every < length into
    → row_sum f lowest stride into ≡ row_sum f lowest stride old + row_sum f (stepped lowest stride place) (stepped (pos 0) stride every) (take i from) * weight
    → row_sum f lowest stride (set into (place + i * every) (get_or into (place + i * every) 0 + get_or from i 0 * weight))
    ≡ row_sum f lowest stride old + row_sum f (stepped lowest stride place) (stepped (pos 0) stride every) (take (i + 1) from) * weight
raised-sum f lowest stride old into from weight place every i low near told =
    let at : ℕ = place + i * every in
    let there : stepped lowest stride at ≡ stepped (stepped lowest stride place) (stepped (pos 0) stride every) i = stepped-more lowest stride place (i * every) ∙ sym (stepped-far (stepped lowest stride place) stride every i) in
    let cell = row_sum-set f lowest stride into at (get_or into at 0 + get_or from i 0 * weight) near in
    let more = row_sum-more f (stepped lowest stride place) (stepped (pos 0) stride every) from i low in
    let same = rw there at cell in
    let turn : i + 1 ≡ suc i = omega arith in
    rw turn (close (row_sum f lowest stride (set into at (get_or into at 0 + get_or from i 0 * weight))) (get_or into at 0) (get_or from i 0) weight (f (stepped (stepped lowest stride place) (stepped (pos 0) stride every) i ∷ [])) (row_sum f lowest stride into) (row_sum f lowest stride old) (row_sum f (stepped lowest stride place) (stepped (pos 0) stride every) (take i from)) (row_sum f (stepped lowest stride place) (stepped (pos 0) stride every) (take (suc i) from)) same more told)
  where
    spread : (a b w y : ℕ) → (a + b * w) * y ≡ a * y + (b * y) * w
    spread a b w y = grind arith

    part : (r b y w : ℕ) → (r + b * y) * w ≡ r * w + (b * y) * w
    part r b y w = grind arith

    close : (new a b w y into old r s : ℕ) → new + a * y ≡ into + (a + b * w) * y → s ≡ r + b * y → into ≡ old + r * w → new ≡ old + s * w
    close new a b w y into old r s e m t =
        let more : s * w ≡ r * w + (b * y) * w = ap (λ z. z * w) m ∙ part r b y w in
        omega (arith, e, spread a b w y, more, t)

-- one cell more, as the loops count
pub sum-more : (cells : List ℕ) (i : ℕ) → i < length cells → sum (take (i + 1) cells) ≡ sum (take i cells) + get_or cells i 0
sum-more cells i h = sum_by_more (λ x. x) cells i 0 h

-- how many nodes the first cells have
pub count-more : (lowest stride : ℤ) (cells : List ℕ) (i : ℕ) → i < length cells → length (row_nodes lowest stride (take (i + 1) cells)) ≡ length (row_nodes lowest stride (take i cells)) + cond (nat_eq (get_or cells i 0) 0) 0 1
count-more lowest stride [] i h = absurd (omega arith)
count-more lowest stride (zero ∷ cells) zero h = refl
count-more lowest stride (suc c ∷ cells) zero h = rw (positive c) refl
count-more lowest stride (zero ∷ cells) (suc i) h =
    let e : suc i + 1 ≡ suc (i + 1) = omega arith in
    rw e (count-more (lowest +ℤ stride) stride cells i (omega (arith, h)))
count-more lowest stride (suc c ∷ cells) (suc i) h =
    let e : suc i + 1 ≡ suc (i + 1) = omega arith in
    let rest = count-more (lowest +ℤ stride) stride cells i (omega (arith, h)) in
    rw (e, positive c) (ap suc rest ∙ out (length (row_nodes (lowest +ℤ stride) stride (take i cells))) (cond (nat_eq (get_or cells i 0) 0) 0 1))
  where
    out : (a b : ℕ) → suc (a + b) ≡ suc a + b
    out a b = omega arith

-- strides of a whole number
pub stepped-is : (lowest : ℤ) (stride i : ℕ) → stepped lowest (pos stride) i ≡ lowest +ℤ pos (i * stride)
stepped-is lowest stride zero = let e : 0 * stride ≡ 0 = omega arith in rw e (none lowest)
  where
    none : (a : ℤ) → a ≡ a +ℤ pos 0
    none a = omega (arith, ints)
stepped-is lowest stride (suc i) =
    let e : suc i * stride ≡ stride + i * stride = omega arith in
    rw e (stepped-is (lowest +ℤ pos stride) stride i ∙ on lowest stride (i * stride))
  where
    on : (a : ℤ) (m n : ℕ) → (a +ℤ pos m) +ℤ pos n ≡ a +ℤ pos (m + n)
    on a m n = omega (arith, ints)

pub reach : (l n : ℤ) → l ≤ℤ n → l +ℤ pos (unsigned_abs (n -ℤ l)) ≡ n
reach l n h = grind (arith, ints)

pub mapped : (o : Option ℕ) (P Q : ℕ → Type 0) → ((i : ℕ) → P i → Q i) → IfSome o P → IfSome o Q
mapped (Some i) P Q f h = f i h
mapped None P Q f h = h
