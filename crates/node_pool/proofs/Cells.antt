-- Cells, each a key with its weight behind it, as a row of keys and a list of weights.
use Rattle.std.proofs.Common.{◌≡◌, ℕ, zero, suc, ◌+◌, ◌-◌, ◌*◌, ◌<◌, ◌≤◌, List, [], ◌∷◌, ◌++◌, length, take, drop, get_or, set, append_assoc, refl, arith, sym, subst, ◌∙◌, ap}
use Rattle.std.specs.Prelude.{ℤ, pos}
use Rattle.std.specs.List.{AllByRecursion}
use Rattle.std.proofs.Math.Nat.{mul-le-mul_left}
use Rattle.std.proofs.lemmas.List.{append-nil, drop-append-le, drop-drop, drop_all, get_or-set_other, get_or-set_same, get_or_append_left, get_or_push, length-append, length-drop, length-set, length-take-le, length_push, take-append-le, take_all}
use Rattle.weights.proofs.Filters.{all_append}
use Rattle.node_pool.specs.TableSteps.{key_at}
use Rattle.node_pool.specs.PoolSteps.{AreCells, cell_key, keys_of, weight_of, weights_of}

-- where a cell has its weight
abbrev pub weight_place : ℕ → ℕ → ℕ
weight_place width i = i * (width + 1) + width

-- ---- parts of lists

take-set : {X : Type 0} (k j : ℕ) (xs : List X) (v : X) → k ≤ j → take k (set xs j v) ≡ take k xs
take-set zero j xs v h = refl
take-set (suc k) j [] v h = refl
take-set (suc k) zero (x ∷ xs) v h = absurd (omega (arith, h))
take-set (suc k) (suc j) (x ∷ xs) v h = ap (λ ys. x ∷ ys) (take-set k j xs v (omega (arith, h)))

drop-past : {X : Type 0} (k j : ℕ) (xs : List X) (v : X) → j < k → drop k (set xs j v) ≡ drop k xs
drop-past zero j xs v h = absurd (omega (arith, h))
drop-past (suc k) j [] v h = refl
drop-past (suc k) zero (x ∷ xs) v h = refl
drop-past (suc k) (suc j) (x ∷ xs) v h = drop-past k j xs v (omega (arith, h))

drop-before : {X : Type 0} (k j p : ℕ) (xs : List X) (v : X) → p ≡ k + j → drop k (set xs p v) ≡ set (drop k xs) j v
drop-before zero j p xs v e = let same : p ≡ j = omega (arith, e) in rw same refl
drop-before (suc k) j zero xs v e = absurd (omega (arith, e))
drop-before (suc k) j (suc p) [] v e = refl
drop-before (suc k) j (suc p) (x ∷ xs) v e = drop-before k j p xs v (omega (arith, e))

get-behind : {X : Type 0} (k j p : ℕ) (xs : List X) (d : X) → p ≡ k + j → get_or (drop k xs) j d ≡ get_or xs p d
get-behind zero j p xs d e = let same : p ≡ j = omega (arith, e) in rw same refl
get-behind (suc k) j zero xs d e = absurd (omega (arith, e))
get-behind (suc k) j (suc p) [] d e = refl
get-behind (suc k) j (suc p) (x ∷ xs) d e = get-behind k j p xs d (omega (arith, e))

light-set : (limit : ℕ) (ws : List ℕ) (i w : ℕ) → AllByRecursion (λ v. v ≤ limit) ws → w ≤ limit → AllByRecursion (λ v. v ≤ limit) (set ws i w)
light-set limit [] i w all h = tt
light-set limit (v ∷ ws) zero w all h = (h, all.1)
light-set limit (v ∷ ws) (suc i) w all h = (all.0, light-set limit ws i w all.1 h)

light-at : (limit : ℕ) (ws : List ℕ) (i : ℕ) → AllByRecursion (λ v. v ≤ limit) ws → i < length ws → get_or ws i 0 ≤ limit
light-at limit [] i all h = absurd (omega (arith, h))
light-at limit (v ∷ ws) zero all h = all.0
light-at limit (v ∷ ws) (suc i) all h = light-at limit ws i all.1 (omega (arith, h))

-- ---- how many there are

pub weights-long : (width n : ℕ) (cells : List ℤ) → length (weights_of width n cells) ≡ n
weights-long width zero cells = refl
weights-long width (suc n) cells = ap suc (weights-long width n (drop (width + 1) cells))

front : (width n : ℕ) (cells : List ℤ) → length cells ≡ suc n * (width + 1) → width + 1 ≤ length cells
front width n cells long = omega (arith, long)

rest : (width n : ℕ) (cells : List ℤ) → length cells ≡ suc n * (width + 1) → length (drop (width + 1) cells) ≡ n * (width + 1)
rest width n cells long = omega (arith, long, length-drop (width + 1) cells)

key-long : (width n : ℕ) (cells : List ℤ) → length cells ≡ suc n * (width + 1) → length (take width cells) ≡ width
key-long width n cells long = length-take-le width cells (omega (arith, front width n cells long))

-- ---- the cell at a place

pub key-at : (width n i : ℕ) (cells : List ℤ) → length cells ≡ n * (width + 1) → i < n → key_at width (keys_of width n cells) i ≡ cell_key width cells i
key-at width zero i cells long low = absurd (omega (arith, low))
key-at width (suc n) zero cells long low =
    let wide : length (take width cells) ≡ width = key-long width n cells long in
    let one : 0 * width ≡ 0 = omega arith in
    let two : 0 * (width + 1) ≡ 0 = omega arith in
    rw (one, two) (take-append-le width (take width cells) (keys_of width n (drop (width + 1) cells)) (omega (arith, wide)) ∙ take_all width (take width cells) (omega (arith, wide)))
key-at width (suc n) (suc i) cells long low =
    let wide : length (take width cells) ≡ width = key-long width n cells long in
    let behind : drop width (take width cells ++ keys_of width n (drop (width + 1) cells)) ≡ keys_of width n (drop (width + 1) cells) =
    drop-append-le width (take width cells) (keys_of width n (drop (width + 1) cells)) (omega (arith, wide)) ∙ ap (λ xs. xs ++ keys_of width n (drop (width + 1) cells)) (drop_all width (take width cells) (omega (arith, wide))) in
    let on : suc i * width ≡ width + i * width = omega arith in
    let on_cells : (width + 1) + i * (width + 1) ≡ suc i * (width + 1) = omega arith in
    ap (take width) (ap (λ m. drop m (take width cells ++ keys_of width n (drop (width + 1) cells))) on ∙ sym (drop-drop (i * width) width (take width cells ++ keys_of width n (drop (width + 1) cells))) ∙ ap (drop (i * width)) behind)
    ∙ key-at width n i (drop (width + 1) cells) (rest width n cells long) (omega (arith, low))
    ∙ ap (take width) (drop-drop (i * (width + 1)) (width + 1) cells ∙ ap (λ m. drop m cells) on_cells)

pub number-in : (n i : ℕ) (cells : List ℤ) → length cells ≡ n * 2 → i < n → key_at 1 (keys_of 1 n cells) i ≡ get_or cells (2 * i) (pos 0) ∷ []
number-in n i cells long low =
    let start : i * 2 ≡ 2 * i = omega arith in
    key-at 1 n i cells long low ∙ rw start (taken cells (2 * i) (omega (arith, long, low)))
  where
    taken : (xs : List ℤ) (j : ℕ) → j < length xs → take 1 (drop j xs) ≡ get_or xs j (pos 0) ∷ []
    taken [] j h = absurd (omega arith)
    taken (x ∷ xs) zero h = refl
    taken (x ∷ xs) (suc j) h = taken xs j (omega (arith, h))

pub weight-at : (width n i : ℕ) (cells : List ℤ) → i < n → get_or (weights_of width n cells) i 0 ≡ weight_of (get_or cells (weight_place width i) (pos 0))
weight-at width zero i cells low = absurd (omega (arith, low))
weight-at width (suc n) zero cells low = let here : 0 * (width + 1) + width ≡ width = omega arith in rw here refl
weight-at width (suc n) (suc i) cells low =
    weight-at width n i (drop (width + 1) cells) (omega (arith, low))
    ∙ ap weight_of (get-behind (width + 1) (weight_place width i) (weight_place width (suc i)) cells (pos 0) (omega arith))

pub within : (width n i : ℕ) → i < n → weight_place width i < n * (width + 1)
within width n i low = grind arith

pub few : (width i : ℕ) → width ≤ 16 → i * (width + 1) ≤ i * 17
few width i h = mul-le-mul_left i (omega (arith, h))

-- ---- one more cell

pub keys-push : (width n : ℕ) (cells key : List ℤ) (z : ℤ) → length cells ≡ n * (width + 1) → length key ≡ width → keys_of width (suc n) (cells ++ (key ++ z ∷ [])) ≡ keys_of width n cells ++ key
keys-push width zero [] key z long wide = append-nil (take width (key ++ z ∷ [])) ∙ take-append-le width key (z ∷ []) (omega (arith, wide)) ∙ take_all width key (omega (arith, wide))
keys-push width zero (x ∷ cells) key z long wide = absurd (omega (arith, long))
keys-push width (suc n) cells key z long wide =
    let enough : width + 1 ≤ length cells = front width n cells long in
    rw (take-append-le width cells (key ++ z ∷ []) (omega (arith, enough)), drop-append-le (width + 1) cells (key ++ z ∷ []) enough, keys-push width n (drop (width + 1) cells) key z (rest width n cells long) wide)
    (sym (append_assoc (take width cells) (keys_of width n (drop (width + 1) cells)) key))

pub weights-push : (width n : ℕ) (cells key : List ℤ) (z : ℤ) → length cells ≡ n * (width + 1) → length key ≡ width → weights_of width (suc n) (cells ++ (key ++ z ∷ [])) ≡ weights_of width n cells ++ weight_of z ∷ []
weights-push width zero [] key z long wide = ap (λ y. weight_of y ∷ []) (get_or_push key z (pos 0) width wide)
weights-push width zero (x ∷ cells) key z long wide = absurd (omega (arith, long))
weights-push width (suc n) cells key z long wide =
    let enough : width + 1 ≤ length cells = front width n cells long in
    rw (get_or_append_left cells (key ++ z ∷ []) (pos 0) width (omega (arith, enough)), drop-append-le (width + 1) cells (key ++ z ∷ []) enough, weights-push width n (drop (width + 1) cells) key z (rest width n cells long) wide) refl

-- ---- another weight in a cell

pub keys-set : (width n i : ℕ) (cells : List ℤ) (z : ℤ) → i < n → keys_of width n (set cells (weight_place width i) z) ≡ keys_of width n cells
keys-set width zero i cells z low = absurd (omega (arith, low))
keys-set width (suc n) zero cells z low =
    let here : 0 * (width + 1) + width ≡ width = omega arith in
    rw (here, take-set width width cells z (omega arith), drop-past (width + 1) width cells z (omega arith)) refl
keys-set width (suc n) (suc i) cells z low =
    rw (take-set width (weight_place width (suc i)) cells z (omega arith), drop-before (width + 1) (weight_place width i) (weight_place width (suc i)) cells z (omega arith), keys-set width n i (drop (width + 1) cells) z (omega (arith, low))) refl

pub weights-set : (width n i : ℕ) (cells : List ℤ) (z : ℤ) → length cells ≡ n * (width + 1) → i < n → weights_of width n (set cells (weight_place width i) z) ≡ set (weights_of width n cells) i (weight_of z)
weights-set width zero i cells z long low = absurd (omega (arith, low))
weights-set width (suc n) zero cells z long low =
    let here : 0 * (width + 1) + width ≡ width = omega arith in
    rw (here, get_or-set_same cells width z (pos 0) (omega (arith, front width n cells long)), drop-past (width + 1) width cells z (omega arith)) refl
weights-set width (suc n) (suc i) cells z long low =
    let apart : width ≡ weight_place width (suc i) → ⊥ = λ e. omega (arith, e) in
    rw (get_or-set_other cells (weight_place width (suc i)) width z (pos 0) apart, drop-before (width + 1) (weight_place width i) (weight_place width (suc i)) cells z (omega arith), weights-set width n i (drop (width + 1) cells) z (rest width n cells long) (omega (arith, low))) refl

-- ---- together

module _ {width limit n : ℕ} {cells : List ℤ} {spare room : ℕ} (a : AreCells width limit n cells spare room) where
  pub cell-fits : (i : ℕ) → i < n → weight_place width i < length cells
  cell-fits i low = rw a.long (within width n i low)

  pub cell-light : (i : ℕ) → i < n → weight_of (get_or cells (weight_place width i) (pos 0)) ≤ limit
  cell-light i low = rw (← weight-at width n i cells low) (light-at limit (weights_of width n cells) i a.light (rw (weights-long width n cells) low))

  pub cells-set : (i : ℕ) (z : ℤ) → i < n → weight_of z ≤ limit → AreCells width limit n (set cells (weight_place width i) z) spare room
  cells-set i z low h = record {
    long = length-set cells (weight_place width i) z ∙ a.long;
    light = rw (weights-set width n i cells z a.long low) (light-set limit (weights_of width n cells) i (weight_of z) a.light h);
    fit = a.fit;
  }

  pub cells-room : (key : List ℤ) → length key ≡ width → 1 ≤ spare → length cells + length key < room
  cells-room key wide some = omega (arith, more n spare (width + 1) some, a.long, a.fit, wide)
    where
      more : (n s w : ℕ) → 1 ≤ s → n * w + w ≤ (n + s) * w
      more n s w h = grind arith

  pub cells-push : (key : List ℤ) (z : ℤ) (room' : ℕ) → length key ≡ width → weight_of z ≤ limit → 1 ≤ spare → room ≤ room' → AreCells width limit (suc n) (cells ++ (key ++ z ∷ [])) (spare - 1) room'
  cells-push key z room' wide h some r =
      let same : (suc n + (spare - 1)) ≡ n + spare = omega (arith, some) in
      record {
        long = omega (arith, length-append cells (key ++ z ∷ []), length_push key z, wide, a.long);
        light = subst (AllByRecursion (λ v. v ≤ limit)) (sym (weights-push width n cells key z a.long wide)) (all_append (λ v. v ≤ limit) (weights_of width n cells) (weight_of z ∷ []) a.light (h, tt));
        fit = rw same (omega (arith, a.fit, r));
      }

  -- what is kept and what changes where a weight is written
  module _ (i : ℕ) (z : ℤ) (cells' : List ℤ) (low : i < n) (written : cells' ≡ set cells (weight_place width i) z) where
    pub raised-keys : keys_of width n cells' ≡ keys_of width n cells
    raised-keys = ap (keys_of width n) written ∙ keys-set width n i cells z low

    pub raised-weights : (v : ℕ) → weight_of z ≡ v → weights_of width n cells' ≡ set (weights_of width n cells) i v
    raised-weights v is = ap (weights_of width n) written ∙ weights-set width n i cells z a.long low ∙ ap (set (weights_of width n cells) i) is

    pub raised-cells : weight_of z ≤ limit → AreCells width limit n cells' spare room
    raised-cells light = subst (λ xs. AreCells width limit n xs spare room) (sym written) (cells-set i z low light)

  -- and where a cell is added
  module _ (key : List ℤ) (z : ℤ) (m : ℕ) (cells' : List ℤ) (wide : length key ≡ width) (count : m ≡ n + 1) (written : cells' ≡ (cells ++ key) ++ z ∷ []) where
    all : cells' ≡ cells ++ (key ++ z ∷ [])
    all = written ∙ append_assoc cells key (z ∷ [])

    next : m ≡ suc n
    next = omega (arith, count)

    pub pushed-keys : keys_of width m cells' ≡ keys_of width n cells ++ key
    pushed-keys = ap (λ k. keys_of width k cells') next ∙ ap (keys_of width (suc n)) all ∙ keys-push width n cells key z a.long wide

    pub pushed-weights : (v : ℕ) → weight_of z ≡ v → weights_of width m cells' ≡ weights_of width n cells ++ v ∷ []
    pushed-weights v is = ap (λ k. weights_of width k cells') next ∙ ap (weights_of width (suc n)) all ∙ weights-push width n cells key z a.long wide ∙ ap (λ w. weights_of width n cells ++ w ∷ []) is

    pub pushed-cells : (room' : ℕ) → weight_of z ≤ limit → 1 ≤ spare → room ≤ room' → AreCells width limit m cells' (spare - 1) room'
    pushed-cells room' light some r = subst (λ k. AreCells width limit k cells' (spare - 1) room') (sym next) (subst (λ xs. AreCells width limit (suc n) xs (spare - 1) room') (sym all) (cells-push key z room' wide light some r))
