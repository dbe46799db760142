-- Neighbours that change places, and so any order.
use Rattle.std.proofs.Common.{◌≡◌, ℕ, zero, suc, List, [], ◌∷◌, length, map, Bool, true, false, cond, refl, ◌∙◌, ap, arith}
use Rattle.std.specs.Prelude.{ℤ, ◌+ℤ◌, int_le}
use Rattle.std.specs.List.{sum_by, AllByRecursion}
use Rattle.std.proofs.lemmas.List.Sums.{sum_by-cons}
use Rattle.weights.specs.InOrder.{put_in}
use Rattle.weights.proofs.OneOrder.{all-in_order, length-in_order}
use Rattle.networks.specs.PartialSums.{plus, ascending, kept}
pub use Rattle.networks.specs.Symmetries.{swap_at}

pub length-swap : {X : Type 0} (i : ℕ) (xs : List X) → length (swap_at i xs) ≡ length xs
length-swap i [] = refl
length-swap zero (x ∷ []) = refl
length-swap zero (x ∷ y ∷ ys) = refl
length-swap (suc i) (x ∷ xs) = ap suc (length-swap i xs)

pub length-plus : (k v : List ℤ) → length (plus k v) ≡ length k
length-plus [] v = refl
length-plus (x ∷ xs) [] = refl
length-plus (x ∷ xs) (v ∷ vs) = ap suc (length-plus xs vs)

pub length-ascending : (k : List ℤ) → length (ascending k) ≡ length k
length-ascending = length-in_order int_le

pub length-kept : (b : Bool) (k : List ℤ) → length (kept b k) ≡ length k
length-kept true k = length-ascending k
length-kept false k = refl

-- a swap of both is a swap of the sum
pub plus-swap : (i : ℕ) (k v : List ℤ) → length v ≡ length k → plus (swap_at i k) (swap_at i v) ≡ swap_at i (plus k v)
plus-swap i [] v e = refl
plus-swap i (x ∷ xs) [] e = absurd (omega arith)
plus-swap zero (x ∷ []) (v ∷ []) e = refl
plus-swap zero (x ∷ []) (v ∷ w ∷ vs) e = absurd (omega arith)
plus-swap zero (x ∷ y ∷ ys) (v ∷ []) e = absurd (omega arith)
plus-swap zero (x ∷ y ∷ ys) (v ∷ w ∷ vs) e = refl
plus-swap (suc i) (x ∷ xs) (v ∷ vs) e = ap (λ zs. (x +ℤ v) ∷ zs) (plus-swap i xs vs (omega arith))

pub map-swap : {X Y : Type 0} (f : X → Y) (i : ℕ) (xs : List X) → map f (swap_at i xs) ≡ swap_at i (map f xs)
map-swap f i [] = refl
map-swap f zero (x ∷ []) = refl
map-swap f zero (x ∷ y ∷ ys) = refl
map-swap f (suc i) (x ∷ xs) = ap (λ zs. f x ∷ zs) (map-swap f i xs)

-- what swaps of neighbours leave is left by any order
abbrev pub IsEvenAt : {Y : Type 0} → ℕ → (List ℤ → Y) → Type 0
IsEvenAt n v = (i : ℕ) (k : List ℤ) → length k ≡ n → v (swap_at i k) ≡ v k

even-put_in : {Y : Type 0} (n : ℕ) (v : List ℤ → Y) → IsEvenAt n v → (x : ℤ) (ys : List ℤ) → suc (length ys) ≡ n → v (put_in int_le x ys) ≡ v (x ∷ ys)
even-put_in n v e x [] l = refl
even-put_in {Y} n v e x (y ∷ ys) l = by (int_le x y) (even-put_in (suc (length ys)) (λ zs. v (y ∷ zs)) (λ i k h. e (suc i) (y ∷ k) (omega arith)) x ys refl ∙ e zero (x ∷ y ∷ ys) l)
  where
    by : (b : Bool) → v (y ∷ put_in int_le x ys) ≡ v (x ∷ y ∷ ys) → v (cond b (x ∷ y ∷ ys) (y ∷ put_in int_le x ys)) ≡ v (x ∷ y ∷ ys)
    by true h = refl
    by false h = h

pub even-ascending : {Y : Type 0} (n : ℕ) (v : List ℤ → Y) → IsEvenAt n v → (k : List ℤ) → length k ≡ n → v (ascending k) ≡ v k
even-ascending n v e [] l = refl
even-ascending n v e (x ∷ xs) l =
    even-put_in n v e x (ascending xs) (ap suc (length-ascending xs) ∙ l)
    ∙ even-ascending (length xs) (λ zs. v (x ∷ zs)) (λ i k h. e (suc i) (x ∷ k) (omega arith)) xs refl

pub even-kept : {Y : Type 0} (b : Bool) (n : ℕ) (v : List ℤ → Y) → (b ≡ true → IsEvenAt n v) → (k : List ℤ) → length k ≡ n → v (kept b k) ≡ v k
even-kept true n v e k l = even-ascending n v (e refl) k l
even-kept false n v e k l = refl

-- sums over a list do not see its order

pub sum_by-swap_at : {X : Type 0} (f : X → ℕ) (i : ℕ) (xs : List X) → sum_by f (swap_at i xs) ≡ sum_by f xs
sum_by-swap_at f i [] = refl
sum_by-swap_at f zero (x ∷ []) = refl
sum_by-swap_at f zero (x ∷ y ∷ ys) = omega (arith, sum_by-cons f x (y ∷ ys), sum_by-cons f y ys, sum_by-cons f y (x ∷ ys), sum_by-cons f x ys)
sum_by-swap_at f (suc i) (x ∷ xs) = omega (arith, sum_by-cons f x xs, sum_by-cons f x (swap_at i xs), sum_by-swap_at f i xs)

pub sum_by-kept : (f : ℤ → ℕ) (b : Bool) (k : List ℤ) → sum_by f (kept b k) ≡ sum_by f k
sum_by-kept f b k = even-kept b (length k) (sum_by f) (λ s i xs l. sum_by-swap_at f i xs) k refl

-- what holds of each number holds of each in order

pub all_kept : (P : ℤ → Type 0) (b : Bool) (k : List ℤ) → AllByRecursion P k → AllByRecursion P (kept b k)
all_kept P false k a = a
all_kept P true k a = all-in_order int_le P k a
