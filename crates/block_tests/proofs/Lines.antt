-- Lines with the sums of some items give every sum over the items.
use Rattle.std.proofs.Common.{◌≡◌, ℕ, zero, suc, ◌+◌, ◌*◌, ◌-◌, ◌≤◌, List, [], ◌∷◌, Bool, true, false, cond, nat_lt, refl, sym, ◌∙◌, ap, arith, inl, inr}
use Rattle.std.specs.Prelude.{ℤ}
use Rattle.std.specs.List.{AllByRecursion, range_with_len, sum_by}
use Rattle.std.proofs.lemmas.Bool.{cases_lt, le-ltb, lt-ltb}
use Rattle.std.proofs.lemmas.List.Sums.{sum_by-cons}
use Rattle.weights.specs.declared.lines.Line.{Line}
use Rattle.weights.proofs.Sums.{sum_by-same_where, sum_by-swap}
use Rattle.networks.specs.Lines.{line_sum}

layer-front : (n s m : ℕ) → sum_by (λ t. cond (nat_lt t n) 1 0) (range_with_len s (suc m)) ≡ cond (nat_lt s n) 1 0 + sum_by (λ t. cond (nat_lt t n) 1 0) (range_with_len (s + 1) m)
layer-front n s m = sum_by-cons (λ t. cond (nat_lt t n) 1 0) s (range_with_len (s + 1) m)

no-layers : (n s m : ℕ) → n ≤ s → sum_by (λ t. cond (nat_lt t n) 1 0) (range_with_len s m) ≡ 0
no-layers n s zero h = refl
no-layers n s (suc m) h = layer-front n s m ∙ rw (le-ltb s n h) (omega (arith, no-layers n (s + 1) m (omega arith)))

-- a number is as many layers as are below it
layers : (n s m : ℕ) → n ≤ s + m → s ≤ n → sum_by (λ t. cond (nat_lt t n) 1 0) (range_with_len s m) ≡ n - s
layers n s zero h l = omega arith
layers n s (suc m) h l = elim (cases_lt s n) [
  | inl b ↦ layer-front n s m ∙ rw (lt-ltb s n b) (omega (arith, layers n (s + 1) m (omega arith) (omega (arith, b))))
  | inr b ↦ layer-front n s m ∙ rw (le-ltb s n b) (omega (arith, b, no-layers n (s + 1) m (omega (arith, b))))
]

pub each-within : {X : Type 0} (f : X → ℕ) (xs : List X) (m : ℕ) → sum_by f xs ≤ m → AllByRecursion (λ x. f x ≤ m) xs
each-within f [] m h = tt
each-within f (x ∷ xs) m h = (omega (arith, sum_by-cons f x xs), each-within f xs m (omega (arith, sum_by-cons f x xs)))

cond-times : (b : Bool) (w : ℕ) → cond b 1 0 * w ≡ cond b w 0
cond-times true w = omega arith
cond-times false w = omega arith

module _ {X : Type 0} (st : X → ℤ) (rs : List X) (lines : List Line) (told : (p : ℤ → Bool) → line_sum p lines ≡ sum_by (λ r. cond (p (st r)) 1 0) rs) (f : ℤ → ℕ) where
  most : ℕ
  most = sum_by (λ (l : Line). f l.value) lines + sum_by (λ r. f (st r)) rs

  in-layers : (v : ℤ) → f v ≤ most → f v ≡ sum_by (λ t. cond (nat_lt t (f v)) 1 0) (range_with_len 0 most)
  in-layers v h = sym (layers (f v) 0 most (omega arith) (omega arith) ∙ (let e : f v - 0 ≡ f v = omega arith in e))

  pub over-lines : sum_by (λ (l : Line). l.weight * f l.value) lines ≡ sum_by (λ r. f (st r)) rs
  unfolding most
  over-lines =
      let all : List ℕ = range_with_len 0 most in
      sum_by-same_where (λ (l : Line). f l.value ≤ most) (λ (l : Line). l.weight * f l.value) (λ (l : Line). sum_by (λ t. cond (nat_lt t (f l.value)) l.weight 0) all)
      (λ l h. ap (λ n. l.weight * n) (in-layers l.value h) ∙ weighed l.weight (λ t. nat_lt t (f l.value)) all) lines (each-within (λ (l : Line). f l.value) lines most (omega arith))
      ∙ sum_by-swap (λ (l : Line) t. cond (nat_lt t (f l.value)) l.weight 0) lines all
      ∙ layer all
      ∙ sym (sum_by-swap (λ r t. cond (nat_lt t (f (st r))) 1 0) rs all)
      ∙ sym (sum_by-same_where (λ r. f (st r) ≤ most) (λ r. f (st r)) (λ r. sum_by (λ t. cond (nat_lt t (f (st r))) 1 0) all) (λ r h. in-layers (st r) h) rs (each-within (λ r. f (st r)) rs most (omega arith)))
    where
      weighed : (w : ℕ) (p : ℕ → Bool) (ts : List ℕ) → w * sum_by (λ t. cond (p t) 1 0) ts ≡ sum_by (λ t. cond (p t) w 0) ts
      weighed w p [] = omega arith
      weighed w p (t ∷ ts) = rw (sum_by-cons (λ t. cond (p t) 1 0) t ts, sum_by-cons (λ t. cond (p t) w 0) t ts) (omega (arith, weighed w p ts, cond-times (p t) w))

      layer : (ts : List ℕ) → sum_by (λ t. sum_by (λ (l : Line). cond (nat_lt t (f l.value)) l.weight 0) lines) ts ≡ sum_by (λ t. sum_by (λ r. cond (nat_lt t (f (st r))) 1 0) rs) ts
      layer [] = refl
      layer (t ∷ ts) = rw (sum_by-cons (λ t. sum_by (λ (l : Line). cond (nat_lt t (f l.value)) l.weight 0) lines) t ts, sum_by-cons (λ t. sum_by (λ r. cond (nat_lt t (f (st r))) 1 0) rs) t ts, told (λ v. nat_lt t (f v)), layer ts) refl
