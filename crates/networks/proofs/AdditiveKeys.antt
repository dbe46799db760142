-- The keys that an additive network reaches: how many sums they have, and how great these are.
use Rattle.std.proofs.Common.{◌≡◌, ℕ, zero, suc, ◌+◌, ◌-◌, ◌<◌, ◌≤◌, List, [], ◌∷◌, ◌++◌, length, refl, sym, ◌∙◌, ap, arith, subst}
use Rattle.std.specs.Prelude.{ℤ, pos, ◌+ℤ◌, ◌≤ℤ◌, nat_abs, max, replicate}
use Rattle.std.specs.List.{Contains, AllByRecursion, All}
use Rattle.std.proofs.lemmas.Bool.{le-ltb}
use Rattle.std.proofs.lemmas.Int.{ints}
use Rattle.std.proofs.lemmas.List.{length-replicate}
use Rattle.std.proofs.lemmas.List.Elements.{All-contains, All-from_recursion}
use Rattle.weights.specs.declared.TheConstants.{MAX}
use Rattle.weights.proofs.Filters.{all_weaker}
use Rattle.networks.specs.Network.{IsReached}
use Rattle.networks.specs.PartialSums.{plus}
use Rattle.networks.specs.Addends.{Addends, additive_network, over_stages, over_earlier, stride, reach}
use Rattle.networks.specs.SoundAddends.{AddsBetween, IsAdditive}
use Rattle.networks.proofs.Swaps.{length-kept, length-plus, all_kept}
use Rattle.networks.proofs.Bridge.{choices-before}

-- sums over stages

pub over_stages-step : (f : ℕ → ℤ) (count g : ℕ) → g < count → over_stages f (count - g) g ≡ f g +ℤ over_stages f (count - (g + 1)) (g + 1)
over_stages-step f count g h = ap (λ m. over_stages f m g) (let e : count - g ≡ suc (count - (g + 1)) = omega arith in e)

pub over_stages-none : (f : ℕ → ℤ) (count : ℕ) → over_stages f (count - count) count ≡ pos 0
over_stages-none f count = ap (λ m. over_stages f m count) (let e : count - count ≡ 0 = omega arith in e)

pub over_stages-some : (f : ℕ → ℤ) (n : ℕ) → ((g : ℕ) → g < n → pos 0 ≤ℤ f g) → (m g : ℕ) → g + m ≡ n → pos 0 ≤ℤ over_stages f m g
over_stages-some f n some zero g e = omega (arith, ints)
over_stages-some f n some (suc m) g e = omega (arith, ints, some g (omega arith), over_stages-some f n some m (g + 1) (omega arith))

pub over_earlier-≤ : (f : ℕ → ℕ) (g m : ℕ) → over_earlier f g ≤ over_earlier f (g + m)
over_earlier-≤ f g zero = (let e : over_earlier f g ≡ over_earlier f (g + 0) = ap (over_earlier f) (let z : g ≡ g + 0 = omega arith in z) in omega (arith, e))
over_earlier-≤ f g (suc m) = (let e : over_earlier f (g + suc m) ≡ over_earlier f (suc (g + m)) = ap (over_earlier f) (let z : g + suc m ≡ suc (g + m) = omega arith in z) in omega (arith, e, over_earlier-≤ f g m))

pub over_earlier-within : (f : ℕ → ℕ) (g n : ℕ) → g ≤ n → over_earlier f g ≤ over_earlier f n
over_earlier-within f g n h = (let e : over_earlier f (g + (n - g)) ≡ over_earlier f n = ap (over_earlier f) (let z : g + (n - g) ≡ n = omega arith in z) in omega (arith, e, over_earlier-≤ f g (n - g)))

sum-small : (x y : ℤ) (m n : ℕ) → nat_abs x ≤ m → nat_abs y ≤ n → nat_abs (x +ℤ y) ≤ m + n
sum-small x y m n h i = grind (arith, ints)

-- what the stages move is within their strides
pub later-small : (f : ℕ → ℤ) (size : ℕ → ℕ) → ((g : ℕ) → nat_abs (f g) ≤ size g) → (m g : ℕ) → nat_abs (over_stages f m g) + over_earlier size g ≤ over_earlier size (g + m)
later-small f size small zero g = omega (arith, over_earlier-≤ size g 0)
later-small f size small (suc m) g =
    let here : over_earlier size (g + 1) ≡ over_earlier size (suc g) = ap (over_earlier size) (let z : g + 1 ≡ suc g = omega arith in z) in
    let there : over_earlier size (g + 1 + m) ≡ over_earlier size (g + suc m) = ap (over_earlier size) (let z : g + 1 + m ≡ g + suc m = omega arith in z) in
    omega (arith, sum-small (f g) (over_stages f m (g + 1)) (size g) (nat_abs (over_stages f m (g + 1))) (small g) (omega arith), later-small f size small m (g + 1), here, there)

zeros-small : (n : ℕ) → AllByRecursion (λ z. nat_abs z ≤ 0) (replicate n (pos 0))
zeros-small zero = tt
zeros-small (suc n) = (omega arith, zeros-small n)

between-small : (l z h : ℤ) → l ≤ℤ z → z ≤ℤ h → nat_abs z ≤ max (nat_abs l) (nat_abs h)
between-small l z h a b = grind (arith, ints)

plus-small : (l h : ℤ) (m : ℕ) (k v : List ℤ) → AllByRecursion (λ z. nat_abs z ≤ m) k → AllByRecursion (λ z. (l ≤ℤ z) × (z ≤ℤ h)) v → AllByRecursion (λ z. nat_abs z ≤ m + max (nat_abs l) (nat_abs h)) (plus k v)
plus-small l h m [] v n w = tt
plus-small l h m (x ∷ xs) [] n w = all_weaker (λ z. nat_abs z ≤ m) (λ z. nat_abs z ≤ m + max (nat_abs l) (nat_abs h)) (λ z s. omega (arith, s)) (x ∷ xs) n
plus-small l h m (x ∷ xs) (v ∷ vs) n w = (sum-small x v m (max (nat_abs l) (nat_abs h)) n.0 (between-small l v h w.0.0 w.0.1), plus-small l h m xs vs n.1 w.1)

module _ (a : Addends) where
  pub choices-past : (g : ℕ) (k : List ℤ) → a.count ≤ g → (additive_network a).choices g k ≡ []
  choices-past g k h = rw (le-ltb g a.count h) refl

  pub allowed-before : (g : ℕ) (k : List ℤ) (c : List ℕ) → g < a.count → Contains ((additive_network a).choices g k) c → Contains (a.choices g) c
  allowed-before g k c h m = subst (λ cs. Contains cs c) (choices-before a g k h) m

  -- a reached key has as many sums as the network
  pub reached_length : (g : ℕ) (k : List ℤ) → IsReached (additive_network a) g k → length k ≡ a.slots
  reached_length zero k r = ap length r ∙ length-replicate a.slots (pos 0)
  reached_length (suc g) k (j, c, r, before, allowed, e) = ap length e ∙ length-kept a.sorted (plus j (a.adds g c)) ∙ length-plus j (a.adds g c) ∙ reached_length g j r

  pub reached_stage : (g : ℕ) (k : List ℤ) → IsReached (additive_network a) g k → g ≤ a.count
  reached_stage zero k r = omega arith
  reached_stage (suc g) k r = omega (arith, r.3)

  least-stride : (g : ℕ) → nat_abs (a.least g) ≤ stride a g
  least-stride g = omega arith

  most-stride : (g : ℕ) → nat_abs (a.most g) ≤ stride a g
  most-stride g = omega arith

  -- what is still to come, and the earlier strides, are within the reach
  pub least_small : (g : ℕ) → g ≤ a.count → nat_abs (over_stages a.least (a.count - g) g) + over_earlier (stride a) g ≤ reach a
  least_small g h = (let e : over_earlier (stride a) (g + (a.count - g)) ≡ reach a = ap (over_earlier (stride a)) (let z : g + (a.count - g) ≡ a.count = omega arith in z) in omega (arith, e, later-small a.least (stride a) least-stride (a.count - g) g))

  pub most_small : (g : ℕ) → g ≤ a.count → nat_abs (over_stages a.most (a.count - g) g) + over_earlier (stride a) g ≤ reach a
  most_small g h = (let e : over_earlier (stride a) (g + (a.count - g)) ≡ reach a = ap (over_earlier (stride a)) (let z : g + (a.count - g) ≡ a.count = omega arith in z) in omega (arith, e, later-small a.most (stride a) most-stride (a.count - g) g))

  module _ (s : IsAdditive a) where
    pub choice_between : (g : ℕ) (k : List ℤ) (c : List ℕ) → g < a.count → Contains ((additive_network a).choices g k) c → AddsBetween a g c
    choice_between g k c h m = All-contains (AddsBetween a g) (a.choices g) c (All-from_recursion _ _ (s.between g h)) (allowed-before g k c h m)

    -- each sum is within the strides of the earlier stages
    pub reached_small : (g : ℕ) (k : List ℤ) → IsReached (additive_network a) g k → AllByRecursion (λ z. nat_abs z ≤ over_earlier (stride a) g) k
    reached_small zero k r = subst (AllByRecursion (λ z. nat_abs z ≤ 0)) (sym r) (zeros-small a.slots)
    reached_small (suc g) k (j, c, r, before, allowed, e) =
        subst (AllByRecursion (λ z. nat_abs z ≤ over_earlier (stride a) g + stride a g)) (sym e)
        (all_kept (λ z. nat_abs z ≤ over_earlier (stride a) g + stride a g) a.sorted (plus j (a.adds g c))
        (plus-small (a.least g) (a.most g) (over_earlier (stride a) g) j (a.adds g c) (reached_small g j r) (choice_between g j c before allowed).between))

    -- so the sums that a choice leads to fit, before they are put in order
    pub added_fit : (g : ℕ) (k : List ℤ) (c : List ℕ) → IsReached (additive_network a) g k → g < a.count → Contains ((additive_network a).choices g k) c → All (λ z. nat_abs z ≤ MAX) (plus k (a.adds g c))
    added_fit g k c r before allowed =
        let within : over_earlier (stride a) (suc g) ≤ reach a = over_earlier-within (stride a) (suc g) a.count (omega arith) in
        All-from_recursion (λ z. nat_abs z ≤ MAX) (plus k (a.adds g c))
        (all_weaker (λ z. nat_abs z ≤ over_earlier (stride a) g + stride a g) (λ z. nat_abs z ≤ MAX) (λ z h. omega (arith, h, within, s.sums_fit)) (plus k (a.adds g c))
        (plus-small (a.least g) (a.most g) (over_earlier (stride a) g) k (a.adds g c) (reached_small g k r) (choice_between g k c before allowed).between))

-- a room of no numbers
pub no_room : (room partial : List ℤ) → length room ≡ 0 → room ++ partial ≡ partial
no_room [] partial e = refl
no_room (x ∷ xs) partial e = absurd (omega arith)
