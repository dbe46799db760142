-- Alike keys of two networks end alike, with as much weight.
use Rattle.std.proofs.Common.{◌≡◌, ℕ, zero, suc, ◌+◌, ◌-◌, ◌*◌, ◌<◌, ◌≤◌, List, [], ◌∷◌, Bool, true, false, cond, refl, sym, ◌∙◌, ap, subst, arith}
use Rattle.std.specs.Prelude.{ℤ}
use Rattle.std.specs.List.{sum_by, Contains}
use Rattle.std.proofs.lemmas.List.Elements.{recursion_from_All, All-contains_itself}
use Rattle.weights.specs.declared.tails.Tail.{Tail}
use Rattle.weights.proofs.Sums.{sum_by-same_where}
use Rattle.networks.specs.Network.{Network, IsReached}
use Rattle.networks.specs.Completions.{ending_weight, extreme_weight, is_inside, over_arcs, path_weight, total_weight, value_weights}
use Rattle.networks.specs.Lumped.{IsImage, Lumped}
use Rattle.networks.proofs.Steps.{all-step, all_paths, passing, passing-step, reached-next}

pub over_allowed : (xs : List (List ℕ)) (f g : List ℕ → ℕ) → ((c : List ℕ) → Contains xs c → f c ≡ g c) → sum_by f xs ≡ sum_by g xs
over_allowed xs f g e = sum_by-same_where (Contains xs) f g e xs (recursion_from_All (Contains xs) xs (All-contains_itself xs))

passing-last : (n : Network) (p : List ℤ → Bool) (g : ℕ) (k : List ℤ) → passing n p zero g k ≡ cond (p k) 1 0
passing-last n p g k = by (p k)
  where
    by : (b : Bool) → sum_by (path_weight n g k) (cond b ([] ∷ []) []) ≡ cond b 1 0
    by true = refl
    by false = refl

module _ {n q : Network} {alike : ℕ → List ℤ → List ℤ → Type 0} (l : Lumped n q alike) where
  -- What comes of a key stage by stage, as a sum over its arcs, is the same of alike keys where it is of those of the last stage.
  onward : (f h : ℕ → ℕ → List ℤ → ℕ) → ((k j : List ℤ) → alike n.count k j → f zero n.count k ≡ h zero n.count j)
      → ((m g : ℕ) (k : List ℤ) → f (suc m) g k ≡ over_arcs n (f m (g + 1)) g k)
      → ((m g : ℕ) (j : List ℤ) → h (suc m) g j ≡ over_arcs q (h m (g + 1)) g j)
      → (m g : ℕ) (k j : List ℤ) → g + m ≡ n.count → alike g k j → f m g k ≡ h m g j
  onward f h last over_n over_q zero g k j e a =
      let end : n.count ≡ g = omega (arith, e) in
      subst (λ i. alike i k j → f zero i k ≡ h zero i j) end (last k j) a
  onward f h last over_n over_q (suc m) g k j e a =
      over_n m g k
      ∙ l.arcs (f m (g + 1)) (h m (g + 1)) g k j (omega (arith, e)) a (λ x y b. onward f h last over_n over_q m (g + 1) x y (omega (arith, e)) b)
      ∙ sym (over_q m g j)

  ends-alike : (p r : List ℤ → Bool) → ((k j : List ℤ) → alike n.count k j → p k ≡ r j)
      → (m g : ℕ) (k j : List ℤ) → g + m ≡ n.count → alike g k j → passing n p m g k ≡ passing q r m g j
  ends-alike p r ends =
      onward (passing n p) (passing q r)
      (λ k j a. passing-last n p n.count k ∙ ap (λ b. cond b 1 0) (ends k j a) ∙ sym (passing-last q r n.count j))
      (passing-step n p) (passing-step q r)

  -- as much weight ends at values that pass
  pub lumped-values : ((k j : List ℤ) → alike n.count k j → n.value k ≡ q.value j) → (p : ℤ → Bool) → value_weights n p ≡ value_weights q p
  unfolding ending_weight
  lumped-values ends p =
      ends-alike (λ k. p (n.value k)) (λ j. p (q.value j)) (λ k j a. ap p (ends k j a)) (n.count - 0) 0 n.first q.first (omega arith) l.first
      ∙ ap (λ m. passing q (λ j. p (q.value j)) (m - 0) 0 q.first) l.count

  -- the completions of alike keys weigh as much
  pub lumped-total : (g : ℕ) (k j : List ℤ) → g ≤ n.count → alike g k j → total_weight n g k ≡ total_weight q g j
  unfolding total_weight
  lumped-total g k j h a =
      onward (all_paths n) (all_paths q) (λ x y b. refl) (all-step n) (all-step q) (n.count - g) g k j (omega (arith, h)) a
      ∙ ap (λ m. all_paths q (m - g) g j) l.count

  -- and so do those that are extreme
  pub lumped-extreme : (t : Tail) → ((k j : List ℤ) → alike n.count k j → n.verdict t n.count k ≡ q.verdict t q.count j)
      → (g : ℕ) (k j : List ℤ) → g ≤ n.count → alike g k j → extreme_weight n t g k ≡ extreme_weight q t g j
  unfolding extreme_weight
  lumped-extreme t same g k j h a =
      ends-alike (λ e. is_inside (n.verdict t n.count e)) (λ e. is_inside (q.verdict t q.count e)) (λ x y b. ap is_inside (same x y b)) (n.count - g) g k j (omega (arith, h)) a
      ∙ ap (λ m. passing q (λ e. is_inside (q.verdict t q.count e)) (m - g) g j) l.count

-- where the arcs of an image lead to the images of what the key's arcs lead to, with as much weight
pub lumped-by : (image : List ℤ → List ℤ) (n q : Network) → n.count ≡ q.count → image n.first ≡ q.first
    → ((f : List ℤ → ℕ) (g : ℕ) (k : List ℤ) → IsReached n g k → g < n.count → over_arcs q f g (image k) ≡ over_arcs n (λ j. f (image j)) g k)
    → Lumped n q (IsImage image n)
lumped-by image n q count first arcs = record {
  count = count;
  first = (refl, sym first);
  arcs = λ f h g k j before a same.
      over_allowed (n.choices g k) (λ c. n.weight g k c * f (n.next g k c)) (λ c. n.weight g k c * h (image (n.next g k c)))
      (λ c o. ap (λ v. n.weight g k c * v) (same (n.next g k c) (image (n.next g k c)) (reached-next n g k c a.0 before o, refl)))
      ∙ sym (arcs h g k a.0 before)
      ∙ sym (ap (over_arcs q h g) a.1);
}
