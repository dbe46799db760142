-- The completions of an additive network weigh what the members of the product of its parts weigh.
use Rattle.std.proofs.Common.{◌≡◌, ℕ, zero, suc, ◌+◌, ◌-◌, ◌*◌, ◌<◌, ◌≤◌, List, [], ◌∷◌, map, length, Bool, true, false, cond, refl, sym, ◌∙◌, ap, arith}
use Rattle.std.specs.Prelude.{ℤ, pos}
use Rattle.std.specs.List.{sum_by, filter}
use Rattle.std.proofs.lemmas.Bool.{lt-ltb}
use Rattle.std.proofs.lemmas.List.{length-replicate}
use Rattle.weights.specs.Labellings.{product}
use Rattle.weights.proofs.Sums.{sum_by-same, sum_by-same_where, sum_by-map, sum_by-flat_map, sum_by-scaled, sum_by-times}
use Rattle.weights.proofs.Filters.{filter-map, filter-flat_map}
use Rattle.networks.specs.Completions.{total_weight, ending_weight, value_weights, path_weight}
use Rattle.networks.proofs.Steps.{passing, passing-step, all_paths, all-step}
use Rattle.networks.specs.PartialSums.{plus, kept}
use Rattle.networks.specs.Addends.{Addends, additive_network, sum_value_of, zeros, totals}
use Rattle.networks.proofs.Parts.{Pieces, gathered, product_weight, summed, AreStages}
use Rattle.networks.proofs.Swaps.{IsEvenAt, even-kept, length-plus, length-kept, plus-swap, swap_at}

-- a product part by part

module _ (ps : Pieces) (p : List ℤ → Bool) where
  gathered-front : (g : ℕ) (k : List ℤ) (parts : List (List (List ℕ))) (x : List ℕ) → sum_by (product_weight ps.mass g) (filter (λ xs. p (summed ps.added g k xs)) (map (λ xs. x ∷ xs) (product parts))) ≡ ps.mass g x * gathered ps p (g + 1) (plus k (ps.added g x)) parts
  gathered-front g k parts x =
      let left : List (List (List ℕ)) = filter (λ xs. p (summed ps.added (g + 1) (plus k (ps.added g x)) xs)) (product parts) in
      ap (sum_by (product_weight ps.mass g)) (filter-map (λ xs. p (summed ps.added g k xs)) (λ xs. x ∷ xs) (product parts))
      ∙ sum_by-map (product_weight ps.mass g) (λ xs. x ∷ xs) left
      ∙ sum_by-scaled (ps.mass g x) (product_weight ps.mass (g + 1)) left

  pub gathered-cons : (g : ℕ) (k : List ℤ) (part : List (List ℕ)) (parts : List (List (List ℕ))) → gathered ps p g k (part ∷ parts) ≡ sum_by (λ x. ps.mass g x * gathered ps p (g + 1) (plus k (ps.added g x)) parts) part
  gathered-cons g k part parts =
      ap (sum_by (product_weight ps.mass g)) (filter-flat_map (λ xs. p (summed ps.added g k xs)) (λ x. map (λ xs. x ∷ xs) (product parts)) part)
      ∙ sum_by-flat_map (product_weight ps.mass g) (λ x. filter (λ xs. p (summed ps.added g k xs)) (map (λ xs. x ∷ xs) (product parts))) part
      ∙ sum_by-same _ _ (gathered-front g k parts) part

pub choices-before : (a : Addends) (g : ℕ) (k : List ℤ) → g < a.count → (additive_network a).choices g k ≡ a.choices g
choices-before a g k h = rw (lt-ltb g a.count h) refl

module _ (a : Addends) (ps : Pieces) (p : List ℤ → Bool) where
  -- sums that change places pass alike
  pub gathered-even : a.sorted ≡ true → IsEvenAt a.slots p → (g : ℕ) (parts : List (List (List ℕ))) → AreStages a ps g parts → IsEvenAt a.slots (λ k. gathered ps p g k parts)
  gathered-even s even g [] stages i k l = ap (λ b. sum_by (product_weight ps.mass g) (cond b ([] ∷ []) [])) (even i k l)
  gathered-even s even g (part ∷ parts) stages i k l =
      gathered-cons ps p g (swap_at i k) part parts
      ∙ sym (stages.0.closed s i (λ v. gathered ps p (g + 1) (plus (swap_at i k) v) parts))
      ∙ sum_by-same_where (λ x. length (ps.added g x) ≡ a.slots) _ _ (λ x w. ap (λ n. ps.mass g x * n)
      (ap (λ v. gathered ps p (g + 1) v parts) (plus-swap i k (ps.added g x) (w ∙ sym l))
      ∙ gathered-even s even (g + 1) parts stages.1 i (plus k (ps.added g x)) (length-plus k (ps.added g x) ∙ l))) part stages.0.wide
      ∙ sym (gathered-cons ps p g k part parts)

  -- from a key of any stage on
  pub bridge_from : (a.sorted ≡ true → IsEvenAt a.slots p) → (g : ℕ) (k : List ℤ) (parts : List (List (List ℕ))) → g + length parts ≡ a.count → length k ≡ a.slots → AreStages a ps g parts → passing (additive_network a) p (length parts) g k ≡ gathered ps p g k parts
  bridge_from even g k [] e l stages = by (p k)
    where
      by : (b : Bool) → sum_by (path_weight (additive_network a) g k) (cond b ([] ∷ []) []) ≡ sum_by (product_weight ps.mass g) (cond b ([] ∷ []) [])
      by true = refl
      by false = refl
  bridge_from even g k (part ∷ parts) e l stages =
      passing-step (additive_network a) p (length parts) g k
      ∙ ap (sum_by (λ c. a.weight g c * passing (additive_network a) p (length parts) (g + 1) (kept a.sorted (plus k (a.adds g c))))) (choices-before a g k (omega arith))
      ∙ sum_by-same _ _ (λ c. ap (λ n. a.weight g c * n)
      (bridge_from even (g + 1) (kept a.sorted (plus k (a.adds g c))) parts (omega arith) (length-kept a.sorted (plus k (a.adds g c)) ∙ length-plus k (a.adds g c) ∙ l) stages.1
      ∙ even-kept a.sorted a.slots (λ v. gathered ps p (g + 1) v parts) (λ s. gathered-even s (even s) (g + 1) parts stages.1) (plus k (a.adds g c)) (length-plus k (a.adds g c) ∙ l))) (a.choices g)
      ∙ sym (stages.0.same (λ v. gathered ps p (g + 1) (plus k v) parts))
      ∙ sym (gathered-cons ps p g k part parts)

-- for every test of the value
pub bridge : (a : Addends) (ps : Pieces) (parts : List (List (List ℕ))) → length parts ≡ a.count → AreStages a ps 0 parts → (a.sorted ≡ true → IsEvenAt a.slots (sum_value_of a.value))
    → (p : ℤ → Bool) → value_weights (additive_network a) p ≡ gathered ps (λ k. p (sum_value_of a.value k)) 0 (zeros a) parts
unfolding ending_weight
bridge a ps parts e stages even p =
    let all : a.count - 0 ≡ length parts = omega arith in
    ap (λ m. passing (additive_network a) (λ k. p (sum_value_of a.value k)) m 0 (zeros a)) all
    ∙ bridge_from a ps (λ k. p (sum_value_of a.value k)) (λ s i k l. ap p (even s i k l)) 0 (zeros a) parts (omega arith) (length-replicate a.slots (pos 0)) stages

-- the weight of all completions is the product of the stages' totals

pub totals_from : (a : Addends) (m g : ℕ) (k : List ℤ) → g + m ≡ a.count → all_paths (additive_network a) m g k ≡ totals a m g
totals_from a zero g k e = refl
totals_from a (suc m) g k e =
    all-step (additive_network a) m g k
    ∙ ap (sum_by (λ c. a.weight g c * all_paths (additive_network a) m (g + 1) (kept a.sorted (plus k (a.adds g c))))) (choices-before a g k (omega arith))
    ∙ sum_by-same _ _ (λ c. ap (λ n. a.weight g c * n) (totals_from a m (g + 1) (kept a.sorted (plus k (a.adds g c))) (omega arith))) (a.choices g)
    ∙ sum_by-times (totals a m (g + 1)) (a.weight g) (a.choices g)

pub additive_total : (a : Addends) (g : ℕ) (k : List ℤ) → g ≤ a.count → total_weight (additive_network a) g k ≡ totals a (a.count - g) g
unfolding total_weight
additive_total a g k h = totals_from a (a.count - g) g k (omega arith)
