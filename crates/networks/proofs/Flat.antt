-- Rearrangements as flat lists: the members of a product, each joined.
use Rattle.std.proofs.Common.{◌≡◌, ℕ, ◌+◌, List, [], ◌∷◌, map, length, Bool, true, cond, refl, sym, ◌∙◌, ap, arith}
use Rattle.std.specs.Prelude.{ℤ, pos}
use Rattle.std.proofs.lemmas.List.{length-replicate}
use Rattle.std.specs.List.{sum_by, filter, concat, AllByRecursion}
use Rattle.weights.specs.Labellings.{product}
use Rattle.weights.proofs.Sums.{sum_by-filter, sum_by-same_where, sum_by-map}
use Rattle.weights.proofs.Filters.{filter-map, all_weaker}
use Rattle.weights.proofs.Members.{all_fronts}
use Rattle.networks.specs.Completions.{value_weights, path_weight, paths}
use Rattle.networks.specs.Addends.{Addends, additive_network, sum_value_of, zeros, totals}
use Rattle.networks.proofs.Parts.{Pieces, gathered, product_weight, summed, AreStages}
use Rattle.networks.proofs.Swaps.{IsEvenAt}
use Rattle.networks.proofs.Bridge.{bridge, bridge_from, totals_from}

-- what holds of each part of a member, by its stage, and of each part of each list
abbrev pub AllAt : (ℕ → List ℕ → Type 0) → ℕ → List (List ℕ) → Type 0
AllAt P g [] = Unit {0}
AllAt P g (x ∷ xs) = P g x × AllAt P (g + 1) xs

abbrev pub AllParts : (ℕ → List ℕ → Type 0) → ℕ → List (List (List ℕ)) → Type 0
AllParts P g [] = Unit {0}
AllParts P g (part ∷ parts) = AllByRecursion (P g) part × AllParts P (g + 1) parts

pub members_hold : (P : ℕ → List ℕ → Type 0) (g : ℕ) (parts : List (List (List ℕ))) → AllParts P g parts → AllByRecursion (AllAt P g) (product parts)
members_hold P g [] a = (tt, tt)
members_hold P g (part ∷ parts) a =
    all_fronts (AllAt P g) (P g) (λ x. product parts)
    (λ x q. all_weaker (AllAt P (g + 1)) (λ rest. AllAt P g (x ∷ rest)) (λ rest r. (q, r)) (product parts) (members_hold P (g + 1) parts a.1)) part a.0

pub filter-every : {X : Type 0} (xs : List X) → filter (λ x. true) xs ≡ xs
filter-every [] = refl
filter-every (x ∷ xs) = ap (λ ys. x ∷ ys) (filter-every xs)

-- The form that a test cites: its reference set is the product with its members joined, and what it measures and weighs of one is
-- the value of the sums and the product of the weights.
pub record IsJoined (a : Addends) (ps : Pieces) (P : ℕ → List ℕ → Type 0) (measured : List ℕ → ℤ) (weight : List ℕ → ℕ) : Type 0 where
  pub measures : (xs : List (List ℕ)) → AllAt P 0 xs → measured (concat xs) ≡ sum_value_of a.value (summed ps.added 0 (zeros a) xs)
  pub weighs : (xs : List (List ℕ)) → AllAt P 0 xs → weight (concat xs) ≡ product_weight ps.mass 0 xs

module _ (a : Addends) (ps : Pieces) (P : ℕ → List ℕ → Type 0) (measured : List ℕ → ℤ) (weight : List ℕ → ℕ) (j : IsJoined a ps P measured weight) where
  gathered_flat : (parts : List (List (List ℕ))) → AllParts P 0 parts → (p : ℤ → Bool) → gathered ps (λ k. p (sum_value_of a.value k)) 0 (zeros a) parts ≡ sum_by weight (filter (λ r. p (measured r)) (map concat (product parts)))
  gathered_flat parts all p =
      let first = zeros a in
      sum_by-filter (product_weight ps.mass 0) (λ xs. p (sum_value_of a.value (summed ps.added 0 first xs))) (product parts)
      ∙ sum_by-same_where (AllAt P 0) (λ xs. cond (p (sum_value_of a.value (summed ps.added 0 first xs))) (product_weight ps.mass 0 xs) 0) (λ xs. cond (p (measured (concat xs))) (weight (concat xs)) 0)
      (λ xs h. ap (λ z. cond (p z) (product_weight ps.mass 0 xs) 0) (sym (j.measures xs h)) ∙ ap (λ n. cond (p (measured (concat xs))) n 0) (sym (j.weighs xs h)))
      (product parts) (members_hold P 0 parts all)
      ∙ sym (sum_by-filter (λ xs. weight (concat xs)) (λ xs. p (measured (concat xs))) (product parts))
      ∙ sym (sum_by-map weight concat (filter (λ xs. p (measured (concat xs))) (product parts)))
      ∙ ap (sum_by weight) (sym (filter-map (λ r. p (measured r)) concat (product parts)))

  -- for every test of the value
  pub ends_flat : (parts : List (List (List ℕ))) → length parts ≡ a.count → AreStages a ps 0 parts → (a.sorted ≡ true → IsEvenAt a.slots (sum_value_of a.value)) → AllParts P 0 parts
      → (p : ℤ → Bool) → value_weights (additive_network a) p ≡ sum_by weight (filter (λ r. p (measured r)) (map concat (product parts)))
  ends_flat parts e stages even all p = bridge a ps parts e stages even p ∙ gathered_flat parts all p

  -- and the product of the stages' totals is the summed weight of all, whatever is measured
  pub total_flat : (parts : List (List (List ℕ))) → length parts ≡ a.count → AreStages a ps 0 parts → AllParts P 0 parts → totals a a.count 0 ≡ sum_by weight (map concat (product parts))
  total_flat parts e stages all =
      ap (λ m. totals a m 0) (sym e)
      ∙ sym (totals_from a (length parts) 0 (zeros a) (omega arith))
      ∙ ap (sum_by (path_weight (additive_network a) 0 (zeros a))) (sym (filter-every (paths (additive_network a) (length parts) 0 (zeros a))))
      ∙ bridge_from a ps (λ k. true) (λ sorted i k l. refl) 0 (zeros a) parts (omega arith) (length-replicate a.slots (pos 0)) stages
      ∙ gathered_flat parts all (λ z. true)
      ∙ ap (sum_by weight) (filter-every (map concat (product parts)))
