-- Keys that were put aside: those of one number joined, and one more.
use Rattle.std.proofs.Common.{◌≡◌, ℕ, ◌+◌, ◌*◌, ◌<◌, ◌≤◌, List, [], ◌∷◌, ◌++◌, length, drop, get_or, ◌∙◌, ap, arith}
use Rattle.std.specs.Prelude.{ℤ, IsPermutation}
use Rattle.std.specs.List.{AllByRecursion}
use Rattle.std.proofs.lemmas.List.{drop_more, map-append}
use Rattle.std.proofs.lemmas.List.Sums.{sum_by-append, sum_by-cons}
use Rattle.std.proofs.lemmas.List.Sorted.{IsPermutation-map, sum_by-IsPermutation}
use Rattle.std.proofs.ByRecursion.{all_shuffled}
use Rattle.weights.proofs.Filters.{all_append}
use Rattle.node_pool.specs.Nodes.{Node, node, weighted}
use Rattle.node_runs.specs.declared.loose.Lead.{Lead}
use Rattle.node_runs.specs.Runs.{IsAdded, loose_nodes}
use Rattle.node_runs.specs.RunSteps.{IsJoined}

weighted-cons : (f : List ℤ → ℕ) (a : Node) (ys : List Node) → weighted f (a ∷ ys) ≡ a.weight * f a.key + weighted f ys
weighted-cons f a ys = sum_by-cons (λ a. a.weight * f a.key) a ys

-- one more of one key
module _ (nodes : List Node) (k : List ℤ) (w : ℕ) (left : List Node) (joined : IsJoined nodes k w left) (a : Node) (rest : List Node) (first : left ≡ a ∷ rest) where
  pub joined-more : (sum : ℕ) → a.key ≡ k → sum ≡ w + a.weight → IsJoined nodes k sum rest
  joined-more sum same is = record {
    sums = λ f.
        let here : a.weight * f a.key ≡ a.weight * f k = ap (λ j. a.weight * f j) same in
        let both : sum * f k ≡ (w + a.weight) * f k = ap (λ s. s * f k) is in
        let spread : (w + a.weight) * f k ≡ w * f k + a.weight * f k = grind arith in
        omega (arith, joined.sums f, ap (weighted f) first, weighted-cons f a rest, here, both, spread);
    heavy = λ all.
        let old = joined.heavy all in
        let more = rw first at old.1 in
        (omega (arith, is, old.0), more.1);
  }

module _ {C : Type 0} (number : C → ℕ) where
  abbrev pub lead_node : Lead C → Node
  lead_node l = node (l.number ∷ []) (number l.weight)

  -- the one at a place, before those behind it
  pub lead-at : (leads : List (Lead C)) (i : ℕ) (d : Lead C) → i < length leads → loose_nodes number (drop i leads) ≡ lead_node (get_or leads i d) ∷ loose_nodes number (drop (i + 1) leads)
  lead-at leads i d low = ap (loose_nodes number) (drop_more leads i d low)

  -- one more is put aside
  pub kept-one : (old : List Node) (leads leads' : List (Lead C)) (l : Lead C) (k : List ℤ) (w : ℕ) → leads' ≡ leads ++ l ∷ [] → l.number ∷ [] ≡ k → number l.weight ≡ w → IsAdded old (loose_nodes number leads) k w old (loose_nodes number leads')
  kept-one old leads leads' l k w is key weight =
      let more : loose_nodes number leads' ≡ loose_nodes number leads ++ node k w ∷ [] = ap (loose_nodes number) is ∙ map-append lead_node leads (l ∷ []) ∙ ap (λ j. loose_nodes number leads ++ node j (number l.weight) ∷ []) key ∙ ap (λ v. loose_nodes number leads ++ node k v ∷ []) weight in
      rw more (record {
        sums = λ f. omega (arith, sum_by-append (λ (a : Node). a.weight * f a.key) (loose_nodes number leads) (node k w ∷ []), weighted-cons f (node k w) []);
        heavy = λ h all loose. (all, all_append (λ (a : Node). 1 ≤ a.weight) (loose_nodes number leads) (node k w ∷ []) loose (h, tt));
      })

  -- once they are sorted
  pub sorted-sum : (f : List ℤ → ℕ) (xs ys : List (Lead C)) → IsPermutation xs ys → weighted f (loose_nodes number ys) ≡ weighted f (loose_nodes number xs)
  sorted-sum f xs ys moved = sum_by-IsPermutation (λ (a : Node). a.weight * f a.key) (loose_nodes number xs) (loose_nodes number ys) (IsPermutation-map lead_node xs ys moved)

  pub sorted-heavy : (xs ys : List (Lead C)) → IsPermutation xs ys → AllByRecursion (λ (a : Node). 1 ≤ a.weight) (loose_nodes number xs) → AllByRecursion (λ (a : Node). 1 ≤ a.weight) (loose_nodes number ys)
  sorted-heavy xs ys moved = all_shuffled (λ (a : Node). 1 ≤ a.weight) (loose_nodes number xs) (loose_nodes number ys) (IsPermutation-map lead_node xs ys moved)
