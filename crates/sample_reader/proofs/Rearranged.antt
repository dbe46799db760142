-- Lists of which one has the items of the other.
use Rattle.std.proofs.Common.{◌≡◌, ◌≢◌, ◌⊎◌, inl, inr, ℕ, zero, suc, ◌+◌, ◌<◌, ◌≤◌, List, [], ◌∷◌, length, get_or, sym, ◌∙◌, arith}
use Rattle.std.specs.List.{All, AllPairs, Contains, remove}
use Rattle.std.specs.List.Sorted.{IsPermutation}
use Rattle.std.proofs.lemmas.List.{get_or_default}
use Rattle.std.proofs.lemmas.List.Edits.{get_or-remove_below}
use Rattle.std.proofs.lemmas.List.Elements.{All-contains_itself, All-head, All-tail}
use Rattle.std.proofs.lemmas.List.Sorted.{Contains-permutation, IsPermutation-cons, IsPermutation-refl, IsPermutation-remove, IsPermutation-sym, IsPermutation-trans, length_permutation}

module _ {X : Type 0} where
  contains_cases : (y x : X) (ys : List X) (k : ℕ) → k < length (y ∷ ys) → get_or (y ∷ ys) k x ≡ x → (x ≡ y) ⊎ Contains ys x
  contains_cases y x ys zero within e = inl (sym e)
  contains_cases y x ys (suc k) within e = inr (k, omega arith, e)

  -- an item stands in the rest, where it is another than the one that is removed
  in_rest : (ys : List X) (i : ℕ) (y x : X) → i < length ys → y ≡ get_or ys i y → Contains ys x → (x ≢ y) ⊎ Contains (remove ys i) y → Contains (remove ys i) x
  in_rest ys i y x within e has other =
      let found = Contains-permutation ys (y ∷ remove ys i) x (IsPermutation-remove ys i y within e) has in
      by (contains_cases y x (remove ys i) found.0 found.1 found.2) other
    where
      by : (x ≡ y) ⊎ Contains (remove ys i) x → (x ≢ y) ⊎ Contains (remove ys i) y → Contains (remove ys i) x
      by (inr there) other = there
      by (inl same) (inl not_same) = absurd (not_same same)
      by (inl same) (inr there) = rw same there

  length-rest : (ys : List X) (i : ℕ) (y : X) → i < length ys → y ≡ get_or ys i y → length ys ≡ length (remove ys i) + 1
  length-rest ys i y within e = let l = length_permutation ys (y ∷ remove ys i) (IsPermutation-remove ys i y within e) in omega (arith, l)

  tail-distinct : (x : X) (xs : List X) → AllPairs ◌≢◌ (x ∷ xs) → AllPairs ◌≢◌ xs
  tail-distinct x xs distinct i j d before within = distinct (suc i) (suc j) d (omega arith) (omega arith)

  head-distinct : (x : X) (xs : List X) → AllPairs ◌≢◌ (x ∷ xs) → (k : ℕ) (d : X) → k < length xs → get_or xs k d ≢ x
  head-distinct x xs distinct k d within e = distinct 0 (suc k) d (omega arith) (omega arith) (sym e)

  -- the other items stand in the rest
  tail-in_rest : (x : X) (xs ys : List X) → AllPairs ◌≢◌ (x ∷ xs) → (all : All (Contains ys) (x ∷ xs)) → (i : ℕ) → i < length ys → x ≡ get_or ys i x → All (Contains (remove ys i)) xs
  tail-in_rest x xs ys distinct all i within e k d lt =
      in_rest ys i x (get_or xs k d) within e (All-tail (Contains ys) x xs all k d lt) (inl (head-distinct x xs distinct k d lt))

  -- different items that stand in a list are at most as many as it has
  length-le-contained : (xs ys : List X) → AllPairs ◌≢◌ xs → All (Contains ys) xs → length xs ≤ length ys
  length-le-contained [] ys distinct all = omega arith
  length-le-contained (x ∷ xs) ys distinct all =
      let has = All-head (Contains ys) x xs all in
      let rest = length-le-contained xs (remove ys has.0) (tail-distinct x xs distinct) (tail-in_rest x xs ys distinct all has.0 has.1 (sym has.2)) in
      let shorter = length-rest ys has.0 x has.1 (sym has.2) in
      omega (arith, rest, shorter)

  pub IsPermutation-from_contained : (xs ys : List X) → AllPairs ◌≢◌ xs → All (Contains ys) xs → length xs ≡ length ys → IsPermutation xs ys
  IsPermutation-from_contained [] [] distinct all same = IsPermutation-refl []
  IsPermutation-from_contained [] (y ∷ ys) distinct all same = absurd (omega arith)
  IsPermutation-from_contained (x ∷ xs) ys distinct all same =
      let has = All-head (Contains ys) x xs all in
      let at : x ≡ get_or ys has.0 x = sym has.2 in
      let shorter = length-rest ys has.0 x has.1 at in
      let rest = IsPermutation-from_contained xs (remove ys has.0) (tail-distinct x xs distinct) (tail-in_rest x xs ys distinct all has.0 has.1 at) (omega (arith, shorter)) in
      IsPermutation-trans (x ∷ xs) (x ∷ remove ys has.0) ys (IsPermutation-cons x xs (remove ys has.0) rest)
      (IsPermutation-sym ys (x ∷ remove ys has.0) (IsPermutation-remove ys has.0 x has.1 at))

  pub distinct-IsPermutation : (xs ys : List X) → IsPermutation xs ys → AllPairs ◌≢◌ xs → AllPairs ◌≢◌ ys
  distinct-IsPermutation xs ys same distinct i j d before within e =
      let y = get_or ys j d in
      let at : y ≡ get_or ys j y = get_or_default ys j d y within in
      let first : get_or (remove ys j) i y ≡ y = get_or-remove_below ys j y i before within ∙ get_or_default ys i y d (omega arith) ∙ e in
      let shorter = length-rest ys j y within at in
      let there : Contains (remove ys j) y = (i, omega (arith, shorter), first) in
      let all : All (Contains (remove ys j)) xs = λ k d' lt. in_rest ys j y (get_or xs k d') within at (Contains-permutation xs ys (get_or xs k d') same (All-contains_itself xs k d' lt)) (inr there) in
      let few = length-le-contained xs (remove ys j) distinct all in
      let many = length_permutation xs ys same in
      omega (arith, few, many, shorter)
