-- Labels that are kept in a set of lists of bytes.
use Rattle.std.proofs.Common.{◌≡◌, ℕ, suc, ◌+◌, Bool, true, false, cond, not, ◌||◌, nat_eq, List, [], ◌∷◌, ◌++◌, length, map, bytes_eq, refl, sym, ◌∙◌, arith}
use Rattle.std.specs.List.{list_any, position_or_len}
use Rattle.std.proofs.lemmas.Cmp.{nat_list_eq_equiv}
use Rattle.std.proofs.lemmas.Bool.Decides.{nat_tests}
use Rattle.std.proofs.lemmas.List.{length-map, map-append}
use Rattle.sample_reader.specs.Groups.{number_among, with_item}
use Rattle.sample_reader.proofs.SubjectLemmas.{position_or_len-map}

one-more : (m n : ℕ) → nat_eq (1 + m) (suc n) ≡ nat_eq m n
one-more m n = grind (arith, nat_tests)

not-first : (n : ℕ) → nat_eq 0 (suc n) ≡ false
not-first n = grind (arith, nat_tests)

-- an item stands before all places exactly where one passes
number-any : {X : Type 0} (p : X → Bool) (xs : List X) → nat_eq (position_or_len p xs) (length xs) ≡ not (list_any p xs)
number-any p [] = refl
number-any p (x ∷ xs) = by (p x) (number-any p xs)
  where
    by : (passes : Bool) → nat_eq (position_or_len p xs) (length xs) ≡ not (list_any p xs)
        → nat_eq (cond (not passes) (1 + position_or_len p xs) 0) (length (x ∷ xs)) ≡ not (passes || list_any p xs)
    by true rest = not-first (length xs)
    by false rest = one-more (position_or_len p xs) (length xs) ∙ rest

module _ {X : Type 0} (bytes : X → List ℕ) (labels : List X) (label : X) where
  -- the number of a label in the set
  pub number-is : position_or_len (λ known. bytes_eq (bytes label) (bytes known)) labels ≡ number_among bytes_eq (map bytes labels) (bytes label)
  number-is =
      (λ j. position_or_len (λ known. nat_list_eq_equiv.symm (bytes label) (bytes known) j) labels)
      ∙ sym (position_or_len-map bytes (λ known. bytes_eq known (bytes label)) labels)

  -- the labels after it is inserted
  pub inserted-is : map bytes (cond (list_any (λ known. bytes_eq (bytes label) (bytes known)) labels) labels (labels ++ label ∷ [])) ≡ with_item bytes_eq (map bytes labels) (bytes label)
  inserted-is = by (list_any (λ known. bytes_eq (bytes label) (bytes known)) labels) at_end
    where
      at_end : nat_eq (number_among bytes_eq (map bytes labels) (bytes label)) (length (map bytes labels)) ≡ not (list_any (λ known. bytes_eq (bytes label) (bytes known)) labels)
      at_end = rw (length-map labels bytes, ← number-is) (number-any (λ known. bytes_eq (bytes label) (bytes known)) labels)

      by : (there : Bool) → nat_eq (number_among bytes_eq (map bytes labels) (bytes label)) (length (map bytes labels)) ≡ not there
          → map bytes (cond there labels (labels ++ label ∷ [])) ≡ with_item bytes_eq (map bytes labels) (bytes label)
      by true test = rw test refl
      by false test = rw (test, map-append) refl
