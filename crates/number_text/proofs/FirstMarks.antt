-- The first element that passes a test, and what stands before and behind it.
use Rattle.std.proofs.Common.{◌≡◌, ℕ, suc, ◌+◌, ◌||◌, Bool, true, false, cond, not, nat_lt, List, [], ◌∷◌, length, take, drop, position, Option, Some, None, arith, inl, inr, refl, sym, ◌∙◌}
use Rattle.std.proofs.lemmas.Bool.{cases_lt, le-ltb, lt-ltb}
use Rattle.std.proofs.lemmas.Bool.Decides.{nat_tests}
use Rattle.std.proofs.lemmas.List.{drop_all, take_all}
use Rattle.std.specs.List.{after_first, before_first, list_any, position_or_len}

-- whether some element passes, by the place of the first
list_any_is : {X : Type 0} (p : X → Bool) (xs : List X) → list_any p xs ≡ nat_lt (position_or_len p xs) (length xs)
list_any_is p [] = refl
list_any_is p (x ∷ xs) = by_head (p x) (list_any p xs) (position_or_len p xs) (length xs) (list_any_is p xs)
  where
    by_head : (head rest : Bool) (place len : ℕ) → rest ≡ nat_lt place len → (head || rest) ≡ nat_lt (cond (not head) (1 + place) 0) (suc len)
    by_head true rest place len rest_is = sym (lt-ltb 0 (suc len) (omega arith))
    by_head false rest place len rest_is = grind (arith, nat_tests)

-- what stands before and behind the place of the first element that passes
pub record IsFirstPlace {X : Type 0} (p : X → Bool) (xs : List X) (place : ℕ) : Type 0 where
  pub before : take place xs ≡ before_first p xs
  pub after : drop (place + 1) xs ≡ after_first p xs
  pub some : list_any p xs ≡ true

pub IsFirstPlace-from_position : {X : Type 0} (p : X → Bool) (xs : List X) (place : ℕ) → position p xs ≡ Some place → IsFirstPlace p xs place
IsFirstPlace-from_position p xs place answer =
    elim (cases_lt (position_or_len p xs) (length xs)) [
      | inl inside ↦
          let found : ◌≡◌ {A = Option ℕ} (Some (position_or_len p xs)) (Some place) = rw (lt-ltb _ _ inside) at answer in
          let same : place ≡ position_or_len p xs = cc in
          record { before = rw same; after = rw same; some = list_any_is p xs ∙ lt-ltb _ _ inside }
      | inr past ↦
          let found : ◌≡◌ {A = Option ℕ} None (Some place) = rw (le-ltb _ _ past) at answer in
          absurd cc
    ]

-- where no element passes, nothing stands behind the first one
pub record HasNoPlace {X : Type 0} (p : X → Bool) (xs : List X) : Type 0 where
  pub before : xs ≡ before_first p xs
  pub after : [] ≡ after_first p xs
  pub none : list_any p xs ≡ false

pub HasNoPlace-from_position : {X : Type 0} (p : X → Bool) (xs : List X) → position p xs ≡ None → HasNoPlace p xs
HasNoPlace-from_position p xs answer =
    elim (cases_lt (position_or_len p xs) (length xs)) [
      | inl inside ↦
          let found : ◌≡◌ {A = Option ℕ} (Some (position_or_len p xs)) None = rw (lt-ltb _ _ inside) at answer in
          absurd cc
      | inr past ↦ record {
        before = sym (take_all _ xs past);
        after = sym (drop_all _ xs (omega arith));
        none = list_any_is p xs ∙ le-ltb _ _ past;
      }
    ]
