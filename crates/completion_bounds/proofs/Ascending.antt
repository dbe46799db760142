-- Runs that ascend by score, as lists with repeats.
use Rattle.std.proofs.Common.{◌≡◌, ℕ, suc, ◌+◌, List, [], ◌∷◌, ◌++◌, get_or, Bool, true, false, cond, refl, subst, arith, add-one}
use Rattle.std.specs.Prelude.{ℤ, ◌≤ℤ◌, replicate, nat_le}
use Rattle.std.specs.List.{flat_map, AllByRecursion}
use Rattle.std.specs.List.Sorted.{IsSortedByKey}
use Rattle.std.specs.Ordering.{int_cmp, is_lt}
use Rattle.std.proofs.lemmas.Int.{ints}
use Rattle.completion_bounds.specs.Pairings.{units_of, row_units, units_from, later_units, RowsAscend, ColumnsAscend}
use Rattle.completion_bounds.specs.declared.pairings.Part.{Part}
use Rattle.completion_bounds.specs.declared.pairings.Later.{Later}
use Rattle.completion_bounds.proofs.Rearranged.{Ascends, all_imp}
use Rattle.weights.proofs.Filters.{all_replicate}

not_below : (x y : ℤ) → is_lt (int_cmp y x) ≡ false → x ≤ℤ y
not_below x y e = grind (arith, ints, e)

module _ {X : Type 0} (score : X → ℤ) where
  -- all scores are at least this
  abbrev AllFrom : ℤ → List X → Type 0
  AllFrom s xs = AllByRecursion (λ x. s ≤ℤ score x) xs

  abbrev Climbs : List X → Type 0
  Climbs [] = Unit {0}
  Climbs (x ∷ xs) = AllFrom (score x) xs × Climbs xs

  from_lower : (s t : ℤ) (xs : List X) → s ≤ℤ t → AllFrom t xs → AllFrom s xs
  from_lower s t [] h a = tt
  from_lower s t (x ∷ xs) h a = (omega (arith, ints, h, a.0), from_lower s t xs h a.1)

  sorted_tail : (x : X) (xs : List X) → IsSortedByKey score int_cmp (x ∷ xs) → IsSortedByKey score int_cmp xs
  sorted_tail x xs h = λ k d l b. subst (λ n. is_lt (int_cmp (score (get_or (x ∷ xs) n d)) (score (get_or (x ∷ xs) (suc k) d))) ≡ false) (add-one (k + 1)) (subst (λ n. is_lt (int_cmp (score (get_or (x ∷ xs) ((k + 1) + 1) d)) (score (get_or (x ∷ xs) n d))) ≡ false) (add-one k) (h (k + 1) d (omega arith) (omega (arith, b))))

  climbs : (xs : List X) → IsSortedByKey score int_cmp xs → Climbs xs
  climbs [] h = tt
  climbs (x ∷ []) h = (tt, tt)
  climbs (x ∷ (y ∷ xs)) h =
      let rest = climbs (y ∷ xs) (sorted_tail x (y ∷ xs) h) in
      let first : score x ≤ℤ score y = not_below (score x) (score y) (h 0 x (omega arith) (omega arith)) in
      ((first, from_lower (score x) (score y) xs first rest.0), rest)

  all_append : (P : ℤ → Type 0) (us vs : List ℤ) → AllByRecursion P us → AllByRecursion P vs → AllByRecursion P (us ++ vs)
  all_append P [] vs a b = b
  all_append P (u ∷ us) vs a b = (a.0, all_append P us vs a.1 b)

  module _ (f : X → List ℤ) (each : (x : X) → AllByRecursion (λ u. u ≡ score x) (f x)) where
    from_runs : (s : ℤ) (xs : List X) → AllFrom s xs → AllByRecursion (λ u. s ≤ℤ u) (flat_map f xs)
    from_runs s [] a = tt
    from_runs s (x ∷ xs) a = all_append (λ u. s ≤ℤ u) (f x) (flat_map f xs) (all_imp (λ u e. omega (arith, ints, e, a.0)) (f x) (each x)) (from_runs s xs a.1)

    before : (s : ℤ) (us vs : List ℤ) → AllByRecursion (λ u. u ≡ s) us → AllByRecursion (λ u. s ≤ℤ u) vs → Ascends vs → Ascends (us ++ vs)
    before s [] vs a b c = c
    before s (u ∷ us) vs a b c = (all_append (λ w. u ≤ℤ w) us vs (all_imp (λ w e. omega (arith, ints, e, a.0)) us a.1) (all_imp (λ w h. omega (arith, ints, h, a.0)) vs b), before s us vs a.1 b c)

    runs_ascend : (xs : List X) → Climbs xs → Ascends (flat_map f xs)
    runs_ascend [] c = tt
    runs_ascend (x ∷ xs) c = before (score x) (f x) (flat_map f xs) (each x) (from_runs (score x) xs c.0) (runs_ascend xs c.1)

pub units_ascend : (rows : List Part) → RowsAscend rows → Ascends (row_units rows)
units_ascend rows h = runs_ascend (λ (p : Part). p.score) units_of (λ p. all_replicate (λ u. u ≡ p.score) p.count p.score refl) rows (climbs (λ (p : Part). p.score) rows h)

pub later_units_ascend : (from : ℕ) (columns : List Later) → ColumnsAscend columns → Ascends (later_units from columns)
later_units_ascend from columns h = runs_ascend (λ (c : Later). c.score) (units_from from) each columns (climbs (λ (c : Later). c.score) columns h)
  where
    each : (c : Later) → AllByRecursion (λ u. u ≡ c.score) (units_from from c)
    each c = by (nat_le from c.stage)
      where
        by : (t : Bool) → AllByRecursion (λ u. u ≡ c.score) (cond t (replicate c.count c.score) [])
        by true = all_replicate (λ u. u ≡ c.score) c.count c.score refl
        by false = tt
