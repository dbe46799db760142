-- The distribution of a test is the one list of lines with its sums.
use Rattle.std.proofs.Common.{◌≡◌, ℕ, ◌+◌, ◌≤◌, List, [], ◌∷◌, map, filter, Bool, true, false, cond, ◌⊎◌, inl, inr, refl, sym, ◌∙◌, ap, subst, arith}
use Rattle.std.specs.Prelude.{ℤ, ◌<ℤ◌, ◌≤ℤ◌, int_lt, if◌then◌else◌}
use Rattle.std.specs.List.{sum_by, AllByRecursion}
use Rattle.std.specs.Ordering.{int_eq}
use Rattle.std.proofs.lemmas.Int.{ints}
use Rattle.std.proofs.lemmas.Bool.Decides.{Decides-int_eq}
use Rattle.std.proofs.lemmas.List.Sums.{sum_by-cons}
use Rattle.weights.specs.declared.lines.Line.{Line}
use Rattle.weights.specs.Conditional.{ConditionalTest, insert_value, ascending_values, value_weight, distribution}
use Rattle.weights.proofs.Filters.{all_weaker, all_map}
use Rattle.weights.proofs.Sums.{sum_by-same, sum_by-zero, sum_by-plus, sum_by-map}
use Rattle.networks.specs.Lines.{IsAscending, IsSpreadOf}
use Rattle.networks.specs.Follows.{statistic_sums}
use Rattle.networks.proofs.LineSums.{lines-same, equal, same-eq, unequal, less-known, not_less-known, compared, cond-plus}

-- the distribution of a test is such a list

IsAscendingValues : List ℤ → Type 0
IsAscendingValues [] = Unit {0}
IsAscendingValues (v ∷ vs) = AllByRecursion (λ u. v <ℤ u) vs × IsAscendingValues vs

insert-above : (x v : ℤ) (vs : List ℤ) → x <ℤ v → AllByRecursion (λ u. x <ℤ u) vs → AllByRecursion (λ u. x <ℤ u) (insert_value v vs)
insert-above x v [] h a = (h, tt)
insert-above x v (u ∷ vs) h a = by (int_lt v u) (int_eq v u) (insert-above x v vs h a.1)
  where
    by : (b c : Bool) → AllByRecursion (λ u. x <ℤ u) (insert_value v vs) → AllByRecursion (λ u. x <ℤ u) (if b then v ∷ u ∷ vs else (if c then u ∷ vs else u ∷ insert_value v vs))
    by true c rest = (h, a)
    by false true rest = a
    by false false rest = (a.0, rest)

values-above-more : (x y : ℤ) (vs : List ℤ) → x <ℤ y → AllByRecursion (λ u. y <ℤ u) vs → AllByRecursion (λ u. x <ℤ u) vs
values-above-more x y [] h a = tt
values-above-more x y (u ∷ vs) h a = (omega (arith, ints, h, a.0), values-above-more x y vs h a.1)

insert-ascending : (v : ℤ) (vs : List ℤ) → IsAscendingValues vs → IsAscendingValues (insert_value v vs)
unfolding IsAscendingValues
insert-ascending v [] a = (tt, tt)
insert-ascending v (u ∷ vs) a = by (int_lt v u) (int_eq v u) refl refl (insert-ascending v vs a.1)
  where
    strictly : u ≤ℤ v → (v ≡ u → ⊥) → u <ℤ v
    strictly le ne = elim (compared u v) [
      | inl h ↦ h
      | inr other ↦ elim other [ inl h ↦ absurd (ne (sym h)) | inr h ↦ absurd (omega (arith, ints, le, h)) ]
    ]

    by : (b c : Bool) → int_lt v u ≡ b → int_eq v u ≡ c → IsAscendingValues (insert_value v vs) → IsAscendingValues (if b then v ∷ u ∷ vs else (if c then u ∷ vs else u ∷ insert_value v vs))
    by true c lt e rest = ((less-known v u lt, values-above-more v u vs (less-known v u lt) a.0), a)
    by false true lt e rest = a
    by false false lt e rest = (insert-above u v vs (strictly (not_less-known v u lt) (λ same. (let yes : int_eq v u ≡ true = (Decides-int_eq v u).1 same in cc))) a.0, rest)

values-ascending : (vs : List ℤ) → IsAscendingValues (ascending_values vs)
unfolding IsAscendingValues
values-ascending [] = tt
values-ascending (v ∷ vs) = insert-ascending v (ascending_values vs) (values-ascending vs)

-- a value is taken once from strictly ascending ones
chosen : (x : ℤ) (f : ℤ → ℕ) (vs : List ℤ) → ℕ
chosen x f vs = sum_by (λ v. cond (int_eq x v) (f v) 0) vs

chosen-none : (x : ℤ) (f : ℤ → ℕ) (vs : List ℤ) → AllByRecursion (λ u. x <ℤ u) vs → chosen x f vs ≡ 0
unfolding chosen
chosen-none x f [] a = refl
chosen-none x f (v ∷ vs) a = sum_by-cons (λ v. cond (int_eq x v) (f v) 0) v vs ∙ rw (unequal x v (λ e. absurd (omega (arith, ints, a.0, e)))) (omega (arith, chosen-none x f vs a.1))

-- inserting a value adds its term, unless it is there
HasValue : ℤ → List ℤ → Type 0
HasValue x [] = ⊥
HasValue x (v ∷ vs) = (x ≡ v) ⊎ HasValue x vs

later : (v x : ℤ) (us : List ℤ) → AllByRecursion (λ u. v <ℤ u) us → HasValue x us → v <ℤ x
unfolding HasValue
later v x [] b h = absurd h
later v x (u ∷ us) b (inl e) = rw e b.0
later v x (u ∷ us) b (inr h) = later v x us b.1 h

chosen-once : (x : ℤ) (f : ℤ → ℕ) (vs : List ℤ) → IsAscendingValues vs → HasValue x vs → chosen x f vs ≡ f x
unfolding chosen IsAscendingValues HasValue
chosen-once x f [] a h = absurd h
chosen-once x f (v ∷ vs) a (inl e) =
    sum_by-cons (λ v. cond (int_eq x v) (f v) 0) v vs ∙ rw ((Decides-int_eq x v).1 e) (omega (arith, chosen-none x f vs (subst (λ y. AllByRecursion (λ u. y <ℤ u) vs) (sym e) a.0), ap f e))
chosen-once x f (v ∷ vs) a (inr h) = sum_by-cons (λ v. cond (int_eq x v) (f v) 0) v vs ∙ rw (unequal x v (λ e. absurd (omega (arith, ints, later v x vs a.0 h, e)))) (omega (arith, chosen-once x f vs a.1 h))

insert-has : (x v : ℤ) (vs : List ℤ) → (x ≡ v) ⊎ HasValue x vs → HasValue x (insert_value v vs)
unfolding HasValue
insert-has x v [] h = h
insert-has x v (u ∷ vs) h = by (int_lt v u) (int_eq v u) refl (insert-has x v vs) h
  where
    by : (b c : Bool) → int_eq v u ≡ c → ((x ≡ v) ⊎ HasValue x vs → HasValue x (insert_value v vs)) → (x ≡ v) ⊎ HasValue x (u ∷ vs) → HasValue x (if b then v ∷ u ∷ vs else (if c then u ∷ vs else u ∷ insert_value v vs))
    by true c e rest h = h
    by false true e rest (inl same) = inl (same ∙ equal v u e)
    by false true e rest (inr h) = h
    by false false e rest (inl same) = inr (rest (inl same))
    by false false e rest (inr (inl same)) = inl same
    by false false e rest (inr (inr h)) = inr (rest (inr h))

values-have : (x : ℤ) (vs : List ℤ) → HasValue x vs → HasValue x (ascending_values vs)
unfolding HasValue
values-have x [] h = h
values-have x (v ∷ vs) (inl e) = insert-has x v (ascending_values vs) (inl e)
values-have x (v ∷ vs) (inr h) = insert-has x v (ascending_values vs) (inr (values-have x vs h))

pub insert-each : (P : ℤ → Type 0) (v : ℤ) (vs : List ℤ) → P v → AllByRecursion P vs → AllByRecursion P (insert_value v vs)
insert-each P v [] h a = (h, tt)
insert-each P v (u ∷ vs) h a = by (int_lt v u) (int_eq v u) (insert-each P v vs h a.1)
  where
    by : (b c : Bool) → AllByRecursion P (insert_value v vs) → AllByRecursion P (if b then v ∷ u ∷ vs else (if c then u ∷ vs else u ∷ insert_value v vs))
    by true c rest = (h, a)
    by false true rest = a
    by false false rest = (a.0, rest)

pub values-each : (P : ℤ → Type 0) (vs : List ℤ) → AllByRecursion P vs → AllByRecursion P (ascending_values vs)
values-each P [] a = tt
values-each P (v ∷ vs) a = insert-each P v (ascending_values vs) a.0 (values-each P vs a.1)

pub cond-same : (b : Bool) (x : ℕ) → cond b x x ≡ x
cond-same true x = refl
cond-same false x = refl

pub filter-cons : {X : Type 0} (w : X → ℕ) (p : X → Bool) (x : X) (xs : List X) → sum_by w (filter p (x ∷ xs)) ≡ cond (p x) (w x) 0 + sum_by w (filter p xs)
filter-cons w p x xs = by (p x)
  where
    by : (b : Bool) → sum_by w (cond b (x ∷ filter p xs) (filter p xs)) ≡ cond b (w x) 0 + sum_by w (filter p xs)
    by true = sum_by-cons w x (filter p xs)
    by false = omega arith

module _ {X : Type 0} (st : X → ℤ) (w : X → ℕ) where
  -- the weight of the elements with a value
  at_value : ℤ → List X → ℕ
  at_value v rs = sum_by w (filter (λ r. int_eq (st r) v) rs)

  own-weight : (rs : List X) → AllByRecursion (λ r. 1 ≤ w r) rs → AllByRecursion (λ r. 1 ≤ at_value (st r) rs) rs
  unfolding at_value
  own-weight [] a = tt
  own-weight (r ∷ rs) a = (
    omega (arith, filter-cons w (λ s. int_eq (st s) (st r)) r rs, ap (λ b. cond b (w r) 0) (same-eq (st r)), a.0),
    all_weaker (λ s. 1 ≤ at_value (st s) rs) (λ s. 1 ≤ at_value (st s) (r ∷ rs)) (λ s h. omega (arith, filter-cons w (λ t. int_eq (st t) (st s)) r rs, h)) rs (own-weight rs a.1),
  )

  values-sum : (p : ℤ → Bool) (ws : List ℤ) → IsAscendingValues ws → (rs : List X) → AllByRecursion (λ r. HasValue (st r) ws) rs → sum_by (λ v. cond (p v) (at_value v rs) 0) ws ≡ sum_by w (filter (λ r. p (st r)) rs)
  unfolding at_value chosen
  values-sum p ws a [] h = sum_by-same (λ v. cond (p v) 0 0) (λ v. 0) (λ v. cond-same (p v) 0) ws ∙ sum_by-zero ws
  values-sum p ws a (r ∷ rs) h =
      sum_by-same (λ v. cond (p v) (at_value v (r ∷ rs)) 0) (λ v. cond (int_eq (st r) v) (cond (p v) (w r) 0) 0 + cond (p v) (at_value v rs) 0)
      (λ v. ap (λ x. cond (p v) x 0) (filter-cons w (λ s. int_eq (st s) v) r rs) ∙ cond-plus (p v) (cond (int_eq (st r) v) (w r) 0) (at_value v rs) ∙ ap (λ x. x + cond (p v) (at_value v rs) 0) (turned (p v) (int_eq (st r) v) (w r))) ws
      ∙ sum_by-plus (λ v. cond (int_eq (st r) v) (cond (p v) (w r) 0) 0) (λ v. cond (p v) (at_value v rs) 0) ws
      ∙ (let one : chosen (st r) (λ v. cond (p v) (w r) 0) ws ≡ cond (p (st r)) (w r) 0 = chosen-once (st r) (λ v. cond (p v) (w r) 0) ws a h.0 in
      omega (arith, one, values-sum p ws a rs h.1, filter-cons w (λ s. p (st s)) r rs))
    where
      turned : (b c : Bool) (x : ℕ) → cond b (cond c x 0) 0 ≡ cond c (cond b x 0) 0
      turned true c x = refl
      turned false true x = refl
      turned false false x = refl

  each-has : (rs : List X) → AllByRecursion (λ r. HasValue (st r) (map st rs)) rs
  unfolding HasValue
  each-has [] = tt
  each-has (r ∷ rs) = (inl refl, all_weaker (λ s. HasValue (st s) (map st rs)) (λ s. HasValue (st s) (map st (r ∷ rs))) (λ s h. inr h) rs (each-has rs))

lines-ascending : (f : ℤ → ℕ) (vs : List ℤ) → IsAscendingValues vs → IsAscending (map (λ v. record { value = v; weight = f v }) vs)
unfolding IsAscendingValues
lines-ascending f [] a = tt
lines-ascending f (v ∷ vs) a = (all_map (λ (m : Line). v <ℤ m.value) (λ v. record { value = v; weight = f v }) vs a.0, lines-ascending f vs a.1)

pub distribution-is : (test : ConditionalTest) → AllByRecursion (λ r. 1 ≤ test.weight r) test.reference → IsSpreadOf (statistic_sums test) (distribution test)
unfolding at_value
distribution-is test weighty =
    let values = map test.statistic test.reference in
    let ws = ascending_values values in
    record {
      ascending = lines-ascending (λ v. at_value test.statistic test.weight v test.reference) ws (values-ascending values);
      positive = all_map (λ (l : Line). 1 ≤ l.weight) (value_weight test) ws
          (values-each (λ v. 1 ≤ at_value test.statistic test.weight v test.reference) values
          (all_map (λ v. 1 ≤ at_value test.statistic test.weight v test.reference) test.statistic test.reference (own-weight test.statistic test.weight test.reference weighty)));
      told = λ p. sum_by-map (λ (l : Line). cond (p l.value) l.weight 0) (value_weight test) ws
          ∙ values-sum test.statistic test.weight p ws (values-ascending values) test.reference
          (all_weaker (λ r. HasValue (test.statistic r) values) (λ r. HasValue (test.statistic r) ws) (λ r h. values-have (test.statistic r) values h) test.reference (each-has test.statistic test.weight test.reference));
    }

-- lines with the sums of a test's statistics are its distribution
pub spread-is : (test : ConditionalTest) (lines : List Line) → AllByRecursion (λ r. 1 ≤ test.weight r) test.reference → IsSpreadOf (statistic_sums test) lines → lines ≡ distribution test
spread-is test lines weighty s =
    let d : IsSpreadOf (statistic_sums test) (distribution test) = distribution-is test weighty in
    lines-same lines (distribution test) s.ascending d.ascending s.positive d.positive (λ p. s.told p ∙ sym (d.told p))
