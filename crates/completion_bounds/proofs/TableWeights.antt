-- Weights of tables between the products of their columns' least and greatest weights.
use Rattle.std.proofs.Common.{◌≡◌, ℕ, zero, suc, ◌+◌, ◌-◌, ◌*◌, ◌<◌, ◌≤◌, ◌⊎◌, inl, inr, min, List, [], ◌∷◌, length, true, refl, ◌∙◌, ap, sym, subst, arith}
use Rattle.std.specs.List.{sum}
use Rattle.std.specs.Prelude.{nat_le}
use Rattle.std.proofs.Math.Nat.{mul-le-mul_left, mul-le-mul}
use Rattle.std.proofs.lemmas.Bool.{leb-true, le-leb}
use Rattle.std.proofs.lemmas.List.Elements.{All-from_recursion}
use Rattle.weights.specs.Grouped.{fits, minus, tables, table_weight}
use Rattle.weights.specs.Labellings.{number_of_labellings}
use Rattle.weights.specs.Numbers.{binomial}
use Rattle.weights.proofs.ChoiceLists.{IsChoice}
use Rattle.weights.proofs.Filters.{all_weaker}
use Rattle.weights.proofs.FirstLabel.{number_of_labellings-positive}
use Rattle.weights.proofs.Sized.{first_and}
use Rattle.weights.proofs.Tables.{IsTable, tables-each}
use Rattle.completion_bounds.specs.Fillings.{falling, filled_in_turn, least_weight, greatest_weight, product_by, least_bound, greatest_bound, LiesBetween, HoldsWeights}
use Rattle.completion_bounds.proofs.Factorials.{factorials, total, total-is, no_labellings, labellings-first, IsWithin, weight-falls, weight-most, filled_in_turn-most, total-filled_in_turn, within-total}
use Rattle.completion_bounds.proofs.FallingSizes.{sorted, Falls-falling, falling-twice, total-falling}

-- filling the roomiest row first weighs least
pub least_weight-le : (ms xs : List ℕ) → IsWithin xs ms → number_of_labellings (filled_in_turn (total xs) (falling ms)) ≤ number_of_labellings xs
least_weight-le ms xs w =
    let s = sorted ms xs w in
    let most : factorials xs ≤ factorials (filled_in_turn (total s.cells) (falling ms)) = subst (λ n. n ≤ factorials (filled_in_turn (total s.cells) (falling ms))) s.product (filled_in_turn-most s.cells (falling ms) (Falls-falling ms) s.within) in
    let same : total xs ≡ total (filled_in_turn (total s.cells) (falling ms)) = omega (arith, s.sum, total-filled_in_turn (total s.cells) (falling ms), within-total s.cells (falling ms) s.within) in
    subst (λ n. number_of_labellings (filled_in_turn n (falling ms)) ≤ number_of_labellings xs) s.sum (weight-falls xs (filled_in_turn (total s.cells) (falling ms)) same most)

pub within-trans : (xs ms ns : List ℕ) → IsWithin xs ms → IsWithin ms ns → IsWithin xs ns
within-trans [] [] [] w v = tt
within-trans [] [] (n ∷ ns) w v = absurd v
within-trans [] (m ∷ ms) ns w v = absurd w
within-trans (x ∷ xs) [] ns w v = absurd w
within-trans (x ∷ xs) (m ∷ ms) [] w v = absurd v
within-trans (x ∷ xs) (m ∷ ms) (n ∷ ns) w v = (omega (arith, w.0, v.0), within-trans xs ms ns w.1 v.1)

pub left-within : (ms xs : List ℕ) → IsWithin xs ms → IsWithin (minus ms xs) ms
left-within [] [] w = tt
left-within [] (x ∷ xs) w = absurd w
left-within (m ∷ ms) [] w = absurd w
left-within (m ∷ ms) (x ∷ xs) w = (omega arith, left-within ms xs w.1)

pub within-length : (xs ms : List ℕ) → IsWithin xs ms → length xs ≡ length ms
within-length [] [] w = refl
within-length [] (m ∷ ms) w = absurd w
within-length (x ∷ xs) [] w = absurd w
within-length (x ∷ xs) (m ∷ ms) w = omega (arith, within-length xs ms w.1)

pub left-total : (ms xs : List ℕ) → IsWithin xs ms → total (minus ms xs) + total xs ≡ total ms
left-total [] [] w = omega arith
left-total [] (x ∷ xs) w = absurd w
left-total (m ∷ ms) [] w = absurd w
left-total (m ∷ ms) (x ∷ xs) w = omega (arith, left-total ms xs w.1, w.0)

pub fits-within : (xs ms : List ℕ) → fits xs ms ≡ true → IsWithin xs ms
fits-within [] [] e = tt
fits-within [] (m ∷ ms) e = absurd (cc e)
fits-within (x ∷ xs) [] e = absurd (cc e)
fits-within (x ∷ xs) (m ∷ ms) e = let both = first_and (nat_le x m) (fits xs ms) e in (leb-true x m both.0, fits-within xs ms both.1)

pub within-fits : (xs ms : List ℕ) → IsWithin xs ms → fits xs ms ≡ true
within-fits [] [] w = refl
within-fits [] (m ∷ ms) w = absurd w
within-fits (x ∷ xs) [] w = absurd w
within-fits (x ∷ xs) (m ∷ ms) w = rw (le-leb x m w.0, within-fits xs ms w.1) refl

-- the parts of a table
pub within : (c : ℕ) (ms xs : List ℕ) → IsChoice c ms xs → IsWithin xs ms
within c ms xs o = fits-within xs ms o.fitting

pub filled : (c : ℕ) (ms xs : List ℕ) → IsChoice c ms xs → total xs ≡ c
filled c ms xs o = total-is xs ∙ o.whole

pub table-least : (all ms cs : List ℕ) (table : List (List ℕ)) → IsWithin ms all → IsTable cs ms table → product_by (least_weight all) cs ≤ table_weight table
table-least all ms [] [] w t = omega arith
table-least all ms [] (xs ∷ table) w t = absurd t
table-least all ms (c ∷ cs) [] w t = absurd t
table-least all ms (c ∷ cs) (xs ∷ table) w t =
    let inside = within c ms xs t.0 in
    subst (λ n. least_weight all n * product_by (least_weight all) cs ≤ number_of_labellings xs * table_weight table) (filled c ms xs t.0)
    (mul-le-mul (least_weight-le all xs (within-trans xs ms all inside w)) (table-least all (minus ms xs) cs table (within-trans (minus ms xs) ms all (left-within ms xs inside) w) t.1))

pub table-greatest : (ms cs : List ℕ) (table : List (List ℕ)) → 0 < length ms → IsTable cs ms table → table_weight table ≤ product_by (greatest_weight (length ms)) cs
table-greatest ms [] [] h t = omega arith
table-greatest ms [] (xs ∷ table) h t = absurd t
table-greatest ms (c ∷ cs) [] h t = absurd t
table-greatest ms (c ∷ cs) (xs ∷ table) h t =
    let inside = within c ms xs t.0 in
    let long : length (minus ms xs) ≡ length ms = within-length (minus ms xs) ms (left-within ms xs inside) in
    let rest : table_weight table ≤ product_by (greatest_weight (length ms)) cs = subst (λ n. table_weight table ≤ product_by (greatest_weight n) cs) long (table-greatest (minus ms xs) cs table (omega (arith, long, h)) t.1) in
    let wide : length xs ≡ length ms = within-length xs ms inside in
    let here : number_of_labellings xs ≤ greatest_weight (length ms) c = subst (λ n. number_of_labellings xs ≤ greatest_weight (length ms) n) (filled c ms xs t.0) (subst (λ n. number_of_labellings xs ≤ greatest_weight n (total xs)) wide (weight-most xs (omega (arith, wide, h)))) in
    mul-le-mul here rest

-- two choices made at once
binomial-wider : (n m b : ℕ) → binomial m b ≤ binomial (n + m) b
unfolding binomial
binomial-wider zero m b = rw (none m) (omega arith)
  where
    none : (m : ℕ) → zero + m ≡ m
    none m = omega arith
binomial-wider (suc n) m b = rw (pulled n m) (one (n + m) b (binomial-wider n m b))
  where
    pulled : (n m : ℕ) → suc n + m ≡ suc (n + m)
    pulled n m = omega arith

    one : (k b : ℕ) → binomial m b ≤ binomial k b → binomial m b ≤ binomial (suc k) b
    one k zero h = omega arith
    one k (suc b) h = omega (arith, h)

binomial-both : (n a m b : ℕ) → binomial n a * binomial m b ≤ binomial (n + m) (a + b)
unfolding binomial
binomial-both n zero m b = rw (none b) (omega (arith, binomial-wider n m b))
  where
    none : (m : ℕ) → zero + m ≡ m
    none m = omega arith
binomial-both zero (suc a) m b = omega arith
binomial-both (suc n) (suc a) m b =
    rw (pulled n m, pulled a b) (joined (binomial n a) (binomial n (suc a)) (binomial m b) (binomial (n + m) (a + b)) (binomial (n + m) (suc (a + b))) (binomial-both n a m b) (subst (λ k. binomial n (suc a) * binomial m b ≤ binomial (n + m) k) (pulled a b) (binomial-both n (suc a) m b)))
  where
    pulled : (n m : ℕ) → suc n + m ≡ suc (n + m)
    pulled n m = omega arith

    joined : (p q r s t : ℕ) → p * r ≤ s → q * r ≤ t → (p + q) * r ≤ s + t
    joined p q r s t h j = let one : (p + q) * r ≡ p * r + q * r = grind arith in omega (arith, one, h, j)

-- the labellings of some cells and of what they leave are among those of all
pub labellings-parts : (ms xs : List ℕ) → IsWithin xs ms → number_of_labellings xs * number_of_labellings (minus ms xs) ≤ number_of_labellings ms
labellings-parts [] [] w = rw no_labellings (omega arith)
labellings-parts [] (x ∷ xs) w = absurd w
labellings-parts (m ∷ ms) [] w = absurd w
labellings-parts (m ∷ ms) (x ∷ xs) w =
    let rest = minus ms xs in
    let wide : (x + total xs) + ((m - x) + total rest) ≡ m + total ms = omega (arith, left-total ms xs w.1, w.0) in
    let chosen : x + (m - x) ≡ m = omega (arith, w.0) in
    let both : binomial (x + total xs) x * binomial ((m - x) + total rest) (m - x) ≤ binomial (m + total ms) m = rw (wide, chosen) at (binomial-both (x + total xs) x ((m - x) + total rest) (m - x)) in
    regroup _ _ _ (binomial (x + total xs) x) (number_of_labellings xs) (binomial ((m - x) + total rest) (m - x)) (number_of_labellings rest) (binomial (m + total ms) m) (number_of_labellings ms) (labellings-first x xs) (labellings-first (m - x) rest) (labellings-first m ms) both (labellings-parts ms xs w.1)
  where
    regroup : (u v t b f c g d h : ℕ) → u ≡ b * f → v ≡ c * g → t ≡ d * h → b * c ≤ d → f * g ≤ h → u * v ≤ t
    regroup u v t b f c g d h p q r j k =
        let one : (b * c) * (f * g) ≤ d * h = mul-le-mul j k in
        let two : (b * f) * (c * g) ≡ (b * c) * (f * g) = grind arith in
        rw (p, q, r, two) one

-- no table weighs more than all labellings
pub table-all : (ms cs : List ℕ) (table : List (List ℕ)) → IsTable cs ms table → table_weight table ≤ number_of_labellings ms
table-all ms [] [] t = number_of_labellings-positive ms
table-all ms [] (xs ∷ table) t = absurd t
table-all ms (c ∷ cs) [] t = absurd t
table-all ms (c ∷ cs) (xs ∷ table) t =
    let rest : number_of_labellings xs * table_weight table ≤ number_of_labellings xs * number_of_labellings (minus ms xs) = mul-le-mul_left (number_of_labellings xs) (table-all (minus ms xs) cs table t.1) in
    omega (arith, rest, labellings-parts ms xs (within c ms xs t.0))

-- there is a table with these margins, so the least weights do not pass all labellings
pub filled_in_turn-within : (c : ℕ) (ms : List ℕ) → IsWithin (filled_in_turn c ms) ms
filled_in_turn-within c [] = tt
filled_in_turn-within c (m ∷ ms) = (omega arith, filled_in_turn-within (c - min m c) ms)

some_table : (ms cs : List ℕ) → total ms ≡ total cs → (table : List (List ℕ)) × IsTable cs ms table
some_table ms [] e = ([], tt)
some_table ms (c ∷ cs) e =
    let xs = filled_in_turn c ms in
    let here : total xs ≡ c = omega (arith, e, total-filled_in_turn c ms) in
    let inside = filled_in_turn-within c ms in
    let rest = some_table (minus ms xs) cs (omega (arith, e, here, left-total ms xs inside)) in
    let choice : IsChoice c ms xs = record { long = within-length xs ms inside; whole = sym (total-is xs) ∙ here; fitting = within-fits xs ms inside } in
    (xs ∷ rest.0, (choice, rest.1))

pub within-refl : (ms : List ℕ) → IsWithin ms ms
within-refl [] = tt
within-refl (m ∷ ms) = (omega arith, within-refl ms)

pub least-all : (ms cs : List ℕ) → total ms ≡ total cs → product_by (least_weight ms) cs ≤ number_of_labellings ms
least-all ms cs e =
    let t = some_table ms cs e in
    omega (arith, table-least ms ms cs t.0 (within-refl ms) t.1, table-all ms cs t.0 t.1)

-- where there are no rows, the columns are empty and each weight is 1
no_rows-least : (cs : List ℕ) → product_by (least_weight []) cs ≡ 1
no_rows-least [] = refl
no_rows-least (c ∷ cs) = rw (no_labellings, no_rows-least cs) refl

no_rows-greatest : (cs : List ℕ) → total cs ≡ 0 → product_by (greatest_weight 0) cs ≡ 1
no_rows-greatest [] e = refl
no_rows-greatest (zero ∷ cs) e = rw (no_labellings, no_rows-greatest cs (omega (arith, e))) refl
no_rows-greatest (suc c ∷ cs) e = absurd (omega (arith, e))

table-most : (ms cs : List ℕ) (table : List (List ℕ)) → total ms ≡ total cs → IsTable cs ms table → table_weight table ≤ min (number_of_labellings ms) (product_by (greatest_weight (length ms)) cs)
table-most [] cs table e t = omega (arith, table-all [] cs table t, no_labellings, no_rows-greatest cs (sym e))
table-most (m ∷ ms) cs table e t = omega (arith, table-all (m ∷ ms) cs table t, table-greatest (m ∷ ms) cs table (omega arith) t)

-- each table's weight, times the past, lies between
pub holds : (past : ℕ) (ms cs : List ℕ) (least greatest : ℕ) → sum ms ≡ sum cs → least ≡ least_bound past ms cs → greatest ≡ greatest_bound past ms cs → HoldsWeights past ms cs least greatest
holds past ms cs least greatest e l g = All-from_recursion (LiesBetween past least greatest) (tables cs ms) (all_weaker (IsTable cs ms) (LiesBetween past least greatest) each (tables cs ms) (tables-each cs ms))
  where
    each : (table : List (List ℕ)) → IsTable cs ms table → LiesBetween past least greatest table
    each table t =
        let level : total ms ≡ total cs = total-is ms ∙ e ∙ sym (total-is cs) in
        (rw l (mul-le-mul_left past (table-least ms ms cs table (within-refl ms) t)), rw g (mul-le-mul_left past (table-most ms cs table level t)))

-- nothing past, or no rows
empty : (ms : List ℕ) → length ms ≡ 0 → ms ≡ []
empty [] e = refl
empty (m ∷ ms) e = absurd (omega (arith, e))

pub plain-least : (past : ℕ) (ms cs : List ℕ) → (past ≡ 0) ⊎ (length ms ≡ 0) → past ≡ least_bound past ms cs
plain-least past ms cs (inl e) = rw e (omega arith)
plain-least past ms cs (inr e) = rw (empty ms e, no_rows-least cs) (omega arith)

pub plain-greatest : (past : ℕ) (ms cs : List ℕ) → sum ms ≡ sum cs → (past ≡ 0) ⊎ (length ms ≡ 0) → past ≡ greatest_bound past ms cs
plain-greatest past ms cs level (inl e) = rw e (omega arith)
plain-greatest past ms cs level (inr e) =
    let none = empty ms e in
    let zeros : total cs ≡ 0 = total-is cs ∙ sym level ∙ ap sum none in
    rw (none, no_labellings, no_rows-greatest cs zeros) (omega arith)

-- sizes in their order have the same least weights
product_by-same : (f g : ℕ → ℕ) → ((c : ℕ) → f c ≡ g c) → (cs : List ℕ) → product_by f cs ≡ product_by g cs
product_by-same f g e [] = refl
product_by-same f g e (c ∷ cs) = rw (e c, product_by-same f g e cs) refl

pub least-found : (ms cs sizes : List ℕ) (all found : ℕ) → sum ms ≡ sum cs → all ≡ number_of_labellings ms → sizes ≡ falling ms → found ≡ min (product_by (least_weight sizes) cs) all → found ≡ product_by (least_weight ms) cs
least-found ms cs sizes all found e a s f =
    let same : product_by (least_weight sizes) cs ≡ product_by (least_weight ms) cs = product_by-same (least_weight sizes) (least_weight ms) (λ c. ap (λ rows. number_of_labellings (filled_in_turn c rows)) (ap falling s ∙ falling-twice ms)) cs in
    omega (arith, f, same, a, least-all ms cs (total-is ms ∙ e ∙ sym (total-is cs)))

pub greatest-found : (ms cs : List ℕ) (all found : ℕ) → all ≡ number_of_labellings ms → found ≡ min (product_by (greatest_weight (length ms)) cs) all → found ≡ min (number_of_labellings ms) (product_by (greatest_weight (length ms)) cs)
greatest-found ms cs all found a f = omega (arith, f, a)

pub sum-falling : (ms : List ℕ) → sum (falling ms) ≡ sum ms
sum-falling ms = sym (total-is (falling ms)) ∙ total-falling ms ∙ total-is ms
