-- Sums over the choices of a column are sums over the gathered ones, each for all that are gathered into it.
use Rattle.std.proofs.Common.{◌≡◌, ℕ, zero, suc, ◌+◌, ◌*◌, ◌≤◌, List, [], ◌∷◌, length, Bool, true, false, cond, ◌&&◌, refl, sym, ◌∙◌, ap, arith, nat_eq, nat_le, eq-eqb}
use Rattle.std.specs.List.{count_by, filter, sum, sum_by, Contains}
use Rattle.std.specs.Cmp.Lexicographic.{pointwise, same_text}
use Rattle.std.proofs.lemmas.List.Sums.{sum_by-cons}
use Rattle.weights.specs.Grouped.{choices, fits, minus}
use Rattle.weights.specs.Labellings.{number_of_labellings}
use Rattle.weights.proofs.ChoiceLists.{IsChoice, choices-each}
use Rattle.weights.proofs.Chosen.{chosen_once, one_if}
use Rattle.weights.proofs.OneOrder.{IsOrder, order-once, ordered-in_order, sum_by-in_order}
use Rattle.weights.proofs.Members.{Contains-here, Contains-later, same_refl}
use Rattle.weights.proofs.Sums.{sum_by-cond, sum_by-filter, sum_by-same, sum_by-same_where, sum_by-scaled, sum_by-swap, sum_by-times}
use Rattle.weights.proofs.Filters.{all_filter}
use Rattle.completion_bounds.specs.Fillings.{falling, is_at_least}
use Rattle.sorted_tables.specs.GatheredChoices.{gathered, gathered_weight, is_gathered, is_gathered_into}
use Rattle.sorted_tables.proofs.GatheredForms.{even-counts, even-gathered, gathered-twice, length-gathered}
use Rattle.sorted_tables.proofs.GatheredClasses.{number_gathered}
use Rattle.label_network.proofs.ChoiceSwaps.{labellings-swap, minus-swap}
use Rattle.networks.proofs.Swaps.{sum_by-swap_at, swap_at}

-- the gathered form of a choice is a choice

four-turned : (s t u : Bool) → (s && (t && u)) ≡ (t && (s && u))
four-turned true t u = refl
four-turned false true u = refl
four-turned false false u = refl

fits-swap : (i : ℕ) (r x : List ℕ) → length x ≡ length r → fits (swap_at i x) (swap_at i r) ≡ fits x r
fits-swap i [] [] l = refl
fits-swap i [] (a ∷ x) l = absurd (omega (arith, l))
fits-swap i (q ∷ rs) [] l = absurd (omega (arith, l))
fits-swap zero (q ∷ []) (a ∷ []) l = refl
fits-swap zero (q ∷ []) (a ∷ b ∷ x) l = absurd (omega (arith, l))
fits-swap zero (q ∷ s ∷ rs) (a ∷ []) l = absurd (omega (arith, l))
fits-swap zero (q ∷ s ∷ rs) (a ∷ b ∷ x) l = four-turned (nat_le b s) (nat_le a q) (fits x rs)
fits-swap (suc i) (q ∷ rs) (a ∷ x) l = ap (λ t. nat_le a q && t) (fits-swap i rs x (omega (arith, l)))

pub gathered-choice : (c : ℕ) (r x : List ℕ) → IsChoice c r x → IsChoice c r (gathered r x)
gathered-choice c r x o = record {
  long = length-gathered r x ∙ o.long;
  whole = even-counts sum (sum_by-swap_at (λ v. v)) r x ∙ o.whole;
  fitting = even-gathered (λ r x. fits x r) fits-swap r x o.long ∙ o.fitting;
}

pub labellings-gathered : (r x : List ℕ) → number_of_labellings (gathered r x) ≡ number_of_labellings x
labellings-gathered r x = even-counts number_of_labellings labellings-swap r x

-- and it stands for all that are gathered into it
pub into-gathered : (r x : List ℕ) → length x ≡ length r → is_gathered r (gathered r x) ≡ true
into-gathered r x l = ap (λ y. pointwise nat_eq y (gathered r x)) (gathered-twice r x l) ∙ same_refl (gathered r x)

-- each choice stands once in the list of all

pub once : (c : ℕ) (r x : List ℕ) → IsChoice c r x → count_by (pointwise nat_eq x) (choices c r) ≡ 1
once c r x o = chosen_once c r x o.long ∙ rw (eq-eqb c (sum x) (sym o.whole), o.fitting) refl

told-member : (x : List ℕ) (xs : List (List ℕ)) → 1 ≤ count_by (pointwise nat_eq x) xs → Contains xs x
told-member x [] h = absurd (omega (arith, h))
told-member x (y ∷ xs) h = by (pointwise nat_eq x y) refl (omega (arith, h, sum_by-cons (λ w. one_if (pointwise nat_eq x w)) y xs)) (told-member x xs)
  where
    by : (b : Bool) → pointwise nat_eq x y ≡ b → 1 ≤ one_if b + count_by (pointwise nat_eq x) xs → (1 ≤ count_by (pointwise nat_eq x) xs → Contains xs x) → Contains (y ∷ xs) x
    by true e h rest = Contains-here y x xs (sym (same_text x y (sym e)))
    by false e h rest = Contains-later y x xs (rest (omega (arith, h)))

pub choice-among : (c : ℕ) (r x : List ℕ) → IsChoice c r x → Contains (choices c r) x
choice-among c r x o = told-member x (choices c r) (omega (arith, once c r x o))

-- sums by what is gathered

module _ (c : ℕ) (r : List ℕ) (weight g : List ℕ → ℕ) where
  abbrev gathered_into : List ℕ → ℕ
  gathered_into y = sum_by weight (filter (is_gathered_into r y) (choices c r))

  -- a choice counts where it is gathered
  only-there : (x : List ℕ) → IsChoice c r x → sum_by (λ y. cond (is_gathered r y) (cond (is_gathered_into r y x) (weight x) 0 * g y) 0) (choices c r) ≡ weight x * g (gathered r x)
  only-there x o =
      let y : List ℕ = gathered r x in
      sum_by-same _ (λ z. (weight x * g y) * one_if (pointwise nat_eq y z)) (λ z. by z (pointwise nat_eq y z) refl) (choices c r)
      ∙ sum_by-scaled (weight x * g y) (λ z. one_if (pointwise nat_eq y z)) (choices c r)
      ∙ ap (λ n. (weight x * g y) * n) (once c r y (gathered-choice c r x o))
      ∙ (let same : (weight x * g y) * 1 ≡ weight x * g y = omega arith in same)
    where
      by : (z : List ℕ) (t : Bool) → pointwise nat_eq (gathered r x) z ≡ t → cond (is_gathered r z) (cond t (weight x) 0 * g z) 0 ≡ (weight x * g (gathered r x)) * one_if t
      by z true e =
          let same : gathered r x ≡ z = same_text (gathered r x) z (sym e) in
          let kept : is_gathered r z ≡ true = ap (λ u. is_gathered r u) (sym same) ∙ into-gathered r x o.long in
          rw kept (ap (λ u. weight x * g u) (sym same) ∙ (let one : weight x * g (gathered r x) ≡ (weight x * g (gathered r x)) * 1 = omega arith in one))
      by z false e = none (is_gathered r z) ∙ (let none_left : 0 ≡ (weight x * g (gathered r x)) * 0 = omega arith in none_left)
        where
          none : (t : Bool) → cond t (0 * g z) 0 ≡ 0
          none true = omega arith
          none false = refl

  pub sum-gathered : sum_by (λ y. gathered_into y * g y) (filter (is_gathered r) (choices c r)) ≡ sum_by (λ x. weight x * g (gathered r x)) (choices c r)
  sum-gathered =
      sum_by-filter (λ y. gathered_into y * g y) (is_gathered r) (choices c r)
      ∙ sum_by-same _ (λ y. sum_by (λ x. cond (is_gathered r y) (cond (is_gathered_into r y x) (weight x) 0 * g y) 0) (choices c r)) (λ y.
      ap (λ n. cond (is_gathered r y) (n * g y) 0) (sum_by-filter weight (is_gathered_into r y) (choices c r))
      ∙ ap (λ n. cond (is_gathered r y) n 0) (sym (sum_by-times (g y) (λ x. cond (is_gathered_into r y x) (weight x) 0) (choices c r)))
      ∙ sym (sum_by-cond (is_gathered r y) (λ x. cond (is_gathered_into r y x) (weight x) 0 * g y) (choices c r))) (choices c r)
      ∙ sum_by-swap (λ y x. cond (is_gathered r y) (cond (is_gathered_into r y x) (weight x) 0 * g y) 0) (choices c r) (choices c r)
      ∙ sum_by-same_where (IsChoice c r) _ (λ x. weight x * g (gathered r x)) only-there (choices c r) (choices-each c r)

-- with the weights of labellings
pub sum-weights : (c : ℕ) (r : List ℕ) (g : List ℕ → ℕ) → sum_by (λ y. gathered_weight r y * g y) (filter (is_gathered r) (choices c r)) ≡ sum_by (λ x. number_of_labellings x * g (gathered r x)) (choices c r)
sum-weights c r g =
    sum_by-same_where (IsChoice c r) _ (λ y. gathered_into c r number_of_labellings g y * g y) (λ y o. ap (λ n. sum_by number_of_labellings (filter (is_gathered_into r y) (choices n r)) * g y) o.whole) (filter (is_gathered r) (choices c r)) (all_filter (IsChoice c r) (is_gathered r) (choices c r) (choices-each c r))
    ∙ sum-gathered c r number_of_labellings g

-- all that are gathered into one weigh alike
pub weight-gathered : (c : ℕ) (r y : List ℕ) → sum_by number_of_labellings (filter (is_gathered_into r y) (choices c r)) ≡ number_gathered c r y * number_of_labellings y
weight-gathered c r y =
    sum_by-filter number_of_labellings (is_gathered_into r y) (choices c r)
    ∙ sum_by-same_where (IsChoice c r) _ (λ x. one_if (is_gathered_into r y x) * number_of_labellings y) (λ x o. by x o (is_gathered_into r y x) refl) (choices c r) (choices-each c r)
    ∙ sum_by-times (number_of_labellings y) (λ x. one_if (is_gathered_into r y x)) (choices c r)
  where
    by : (x : List ℕ) → IsChoice c r x → (t : Bool) → is_gathered_into r y x ≡ t → cond t (number_of_labellings x) 0 ≡ one_if t * number_of_labellings y
    by x o true e =
        let same : number_of_labellings x ≡ number_of_labellings y = sym (labellings-gathered r x) ∙ ap number_of_labellings (same_text (gathered r x) y (sym e)) in
        omega (arith, same)
    by x o false e = omega arith

size-order : IsOrder is_at_least
size-order = record {
  other = λ x y e. grind (arith, e);
  same = λ x y e f. grind (arith, e, f);
  chain = λ x y z e f. grind (arith, e, f);
}

falling-swap : (i : ℕ) (r : List ℕ) → falling (swap_at i r) ≡ falling r
falling-swap i r =
    order-once is_at_least size-order (falling (swap_at i r)) (falling r) (ordered-in_order is_at_least size-order (swap_at i r)) (ordered-in_order is_at_least size-order r)
    (λ f. sum_by-in_order is_at_least f (swap_at i r) ∙ sum_by-swap_at f i r ∙ sym (sum_by-in_order is_at_least f r))

-- the sizes that a choice leaves are those that its gathered form leaves
pub left-gathered : (r x : List ℕ) → length x ≡ length r → falling (minus r (gathered r x)) ≡ falling (minus r x)
left-gathered r x l = even-gathered (λ r x. falling (minus r x)) (λ i r x k. ap falling (minus-swap i r x k) ∙ falling-swap i (minus r x)) r x l
