-- Neighbouring columns may change places: the tables change theirs alike.
use Rattle.std.proofs.Common.{◌≡◌, ℕ, zero, suc, ◌+◌, ◌-◌, ◌*◌, List, [], ◌∷◌, min, Bool, true, false, cond, refl, sym, ◌∙◌, ap, arith, nat_eq}
use Rattle.std.specs.List.{sum_by, range_with_len}
use Rattle.weights.specs.Grouped.{choices, minus}
use Rattle.weights.specs.Labellings.{number_of_labellings}
use Rattle.weights.proofs.GroupingLaw.{by_columns, by_columns-step}
use Rattle.weights.proofs.Sums.{sum_by-fronts, sum_by-same, sum_by-scaled, sum_by-swap}
use Rattle.networks.proofs.Swaps.{swap_at}
use Rattle.label_network.proofs.ChoiceSwaps.{pairs, pairs-turned}

-- the choices for two columns, one after the other
abbrev two_columns : ℕ → ℕ → List ℕ → (List ℕ → List ℕ → ℕ) → ℕ
two_columns c d r f = sum_by (λ x. sum_by (λ y. f x y) (choices d (minus r x))) (choices c r)

min-turned : (a b : ℕ) → min a b ≡ min b a
min-turned a b = omega arith

-- by what the first row gets of both
by_first : (c d q : ℕ) (rs : List ℕ) (f : List ℕ → List ℕ → ℕ) → two_columns c d (q ∷ rs) f ≡ pairs q c d (λ a b. two_columns (c - a) (d - b) rs (λ x y. f (a ∷ x) (b ∷ y)))
by_first c d q rs f =
    sum_by-fronts (λ x. sum_by (λ y. f x y) (choices d (minus (q ∷ rs) x))) (λ a. a) (λ a. choices (c - a) rs) (range_with_len 0 (min c q + 1))
    ∙ sum_by-same _ _ (λ a. row a) (range_with_len 0 (min c q + 1))
    ∙ ap (λ n. sum_by (λ a. sum_by (λ b. two_columns (c - a) (d - b) rs (λ x y. f (a ∷ x) (b ∷ y))) (range_with_len 0 (min (q - a) d + 1))) (range_with_len 0 (n + 1))) (min-turned c q)
  where
    row : (a : ℕ) → sum_by (λ x. sum_by (λ y. f (a ∷ x) y) (choices d ((q - a) ∷ minus rs x))) (choices (c - a) rs) ≡ sum_by (λ b. two_columns (c - a) (d - b) rs (λ x y. f (a ∷ x) (b ∷ y))) (range_with_len 0 (min (q - a) d + 1))
    row a =
        sum_by-same _ _ (λ x. sum_by-fronts (λ y. f (a ∷ x) y) (λ b. b) (λ b. choices (d - b) (minus rs x)) (range_with_len 0 (min d (q - a) + 1))) (choices (c - a) rs)
        ∙ sum_by-swap (λ x b. sum_by (λ y. f (a ∷ x) (b ∷ y)) (choices (d - b) (minus rs x))) (choices (c - a) rs) (range_with_len 0 (min d (q - a) + 1))
        ∙ ap (λ n. sum_by (λ b. two_columns (c - a) (d - b) rs (λ x y. f (a ∷ x) (b ∷ y))) (range_with_len 0 (n + 1))) (min-turned d (q - a))

pub columns-turned : (c d : ℕ) (r : List ℕ) (f : List ℕ → List ℕ → ℕ) → two_columns d c r (λ y x. f x y) ≡ two_columns c d r f
columns-turned c d [] f = by (nat_eq c 0) (nat_eq d 0)
  where
    by : (s t : Bool) → sum_by (λ y. sum_by (λ x. f x y) (cond s ([] ∷ []) [])) (cond t ([] ∷ []) []) ≡ sum_by (λ x. sum_by (λ y. f x y) (cond t ([] ∷ []) [])) (cond s ([] ∷ []) [])
    by true true = refl
    by true false = refl
    by false true = refl
    by false false = refl
columns-turned c d (q ∷ rs) f =
    by_first d c q rs (λ y x. f x y)
    ∙ sum_by-same _ _ (λ b. sum_by-same _ _ (λ a. columns-turned (c - a) (d - b) rs (λ x y. f (a ∷ x) (b ∷ y))) (range_with_len 0 (min (q - b) c + 1))) (range_with_len 0 (min q d + 1))
    ∙ pairs-turned q c d (λ a b. two_columns (c - a) (d - b) rs (λ x y. f (a ∷ x) (b ∷ y)))
    ∙ sym (by_first c d q rs f)

one_size : (q a b : ℕ) → (q - a) - b ≡ (q - b) - a
one_size q a b = omega arith

minus-minus : (r x y : List ℕ) → minus (minus r x) y ≡ minus (minus r y) x
minus-minus [] x y = refl
minus-minus (q ∷ rs) [] [] = refl
minus-minus (q ∷ rs) [] (b ∷ y) = refl
minus-minus (q ∷ rs) (a ∷ x) [] = refl
minus-minus (q ∷ rs) (a ∷ x) (b ∷ y) = ap (λ n. n ∷ minus (minus rs x) y) (one_size q a b) ∙ ap (λ s. ((q - b) - a) ∷ s) (minus-minus rs x y)

pub factors : (u v t : ℕ) → u * (v * t) ≡ v * (u * t)
factors u v t = grind arith

-- tables of two columns and more, by the first two
by_both : (c d : ℕ) (cs r : List ℕ) (f : List (List ℕ) → ℕ) → by_columns (c ∷ d ∷ cs) r f ≡ two_columns c d r (λ x y. number_of_labellings x * (number_of_labellings y * by_columns cs (minus (minus r x) y) (λ w. f (x ∷ y ∷ w))))
by_both c d cs r f =
    by_columns-step c (d ∷ cs) r f
    ∙ sum_by-same _ _ (λ x.
    ap (λ n. number_of_labellings x * n) (by_columns-step d cs (minus r x) (λ w. f (x ∷ w)))
    ∙ sym (sum_by-scaled (number_of_labellings x) (λ y. number_of_labellings y * by_columns cs (minus (minus r x) y) (λ w. f (x ∷ y ∷ w))) (choices d (minus r x)))) (choices c r)

turned : (cs r : List ℕ) (f : List (List ℕ) → ℕ) (x y : List ℕ) → number_of_labellings y * (number_of_labellings x * by_columns cs (minus (minus r y) x) (λ w. f (y ∷ x ∷ w))) ≡ number_of_labellings x * (number_of_labellings y * by_columns cs (minus (minus r x) y) (λ w. f (y ∷ x ∷ w)))
turned cs r f x y =
    factors (number_of_labellings y) (number_of_labellings x) (by_columns cs (minus (minus r y) x) (λ w. f (y ∷ x ∷ w)))
    ∙ ap (λ s. number_of_labellings x * (number_of_labellings y * by_columns cs s (λ w. f (y ∷ x ∷ w)))) (minus-minus r y x)

-- two neighbouring columns change places
pub column_swap : (i : ℕ) (cs r : List ℕ) (f : List (List ℕ) → ℕ) → by_columns (swap_at i cs) r f ≡ by_columns cs r (λ w. f (swap_at i w))
column_swap i [] r f = refl
column_swap zero (c ∷ []) r f =
    by_columns-step c [] r f
    ∙ sym (by_columns-step c [] r (λ w. f (swap_at zero w)))
column_swap zero (c ∷ d ∷ cs) r f =
    by_both d c cs r f
    ∙ sum_by-same _ _ (λ y. sum_by-same _ _ (λ x. turned cs r f x y) (choices c (minus r y))) (choices d r)
    ∙ columns-turned c d r (λ x y. number_of_labellings x * (number_of_labellings y * by_columns cs (minus (minus r x) y) (λ w. f (y ∷ x ∷ w))))
    ∙ sym (by_both c d cs r (λ w. f (swap_at zero w)))
column_swap (suc i) (c ∷ cs) r f =
    by_columns-step c (swap_at i cs) r f
    ∙ sum_by-same _ _ (λ x. ap (λ n. number_of_labellings x * n) (column_swap i cs (minus r x) (λ w. f (x ∷ w)))) (choices c r)
    ∙ sym (by_columns-step c cs r (λ w. f (swap_at (suc i) w)))
