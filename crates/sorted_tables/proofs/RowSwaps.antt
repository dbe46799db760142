-- Neighbouring rows may change places: the columns of a table change theirs alike.
use Rattle.std.proofs.Common.{◌≡◌, ℕ, ◌*◌, List, [], ◌∷◌, map, refl, sym, ◌∙◌, ap}
use Rattle.weights.specs.Grouped.{choices, minus}
use Rattle.weights.specs.Labellings.{number_of_labellings}
use Rattle.weights.proofs.ChoiceLists.{IsChoice, choices-each}
use Rattle.weights.proofs.GroupingLaw.{by_columns, by_columns-step}
use Rattle.weights.proofs.Sums.{sum_by-same_where}
use Rattle.networks.proofs.Swaps.{swap_at}
use Rattle.label_network.proofs.ChoiceSwaps.{labellings-swap, minus-swap, swapped_choices}

-- two neighbouring rows change places in each column
pub row_swap : (i : ℕ) (cs r : List ℕ) (f : List (List ℕ) → ℕ) → by_columns cs (swap_at i r) f ≡ by_columns cs r (λ w. f (map (swap_at i) w))
row_swap i [] r f = refl
row_swap i (c ∷ cs) r f =
    by_columns-step c cs (swap_at i r) f
    ∙ swapped_choices (λ x. number_of_labellings x * by_columns cs (minus (swap_at i r) x) (λ w. f (x ∷ w))) i c r
    ∙ sum_by-same_where (IsChoice c r) _ (λ x. number_of_labellings x * by_columns cs (minus r x) (λ w. f (swap_at i x ∷ map (swap_at i) w))) (λ x o.
    ap (λ n. n * by_columns cs (minus (swap_at i r) (swap_at i x)) (λ w. f (swap_at i x ∷ w))) (labellings-swap i x)
    ∙ ap (λ s. number_of_labellings x * by_columns cs s (λ w. f (swap_at i x ∷ w))) (minus-swap i r x o.long)
    ∙ ap (λ n. number_of_labellings x * n) (row_swap i cs (minus r x) (λ w. f (swap_at i x ∷ w)))) (choices c r) (choices-each c r)
    ∙ sym (by_columns-step c cs r (λ w. f (map (swap_at i) w)))
