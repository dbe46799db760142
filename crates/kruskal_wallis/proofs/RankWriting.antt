-- Sums that are written place by place.
use Rattle.std.proofs.Common.{◌≡◌, ℕ, ◌<◌, List, length, map, get_or, ◌∙◌, ap, arith}
use Rattle.std.proofs.Math.Nat.{zero-add}
use Rattle.std.specs.Prelude.{ℤ, pos}
use Rattle.std.proofs.lemmas.List.{get_or-map}
use Rattle.std.proofs.lemmas.List.FromFn.{get_or-range_with_len}
use Rattle.weights.specs.Labellings.{labels}
use Rattle.scores.specs.Scores.{labelled_sum}
use Rattle.kruskal_wallis.specs.KruskalWallis.{group_sums}
use Rattle.kruskal_wallis.proofs.RankValues.{length-labels}

pub part-at : (f : ℕ → ℤ) (xs : List ℕ) (i : ℕ) → i < length xs → get_or (map f xs) i (pos 0) ≡ f (get_or xs i 0)
part-at f xs i h = get_or-map f xs i 0 (pos 0) h

pub sum-at : (k i : ℕ) (scores : List ℤ) (xs : List ℕ) → i < k → get_or (group_sums k scores xs) i (pos 0) ≡ labelled_sum i scores xs
sum-at k i scores xs h = part-at (λ i. labelled_sum i scores xs) (labels k) i (omega (arith, h, length-labels k)) ∙ ap (λ j. labelled_sum j scores xs) (get_or-range_with_len 0 k i 0 h ∙ zero-add i)
