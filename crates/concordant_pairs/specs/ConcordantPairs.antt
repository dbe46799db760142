-- Concordant pairs: subjects without ties stand in the order of their values, each with the label
-- of its group, and a pair is concordant where the later one is of the later group. Their number
-- is that of Terpstra (1952) and Jonckheere (Biometrika 41, 1954), and of two groups that of Mann
-- and Whitney (The Annals of Mathematical Statistics 18, 1947).
use Rattle.std.specs.Prelude.{◌≡◌, ℕ, ◌+◌, ◌*◌, List, [], ◌∷◌, length, get_or, Bool, nat_eq, nat_lt}
use Rattle.std.specs.List.{count_by, list_all, sum, sum_by}
use Rattle.weights.specs.Labellings.{labellings, labels}

-- no two subjects are equal, of whom so many have each value that occurs
abbrev pub are_distinct : List ℕ → Bool
are_distinct counts = list_all (λ c. nat_eq c 1) counts

-- the pairs of places of which the later one has the greater label
abbrev pub concordant_pairs : List ℕ → ℕ
concordant_pairs [] = 0
concordant_pairs (x ∷ xs) = count_by (λ y. nat_lt x y) xs + concordant_pairs xs

-- how many labellings of groups of these sizes have so many
abbrev pub concordant_count : List ℕ → ℕ → ℕ
concordant_count sizes u = count_by (λ xs. nat_eq (concordant_pairs xs) u) (labellings sizes)

-- the pairs of subjects of two groups, which are the most that can rise
abbrev pub pairs_across : List ℕ → ℕ
pairs_across [] = 0
pairs_across (n ∷ sizes) = n * sum sizes + pairs_across sizes

-- every sum over the labellings by their concordant pairs is the sum over the counts, from that of
-- no pair on
abbrev pub SumsAlike : List ℕ → List ℕ → Type 0
SumsAlike sizes counts = (f : ℕ → ℕ) → sum_by (λ xs. f (concordant_pairs xs)) (labellings sizes)
    ≡ sum_by (λ u. get_or counts u 0 * f u) (labels (length counts))
