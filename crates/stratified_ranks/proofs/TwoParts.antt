-- The column law of two groups, by how many of the first part's subjects are of the second group.
use Rattle.std.proofs.Common.{◌≡◌, ℕ, zero, suc, ◌+◌, ◌-◌, ◌*◌, ◌≤◌, min, List, [], ◌∷◌, take, drop, nat_eq, refl, sym, ◌∙◌, ap, arith}
use Rattle.std.specs.Prelude.{slice_index}
use Rattle.std.specs.List.{count_by, range_with_len, sum_by}
use Rattle.std.proofs.lemmas.List.Sums.{sum_by-cons}
use Rattle.weights.specs.Grouped.{minus}
use Rattle.weights.specs.Labellings.{labellings, number_of_labellings}
use Rattle.weights.proofs.CellSums.{divided, same-within, sum-two, two-choices}
use Rattle.weights.proofs.GroupingLaw.{in_parts}
use Rattle.stratified_ranks.specs.RankRooms.{ways_of}

-- a range from its end
turned : (f : ℕ → ℕ) (c s k : ℕ) → s + k ≤ c + 1 → sum_by (λ p. f (c - p)) (range_with_len s k) ≡ sum_by f (range_with_len (c + 1 - (s + k)) k)
turned f c s zero h = refl
turned f c s (suc k) h =
    let long : suc k ≡ k + 1 = omega arith in
    let start : c + 1 - (s + 1 + k) ≡ c + 1 - (s + suc k) = omega arith in
    let last : c + 1 - (s + suc k) + k ≡ c - s = omega (arith, h) in
    sum_by-cons (λ p. f (c - p)) s (range_with_len (s + 1) k)
    ∙ ap (λ n. f (c - s) + n) (turned f c (s + 1) k (omega (arith, h)) ∙ ap (λ i. sum_by f (range_with_len i k)) start)
    ∙ sym (ap (λ n. sum_by f (range_with_len (c + 1 - (s + suc k)) n)) long
    ∙ divided f (c + 1 - (s + suc k)) k 1
    ∙ ap (λ i. sum_by f (range_with_len (c + 1 - (s + suc k)) k) + sum_by f (range_with_len i 1)) last
    ∙ omega (arith, sum_by-cons f (c - s) []))

-- how many labels are 1
abbrev pub ones : List ℕ → ℕ
ones xs = count_by (λ l. nat_eq l 1) xs

-- the sizes of two groups, of n subjects with r of the second
abbrev pub halves : ℕ → ℕ → List ℕ
halves n r = (n - r) ∷ r ∷ []

pub two-parts : (c l r : ℕ) (H : ℕ → List ℕ → ℕ) → r ≤ c + l
    → sum_by (λ xs. H (ones (take c xs)) (drop c xs)) (labellings (halves (c + l) r)) ≡ sum_by (λ x. ways_of c x * sum_by (H x) (labellings (halves l (r - x)))) (range_with_len (r - l) (min c r + 1 - (r - l)))
two-parts c l r H h =
    let a : ℕ = c + l - r in
    let size : ℕ = min a c + 1 - (c - r) in
    let whole : c + l ≡ a + r = omega (arith, h) in
    let start : c + 1 - (c - r + size) ≡ r - l = omega (arith, h) in
    let same : size ≡ min c r + 1 - (r - l) = omega (arith, h) in
    let g : List ℕ → ℕ = λ x. number_of_labellings x * sum_by (H (slice_index x 1)) (labellings (minus (halves (c + l) r) x)) in
    let behind : ℕ → ℕ = λ x. ways_of c x * sum_by (H x) (labellings (halves l (r - x))) in
    in_parts c l (halves (c + l) r) (λ x zs. H (slice_index x 1) zs) (whole ∙ sym (sum-two a r))
    ∙ two-choices c a r g (omega (arith, h))
    ∙ same-within (λ p. g (p ∷ (c - p) ∷ [])) (λ p. behind (c - p)) (c - r) size (λ p low high. one p (omega (arith, low)) (omega (arith, low, high)) (omega (arith, low, high)))
    ∙ turned behind c (c - r) size (omega arith)
    ∙ ap (λ i. sum_by behind (range_with_len i size)) start
    ∙ ap (λ n. sum_by behind (range_with_len (r - l) n)) same
  where
    one : (p : ℕ) → c ≤ p + r → p ≤ c → p ≤ c + l - r → number_of_labellings (p ∷ (c - p) ∷ []) * sum_by (H (c - p)) (labellings ((c + l - r - p) ∷ (r - (c - p)) ∷ [])) ≡ ways_of c (c - p) * sum_by (H (c - p)) (labellings (halves l (r - (c - p))))
    one p low high most =
        let back : c - (c - p) ≡ p = omega (arith, high) in
        let rest : c + l - r - p ≡ l - (r - (c - p)) = omega (arith, low, high, most) in
        rw (back, rest) refl
