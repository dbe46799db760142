-- Concordant pairs with a group more: those of the other groups, and those of the group with all others.
use Rattle.std.proofs.Common.{◌≡◌, ℕ, zero, suc, ◌+◌, ◌*◌, ◌≤◌, List, [], ◌∷◌, map, drop, refl, sym, ◌∙◌, ap, arith}
use Rattle.std.specs.List.{sum, sum_by}
use Rattle.std.proofs.lemmas.List.Sums.{sum_by-cons}
use Rattle.weights.specs.Labellings.{labellings}
use Rattle.weights.proofs.FirstLabel.{IsOneLess, first_labels, first_labels-one_less, keep, labellings-none}
use Rattle.weights.proofs.Sums.{sum_by-map, sum_by-plus, sum_by-same_where}
use Rattle.weights.proofs.Binomials.{first_labels-none}
use Rattle.concordant_pairs.specs.ConcordantPairs.{pairs_across, concordant_pairs}
use Rattle.concordant_pairs.proofs.FirstConcordant.{by_first, first-raised, from_first, raised, concordant_sum, concordant_sum-same}
use Rattle.concordant_pairs.proofs.TwoGroups.{beyond-two, by_first_of_two, factors, none-first, none-second, turned, two, two-same}

concordant_sum-none : (sizes : List ℕ) (f : ℕ → ℕ) → sum sizes ≡ 0 → concordant_sum sizes f ≡ f 0
concordant_sum-none sizes f e = ap (sum_by (λ xs. f (concordant_pairs xs))) (labellings-none sizes e) ∙ omega arith

-- over the concordant pairs of some groups, each with those of two more groups
abbrev pub mixed_sum : List ℕ → ℕ → ℕ → (ℕ → ℕ) → ℕ
mixed_sum rest n m f = concordant_sum rest (λ u. two n m (λ v. f (u + v)))

-- the sums over the other groups' pairs, each of those of the group with the others
abbrev with_group : ℕ → List ℕ → (ℕ → ℕ) → ℕ
with_group n rest f = mixed_sum rest n (sum rest) f

-- the labels of the other groups, first
others-first : (n m : ℕ) (rest : List ℕ) (f : ℕ → ℕ) → ((first : ℕ × List ℕ) (g : ℕ → ℕ) → IsOneLess rest first → concordant_sum (n ∷ first.1) g ≡ with_group n first.1 g) → sum rest ≡ suc m
    → sum_by (from_first f) (map (keep n) (first_labels 1 rest)) ≡ concordant_sum rest (λ u. two n m (λ v. f (u + v)))
others-first n m rest f known e =
    ap (λ firsts. sum_by (from_first f) (map (keep n) firsts)) (first-raised 0 rest)
    ∙ sum_by-map (from_first f) (keep n) (map raised (first_labels 0 rest))
    ∙ sum_by-map (λ first. from_first f (keep n first)) raised (first_labels 0 rest)
    ∙ sum_by-same_where (IsOneLess rest) (λ first. from_first f (keep n (raised first))) (from_first (λ u. two n m (λ v. f (u + v)))) each (first_labels 0 rest) (first_labels-one_less 0 rest)
    ∙ sym (by_first (λ u. two n m (λ v. f (u + v))) m rest e)
  where
    each : (first : ℕ × List ℕ) → IsOneLess rest first → from_first f (keep n (raised first)) ≡ from_first (λ u. two n m (λ v. f (u + v))) first
    each first less =
        let behind : ℕ = sum (drop (suc first.0) first.1) in
        let left : sum first.1 ≡ m = omega (arith, less.0, e) in
        known first (λ u. f (behind + u)) less
        ∙ concordant_sum-same first.1 (λ u. two n (sum first.1) (λ v. f (behind + (u + v)))) (λ u. two n m (λ v. f ((behind + u) + v)))
        (λ u. ap (λ s. two n s (λ v. f (behind + (u + v)))) left ∙ two-same n m (λ v. f (behind + (u + v))) (λ v. f ((behind + u) + v)) (λ v. ap f (moved behind u v)))
      where
        moved : (b u v : ℕ) → b + (u + v) ≡ (b + u) + v
        moved b u v = omega arith

in-parts : (m n : ℕ) (rest : List ℕ) (f : ℕ → ℕ) → n + sum rest ≡ m → concordant_sum (n ∷ rest) f ≡ with_group n rest f
in-parts zero n rest f e =
    let nobody : n ≡ 0 = omega (arith, e) in
    concordant_sum-none (n ∷ rest) f (omega (arith, e, sum_by-cons (λ v. v) n rest))
    ∙ sym (concordant_sum-none rest (λ u. two n (sum rest) (λ v. f (u + v))) (omega (arith, e)) ∙ ap (λ k. two k (sum rest) (λ v. f (0 + v))) nobody ∙ none-first (sum rest) (λ v. f (0 + v)))
in-parts (suc m) n rest f e = by_first f m (n ∷ rest) (omega (arith, e, sum_by-cons (λ v. v) n rest)) ∙ by (in-parts m) n (sum rest) refl e
  where
    by : ((k : ℕ) (others : List ℕ) (g : ℕ → ℕ) → k + sum others ≡ m → concordant_sum (k ∷ others) g ≡ with_group k others g) → (k s : ℕ) → sum rest ≡ s → k + sum rest ≡ suc m → sum_by (from_first f) (first_labels 0 (k ∷ rest)) ≡ with_group k rest f
    by known zero zero h t = absurd (omega (arith, h, t))
    by known zero (suc s) h t =
        others-first 0 s rest f (λ first g less. known 0 first.1 g (omega (arith, less.0, h, t))) h
        ∙ concordant_sum-same rest (λ u. two 0 s (λ v. f (u + v))) (λ u. two 0 (sum rest) (λ v. f (u + v))) (λ u. none-first s (λ v. f (u + v)) ∙ sym (none-first (sum rest) (λ v. f (u + v))))
    by known (suc c) zero h t =
        ap (λ firsts. sum_by (from_first f) ((0, c ∷ rest) ∷ map (keep (suc c)) firsts)) (first_labels-none 1 rest h)
        ∙ sum_by-cons (from_first f) (0, c ∷ rest) []
        ∙ alone
        ∙ known c rest (λ u. f (sum rest + u)) (omega (arith, t))
        ∙ concordant_sum-same rest (λ u. two c (sum rest) (λ v. f (sum rest + (u + v)))) (λ u. two (suc c) (sum rest) (λ v. f (u + v))) each
      where
        alone : from_first f (0, c ∷ rest) + 0 ≡ concordant_sum (c ∷ rest) (λ u. f (sum rest + u))
        alone = omega arith

        each : (u : ℕ) → two c (sum rest) (λ v. f (sum rest + (u + v))) ≡ two (suc c) (sum rest) (λ v. f (u + v))
        each u = rw h (none-second c (λ v. f (0 + (u + v))) ∙ ap f (moved u) ∙ sym (none-second (suc c) (λ v. f (u + v))))
          where
            moved : (u : ℕ) → 0 + (u + 0) ≡ u + 0
            moved u = omega arith
    by known (suc c) (suc s) h t =
        sum_by-cons (from_first f) (0, c ∷ rest) (map (keep (suc c)) (first_labels 1 rest))
        ∙ both (known c rest (λ u. f (sum rest + u)) (omega (arith, t))) (others-first (suc c) s rest f (λ first g less. known (suc c) first.1 g (omega (arith, less.0, h, t))) h)
        ∙ sym (sum_by-plus (λ xs. two c (sum rest) (λ v. f (sum rest + (concordant_pairs xs + v)))) (λ xs. two (suc c) s (λ v. f (concordant_pairs xs + v))) (labellings rest))
        ∙ concordant_sum-same rest (λ u. two c (sum rest) (λ v. f (sum rest + (u + v))) + two (suc c) s (λ v. f (u + v))) (λ u. two (suc c) (sum rest) (λ v. f (u + v))) each
      where
        both : {x y v w : ℕ} → x ≡ v → y ≡ w → x + y ≡ v + w
        both e h = rw (e, h) refl

        moved : (s u v : ℕ) → s + (u + v) ≡ u + (s + v)
        moved s u v = omega arith

        each : (u : ℕ) → two c (sum rest) (λ v. f (sum rest + (u + v))) + two (suc c) s (λ v. f (u + v)) ≡ two (suc c) (sum rest) (λ v. f (u + v))
        each u = rw h (
            both (two-same c (suc s) (λ v. f (suc s + (u + v))) (λ v. f (u + (suc s + v))) (λ v. ap f (moved (suc s) u v))) refl
            ∙ sym (by_first_of_two c s (λ v. f (u + v)))
            )

pub by_groups : (n : ℕ) (rest : List ℕ) (f : ℕ → ℕ) → concordant_sum (n ∷ rest) f ≡ mixed_sum rest n (sum rest) f
by_groups n rest f = in-parts (n + sum rest) n rest f refl

pub mixed-turned : (rest : List ℕ) (n m : ℕ) (f : ℕ → ℕ) → mixed_sum rest n m f ≡ mixed_sum rest m n f
mixed-turned rest n m f = concordant_sum-same rest (λ u. two n m (λ v. f (u + v))) (λ u. two m n (λ v. f (u + v))) (λ u. turned n m (λ v. f (u + v)))

-- a group of nobody
pub nobody-more : (rest : List ℕ) (m : ℕ) (f : ℕ → ℕ) → mixed_sum rest 0 m f ≡ concordant_sum rest f
nobody-more rest m f = concordant_sum-same rest (λ u. two 0 m (λ v. f (u + v))) f (λ u. none-first m (λ v. f (u + v)) ∙ ap f (alone u))
  where
    alone : (u : ℕ) → u + 0 ≡ u
    alone u = omega arith

-- the sums with one subject more and without it, each moved
pub next-subject : (c m : ℕ) (rest : List ℕ) (f : ℕ → ℕ) → mixed_sum rest (suc c) m f + mixed_sum rest c m (λ u. f ((suc c + m) + u)) ≡ mixed_sum rest (suc c) m (λ u. f (suc c + u)) + mixed_sum rest c m f
next-subject c m rest f =
    sym (sum_by-plus (λ xs. two (suc c) m (λ v. f (concordant_pairs xs + v))) (λ xs. two c m (λ v. f ((suc c + m) + (concordant_pairs xs + v)))) (labellings rest))
    ∙ concordant_sum-same rest (λ u. two (suc c) m (λ v. f (u + v)) + two c m (λ v. f ((suc c + m) + (u + v)))) (λ u. two (suc c) m (λ v. f (suc c + (u + v))) + two c m (λ v. f (u + v))) each
    ∙ sum_by-plus (λ xs. two (suc c) m (λ v. f (suc c + (concordant_pairs xs + v)))) (λ xs. two c m (λ v. f (concordant_pairs xs + v))) (labellings rest)
  where
    both : {x y v w : ℕ} → x ≡ v → y ≡ w → x + y ≡ v + w
    both e h = rw (e, h) refl

    moved : (s u v : ℕ) → s + (u + v) ≡ u + (s + v)
    moved s u v = omega arith

    each : (u : ℕ) → two (suc c) m (λ v. f (u + v)) + two c m (λ v. f ((suc c + m) + (u + v))) ≡ two (suc c) m (λ v. f (suc c + (u + v))) + two c m (λ v. f (u + v))
    each u =
        both refl (two-same c m (λ v. f ((suc c + m) + (u + v))) (λ v. f (u + ((suc c + m) + v))) (λ v. ap f (moved (suc c + m) u v)))
        ∙ factors c m (λ v. f (u + v))
        ∙ both (two-same (suc c) m (λ v. f (u + (suc c + v))) (λ v. f (suc c + (u + v))) (λ v. ap f (sym (moved (suc c) u v)))) refl

-- no more pairs rise than there are
pub beyond-mixed : (rest : List ℕ) (n m : ℕ) (f : ℕ → ℕ) → ((g : ℕ → ℕ) → ((u : ℕ) → u ≤ pairs_across rest → g u ≡ 0) → concordant_sum rest g ≡ 0) → ((u : ℕ) → u ≤ n * m + pairs_across rest → f u ≡ 0) → mixed_sum rest n m f ≡ 0
beyond-mixed rest n m f known h = known (λ u. two n m (λ v. f (u + v))) (λ u l. beyond-two n m (λ v. f (u + v)) (λ v k. h (u + v) (omega (arith, l, k))))

pub beyond-pairs : (sizes : List ℕ) (f : ℕ → ℕ) → ((u : ℕ) → u ≤ pairs_across sizes → f u ≡ 0) → concordant_sum sizes f ≡ 0
beyond-pairs [] f h = concordant_sum-none [] f (omega arith) ∙ h 0 (omega arith)
beyond-pairs (n ∷ rest) f h = by_groups n rest f ∙ beyond-mixed rest n (sum rest) f (beyond-pairs rest) h
