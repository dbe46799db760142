-- One step of the loops over blocks and cells.
use Rattle.std.proofs.Common.{◌≡◌, ℕ, zero, suc, ◌+◌, ◌*◌, ◌-◌, ◌<◌, ◌≤◌, List, [], ◌∷◌, ◌++◌, length, drop, take, map, get_or, set, refl, sym, ◌∙◌, ap, subst, arith, add-one, drop-cons, length-take, lit≤}
use Rattle.std.specs.Prelude.{Contains}
use Rattle.std.specs.List.{All, range_with_len, sum, sum_by}
use Rattle.std.proofs.Math.Nat.{mul-le-mul}
use Rattle.std.proofs.lemmas.List.{get_or_default, map_more, take_more}
use Rattle.std.proofs.lemmas.List.Elements.{All-from_recursion}
use Rattle.std.proofs.lemmas.List.FromFn.{length-range_with_len}
use Rattle.std.proofs.lemmas.List.Sums.{sum_by-cons}
use Rattle.weights.specs.Labellings.{has_counts, labellings, lists_over, number_of_labellings}
use Rattle.weights.specs.declared.TheConstants.{MAX}
use Rattle.weights.proofs.Members.{IsLabelling, labelling_from}
use Rattle.weights.proofs.Sums.{sum_by-filter-≤, sum_by-fronts, sum_by-one, sum_by-same}
use Rattle.enumerate.specs.Walk.{BeginsWith}
use Rattle.enumerate.proofs.JoinedSteps.{begins-more}
use Rattle.block_tests.specs.BlockNetworks.{block_at, first_arrangement}
use Rattle.block_tests.specs.BlockSteps.{IsWhole, ways_of}
use Rattle.block_tests.specs.BlockTests.{added, rearrangements}
use Rattle.block_tests.proofs.Arranged.{begins, length-first}
use Rattle.block_tests.proofs.Fitting.{ways-some}
use Rattle.block_tests.proofs.Staged.{whole-at}

-- what is found at a place
pub found-at : (blocks : List (List ℕ)) (i : ℕ) (x : List ℕ) → i < length blocks → x ≡ get_or blocks i x → x ≡ block_at blocks i
found-at blocks i x h e = e ∙ get_or_default blocks i x [] h

-- ---- arrangements as choices

module _ (k : ℕ) (blocks : List (List ℕ)) (whole : All (IsWhole k) blocks) (g : ℕ) (h : g < length blocks) (c : List ℕ) (m : Contains (labellings (block_at blocks g)) c) where
  own : IsLabelling (block_at blocks g) c
  own = labelling_from (block_at blocks g) c m

  pub choice-small : All (λ z. z < 256) c
  choice-small i d l = (let few = (whole-at k blocks g whole h).few in let b : get_or c i d < length (block_at blocks g) = All-from_recursion (λ z. z < length (block_at blocks g)) c own.over.below i d l in omega (arith, b, few))

-- ---- cells that are added

pub added-here : (k v : List ℕ) (i d : ℕ) → length v ≡ i → i < length k → get_or (added k v) i d ≡ get_or k i d
added-here [] v i d e h = absurd (omega arith)
added-here (x ∷ xs) [] i d e h = refl
added-here (x ∷ xs) (v ∷ vs) zero d e h = absurd (omega arith)
added-here (x ∷ xs) (v ∷ vs) (suc i) d e h = added-here xs vs i d (omega arith) (omega arith)

added-more : (k v : List ℕ) (i y : ℕ) → length v ≡ i → i < length k → set (added k v) i (get_or k i 0 + y) ≡ added k (v ++ y ∷ [])
added-more [] v i y e h = absurd (omega arith)
added-more (x ∷ xs) [] zero y e h = by xs
  where
    by : (zs : List ℕ) → (x + y) ∷ zs ≡ (x + y) ∷ added zs []
    by [] = refl
    by (z ∷ zs) = refl
added-more (x ∷ xs) [] (suc i) y e h = absurd (omega arith)
added-more (x ∷ xs) (v ∷ vs) zero y e h = absurd (omega arith)
added-more (x ∷ xs) (v ∷ vs) (suc i) y e h = ap (λ zs. (x + v) ∷ zs) (added-more xs vs i y (omega arith) (omega arith))

-- one more cell
module _ (sums cells now : List ℕ) (i : ℕ) (long : length sums ≡ length cells) (so_far : now ≡ added sums (take i cells)) (h : i < length cells) where
  short : length (take i cells) ≡ i
  short = (let e : length (take i cells) ≡ i = omega (arith, length-take i cells) in e)

  pub cell-here : get_or now i 0 ≡ get_or sums i 0
  cell-here = ap (λ xs. get_or xs i 0) so_far ∙ added-here sums (take i cells) i 0 short (omega arith)

  pub cell-added : set now i (get_or now i 0 + get_or cells i 0) ≡ added sums (take (i + 1) cells)
  cell-added =
      ap (λ n. set now i (n + get_or cells i 0)) cell-here
      ∙ ap (λ xs. set xs i (get_or sums i 0 + get_or cells i 0)) so_far
      ∙ added-more sums (take i cells) i (get_or cells i 0) short (omega arith)
      ∙ ap (added sums) (sym (take_more cells i 0 h))

-- ---- blocks, one after another

pub begins-at : (blocks : List (List ℕ)) (i : ℕ) (cells first new : List ℕ) → i < length blocks → BeginsWith (rearrangements (take i blocks)) cells → first ≡ first_arrangement (block_at blocks i) → new ≡ cells ++ first → BeginsWith (rearrangements (take (i + 1) blocks)) new
begins-at blocks i cells first new h b e f =
    subst (BeginsWith (rearrangements (take (i + 1) blocks))) (sym f)
    (subst (λ parts. BeginsWith (rearrangements parts) (cells ++ first)) (sym (take_more blocks i [] h))
    (begins-more (take i blocks) cells (block_at blocks i) first b (subst (BeginsWith (labellings (block_at blocks i))) (sym e) (begins (block_at blocks i)))))

pub lengths-at : (blocks : List (List ℕ)) (i : ℕ) (lengths first : List ℕ) → i < length blocks → map sum (take i blocks) ≡ lengths → first ≡ first_arrangement (block_at blocks i) → map sum (take (i + 1) blocks) ≡ lengths ++ length first ∷ []
lengths-at blocks i lengths first h e f =
    map_more sum blocks i [] h ∙ ap (λ ns. ns ++ sum (block_at blocks i) ∷ []) e
    ∙ ap (λ n. lengths ++ n ∷ []) (sym (ap length f ∙ length-first (block_at blocks i)))

pub ways-next : (blocks : List (List ℕ)) (i : ℕ) → i < length blocks → ways_of (drop i blocks) ≡ number_of_labellings (block_at blocks i) * ways_of (drop (i + 1) blocks)
ways-next blocks i h = ap ways_of (drop-cons blocks i [] h) ∙ ap (λ n. number_of_labellings (block_at blocks i) * ways_of (drop n blocks)) (sym (add-one i))

-- of so many ways so far
module _ (blocks : List (List ℕ)) (i ways number : ℕ) (h : i < length blocks) (all : ways * ways_of (drop i blocks) ≡ ways_of blocks) (own : number ≡ number_of_labellings (block_at blocks i)) where
  pub ways-more : ways * number * ways_of (drop (i + 1) blocks) ≡ ways_of blocks
  ways-more =
      let regroup : ways * number * ways_of (drop (i + 1) blocks) ≡ ways * (number * ways_of (drop (i + 1) blocks)) = omega arith in
      regroup ∙ ap (λ n. ways * (n * ways_of (drop (i + 1) blocks))) own ∙ ap (λ n. ways * n) (sym (ways-next blocks i h)) ∙ all

  pub ways-within : ways_of blocks ≤ MAX → ways * number ≤ MAX
  ways-within fits =
      let more : ways * number * 1 ≤ ways * number * ways_of (drop (i + 1) blocks) = mul-le-mul (omega arith) (ways-some (drop (i + 1) blocks)) in
      omega (arith, more, ways-more, fits)

-- ---- eight cells of at most 17 kinds have few arrangements

fronts-many : (n k : ℕ) → length (lists_over (suc n) k) ≡ k * length (lists_over n k)
fronts-many n k =
    sym (sum_by-one (lists_over (suc n) k))
    ∙ sum_by-fronts (λ x. 1) (λ l. l) (λ l. lists_over n k) (range_with_len 0 k)
    ∙ sum_by-same (λ l. sum_by (λ xs. 1) (lists_over n k)) (λ l. length (lists_over n k)) (λ l. sum_by-one (lists_over n k)) (range_with_len 0 k)
    ∙ times (range_with_len 0 k) (length (lists_over n k)) ∙ ap (λ m. m * length (lists_over n k)) (length-range_with_len 0 k)
  where
    times : (xs : List ℕ) (n : ℕ) → sum_by (λ x. n) xs ≡ length xs * n
    times [] n = omega arith
    times (x ∷ xs) n = omega (arith, sum_by-cons (λ x. n) x xs, times xs n)

lists-step : (n k m : ℕ) → k ≤ 17 → length (lists_over n k) ≤ m → length (lists_over (suc n) k) ≤ 17 * m
lists-step n k m few h = (let most : k * length (lists_over n k) ≤ 17 * m = mul-le-mul few h in omega (arith, fronts-many n k, most))

power : ℕ → ℕ
power zero = 1
power (suc n) = 17 * power n

lists-within : (n k : ℕ) → k ≤ 17 → length (lists_over n k) ≤ power n
unfolding power
lists-within zero k few = omega arith
lists-within (suc n) k few = lists-step n k (power n) few (lists-within n k few)

power-rises : (n m : ℕ) → power n ≤ power (n + m)
unfolding power
power-rises n zero = (let e : n + 0 ≡ n = omega arith in rw e (omega arith))
power-rises n (suc m) = (let e : n + suc m ≡ suc (n + m) = omega arith in rw e (omega (arith, power-rises n m)))

power-top : power 8 ≤ MAX
unfolding power
power-top = lit≤ tt

pub number-fits : (counts : List ℕ) → sum counts ≤ 8 → length counts ≤ 17 → number_of_labellings counts ≤ MAX
number-fits counts narrow few =
    let part : sum_by (λ x. 1) (labellings counts) ≤ sum_by (λ x. 1) (lists_over (sum counts) (length counts)) = sum_by-filter-≤ (λ x. 1) (has_counts counts) (lists_over (sum counts) (length counts)) in
    let own = sum_by-one (labellings counts) in
    let all = sum_by-one (lists_over (sum counts) (length counts)) in
    let rises = power-rises (sum counts) (8 - sum counts) in
    let top : sum counts + (8 - sum counts) ≡ 8 = omega arith in
    let most : power (sum counts) ≤ power 8 = subst (λ n. power (sum counts) ≤ power n) top rises in
    omega (arith, part, own, all, lists-within (sum counts) (length counts) few, most, power-top)
