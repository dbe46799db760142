-- One step of the loops that cut a list into blocks.
use Rattle.std.proofs.Common.{◌≡◌, ℕ, suc, ◌+◌, ◌*◌, ◌-◌, ◌<◌, ◌≤◌, List, [], ◌∷◌, ◌++◌, length, drop, take, map, get_or, refl, sym, ◌∙◌, ap, subst, arith, append_assoc, length-drop, length-take}
use Rattle.std.specs.Prelude.{ℤ}
use Rattle.std.specs.List.{All, AllByRecursion, concat}
use Rattle.std.proofs.lemmas.List.Elements.{All-from_recursion}
use Rattle.weights.proofs.Filters.{all_weaker}
use Rattle.block_tests.specs.BlockTests.{added, cells_in, cell_counts, cut, page_sum, treatment_sums}
use Rattle.block_tests.specs.declared.kinds.BlockKind.{BlockKind}
use Rattle.block_tests.proofs.Rows.{left-after}
use Rattle.block_tests.proofs.TreatmentSums.{added-assoc, added-zeros, left-within, page-added, page-zeros, sums-within}

-- so many blocks are left
pub one-less : (n i : ℕ) → i < n → n - i ≡ suc (n - (i + 1))
one-less n i h = omega arith

pub none-left : (n i : ℕ) → n ≤ i → n - i ≡ 0
none-left n i h = omega arith

module _ {X : Type 0} (k n i : ℕ) (rest : List X) (h : i < n) (left : length rest ≡ (n - i) * k) where
  after : (k ≤ length rest) × (length rest - k ≡ (n - (i + 1)) * k)
  after = left-after k (n - (i + 1)) (length rest) (left ∙ ap (λ m. m * k) (one-less n i h))

  pub front-within : k ≤ length rest
  front-within = after.0

  pub front-long : length (take k rest) ≡ k
  front-long = omega (arith, length-take k rest, after.0)

  pub rest-left : length (drop k rest) ≡ (n - (i + 1)) * k
  rest-left = omega (arith, length-drop k rest, after.1)

  pub cut-next : cut k (n - i) rest ≡ take k rest ∷ cut k (n - (i + 1)) (drop k rest)
  cut-next = ap (λ m. cut k m rest) (one-less n i h)

pub cut-none : {X : Type 0} (k n i : ℕ) (rest : List X) → n ≤ i → cut k (n - i) rest ≡ []
cut-none k n i rest h = ap (λ m. cut k m rest) (none-left n i h)

-- ---- sums of treatments

module _ (k n i : ℕ) (rest front later : List ℕ) (h : i < n) (left : length rest ≡ (n - i) * k) (f : front ≡ take k rest) (l : later ≡ drop k rest) where
  pub sums-next : treatment_sums k (cut k (n - i) rest) ≡ added front (treatment_sums k (cut k (n - (i + 1)) later))
  sums-next = ap (treatment_sums k) (cut-next k n i rest h left) ∙ ap (λ xs. added xs (treatment_sums k (cut k (n - (i + 1)) (drop k rest)))) (sym f) ∙ ap (λ xs. added front (treatment_sums k (cut k (n - (i + 1)) xs))) (sym l)

  pub sums-step : (sums now all : List ℕ) → now ≡ added sums front → added sums (treatment_sums k (cut k (n - i) rest)) ≡ all → added now (treatment_sums k (cut k (n - (i + 1)) later)) ≡ all
  sums-step sums now all e so_far = ap (λ xs. added xs (treatment_sums k (cut k (n - (i + 1)) later))) e ∙ added-assoc sums front (treatment_sums k (cut k (n - (i + 1)) later)) ∙ ap (added sums) (sym sums-next) ∙ so_far

  pub page-step : (sum one all : ℕ) → one ≡ page_sum 1 front → sum + page_sum 1 (treatment_sums k (cut k (n - i) rest)) ≡ all → sum + one + page_sum 1 (treatment_sums k (cut k (n - (i + 1)) later)) ≡ all
  page-step sum one all e so_far =
      let next : page_sum 1 (treatment_sums k (cut k (n - i) rest)) ≡ page_sum 1 front + page_sum 1 (treatment_sums k (cut k (n - (i + 1)) later)) = ap (page_sum 1) sums-next ∙ page-added 1 front (treatment_sums k (cut k (n - (i + 1)) later)) in
      omega (arith, e, so_far, next)

pub sums-end : (k n i : ℕ) (rest sums all : List ℕ) → n ≤ i → length sums ≡ k → added sums (treatment_sums k (cut k (n - i) rest)) ≡ all → sums ≡ all
sums-end k n i rest sums all h long e = sym (ap (λ bs. added sums (treatment_sums k bs)) (cut-none k n i rest h) ∙ added-zeros k sums long) ∙ e

pub page-end : (k n i : ℕ) (rest : List ℕ) (sum all : ℕ) → n ≤ i → sum + page_sum 1 (treatment_sums k (cut k (n - i) rest)) ≡ all → sum ≡ all
page-end k n i rest sum all h e = (let none : page_sum 1 (treatment_sums k (cut k (n - i) rest)) ≡ 0 = ap (λ bs. page_sum 1 (treatment_sums k bs)) (cut-none k n i rest h) ∙ page-zeros 1 k in omega (arith, e, none))

-- ---- small sums

pub bytes-small : (xs : List ℕ) → ((i : ℕ) → get_or xs i 0 < 256) → AllByRecursion (λ x. x ≤ 255) xs
bytes-small [] f = tt
bytes-small (x ∷ xs) f = ((let here : x < 256 = f 0 in omega (arith, here)), bytes-small xs (λ i. f (suc i)))

pub whole-small : (k n : ℕ) (cells : List ℕ) → n ≤ 10000 → AllByRecursion (λ x. x ≤ 255) cells → AllByRecursion (λ s. s ≤ 2550000) (treatment_sums k (cut k n cells))
whole-small k n cells few a = (let room : n * 255 ≤ 2550000 = omega (arith, few) in all_weaker (λ s. s ≤ n * 255) (λ s. s ≤ 2550000) (λ s h. omega (arith, h, room)) (treatment_sums k (cut k n cells)) (sums-within 255 k n cells a))

pub part-small : (k n : ℕ) (cells sums rest : List ℕ) → n ≤ 10000 → AllByRecursion (λ x. x ≤ 255) cells → added sums rest ≡ treatment_sums k (cut k n cells) → All (λ s. s ≤ 2550000) sums
part-small k n cells sums rest few a e = All-from_recursion (λ s. s ≤ 2550000) sums (left-within 2550000 sums rest (subst (AllByRecursion (λ s. s ≤ 2550000)) (sym e) (whole-small k n cells few a)))

-- ---- blocks and their cells

one-more : {X : Type 0} (xs : List X) (x : X) (ys : List X) → (xs ++ x ∷ []) ++ ys ≡ xs ++ x ∷ ys
one-more [] x ys = refl
one-more (z ∷ xs) x ys = ap (λ zs. z ∷ zs) (one-more xs x ys)

module _ (kind : BlockKind) (k n i : ℕ) (rest front later : List ℤ) (h : i < n) (left : length rest ≡ (n - i) * k) (f : front ≡ take k rest) (l : later ≡ drop k rest) where
  rows-next : cut k (n - i) rest ≡ front ∷ cut k (n - (i + 1)) later
  rows-next = cut-next k n i rest h left ∙ ap (λ xs. xs ∷ cut k (n - (i + 1)) (drop k rest)) (sym f) ∙ ap (λ xs. front ∷ cut k (n - (i + 1)) xs) (sym l)

  pub row-long : length front ≡ k
  row-long = ap length f ∙ front-long k n i rest h left

  pub blocks-step : (made now all : List (List ℕ)) → now ≡ made ++ cell_counts kind (length front) front ∷ [] → made ++ map (cell_counts kind k) (cut k (n - i) rest) ≡ all → now ++ map (cell_counts kind k) (cut k (n - (i + 1)) later) ≡ all
  blocks-step made now all e so_far =
      ap (λ xs. xs ++ map (cell_counts kind k) (cut k (n - (i + 1)) later)) (e ∙ ap (λ m. made ++ cell_counts kind m front ∷ []) row-long)
      ∙ one-more made (cell_counts kind k front) (map (cell_counts kind k) (cut k (n - (i + 1)) later))
      ∙ ap (λ rows. made ++ map (cell_counts kind k) rows) (sym rows-next) ∙ so_far

  pub cells-step : (cells now all : List ℕ) → now ≡ cells ++ cells_in kind front → cells ++ concat (map (cells_in kind) (cut k (n - i) rest)) ≡ all → now ++ concat (map (cells_in kind) (cut k (n - (i + 1)) later)) ≡ all
  cells-step cells now all e so_far =
      ap (λ xs. xs ++ concat (map (cells_in kind) (cut k (n - (i + 1)) later))) e
      ∙ append_assoc cells (cells_in kind front) (concat (map (cells_in kind) (cut k (n - (i + 1)) later)))
      ∙ ap (λ rows. cells ++ concat (map (cells_in kind) rows)) (sym rows-next) ∙ so_far
