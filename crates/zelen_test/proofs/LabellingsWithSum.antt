-- The labellings of strata whose first cells have a given sum: sums over them, stratum by stratum.
use Rattle.std.proofs.Common.{◌≡◌, ℕ, ◌+◌, ◌-◌, ◌*◌, ◌<◌, ◌≤◌, cond, List, [], ◌∷◌, nat_eq, eq-eqb, ne_eqb, inl, inr, refl, sym, ◌∙◌, ap, arith}
use Rattle.std.specs.Prelude.{max, min}
use Rattle.std.specs.List.{range_with_len, sum, sum_by}
use Rattle.std.proofs.lemmas.Bool.{cases_eq}
use Rattle.std.proofs.lemmas.List.Sums.{sum_by-cons}
use Rattle.weights.proofs.CellSums.{divided, none-within, same-within}
use Rattle.weights.proofs.Sums.{sum_by-same}
use Rattle.strata_cells.specs.declared.stratum.Stratum.{Stratum}
use Rattle.strata_cells.specs.Strata.{cell_weight, cells_in, cells_of, cells_weight, greatest_cell, least_cell, strata_labellings}
use Rattle.strata_cells.proofs.CellLaws.{by-cells, cell_lists, over-step, over_cells}
use Rattle.strata_cells.proofs.FirstCells.{cells-meet, cells-sum, term-within}
use Rattle.zelen_test.specs.Zelen.{has_sum}
use Rattle.zelen_test.specs.ZelenSteps.{CanHave}
use Rattle.zelen_test.specs.ZelenNetwork.{greatest_choice, greatest_first_cells, least_choice, least_first_cells, number_with}

-- ---- over lists of first cells

pub over-none : (f : List ℕ → ℕ) → over_cells [] f ≡ f []
over-none f = sum_by-cons (λ cells. cells_weight [] cells * f cells) [] [] ∙ omega arith

-- ---- where all add up to a sum, so much being added before

abbrev pub with_sum : List Stratum → ℕ → ℕ → (List ℕ → ℕ) → ℕ
with_sum strata done all f = over_cells strata (λ cells. cond (nat_eq (done + sum cells) all) (f cells) 0)

-- what a first cell of the first stratum adds to it
abbrev pub with_cell : Stratum → List Stratum → ℕ → ℕ → (List ℕ → ℕ) → ℕ → ℕ
with_cell s strata done all f x = cell_weight s x * with_sum strata (done + x) all (λ cells. f (x ∷ cells))

with-step : (s : Stratum) (strata : List Stratum) (done all : ℕ) (f : List ℕ → ℕ) → with_sum (s ∷ strata) done all f ≡ sum_by (with_cell s strata done all f) (cells_in s)
with-step s strata done all f =
    over-step s strata (λ cells. cond (nat_eq (done + sum cells) all) (f cells) 0)
    ∙ sum_by-same _ (with_cell s strata done all f) (λ x. ap (λ n. cell_weight s x * n)
    (sum_by-same (λ cells. cells_weight strata cells * cond (nat_eq (done + sum (x ∷ cells)) all) (f (x ∷ cells)) 0) (λ cells. cells_weight strata cells * cond (nat_eq (done + x + sum cells) all) (f (x ∷ cells)) 0)
    (λ cells. ap (λ n. cells_weight strata cells * cond (nat_eq n all) (f (x ∷ cells)) 0) (let e : done + sum (x ∷ cells) ≡ done + x + sum cells = omega (arith, sum_by-cons (λ v. v) x cells) in e)) (cell_lists strata))) (cells_in s)

times-none : (a b : ℕ) → b ≡ 0 → a * b ≡ 0
times-none a b e = rw e (omega arith)

-- no cells add up to less than their least sum, or to more than their greatest
with-few : (strata : List Stratum) (done all : ℕ) (f : List ℕ → ℕ) → all < done + least_first_cells strata → with_sum strata done all f ≡ 0
with-few [] done all f h = over-none (λ cells. cond (nat_eq (done + sum cells) all) (f cells) 0) ∙ ap (λ b. cond b (f []) 0) (ne_eqb (done + 0) all (λ e. omega (arith, e, h)))
with-few (s ∷ strata) done all f h =
    with-step s strata done all f
    ∙ none-within (with_cell s strata done all f) (least_cell s) (greatest_cell s + 1 - least_cell s) (λ x l m.
    times-none (cell_weight s x) (with_sum strata (done + x) all (λ cells. f (x ∷ cells))) (with-few strata (done + x) all (λ cells. f (x ∷ cells)) (omega (arith, h, l, sum_by-cons least_cell s strata))))

with-many : (strata : List Stratum) (done all : ℕ) (f : List ℕ → ℕ) → done + greatest_first_cells strata < all → with_sum strata done all f ≡ 0
with-many [] done all f h = over-none (λ cells. cond (nat_eq (done + sum cells) all) (f cells) 0) ∙ ap (λ b. cond b (f []) 0) (ne_eqb (done + 0) all (λ e. omega (arith, e, h)))
with-many (s ∷ strata) done all f h =
    with-step s strata done all f
    ∙ none-within (with_cell s strata done all f) (least_cell s) (greatest_cell s + 1 - least_cell s) (λ x l m.
    times-none (cell_weight s x) (with_sum strata (done + x) all (λ cells. f (x ∷ cells))) (with-many strata (done + x) all (λ cells. f (x ∷ cells)) (omega (arith, h, m, cells-meet s, sum_by-cons greatest_cell s strata))))

-- ---- so only some of the first cells tell

middle : (f : ℕ → ℕ) (l p q r : ℕ) → ((x : ℕ) → l ≤ x → x < l + p → f x ≡ 0) → ((x : ℕ) → l + p + q ≤ x → x < l + p + q + r → f x ≡ 0) → sum_by f (range_with_len l (p + (q + r))) ≡ sum_by f (range_with_len (l + p) q)
middle f l p q r a b = omega (arith, divided f l p (q + r), none-within f l p a, divided f (l + p) q r, none-within f (l + p + q) r b)

pub sums-meet : (strata : List Stratum) → least_first_cells strata ≤ greatest_first_cells strata
sums-meet [] = omega arith
sums-meet (s ∷ strata) = omega (arith, sums-meet strata, cells-meet s, sum_by-cons least_cell s strata, sum_by-cons greatest_cell s strata)

-- the range of the choices, in plain numbers
pub record IsRange (least most less more left from to : ℕ) : Type 0 where
  pub some : from ≤ to
  pub low : least ≤ from
  pub high : to ≤ most
  pub enough : left ≤ from + more
  pub within : to + less ≤ left
  pub start : least + (from - least) ≡ from
  pub cut : most + 1 - least ≡ (from - least) + ((to + 1 - from) + (most - to))
  pub before : (x : ℕ) → x < from → least ≤ x → x + more < left
  pub after : (x : ℕ) → to < x → x ≤ most → left < x + less

ranged : (least most less more left : ℕ) → least ≤ most → less ≤ more → least + less ≤ left → left ≤ most + more → IsRange least most less more left (max least (left - more)) (min most (left - less))
ranged least most less more left a b c d = record {
  some = omega (arith, a, b, c, d);
  low = omega arith;
  high = omega arith;
  enough = omega arith;
  within = omega (arith, a, b, c, d);
  start = omega arith;
  cut = omega (arith, a, b, c, d);
  before = λ x l m. omega (arith, l, m);
  after = λ x l m. omega (arith, l, m, c);
}

module _ (s : Stratum) (strata : List Stratum) (left : ℕ) (can : CanHave (s ∷ strata) left) where
  pub choice-range : IsRange (least_cell s) (greatest_cell s) (least_first_cells strata) (greatest_first_cells strata) left (least_choice s strata left) (greatest_choice s strata left)
  choice-range = ranged (least_cell s) (greatest_cell s) (least_first_cells strata) (greatest_first_cells strata) left (cells-meet s) (sums-meet strata) (omega (arith, can.least, sum_by-cons least_cell s strata)) (omega (arith, can.most, sum_by-cons greatest_cell s strata))

  -- what a choice leaves can be had of the later strata
  pub can-next : (x : ℕ) → least_choice s strata left ≤ x → x ≤ greatest_choice s strata left → CanHave strata (left - x)
  can-next x l h = record {
    least = omega (arith, choice-range.within, h);
    most = omega (arith, choice-range.enough, l);
  }

  pub choice-left : (x : ℕ) → x ≤ greatest_choice s strata left → x ≤ left
  choice-left x h = omega (arith, choice-range.within, h)

  pub with-choices : (done all : ℕ) (f : List ℕ → ℕ) → done + left ≡ all → with_sum (s ∷ strata) done all f ≡ sum_by (with_cell s strata done all f) (range_with_len (least_choice s strata left) (greatest_choice s strata left + 1 - least_choice s strata left))
  with-choices done all f e =
      let r = choice-range in
      let from : ℕ = least_choice s strata left in
      let to : ℕ = greatest_choice s strata left in
      let p : ℕ = from - least_cell s in
      let q : ℕ = to + 1 - from in
      with-step s strata done all f
      ∙ ap (λ n. sum_by (with_cell s strata done all f) (range_with_len (least_cell s) n)) r.cut
      ∙ middle (with_cell s strata done all f) (least_cell s) p q (greatest_cell s - to)
      (λ x l m. times-none (cell_weight s x) (with_sum strata (done + x) all (λ cells. f (x ∷ cells))) (with-many strata (done + x) all (λ cells. f (x ∷ cells)) (omega (arith, r.before x (omega (arith, m, r.start)) l, e))))
      (λ x l m. times-none (cell_weight s x) (with_sum strata (done + x) all (λ cells. f (x ∷ cells))) (with-few strata (done + x) all (λ cells. f (x ∷ cells)) (omega (arith, r.after x (omega (arith, l, r.start, r.some)) (omega (arith, m, r.start, r.some, r.high)), e))))
      ∙ ap (λ n. sum_by (with_cell s strata done all f) (range_with_len n q)) r.start

-- ---- how many labellings have the sum

pub number-is : (strata : List Stratum) (left : ℕ) → number_with strata left ≡ with_sum strata 0 left (λ cells. 1)
number-is strata left =
    sum_by-same (λ r. cond (has_sum strata left r) 1 0) (λ r. cond (nat_eq (0 + sum (cells_of strata r)) left) 1 0) (λ r. ap (λ n. cond (nat_eq n left) 1 0) (cells-sum strata r ∙ (let e : sum (cells_of strata r) ≡ 0 + sum (cells_of strata r) = omega arith in e))) (strata_labellings strata)
    ∙ by-cells strata (λ cells. cond (nat_eq (0 + sum cells) left) 1 0)

same-sum : (done left all n : ℕ) → done + left ≡ all → nat_eq (done + n) all ≡ nat_eq (0 + n) left
same-sum done left all n e = elim (cases_eq (0 + n) left) [
  | inl h ↦ rw (eq-eqb (0 + n) left h, eq-eqb (done + n) all (omega (arith, h, e))) refl
  | inr h ↦ rw (ne_eqb (0 + n) left h, ne_eqb (done + n) all (λ d. h (omega (arith, d, e)))) refl
]

pub number-with : (strata : List Stratum) (done left all : ℕ) → done + left ≡ all → with_sum strata done all (λ cells. 1) ≡ number_with strata left
number-with strata done left all e =
    sum_by-same (λ cells. cells_weight strata cells * cond (nat_eq (done + sum cells) all) 1 0) (λ cells. cells_weight strata cells * cond (nat_eq (0 + sum cells) left) 1 0) (λ cells. ap (λ b. cells_weight strata cells * cond b 1 0) (same-sum done left all (sum cells) e)) (cell_lists strata)
    ∙ sym (number-is strata left)

-- a first cell, and what is left for the others
abbrev pub number_by : Stratum → List Stratum → ℕ → ℕ → ℕ
number_by s strata left x = cell_weight s x * number_with strata (left - x)

pub number-step : (s : Stratum) (strata : List Stratum) (left : ℕ) → CanHave (s ∷ strata) left → number_with (s ∷ strata) left ≡ sum_by (number_by s strata left) (range_with_len (least_choice s strata left) (greatest_choice s strata left + 1 - least_choice s strata left))
number-step s strata left can =
    let from : ℕ = least_choice s strata left in
    let to : ℕ = greatest_choice s strata left in
    let r = choice-range s strata left can in
    number-is (s ∷ strata) left
    ∙ with-choices s strata left can 0 left (λ cells. 1) (omega arith)
    ∙ same-within (with_cell s strata 0 left (λ cells. 1)) (number_by s strata left) from (to + 1 - from) (λ x l m.
    ap (λ n. cell_weight s x * n) (number-with strata (0 + x) (left - x) left (let h : x ≤ left = choice-left s strata left can x (omega (arith, m, r.some)) in omega (arith, h))))

pub number-term : (s : Stratum) (strata : List Stratum) (left : ℕ) (can : CanHave (s ∷ strata) left) (x : ℕ) → least_choice s strata left ≤ x → x ≤ greatest_choice s strata left → number_by s strata left x ≤ number_with (s ∷ strata) left
number-term s strata left can x l h = omega (arith, term-within (number_by s strata left) (least_choice s strata left) (greatest_choice s strata left) x l h, number-step s strata left can)
