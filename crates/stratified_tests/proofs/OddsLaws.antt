-- Weights by odds: they multiply where subjects are put together, and each is at least 1.
use Rattle.std.proofs.Common.{◌≡◌, ℕ, ◌+◌, ◌-◌, ◌*◌, ◌^◌, ◌≤◌, refl, ◌∙◌, ap, subst, arith}
use Rattle.std.specs.Prelude.{Option, Some, None}
use Rattle.std.proofs.Math.Nat.{one-le-pow, pow-zero}
use Rattle.std.proofs.lemmas.Nat.{pow-add}
use Rattle.weights.specs.declared.odds.Odds.{Odds}
use Rattle.strata_cells.specs.declared.stratum.Stratum.{Stratum}
use Rattle.weights.specs.Odds.{IsOdds, odds_weight}
use Rattle.strata_cells.specs.Strata.{cell_weight, first_row}
use Rattle.strata_cells.proofs.FirstCells.{left-within}
use Rattle.stratified_tests.specs.StrataTests.{weight_by}
use Rattle.stratified_tests.specs.StrataNetwork.{weighed_cell}
use Rattle.stratified_tests.specs.StrataSteps.{AreOdds}
use Rattle.weights.proofs.Products.{product-some}

pub no-odds : AreOdds None
no-odds = record { usable = λ o e. absurd (cc e) }

pub some-odds : (odds : Odds) → IsOdds odds → AreOdds (Some odds)
some-odds odds i = record { usable = λ o e. subst IsOdds (same odds o e) i }
  where
    same : (o p : Odds) → Some o ≡ Some p → o ≡ p
    same o p e = cc

module _ (odds : Odds) (i : IsOdds odds) where
  pub above-some : (x : ℕ) → 1 ≤ odds.above ^ x
  above-some x = one-le-pow x odds.above i.above_some

  pub below-some : (x : ℕ) → 1 ≤ odds.below ^ x
  below-some x = one-le-pow x odds.below i.below_some

  pub odds-some : (n x : ℕ) → 1 ≤ odds_weight odds n x
  odds-some n x = product-some (odds.above ^ x) (odds.below ^ (n - x)) (above-some x) (below-some (n - x))

pub weight-least : (odds : Option Odds) → AreOdds odds → (n x : ℕ) → 1 ≤ weight_by odds n x
weight-least None h n x = omega arith
weight-least (Some o) h n x = odds-some o (h.usable o refl) n x

pub weight-none : (odds : Option Odds) → weight_by odds 0 0 ≡ 1
weight-none None = refl
weight-none (Some o) = both (o.above ^ 0) (o.below ^ 0) (pow-zero o.above) (pow-zero o.below)
  where
    both : (a b : ℕ) → a ≡ 1 → b ≡ 1 → a * b ≡ 1
    both a b e f = rw (e, f) refl

interchange : (a b c d : ℕ) → (a * b) * (c * d) ≡ (a * c) * (b * d)
interchange a b c d = omega arith

-- the weights of subjects that are put together
pub weight-joined : (odds : Option Odds) (m n x y : ℕ) → x ≤ m → y ≤ n → weight_by odds (m + n) (x + y) ≡ weight_by odds m x * weight_by odds n y
weight-joined None m n x y h k = refl
weight-joined (Some o) m n x y h k =
    let apart : m + n - (x + y) ≡ (m - x) + (n - y) = omega (arith, h, k) in
    ap (λ e. o.above ^ (x + y) * o.below ^ e) apart
    ∙ ap (λ e. e * o.below ^ ((m - x) + (n - y))) (pow-add o.above x y)
    ∙ ap (λ e. (o.above ^ x * o.above ^ y) * e) (pow-add o.below (m - x) (n - y))
    ∙ interchange (o.above ^ x) (o.above ^ y) (o.below ^ (m - x)) (o.below ^ (n - y))

-- what a first cell weighs, with odds or without
pub cell-is : (odds : Option Odds) (s : Stratum) (x : ℕ) → weighed_cell odds s x ≡ cell_weight s x * weight_by odds (first_row s) x
cell-is None s x = times-one (cell_weight s x)
  where
    times-one : (n : ℕ) → n ≡ n * 1
    times-one n = omega arith
cell-is (Some o) s x = refl

pub weighed-least : (odds : Option Odds) → AreOdds odds → (s : Stratum) (x : ℕ) → cell_weight s x ≤ weighed_cell odds s x
weighed-least odds o s x = omega (arith, cell-is odds s x, left-within (cell_weight s x) (weight_by odds (first_row s) x) (weight-least odds o (first_row s) x))
