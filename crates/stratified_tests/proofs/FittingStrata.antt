-- What holds of a test of strata whose total and bound pass no limit, and where it is refused.
use Rattle.std.proofs.Common.{◌≡◌, ℕ, ◌+◌, ◌*◌, ◌/◌, ◌≤◌, List, [], ◌∷◌, map, Some, None, refl, sym, ◌∙◌, ap, arith}
use Rattle.std.specs.Prelude.{pos, Contains, Option}
use Rattle.std.specs.List.{AllByRecursion, concat, sum_by}
use Rattle.std.proofs.Math.Nat.{div-mul-le_self, mul-le-mul, mul-le-mul_left, mul-le-mul_right}
use Rattle.std.proofs.lemmas.List.Elements.{recursion_from_All}
use Rattle.std.proofs.lemmas.List.Sums.{sum_by-cons}
use Rattle.weights.specs.declared.odds.Odds.{Odds}
use Rattle.weights.specs.declared.rules.Rule.TheVariants.{Far}
use Rattle.weights.specs.declared.tails.Tail.{Tail}
use Rattle.weights.specs.declared.TheConstants.{MAX}
use Rattle.weights.specs.Conditional.{distance, observed_statistic, total}
use Rattle.weights.specs.Frames.{IsFrameOf, IsShown}
use Rattle.weights.specs.Rules.{RuleFits}
use Rattle.weights.proofs.Centred.{IsCentred, far_natural-fits, framed, rule-fits, shown as shown-by}
use Rattle.networks.specs.Follows.{Follows}
use Rattle.networks.specs.Judged.{JudgeFits, judge_of}
use Rattle.networks.proofs.Elements.{term-le-sum_by}
use Rattle.networks.proofs.Following.{judge-fits}
use Rattle.strata_cells.specs.declared.stratum.Stratum.{Stratum}
use Rattle.strata_cells.specs.Strata.{first_cells, first_column, first_row, greatest_cell, least_cell, own_labels, size, strata_labellings}
use Rattle.strata_cells.specs.StrataLimits.{IsSmall}
use Rattle.strata_cells.proofs.FirstCells.{cells-within, own-cells}
use Rattle.strata_cells.proofs.StrataSums.{subjects-few, sums-within}
use Rattle.stratified_tests.specs.StrataTests.{centre_by, multiple_of, stratified_test, weight_by}
use Rattle.stratified_tests.specs.StrataNetwork.{stratified_network}
use Rattle.stratified_tests.specs.StrataSteps.{AreFitting, AreOdds, AreStages, greatest_sum, strata_total}
use Rattle.stratified_tests.proofs.Multiples.{multiple-fits}
use Rattle.stratified_tests.proofs.OddsLaws.{weight-least}
use Rattle.stratified_tests.proofs.StrataLaws.{all-some, strata-follow, total-is}

-- ---- the centre

pub mean-within : (q : ℕ) (s : Stratum) → q / size s * (first_row s * first_column s) ≤ q * size s
mean-within q s =
    let sides : first_row s * first_column s ≤ size s * size s = mul-le-mul (row s) (column s) in
    let more : q / size s * (first_row s * first_column s) ≤ q / size s * (size s * size s) = mul-le-mul_left (q / size s) sides in
    let back : q / size s * size s * size s ≤ q * size s = mul-le-mul_right (size s) (div-mul-le_self q (size s)) in
    chain (q / size s) (size s) _ _ more back
  where
    row : (s : Stratum) → first_row s ≤ size s
    row s = omega arith

    column : (s : Stratum) → first_column s ≤ size s
    column s = omega arith

    chain : (w n x y : ℕ) → x ≤ w * (n * n) → w * n * n ≤ y → x ≤ y
    chain w n x y h k = omega (arith, h, k)

pub centre-within : (q : ℕ) (strata : List Stratum) → centre_by q strata ≤ q * sum_by size strata
centre-within q [] = omega arith
centre-within q (s ∷ strata) =
    let all : q * sum_by size (s ∷ strata) ≡ q * size s + q * sum_by size strata = ap (λ n. q * n) (sum_by-cons size s strata) ∙ omega arith in
    omega (arith, mean-within q s, centre-within q strata, all, sum_by-cons (λ s. q / size s * (first_row s * first_column s)) s strata)

all-weigh : (odds : Option Odds) → AreOdds odds → (strata : List Stratum) (rs : List (List ℕ)) → AllByRecursion (λ r. 1 ≤ (stratified_test odds strata).weight r) rs
all-weigh odds o strata [] = tt
all-weigh odds o strata (r ∷ rs) = (weight-least odds o (sum_by first_row strata) (first_cells strata r), all-weigh odds o strata rs)

pub shown : (odds : Option Odds) → AreOdds odds → (strata : List Stratum) → IsShown (stratified_test odds strata)
shown None o strata = shown-by (stratified_test None strata) refl refl (all-weigh None o strata (strata_labellings strata))
shown (Some given) o strata = shown-by (stratified_test (Some given) strata) refl refl (all-weigh (Some given) o strata (strata_labellings strata))

pub own-statistic : (odds : Option Odds) (strata : List Stratum) → observed_statistic (stratified_test odds strata) ≡ pos (sum_by (λ (s : Stratum). s.a) strata)
own-statistic odds strata = ap pos (own-cells strata)

module _ (odds : Option Odds) (strata : List Stratum) (f : AreFitting odds strata) where
  abbrev q : ℕ
  q = multiple_of strata

  -- a number of subjects, times the multiple and less the centre
  pub sum-fits : (v : ℕ) → v ≤ sum_by size strata → RuleFits (Far (multiple_of strata) (pos (centre_by (multiple_of strata) strata)) 0) (pos v)
  sum-fits v h =
      let times : q * v ≤ q * sum_by size strata = mul-le-mul_left q h in
      far_natural-fits q (centre_by q strata) v (multiple-fits strata f.bound_fits) (omega (arith, centre-within q strata, f.bound_fits)) (omega (arith, times, f.bound_fits))

  pub centred : IsCentred (stratified_test odds strata) (multiple_of strata) (pos (centre_by (multiple_of strata) strata))
  centred = record {
    by = refl;
    observed = sum-fits (first_cells strata (concat (map own_labels strata))) (cells-within strata (concat (map own_labels strata)));
    each = λ r m. sum-fits (first_cells strata r) (cells-within strata r);
  }

  fits-at : (v : ℕ) → v ≤ sum_by size strata → JudgeFits (judge_of (stratified_test odds strata)) (pos v)
  fits-at v h = judge-fits (stratified_test odds strata) (judge_of (stratified_test odds strata)) refl (pos v) (λ tail. rule-fits (stratified_test odds strata) centred tail (pos v) (sum-fits v h))

  pub stages-fit : AreStages odds strata (judge_of (stratified_test odds strata))
  stages-fit =
      let high : greatest_sum strata ≤ sum_by size strata = sums-within greatest_cell size (λ s. omega arith) strata in
      let low : sum_by least_cell strata ≤ sum_by size strata = sums-within least_cell size (λ s. omega arith) strata in
      record {
        odds_are = f.odds_are;
        small = f.small;
        total_fits = f.total_fits;
        sums_fit = omega (arith, high, subjects-few strata (recursion_from_All IsSmall strata f.small) f.few);
        low_fits = fits-at (sum_by least_cell strata) low;
        high_fits = fits-at (greatest_sum strata) high;
      }

  pub follows : (tail : Tail) → Follows (stratified_test odds strata) tail (stratified_network odds strata tail)
  follows tail = strata-follow odds strata tail stages-fit

  pub bounded : total (stratified_test odds strata) ≤ MAX
  bounded = omega (arith, total-is odds strata, f.total_fits)

  pub some-labelling : 1 ≤ total (stratified_test odds strata)
  some-labelling = omega (arith, total-is odds strata, all-some odds f.odds_are strata)

  -- a member weighs no more than all
  pub member-fits : (r : List ℕ) → Contains (strata_labellings strata) r → weight_by odds (sum_by first_row strata) (first_cells strata r) ≤ MAX
  member-fits r m = omega (arith, bounded, term-le-sum_by (stratified_test odds strata).weight (strata_labellings strata) r m)

-- what is said of the test, of the strata and the numbers that are at hand
pub framed-at : (odds : Option Odds) (strata tables : List Stratum) (q t : ℕ) → tables ≡ strata → q ≡ multiple_of strata → t ≡ strata_total odds strata
    → let centre = pos (centre_by q tables) in let statistic = pos (sum_by (λ (s : Stratum). s.a) tables) in
    IsFrameOf (stratified_test odds strata) (record { statistic = statistic; scale = 1; total = t; two = Far q centre (distance q centre statistic) })
framed-at odds strata tables q t same e f =
    rw (same, e, f ∙ sym (total-is odds strata))
    (framed (multiple_of strata) (pos (centre_by (multiple_of strata) strata)) (stratified_test odds strata) _ refl (sym (own-statistic odds strata)) refl refl refl)

pub multiple-wide : (strata : List Stratum) → (multiple_of strata ≤ MAX → ⊥) → multiple_of strata * sum_by size strata ≤ MAX → ⊥
multiple-wide strata wide h = wide (multiple-fits strata h)
