-- Steps of the loops over strata.
use Rattle.std.proofs.Common.{◌≡◌, ℕ, ◌+◌, ◌-◌, ◌*◌, ◌<◌, ◌≤◌, List, ◌∷◌, length, drop, nat_eq, cond, refl, sym, ◌∙◌, ap, arith}
use Rattle.std.specs.Prelude.{Option}
use Rattle.std.proofs.Math.Nat.{mul-le-mul_left, mul-le-mul_right}
use Rattle.weights.specs.Numbers.{lcm}
use Rattle.weights.specs.declared.odds.Odds.{Odds}
use Rattle.weights.specs.declared.TheConstants.{MAX}
use Rattle.strata_cells.specs.declared.stratum.Stratum.{Stratum}
use Rattle.strata_cells.specs.Strata.{size, stratum_at}
use Rattle.strata_cells.proofs.StrataSums.{next-drop}
use Rattle.stratified_tests.specs.StrataTests.{multiple_of}
use Rattle.stratified_tests.specs.StrataSteps.{AreOdds, strata_total, stratum_total}
use Rattle.stratified_tests.proofs.Multiples.{last-within}
use Rattle.stratified_tests.proofs.StrataLaws.{all-some, stratum-some}
use Rattle.weights.proofs.Products.{product-some}

-- strata that are weighed
pub record IsTotalled (odds : Option Odds) (strata : List Stratum) (i all : ℕ) : Type 0 where
  pub product : all * strata_total odds (drop i strata) ≡ strata_total odds strata
  pub some : 1 ≤ all
  pub fits : all ≤ MAX

module _ (odds : Option Odds) (strata : List Stratum) where
  module _ (o : AreOdds odds) (i all : ℕ) (h : i < length strata) (s : IsTotalled odds strata i all) where
    next : strata_total odds (drop i strata) ≡ stratum_total odds (stratum_at strata i) * strata_total odds (drop (i + 1) strata)
    next = rw (next-drop strata i h) refl

    -- the product with the next one is within that of all, and so is the next one
    pub product-within : all * stratum_total odds (stratum_at strata i) ≤ strata_total odds strata
    product-within = by (stratum_total odds (stratum_at strata i)) (strata_total odds (drop (i + 1) strata)) next (all-some odds o (drop (i + 1) strata))
      where
        by : (m n : ℕ) → strata_total odds (drop i strata) ≡ m * n → 1 ≤ n → all * m ≤ strata_total odds strata
        by m n e k = (let more : all * m * 1 ≤ all * m * n = mul-le-mul_left (all * m) k in let whole : all * (m * n) ≡ strata_total odds strata = rw e at s.product in omega (arith, more, whole))

    pub one-within : stratum_total odds (stratum_at strata i) ≤ strata_total odds strata
    one-within = let more : 1 * stratum_total odds (stratum_at strata i) ≤ all * stratum_total odds (stratum_at strata i) = mul-le-mul_right (stratum_total odds (stratum_at strata i)) s.some in omega (arith, more, product-within)

    pub product-next : all * stratum_total odds (stratum_at strata i) ≤ MAX → IsTotalled odds strata (i + 1) (all * stratum_total odds (stratum_at strata i))
    product-next fit = record {
      product = by (stratum_total odds (stratum_at strata i)) (strata_total odds (drop (i + 1) strata)) next;
      some = product-some all (stratum_total odds (stratum_at strata i)) s.some (stratum-some odds o (stratum_at strata i));
      fits = fit;
    }
      where
        by : (m n : ℕ) → strata_total odds (drop i strata) ≡ m * n → all * m * n ≡ strata_total odds strata
        by m n e = (let whole : all * (m * n) ≡ strata_total odds strata = rw e at s.product in omega (arith, whole))

-- the multiple of the last strata
pub record IsMultiple (strata : List Stratum) (done multiple : ℕ) : Type 0 where
  pub last : multiple ≡ multiple_of (drop (length strata - done) strata)
  pub fits : multiple ≤ MAX

module _ (strata : List Stratum) where
  module _ (done multiple : ℕ) (h : done < length strata) (s : IsMultiple strata done multiple) where
    abbrev one : Stratum
    one = stratum_at strata (length strata - done - 1)

    pub multiple-more : cond (nat_eq (size one) 0) multiple (lcm (size one) multiple) ≡ multiple_of (drop (length strata - (done + 1)) strata)
    multiple-more =
        let here : length strata - (done + 1) ≡ length strata - done - 1 = omega arith in
        let next : length strata - done - 1 + 1 ≡ length strata - done = omega (arith, h) in
        let cut : drop (length strata - done - 1) strata ≡ one ∷ drop (length strata - done) strata = next-drop strata (length strata - done - 1) (omega (arith, h)) ∙ ap (λ n. one ∷ drop n strata) next in
        ap (λ m. cond (nat_eq (size one) 0) m (lcm (size one) m)) s.last ∙ ap multiple_of (sym cut) ∙ ap (λ n. multiple_of (drop n strata)) (sym here)

    pub multiple-within : cond (nat_eq (size one) 0) multiple (lcm (size one) multiple) ≤ multiple_of strata
    multiple-within = omega (arith, multiple-more, last-within (length strata - (done + 1)) strata)
