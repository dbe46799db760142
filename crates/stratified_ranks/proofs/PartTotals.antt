-- How many labellings all strata have, stratum by stratum.
use Rattle.std.proofs.Common.{◌≡◌, ℕ, ◌+◌, ◌*◌, ◌<◌, ◌≤◌, List, [], ◌∷◌, length, drop, get_or, refl, arith}
use Rattle.std.proofs.Math.Nat.{mul-le-mul_left, mul-le-mul_right, mul-le-mul}
use Rattle.std.proofs.lemmas.List.{drop_more}
use Rattle.weights.specs.declared.TheConstants.{MAX}
use Rattle.weights.proofs.FirstLabel.{number_of_labellings-positive}
use Rattle.stratified_ranks.specs.StrataSteps.{part_sizes, part_ways, parts_total}
use Rattle.stratified_ranks.specs.declared.rank_strata.Part.{Part}

abbrev pub no_part : Part
no_part = record { subjects = 0; second = 0 }

pub record IsTotalled (parts : List Part) (i all : ℕ) : Type 0 where
  pub product : all * parts_total (drop i parts) ≡ parts_total parts
  pub some : 1 ≤ all
  pub fits : all ≤ MAX

some-way : (p : Part) → 1 ≤ part_ways p
some-way p = number_of_labellings-positive (part_sizes p)

pub all-some : (parts : List Part) → 1 ≤ parts_total parts
all-some [] = omega arith
all-some (p ∷ parts) = mul-le-mul (some-way p) (all-some parts)

module _ (parts : List Part) where
  module _ (i all : ℕ) (h : i < length parts) (s : IsTotalled parts i all) where
    abbrev here : Part
    here = get_or parts i no_part

    next : parts_total (drop i parts) ≡ part_ways here * parts_total (drop (i + 1) parts)
    next = rw (drop_more parts i no_part h) refl

    -- the product with the next one is within that of all, and so is the next one
    pub product-within : all * part_ways here ≤ parts_total parts
    product-within = by (part_ways here) (parts_total (drop (i + 1) parts)) next (all-some (drop (i + 1) parts))
      where
        by : (m n : ℕ) → parts_total (drop i parts) ≡ m * n → 1 ≤ n → all * m ≤ parts_total parts
        by m n e k = (let more : all * m * 1 ≤ all * m * n = mul-le-mul_left (all * m) k in let whole : all * (m * n) ≡ parts_total parts = rw e at s.product in omega (arith, more, whole))

    pub one-within : part_ways here ≤ parts_total parts
    one-within = let more : 1 * part_ways here ≤ all * part_ways here = mul-le-mul_right (part_ways here) s.some in omega (arith, more, product-within)

    pub product-next : all * part_ways here ≤ MAX → IsTotalled parts (i + 1) (all * part_ways here)
    product-next fit = record {
      product = by (part_ways here) (parts_total (drop (i + 1) parts)) next;
      some = mul-le-mul s.some (some-way here);
      fits = fit;
    }
      where
        by : (m n : ℕ) → parts_total (drop i parts) ≡ m * n → all * m * n ≡ parts_total parts
        by m n e = (let whole : all * (m * n) ≡ parts_total parts = rw e at s.product in omega (arith, whole))
