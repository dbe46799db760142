-- Sums over a range, term by term, that pass no limit.
use Rattle.std.proofs.Common.{◌≡◌, ℕ, ◌+◌, ◌-◌, ◌<◌, ◌≤◌, [], sym, ◌∙◌, ap, arith}
use Rattle.std.specs.List.{range_with_len, sum_by}
use Rattle.std.proofs.lemmas.List.Sums.{sum_by-cons}
use Rattle.weights.specs.declared.TheConstants.{MAX}
use Rattle.weights.proofs.CellSums.{divided}

-- terms that are added
pub record IsAdded (f : ℕ → ℕ) (least most cell all : ℕ) : Type 0 where
  pub from : least ≤ cell
  pub within : cell ≤ most + 1
  pub adding : all ≡ sum_by f (range_with_len least (cell - least))
  pub fits : all ≤ MAX

module _ (f : ℕ → ℕ) (least most : ℕ) where
  pub added-first : least ≤ most → IsAdded f least most least 0
  added-first h = record { from = omega arith; within = omega (arith, h); adding = ap (λ n. sum_by f (range_with_len least n)) (let e : 0 ≡ least - least = omega arith in e); fits = omega arith }

  module _ (cell all : ℕ) (h : cell < most + 1) (w : IsAdded f least most cell all) where
    added-on : sum_by f (range_with_len least (cell + 1 - least)) ≡ all + f cell
    added-on =
        let long : cell + 1 - least ≡ cell - least + 1 = omega (arith, w.from) in
        let here : least + (cell - least) ≡ cell = omega (arith, w.from) in
        ap (λ n. sum_by f (range_with_len least n)) long ∙ divided f least (cell - least) 1
        ∙ ap (λ n. sum_by f (range_with_len least (cell - least)) + sum_by f (range_with_len n 1)) here
        ∙ omega (arith, sum_by-cons f cell [], w.adding)

    -- the sum with the next one is within that of all
    pub added-within : all + f cell ≤ sum_by f (range_with_len least (most + 1 - least))
    added-within =
        let long : most + 1 - least ≡ (cell + 1 - least) + (most - cell) = omega (arith, w.from, h) in
        rw long (omega (arith, divided f least (cell + 1 - least) (most - cell), added-on))

    pub added-next : all + f cell ≤ MAX → IsAdded f least most (cell + 1) (all + f cell)
    added-next fit = record { from = omega (arith, w.from); within = omega (arith, h); adding = sym added-on; fits = fit }

  pub added-whole : (cell all : ℕ) → most + 1 ≤ cell → IsAdded f least most cell all → all ≡ sum_by f (range_with_len least (most + 1 - least))
  added-whole cell all h w =
      let end : cell - least ≡ most + 1 - least = omega (arith, w.within, h) in
      w.adding ∙ ap (λ n. sum_by f (range_with_len least n)) end
