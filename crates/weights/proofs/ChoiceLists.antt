-- What each choice of counts has, and lists of labels put together.
use Rattle.std.proofs.Common.{◌≡◌, ℕ, zero, suc, ◌+◌, ◌-◌, ◌<◌, List, [], ◌∷◌, ◌++◌, length, min, Bool, true, false, cond, refl, sym, ◌∙◌, ap, arith, nat_eq, suc-add, zero-add}
use Rattle.std.specs.List.{sum_by, sum, AllByRecursion, range_with_len}
use Rattle.std.proofs.lemmas.List.Sums.{sum_by-cons}
use Rattle.std.proofs.lemmas.Bool.{le-leb, eqb-true}
use Rattle.weights.specs.Labellings.{labels, lists_over}
use Rattle.weights.specs.Grouped.{fits, choices}
use Rattle.weights.proofs.Filters.{all_weaker}
use Rattle.weights.proofs.Members.{all_fronts, range-below}
use Rattle.weights.proofs.Sums.{sum_by-same, sum_by-fronts}

-- the lists of a + b labels are those of a labels, each before each of b labels
pub sum_by-lists_over : (f : List ℕ → ℕ) (a b k : ℕ) → sum_by f (lists_over (a + b) k) ≡ sum_by (λ ys. sum_by (λ zs. f (ys ++ zs)) (lists_over b k)) (lists_over a k)
sum_by-lists_over f zero b k = rw (zero-add b) (sym (zero-add (sum_by f (lists_over b k))))
sum_by-lists_over f (suc a) b k =
    ap (λ n. sum_by f (lists_over n k)) (suc-add a b)
    ∙ sum_by-fronts f (λ l. l) (λ l. lists_over (a + b) k) (labels k)
    ∙ sum_by-same _ _ (λ l. sum_by-lists_over (λ xs. f (l ∷ xs)) a b k) (labels k)
    ∙ sym (sum_by-fronts (λ ys. sum_by (λ zs. f (ys ++ zs)) (lists_over b k)) (λ l. l) (λ l. lists_over a k) (labels k))

-- a choice has a count for each row, which sum to c and fit
pub record IsChoice (c : ℕ) (r x : List ℕ) : Type 0 where
  pub long : length x ≡ length r
  pub whole : sum x ≡ c
  pub fitting : fits x r ≡ true

pub choices-each : (c : ℕ) (r : List ℕ) → AllByRecursion (IsChoice c r) (choices c r)
choices-each c [] = by (nat_eq c 0) refl
  where
    by : (b : Bool) → nat_eq c 0 ≡ b → AllByRecursion (IsChoice c []) (cond b ([] ∷ []) [])
    by true e = (record { long = refl; whole = sym (eqb-true c 0 e); fitting = refl }, tt)
    by false e = tt
choices-each c (r ∷ rs) =
    all_fronts (IsChoice c (r ∷ rs)) (λ a. a < 0 + (min c r + 1)) (λ a. choices (c - a) rs)
    (λ a h. all_weaker (IsChoice (c - a) rs) (λ x. IsChoice c (r ∷ rs) (a ∷ x)) (λ x o. record {
      long = ap suc o.long;
      whole = sum_by-cons (λ v. v) a x ∙ omega (arith, o.whole);
      fitting = rw (le-leb a r (omega arith), o.fitting) refl;
    }) (choices (c - a) rs) (choices-each (c - a) rs))
    (range_with_len 0 (min c r + 1)) (range-below 0 (min c r + 1))
