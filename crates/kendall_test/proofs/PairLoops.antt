-- Steps of the loops that count pairs and take choices away.
use Rattle.std.proofs.Common.{◌≡◌, ℕ, ◌+◌, ◌-◌, ◌*◌, ◌<◌, ◌≤◌, List, ◌∷◌, length, get_or, drop, refl, sym, ◌∙◌, ap, subst, arith, add-one, drop-cons, drop-drop}
use Rattle.std.specs.List.{sum}
use Rattle.std.proofs.Math.Nat.{mul-le-mul}
use Rattle.std.proofs.lemmas.List.Sums.{sum_by-cons, sum_by-take-drop}
use Rattle.kendall_test.specs.KendallNetwork.{concordant_pairs}
use Rattle.kendall_test.proofs.KendallNarrows.{concordant-most}

-- the pairs of the places from i on, and what stands later there
pub record IsPairing (here later : List ℕ) (i pairs greater : ℕ) : Type 0 where
  pub long : length here ≡ length later
  pub few_here : sum here ≤ 120
  pub few_later : sum later ≤ 120
  pub within : i ≤ length here
  pub pairs_are : pairs ≡ concordant_pairs (drop i here) (drop i later)
  pub greater_is : greater ≡ sum (drop i later)

-- one place further to the front
pub record IsPairingOn (here later : List ℕ) (i product pairs greater : ℕ) : Type 0 where
  pub product_fits : product ≤ 14400
  pub pairs_fit : pairs ≤ 14400
  pub greater_fits : greater ≤ 120
  pub next : IsPairing here later i pairs greater

pub pairing-next : {here later : List ℕ} {i pairs greater : ℕ} → IsPairing here later i pairs greater → 0 < i
    → IsPairingOn here later (i - 1) (get_or here (i - 1) 0 * greater) (pairs + get_or here (i - 1) 0 * greater) (greater + get_or later (i - 1) 0)
pairing-next {here = here} {later = later} {i = i} {pairs = pairs} {greater = greater} k some =
    let back : (i - 1) + 1 ≡ i = omega (arith, some) in
    let first : drop (i - 1) here ≡ get_or here (i - 1) 0 ∷ drop i here = subst (λ n. drop (i - 1) here ≡ get_or here (i - 1) 0 ∷ drop n here) back (rw add-one (drop-cons here (i - 1) 0 (omega (arith, some, k.within)))) in
    let second : drop (i - 1) later ≡ get_or later (i - 1) 0 ∷ drop i later = subst (λ n. drop (i - 1) later ≡ get_or later (i - 1) 0 ∷ drop n later) back (rw add-one (drop-cons later (i - 1) 0 (omega (arith, some, k.within, k.long)))) in
    let sums : sum (drop (i - 1) later) ≡ get_or later (i - 1) 0 + greater = ap sum second ∙ sum_by-cons (λ v. v) (get_or later (i - 1) 0) (drop i later) ∙ ap (λ n. get_or later (i - 1) 0 + n) (sym k.greater_is) in
    let all : concordant_pairs (drop (i - 1) here) (drop (i - 1) later) ≡ get_or here (i - 1) 0 * greater + pairs = rw (first, second, k.greater_is, k.pairs_are) refl in
    let few : concordant_pairs (drop (i - 1) here) (drop (i - 1) later) ≤ 14400 = omega (arith, concordant-most (drop (i - 1) here) (drop (i - 1) later), mul-le-mul (drop-few here (i - 1) k.few_here) (drop-few later (i - 1) k.few_later)) in
    record {
      product_fits = omega (arith, all, few);
      pairs_fit = omega (arith, all, few);
      greater_fits = omega (arith, sums, drop-few later (i - 1) k.few_later);
      next = record {
        long = k.long;
        few_here = k.few_here;
        few_later = k.few_later;
        within = omega (arith, k.within);
        pairs_are = omega (arith, all);
        greater_is = omega (arith, sums);
      };
    }
  where
    drop-few : (xs : List ℕ) (i : ℕ) → sum xs ≤ 120 → sum (drop i xs) ≤ 120
    drop-few xs i h = omega (arith, h, sum_by-take-drop (λ v. v) xs i)

-- lists that are the same from a place on
pub same-at : (xs ys : List ℕ) (i : ℕ) → i < length xs → i < length ys → drop i xs ≡ drop i ys → get_or xs i 0 ≡ get_or ys i 0
same-at xs ys i h l e =
    let one : drop i xs ≡ get_or xs i 0 ∷ drop (i + 1) xs = rw add-one (drop-cons xs i 0 h) in
    let two : drop i ys ≡ get_or ys i 0 ∷ drop (i + 1) ys = rw add-one (drop-cons ys i 0 l) in
    ap (λ zs. get_or zs 0 0) (sym one ∙ e ∙ two)

pub same-next : (xs ys : List ℕ) (i : ℕ) → drop i xs ≡ drop i ys → drop (i + 1) xs ≡ drop (i + 1) ys
same-next xs ys i e = sym (drop-drop 1 i xs) ∙ ap (drop 1) e ∙ drop-drop 1 i ys
