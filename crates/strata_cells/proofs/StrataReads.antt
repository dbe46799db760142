-- Strata that are read from their cells, and within the limits of a file.
use Rattle.std.proofs.Common.{◌≡◌, ℕ, zero, suc, ◌+◌, ◌-◌, ◌*◌, ◌/◌, ◌<◌, ◌≤◌, List, [], ◌∷◌, ◌++◌, append_assoc, length, take, drop, get_or, refl, sym, ◌∙◌, ap, arith}
use Rattle.std.specs.Prelude.{All}
use Rattle.std.specs.List.{AllByRecursion}
use Rattle.std.proofs.lemmas.List.{get_or-drop, get_or-take}
use Rattle.std.proofs.lemmas.List.Elements.{All-from_recursion, recursion_from_All}
use Rattle.strata_cells.specs.declared.stratum.Stratum.{Stratum}
use Rattle.strata_cells.specs.Strata.{strata_of_cells, strata_of, stratum_of}
use Rattle.strata_cells.specs.StrataLimits.{IsSmall}
use Rattle.strata_cells.proofs.StrataSums.{past-drop}

drops : (m n : ℕ) (xs : List ℕ) → drop m (drop n xs) ≡ drop (n + m) xs
drops m zero xs = ap (λ i. drop i xs) (let e : m ≡ 0 + m = omega arith in e)
drops m (suc n) [] = past-drop {X = ℕ} [] m (omega arith) ∙ sym (past-drop {X = ℕ} [] (suc n + m) (omega arith))
drops m (suc n) (x ∷ xs) = drops m n xs ∙ ap (λ i. drop i (x ∷ xs)) (let e : suc (n + m) ≡ suc n + m = omega arith in e)

-- strata that are read
pub record IsRead (cells : List ℕ) (n : ℕ) (strata : List Stratum) : Type 0 where
  pub reading : strata ++ strata_of_cells (length cells / 4 - n) (drop (4 * n) cells) ≡ strata_of cells

module _ (cells : List ℕ) where
  pub stratum-is : (n : ℕ) → stratum_of (take 4 (drop (4 * n) cells)) ≡ record { a = get_or cells (4 * n) 0; b = get_or cells (4 * n + 1) 0; c = get_or cells (4 * n + 2) 0; d = get_or cells (4 * n + 3) 0 }
  stratum-is n = rw (at 0 (omega arith), at 1 (omega arith), at 2 (omega arith), at 3 (omega arith)) (ap (λ i. record { a = get_or cells i 0; b = get_or cells (4 * n + 1) 0; c = get_or cells (4 * n + 2) 0; d = get_or cells (4 * n + 3) 0 }) (let e : 4 * n + 0 ≡ 4 * n = omega arith in e))
    where
      at : (i : ℕ) → i < 4 → get_or (take 4 (drop (4 * n) cells)) i 0 ≡ get_or cells (4 * n + i) 0
      at i h = get_or-take 4 (drop (4 * n) cells) i 0 h ∙ get_or-drop (4 * n) cells i 0

  pub read-next : (n : ℕ) (strata : List Stratum) → n < length cells / 4 → IsRead cells n strata → IsRead cells (n + 1) (strata ++ stratum_of (take 4 (drop (4 * n) cells)) ∷ [])
  read-next n strata h s =
      let left : length cells / 4 - n ≡ suc (length cells / 4 - (n + 1)) = omega (arith, h) in
      let on : drop 4 (drop (4 * n) cells) ≡ drop (4 * (n + 1)) cells = drops 4 (4 * n) cells ∙ ap (λ i. drop i cells) (let e : 4 * n + 4 ≡ 4 * (n + 1) = omega arith in e) in
      record {
        reading = append_assoc strata (stratum_of (take 4 (drop (4 * n) cells)) ∷ []) (strata_of_cells (length cells / 4 - (n + 1)) (drop (4 * (n + 1)) cells))
            ∙ ap (λ rest. strata ++ stratum_of (take 4 (drop (4 * n) cells)) ∷ strata_of_cells (length cells / 4 - (n + 1)) rest) (sym on)
            ∙ ap (λ m. strata ++ strata_of_cells m (drop (4 * n) cells)) (sym left) ∙ s.reading;
      }

strata-many : (n : ℕ) (cells : List ℕ) → length (strata_of_cells n cells) ≡ n
strata-many zero cells = refl
strata-many (suc n) cells = ap suc (strata-many n (drop 4 cells))

pub strata-few : (cells : List ℕ) → length cells ≤ 4 * 10000 → length (strata_of cells) ≤ 10000
strata-few cells h = omega (arith, strata-many (length cells / 4) cells, few (length cells) h)
  where
    few : (n : ℕ) → n ≤ 4 * 10000 → n / 4 ≤ 10000
    few n h = omega (arith, h)

small-in : (n : ℕ) (cells : List ℕ) → ((i : ℕ) → get_or cells i 0 ≤ 1000000) → AllByRecursion IsSmall (strata_of_cells n cells)
small-in zero cells h = tt
small-in (suc n) cells h =
    let at : (i : ℕ) → i < 4 → get_or (take 4 cells) i 0 ≤ 1000000 = λ i l. rw (get_or-take 4 cells i 0 l) (h i) in
    ((at 0 (omega arith), at 1 (omega arith), at 2 (omega arith), at 3 (omega arith)), small-in n (drop 4 cells) (λ i. rw (get_or-drop 4 cells i 0) (h (4 + i))))

pub strata-small : (cells : List ℕ) → All (λ count. count ≤ 1000000) cells → All IsSmall (strata_of cells)
strata-small cells h = All-from_recursion IsSmall (strata_of cells) (small-in (length cells / 4) cells (λ i. each cells (recursion_from_All (λ count. count ≤ 1000000) cells h) i))
  where
    each : (cs : List ℕ) → AllByRecursion (λ count. count ≤ 1000000) cs → (i : ℕ) → get_or cs i 0 ≤ 1000000
    each [] a i = omega arith
    each (c ∷ cs) a zero = a.0
    each (c ∷ cs) a (suc i) = each cs a.1 i
