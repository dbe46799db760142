-- A further row of a table, and the first.
use Rattle.std.proofs.Common.{◌≡◌, ℕ, zero, suc, ◌+◌, ◌-◌, ◌*◌, ◌<◌, ◌≤◌, List, [], ◌∷◌, ◌++◌, length, get_or, refl, sym, ◌∙◌, ap, arith, length-append, inl, inr}
use Rattle.std.specs.Prelude.{ℤ, pos, replicate}
use Rattle.std.specs.Int.{int_min, int_max}
use Rattle.std.proofs.lemmas.List.{get_or-append_right, length-replicate}
use Rattle.std.proofs.lemmas.Bool.Decides.{eqb_tells}
use Rattle.std.proofs.Math.Nat.{mul-le-mul, le_refl}
use Rattle.later_scores.specs.LaterSums.{total_score, part_sum, later_scores}
use Rattle.later_scores.specs.LaterSteps.{IsRow}
use Rattle.later_scores.specs.LaterTables.{IsPartTable, IsTable, IsTotals, IsCounted}
use Rattle.later_scores.proofs.Later.{later-end}
use Rattle.later_scores.proofs.LaterArcs.{part-none}

-- the tables from stage g on, and the rows, total and number of stage g
pub record IsBuilt (scores : List ℤ) (columns : List ℕ) (width g : ℕ) (low high : List ℤ)
    (before : ℕ) (total : ℤ) (least greatest totals : List ℤ) (counts : List ℕ) : Type 0 where
  pub stage : g ≤ length columns
  pub low_long : length low ≡ width
  pub high_long : length high ≡ width
  pub low_row : IsRow int_min (later_scores scores columns g) low
  pub high_row : IsRow int_max (later_scores scores columns g) high
  pub count : before ≡ length (later_scores scores columns g)
  pub whole : total ≡ total_score (later_scores scores columns g)
  pub least_table : IsPartTable int_min scores columns width g least
  pub greatest_table : IsPartTable int_max scores columns width g greatest
  pub all_totals : IsTotals scores columns g totals
  pub all_counts : IsCounted scores columns g counts

front : {X : Type 0} (xs ys : List X) (i : ℕ) (d : X) → i < length xs → get_or (xs ++ ys) i d ≡ get_or xs i d
front [] ys i d h = absurd (omega (arith, h))
front (x ∷ xs) ys zero d h = refl
front (x ∷ xs) ys (suc i) d h = front xs ys i d (omega (arith, h))

more-times : (n w : ℕ) → (n + 1) * w ≡ n * w + w
more-times n w = omega arith

pub table-more : (f : ℕ → ℕ → ℤ) (stages width g : ℕ) (table row : List ℤ) → g < stages + 1 → 1 ≤ g → length row ≡ width → ((j : ℕ) → j < width → get_or row j (pos 0) ≡ f (g - 1) j) → IsTable f stages width g table → IsTable f stages width (g - 1) (table ++ row)
table-more f stages width g table row h k w r t = record {
  long = (let one : suc stages - (g - 1) ≡ (suc stages - g) + 1 = omega (arith, h, k) in rw one (omega (arith, length-append table row, w, t.long, more-times (suc stages - g) width)));
  each = λ i j a b c. elim (eqb_tells i (g - 1)) [
    | inl e ↦ here i j e.1 c
    | inr e ↦ there i j (omega (arith, a, e.1)) b c
  ];
}
  where
    here : (i j : ℕ) → i ≡ g - 1 → j < width → get_or (table ++ row) ((stages - i) * width + j) (pos 0) ≡ f i j
    here i j e c =
        let one : stages - i ≡ suc stages - g = omega (arith, e, h, k) in
        let two : (stages - i) * width ≡ (suc stages - g) * width = ap (λ n. n * width) one in
        let back : ((stages - i) * width + j) - length table ≡ j = omega (arith, t.long, two) in
        get_or-append_right table row (length table) ((stages - i) * width + j) (pos 0) refl (omega (arith, t.long, two)) ∙ ap (λ n. get_or row n (pos 0)) back ∙ r j c ∙ ap (λ n. f n j) (sym e)

    there : (i j : ℕ) → g ≤ i → i ≤ stages → j < width → get_or (table ++ row) ((stages - i) * width + j) (pos 0) ≡ f i j
    there i j a b c =
        let one : (stages - i) + 1 ≤ suc stages - g = omega (arith, a, b) in
        front table row ((stages - i) * width + j) (pos 0) (omega (arith, t.long, (mul-le-mul one (le_refl width)), more-times (stages - i) width, c)) ∙ t.each i j a b c

pub table-first : (f : ℕ → ℕ → ℤ) (stages width : ℕ) (row : List ℤ) → length row ≡ width → ((j : ℕ) → j < width → get_or row j (pos 0) ≡ f stages j) → IsTable f stages width stages row
table-first f stages width row w r = record {
  long = (let one : suc stages - stages ≡ 1 = omega arith in rw one (omega (arith, w)));
  each = λ i j a b c. (let e : i ≡ stages = omega (arith, a, b) in let z : stages - i ≡ 0 = omega (arith, a) in rw z (ap (λ n. get_or row n (pos 0)) (plain width j) ∙ r j c ∙ ap (λ n. f n j) (sym e)));
}
  where
    plain : (w j : ℕ) → 0 * w + j ≡ j
    plain w j = omega arith

module _ (scores : List ℤ) (columns : List ℕ) where
  pub totals-more : (g : ℕ) (totals : List ℤ) (v : ℤ) → g ≤ length columns → 1 ≤ g → v ≡ total_score (later_scores scores columns (g - 1)) → IsTotals scores columns g totals → IsTotals scores columns (g - 1) (totals ++ v ∷ [])
  totals-more g totals v h k w t = record {
    long = omega (arith, length-append totals (v ∷ []), t.long, h, k);
    each = λ i a b. elim (eqb_tells i (g - 1)) [
      | inl e ↦ here i e.1
      | inr e ↦ front totals (v ∷ []) (length columns - i) (pos 0) (omega (arith, t.long, a, b, e.1)) ∙ t.each i (omega (arith, a, e.1)) b
    ];
  }
    where
      here : (i : ℕ) → i ≡ g - 1 → get_or (totals ++ v ∷ []) (length columns - i) (pos 0) ≡ total_score (later_scores scores columns i)
      here i e =
          let back : (length columns - i) - length totals ≡ 0 = omega (arith, t.long, e, h, k) in
          get_or-append_right totals (v ∷ []) (length totals) (length columns - i) (pos 0) refl (omega (arith, t.long, e, h, k)) ∙ ap (λ n. get_or (v ∷ []) n (pos 0)) back ∙ w ∙ ap (λ n. total_score (later_scores scores columns n)) (sym e)

  pub counts-more : (g : ℕ) (counts : List ℕ) (v : ℕ) → g ≤ length columns → 1 ≤ g → v ≡ length (later_scores scores columns (g - 1)) → IsCounted scores columns g counts → IsCounted scores columns (g - 1) (counts ++ v ∷ [])
  counts-more g counts v h k w t = record {
    long = omega (arith, length-append counts (v ∷ []), t.long, h, k);
    each = λ i a b. elim (eqb_tells i (g - 1)) [
      | inl e ↦ here i e.1
      | inr e ↦ front counts (v ∷ []) (length columns - i) 0 (omega (arith, t.long, a, b, e.1)) ∙ t.each i (omega (arith, a, e.1)) b
    ];
  }
    where
      here : (i : ℕ) → i ≡ g - 1 → get_or (counts ++ v ∷ []) (length columns - i) 0 ≡ length (later_scores scores columns i)
      here i e =
          let back : (length columns - i) - length counts ≡ 0 = omega (arith, t.long, e, h, k) in
          get_or-append_right counts (v ∷ []) (length counts) (length columns - i) 0 refl (omega (arith, t.long, e, h, k)) ∙ ap (λ n. get_or (v ∷ []) n 0) back ∙ w ∙ ap (λ n. length (later_scores scores columns n)) (sym e)

  zeros : (n j : ℕ) → get_or (replicate n (pos 0)) j (pos 0) ≡ pos 0
  zeros zero j = refl
  zeros (suc n) zero = refl
  zeros (suc n) (suc j) = zeros n j

  -- at the last stage there are no later scores
  pub built-first : (width : ℕ) → length scores ≡ length columns → IsBuilt scores columns width (length columns) (replicate width (pos 0)) (replicate width (pos 0)) 0 (pos 0) (replicate width (pos 0)) (replicate width (pos 0)) (pos 0 ∷ []) (0 ∷ [])
  built-first width e =
      let none : later_scores scores columns (length columns) ≡ [] = later-end scores columns e in
      let none_yet : (better : ℤ → ℤ → ℤ) (j : ℕ) → get_or (replicate width (pos 0)) j (pos 0) ≡ part_sum better j (later_scores scores columns (length columns)) = λ better j. zeros width j ∙ sym (ap (part_sum better j) none ∙ part-none better j) in
      record {
        stage = omega arith;
        low_long = length-replicate width (pos 0);
        high_long = length-replicate width (pos 0);
        low_row = record { each = λ j h. none_yet int_min j };
        high_row = record { each = λ j h. none_yet int_max j };
        count = sym (ap length none);
        whole = sym (ap total_score none);
        least_table = table-first _ (length columns) width (replicate width (pos 0)) (length-replicate width (pos 0)) (λ j h. none_yet int_min j);
        greatest_table = table-first _ (length columns) width (replicate width (pos 0)) (length-replicate width (pos 0)) (λ j h. none_yet int_max j);
        all_totals = record { long = omega arith; each = λ i a b. (let f : i ≡ length columns = omega (arith, a, b) in let z : length columns - i ≡ 0 = omega (arith, a) in rw z (sym (ap (λ n. total_score (later_scores scores columns n)) f ∙ ap total_score none))) };
        all_counts = record { long = omega arith; each = λ i a b. (let f : i ≡ length columns = omega (arith, a, b) in let z : length columns - i ≡ 0 = omega (arith, a) in rw z (sym (ap (λ n. length (later_scores scores columns n)) f ∙ ap length none))) };
      }

  -- one stage more
  pub built-more : (width g : ℕ) (low high low' high' : List ℤ) (before before' : ℕ) (total total' : ℤ) (least greatest totals : List ℤ) (counts : List ℕ) → 0 < g → IsBuilt scores columns width g low high before total least greatest totals counts →
      length low' ≡ length low → length high' ≡ length high → IsRow int_min (later_scores scores columns (g - 1)) low' → IsRow int_max (later_scores scores columns (g - 1)) high' → before' ≡ length (later_scores scores columns (g - 1)) → total' ≡ total_score (later_scores scores columns (g - 1)) →
      IsBuilt scores columns width (g - 1) low' high' before' total' (least ++ low') (greatest ++ high') (totals ++ total' ∷ []) (counts ++ before' ∷ [])
  built-more width g low high low' high' before before' total total' least greatest totals counts k b ll hl lr hr c t = record {
    stage = omega (arith, b.stage);
    low_long = ll ∙ b.low_long;
    high_long = hl ∙ b.high_long;
    low_row = lr;
    high_row = hr;
    count = c;
    whole = t;
    least_table = table-more _ (length columns) width g least low' (omega (arith, b.stage)) (omega (arith, k)) (ll ∙ b.low_long) (λ j h. lr.each j (omega (arith, h, ll, b.low_long))) b.least_table;
    greatest_table = table-more _ (length columns) width g greatest high' (omega (arith, b.stage)) (omega (arith, k)) (hl ∙ b.high_long) (λ j h. hr.each j (omega (arith, h, hl, b.high_long))) b.greatest_table;
    all_totals = totals-more g totals total' b.stage (omega (arith, k)) t b.all_totals;
    all_counts = counts-more g counts before' b.stage (omega (arith, k)) c b.all_counts;
  }
