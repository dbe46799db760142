-- A table is one with these sums of its lines and over its lines, and so is the table transposed.
use Rattle.std.proofs.Common.{◌≡◌, ℕ, zero, suc, ◌+◌, ◌-◌, List, [], ◌∷◌, length, map, true, refl, sym, ◌∙◌, ap, subst, arith}
use Rattle.std.specs.Prelude.{replicate}
use Rattle.std.specs.List.{sum}
use Rattle.std.proofs.lemmas.Bool.{le-leb}
use Rattle.std.proofs.lemmas.List.{length-map, length-replicate}
use Rattle.weights.specs.Grouped.{fits, minus}
use Rattle.weights.proofs.Sized.{length-minus, plus}
use Rattle.weights.proofs.Tables.{IsTable}
use Rattle.completion_bounds.proofs.Factorials.{IsWithin, total, total-is}
use Rattle.completion_bounds.proofs.TableWeights.{filled, left-total, within, within-length}
use Rattle.transposed_tables.specs.Transposed.{transposed}
use Rattle.transposed_tables.proofs.TransposedLines.{AreLong, across, across-transposed, long-transposed, totals-transposed}

-- the columns' sums, and the rows'
pub record HasSums (cs rs : List ℕ) (w : List (List ℕ)) : Type 0 where
  pub long : AreLong (length rs) w
  pub columns : map total w ≡ cs
  pub rows : across (length rs) w ≡ rs

nothing-left : (rows : List ℕ) → total rows ≡ 0 → replicate (length rows) 0 ≡ rows
nothing-left [] e = refl
nothing-left (zero ∷ rows) e = ap (λ v. 0 ∷ v) (nothing-left rows (omega (arith, e)))
nothing-left (suc r ∷ rows) e = absurd (omega (arith, e))

plus-minus : (x rows : List ℕ) → IsWithin x rows → plus x (minus rows x) ≡ rows
plus-minus [] [] w = refl
plus-minus [] (r ∷ rows) w = absurd w
plus-minus (a ∷ x) [] w = absurd w
plus-minus (a ∷ x) (r ∷ rows) w =
    let here : a + (r - a) ≡ r = omega (arith, w.0) in
    rw (here, plus-minus x rows w.1) refl

minus-plus : (x z : List ℕ) → length x ≡ length z → minus (plus x z) x ≡ z
minus-plus [] [] e = refl
minus-plus [] (b ∷ z) e = absurd (omega (arith, e))
minus-plus (a ∷ x) [] e = absurd (omega (arith, e))
minus-plus (a ∷ x) (b ∷ z) e =
    let here : (a + b) - a ≡ b = omega arith in
    rw (here, minus-plus x z (omega (arith, e))) refl

fits-plus : (x z : List ℕ) → length x ≡ length z → fits x (plus x z) ≡ true
fits-plus [] [] e = refl
fits-plus [] (b ∷ z) e = absurd (omega (arith, e))
fits-plus (a ∷ x) [] e = absurd (omega (arith, e))
fits-plus (a ∷ x) (b ∷ z) e = rw (le-leb a (a + b) (omega arith), fits-plus x z (omega (arith, e))) refl

length-plus : (x z : List ℕ) → length x ≡ length z → length (plus x z) ≡ length z
length-plus [] [] e = refl
length-plus [] (b ∷ z) e = absurd (omega (arith, e))
length-plus (a ∷ x) [] e = absurd (omega (arith, e))
length-plus (a ∷ x) (b ∷ z) e = ap suc (length-plus x z (omega (arith, e)))

pub length-across : (k : ℕ) (w : List (List ℕ)) → AreLong k w → length (across k w) ≡ k
length-across k [] a = length-replicate k 0
length-across k (x ∷ w) a = let rest = length-across k w a.1 in length-plus x (across k w) (a.0 ∙ sym rest) ∙ rest

pub sums-of-table : (columns rows : List ℕ) (w : List (List ℕ)) → total columns ≡ total rows → IsTable columns rows w → HasSums columns rows w
sums-of-table [] rows [] e t = record { long = tt; columns = refl; rows = nothing-left rows (sym e) }
sums-of-table [] rows (x ∷ w) e t = absurd t
sums-of-table (c ∷ columns) rows [] e t = absurd t
sums-of-table (c ∷ columns) rows (x ∷ w) e t =
    let inside : IsWithin x rows = within c rows x t.0 in
    let here : total x ≡ c = filled c rows x t.0 in
    let rest = sums-of-table columns (minus rows x) w (omega (arith, e, here, left-total rows x inside)) t.1 in
    let same : length (minus rows x) ≡ length rows = length-minus rows x in
    record {
      long = (within-length x rows inside, subst (λ n. AreLong n w) same rest.long);
      columns = rw (here, rest.columns) refl;
      rows = ap (plus x) (subst (λ n. across n w ≡ minus rows x) same rest.rows) ∙ plus-minus x rows inside;
    }

pub table-of-sums : (columns rows : List ℕ) (w : List (List ℕ)) → HasSums columns rows w → IsTable columns rows w
table-of-sums [] rows [] s = tt
table-of-sums [] rows (x ∷ w) s = absurd (cc s.columns)
table-of-sums (c ∷ columns) rows [] s = absurd (cc s.columns)
table-of-sums (c ∷ columns) rows (x ∷ w) s =
    let rest = across (length rows) w in
    let level : length x ≡ length rest = s.long.0 ∙ sym (length-across (length rows) w s.long.1) in
    let here : total x ≡ c = cc s.columns in
    let later : map total w ≡ columns = cc s.columns in
    let left : minus rows x ≡ rest = subst (λ r. minus r x ≡ rest) s.rows (minus-plus x rest level) in
    let same : length (minus rows x) ≡ length rows = length-minus rows x in (
      record { long = s.long.0; whole = sym (total-is x) ∙ here; fitting = subst (λ r. fits x r ≡ true) s.rows (fits-plus x rest level) },
      table-of-sums columns (minus rows x) w (record {
        long = subst (λ n. AreLong n w) (sym same) s.long.1;
        columns = later;
        rows = subst (λ n. across n w ≡ minus rows x) (sym same) (sym left);
      }),
    )

pub transposed-sums : (columns rows : List ℕ) (w : List (List ℕ)) → HasSums columns rows w → HasSums rows columns (transposed (length rows) w)
transposed-sums columns rows w s =
    let wide : length w ≡ length columns = sym (length-map w total) ∙ ap length s.columns in
    record {
      long = subst (λ n. AreLong n (transposed (length rows) w)) wide (long-transposed (length rows) w);
      columns = totals-transposed (length rows) w s.long ∙ s.rows;
      rows = subst (λ n. across n (transposed (length rows) w) ≡ columns) wide (across-transposed (length rows) w s.long ∙ s.columns);
    }

pub wide-table : (columns rows : List ℕ) (w : List (List ℕ)) → HasSums columns rows w → length w ≡ length columns
wide-table columns rows w s = sym (length-map w total) ∙ ap length s.columns

pub level-totals : (columns rows : List ℕ) → sum columns ≡ sum rows → total columns ≡ total rows
level-totals columns rows e = total-is columns ∙ e ∙ sym (total-is rows)
