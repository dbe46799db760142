-- The tables and the transposed tables are as many, each transposed once.
use Rattle.std.proofs.Common.{◌≡◌, ℕ, List, [], ◌∷◌, length, Bool, true, false, cond, refl, sym, ◌∙◌, ap, subst}
use Rattle.std.specs.List.{sum_by, sum}
use Rattle.weights.specs.Grouped.{same_table, tables}
use Rattle.weights.proofs.Members.{same_refl}
use Rattle.weights.proofs.Sums.{sum_by-same_where, sum_by-swap}
use Rattle.weights.proofs.Tables.{IsTable, listed, listed_once, tables-each, same_table-true}
use Rattle.transposed_tables.specs.Transposed.{transposed}
use Rattle.transposed_tables.specs.TransposedLaws.{IsTransposing}
use Rattle.transposed_tables.proofs.Shapes.{HasSums, level-totals, sums-of-table, table-of-sums, transposed-sums, wide-table}
use Rattle.transposed_tables.proofs.TransposedLines.{transposed-twice}

same-itself : (w : List (List ℕ)) → same_table w w ≡ true
same-itself [] = refl
same-itself (x ∷ w) = rw (same_refl x, same-itself w) refl

pub alike : (a b : Bool) → (a ≡ true → b ≡ true) → (b ≡ true → a ≡ true) → a ≡ b
alike true b f g = sym (f refl)
alike false true f g = g refl
alike false false f g = refl

module _ (columns rows : List ℕ) (level : sum columns ≡ sum rows) where
  pub sums : (w : List (List ℕ)) → IsTable columns rows w → HasSums columns rows w
  sums w t = sums-of-table columns rows w (level-totals columns rows level) t

  pub transposed-table : (w : List (List ℕ)) → IsTable columns rows w → IsTable rows columns (transposed (length rows) w)
  transposed-table w t = table-of-sums rows columns (transposed (length rows) w) (transposed-sums columns rows w (sums w t))

  pub transposed-back : (w : List (List ℕ)) → IsTable columns rows w → transposed (length columns) (transposed (length rows) w) ≡ w
  transposed-back w t = let s = sums w t in ap (λ n. transposed n (transposed (length rows) w)) (sym (wide-table columns rows w s)) ∙ transposed-twice (length rows) w s.long

-- a table transposed is another exactly where the other transposed is the table
same-transposed : (columns rows : List ℕ) → sum columns ≡ sum rows → (w u : List (List ℕ)) → IsTable columns rows w → IsTable rows columns u → same_table (transposed (length rows) w) u ≡ same_table (transposed (length columns) u) w
same-transposed columns rows level w u t v =
    alike (same_table (transposed (length rows) w) u) (same_table (transposed (length columns) u) w)
    (λ e. to_true (transposed (length columns) u) w (ap (transposed (length columns)) (sym (same_table-true (transposed (length rows) w) u e)) ∙ transposed-back columns rows level w t))
    (λ e. to_true (transposed (length rows) w) u (ap (transposed (length rows)) (sym (same_table-true (transposed (length columns) u) w e)) ∙ transposed-back rows columns (sym level) u v))
  where
    to_true : (a b : List (List ℕ)) → a ≡ b → same_table a b ≡ true
    to_true a b e = subst (λ y. same_table a y ≡ true) e (same-itself a)

pub transposing : (columns rows : List ℕ) → sum columns ≡ sum rows → IsTransposing columns rows
transposing columns rows level f =
    sum_by-same_where (IsTable columns rows) (λ w. f (transposed (length rows) w)) (λ w. sum_by (λ u. cond (same_table (transposed (length rows) w) u) (f u) 0) (tables rows columns)) (λ w t.
    sym (listed same_table same_table-true (transposed (length rows) w) f (tables rows columns) (listed_once rows columns (transposed (length rows) w) (transposed-table columns rows level w t)))) (tables columns rows) (tables-each columns rows)
    ∙ sum_by-swap (λ w u. cond (same_table (transposed (length rows) w) u) (f u) 0) (tables columns rows) (tables rows columns)
    ∙ sum_by-same_where (IsTable rows columns) (λ u. sum_by (λ w. cond (same_table (transposed (length rows) w) u) (f u) 0) (tables columns rows)) f (λ u v.
    sum_by-same_where (IsTable columns rows) (λ w. cond (same_table (transposed (length rows) w) u) (f u) 0) (λ w. cond (same_table (transposed (length columns) u) w) (f u) 0) (λ w t. ap (λ b. cond b (f u) 0) (same-transposed columns rows level w u t v)) (tables columns rows) (tables-each columns rows)
    ∙ listed same_table same_table-true (transposed (length columns) u) (λ w. f u) (tables columns rows) (listed_once columns rows (transposed (length columns) u) (transposed-table rows columns (sym level) u v))) (tables rows columns) (tables-each rows columns)
