-- Runs walked two at a time.
use Rattle.std.proofs.Common.{◌≡◌, ℕ, zero, suc, ◌+◌, ◌-◌, ◌*◌, ◌<◌, ◌≤◌, List, [], ◌∷◌, ◌++◌, length, drop, get_or, Bool, true, false, cond, refl, ◌∙◌, ap, sym, subst, arith, length-append, append_assoc, add-one, drop-cons}
use Rattle.std.specs.Prelude.{ℤ, pos, ◌+ℤ◌, ◌*ℤ◌, unsigned_abs, replicate, reverse, nat_le}
use Rattle.std.specs.List.{flat_map, AllByRecursion}
use Rattle.std.proofs.Math.IntN.{zero-*ℤ, suc_ℤ-*ℤ}
use Rattle.std.proofs.Math.Nat.{mul-le-mul_left, mul-le-mul_right, mul-le-mul}
use Rattle.std.proofs.lemmas.Int.{ints, unsigned_abs-mul}
use Rattle.completion_bounds.specs.Pairings.{paired, units_of, row_units, units_from, later_units, greatest_score}
use Rattle.completion_bounds.specs.PairingSteps.{turned}
use Rattle.completion_bounds.specs.declared.pairings.Part.{Part}
use Rattle.completion_bounds.specs.declared.pairings.Later.{Later}
use Rattle.std.proofs.lemmas.List.{length-replicate, replicate_more, length-drop, replicate-append-replicate, append-nil, reverse-append, length-reverse}
use Rattle.std.proofs.Math.ListN.{drop_of_length-le}
use Rattle.std.proofs.lemmas.Grind.{flat_map-append}
use Rattle.completion_bounds.proofs.Products.{suc-out}
use Rattle.completion_bounds.proofs.Rearranged.{all_push}

-- what is left of two lists, and the sum so far: a and b bound the sizes, n counts all pairs
pub record IsHalfway (a b n : ℕ) (all sum : ℤ) (xs ys : List ℤ) : Type 0 where
  pub level : length xs ≡ length ys
  pub value : sum +ℤ paired xs ys ≡ all
  pub small : unsigned_abs sum + length xs * (a * b) ≤ n * (a * b)
  pub rows_small : AllByRecursion (λ x. unsigned_abs x ≤ a) xs
  pub columns_small : AllByRecursion (λ y. unsigned_abs y ≤ b) ys

pub size_add : (x y : ℤ) → unsigned_abs (x +ℤ y) ≤ unsigned_abs x + unsigned_abs y
size_add x y = grind (arith, ints)

product_small : (x y : ℤ) (a b : ℕ) → unsigned_abs x ≤ a → unsigned_abs y ≤ b → unsigned_abs (x *ℤ y) ≤ a * b
product_small x y a b h j = rw (unsigned_abs-mul x y) (mul-le-mul h j)

one_more : (sum p q : ℤ) → (sum +ℤ p) +ℤ q ≡ sum +ℤ (q +ℤ p)
one_more sum p q = omega (arith, ints)

halfway-one : (a b n : ℕ) (all sum x y : ℤ) (xs ys : List ℤ) → IsHalfway a b n all sum (x ∷ xs) (y ∷ ys) → IsHalfway a b n all (sum +ℤ (x *ℤ y)) xs ys
halfway-one a b n all sum x y xs ys h = record {
  level = omega (arith, h.level);
  value = omega (arith, ints, h.value);
  small = let m : ℕ = a * b in let e : (1 + length xs) * (a * b) ≡ a * b + length xs * (a * b) = grind arith in omega (arith, h.small, e, size_add sum (x *ℤ y), product_small x y a b h.rows_small.0 h.columns_small.0);
  rows_small = h.rows_small.1;
  columns_small = h.columns_small.1;
}

pub halfway-step : (a b n : ℕ) (all sum x y : ℤ) (k : ℕ) (xs ys : List ℤ) → IsHalfway a b n all sum (replicate k x ++ xs) (replicate k y ++ ys) → IsHalfway a b n all (sum +ℤ (pos k *ℤ (x *ℤ y))) xs ys
halfway-step a b n all sum x y zero xs ys h = subst (λ s. IsHalfway a b n all s xs ys) (same ∙ ap (λ p. sum +ℤ p) (sym (zero-*ℤ (x *ℤ y)))) h
  where
    same : sum ≡ sum +ℤ pos 0
    same = omega (arith, ints)
halfway-step a b n all sum x y (suc k) xs ys h =
    subst (λ s. IsHalfway a b n all s xs ys) (one_more sum (x *ℤ y) (pos k *ℤ (x *ℤ y)) ∙ ap (λ p. sum +ℤ p) (sym (suc_ℤ-*ℤ (pos k) (x *ℤ y)) ∙ ap (λ p. p *ℤ (x *ℤ y)) (sym (suc-out k))))
    (halfway-step a b n all (sum +ℤ (x *ℤ y)) x y k xs ys (halfway-one a b n all sum x y (replicate k x ++ xs) (replicate k y ++ ys) h))

-- the pairs that come next do not pass the limit
pub halfway-fits : (a b n : ℕ) (all sum x y : ℤ) (k : ℕ) (xs ys : List ℤ) → 1 ≤ k → IsHalfway a b n all sum (replicate k x ++ xs) (replicate k y ++ ys) → unsigned_abs sum + k * (unsigned_abs x * unsigned_abs y) ≤ n * (a * b)
halfway-fits a b n all sum x y zero xs ys s h = absurd (omega (arith, s))
halfway-fits a b n all sum x y (suc k) xs ys s h =
    let each : unsigned_abs x * unsigned_abs y ≤ a * b = mul-le-mul h.rows_small.0 h.columns_small.0 in
    let these : suc k * (unsigned_abs x * unsigned_abs y) ≤ suc k * (a * b) = mul-le-mul_left (suc k) each in
    let long : suc k ≤ length (replicate (suc k) x ++ xs) = omega (arith, length-append (replicate (suc k) x) xs, length-replicate (suc k) x) in
    let more : suc k * (a * b) ≤ length (replicate (suc k) x ++ xs) * (a * b) = mul-le-mul_right (a * b) long in
    omega (arith, h.small, these, more)

-- what is left of the rows and of the columns
abbrev pub row_rest : List Part → ℕ → Part → List ℤ
row_rest rows i row = units_of row ++ row_units (drop i rows)

abbrev pub column_rest : ℕ → List Later → ℕ → Part → List ℤ
column_rest from columns j column = units_of column ++ later_units from (drop j columns)

-- how far a walk has come
pub record IsWalk (a b n : ℕ) (all : ℤ) (from : ℕ) (rows : List Part) (columns : List Later) (i : ℕ) (row : Part) (j : ℕ) (column : Part) (sum : ℤ) : Type 0 where
  pub rows_in : i ≤ length rows
  pub columns_in : j ≤ length columns
  pub halfway : IsHalfway a b n all sum (row_rest rows i row) (column_rest from columns j column)

-- how much is left
abbrev pub walk_left : List Part → List Later → ℕ → Part → ℕ → ℕ
walk_left rows columns i row j = (length rows - i) + (length columns - j) + length (row_rest rows i row)

flat_map-drop : {X A : Type 0} (f : X → List A) (xs : List X) (i : ℕ) (d : X) → i < length xs → flat_map f (drop i xs) ≡ f (get_or xs i d) ++ flat_map f (drop (i + 1) xs)
flat_map-drop f xs i d h = ap (flat_map f) (drop-cons xs i d h ∙ ap (λ k. get_or xs i d ∷ drop k xs) (sym (add-one i)))

empty_run : (p : Part) → p.count ≡ 0 → units_of p ≡ []
empty_run p e = ap (λ k. replicate k p.score) e

rows-step : (rows : List Part) (i : ℕ) (row d : Part) → row.count ≡ 0 → i < length rows → row_rest rows i row ≡ row_rest rows (i + 1) (get_or rows i d)
rows-step rows i row d e h = ap (λ us. us ++ row_units (drop i rows)) (empty_run row e) ∙ flat_map-drop units_of rows i d h

columns-step : (from : ℕ) (columns : List Later) (j : ℕ) (column : Part) (d : Later) → column.count ≡ 0 → j < length columns → column_rest from columns j column ≡ units_from from (get_or columns j d) ++ later_units from (drop (j + 1) columns)
columns-step from columns j column d e h = ap (λ us. us ++ later_units from (drop j columns)) (empty_run column e) ∙ flat_map-drop (units_from from) columns j d h

-- a run from which k units are taken
part_of : (p : Part) (k : ℕ) (rest : List ℤ) → k ≤ p.count → units_of p ++ rest ≡ replicate k p.score ++ (replicate (p.count - k) p.score ++ rest)
part_of p k rest h = ap (λ us. us ++ rest) (ap (λ n. replicate n p.score) (whole p.count k h) ∙ sym (replicate-append-replicate k (p.count - k) p.score)) ∙ append_assoc (replicate k p.score) (replicate (p.count - k) p.score) rest
  where
    whole : (n k : ℕ) → k ≤ n → n ≡ k + (n - k)
    whole n k h = omega (arith, h)

pub left-pairs : (rows : List Part) (columns : List Later) (i : ℕ) (row : Part) (j : ℕ) (k : ℕ) → 1 ≤ k → k ≤ row.count → walk_left rows columns i (record { score = row.score; count = row.count - k }) j < walk_left rows columns i row j
left-pairs rows columns i row j k s h = omega (arith, s, h, length-append (units_of row) (row_units (drop i rows)), length-append (replicate (row.count - k) row.score) (row_units (drop i rows)), length-replicate row.count row.score, length-replicate (row.count - k) row.score)

module _ (a b n : ℕ) (all : ℤ) (from : ℕ) (rows : List Part) (columns : List Later) where
  pub walk-row : (i : ℕ) (row : Part) (j : ℕ) (column : Part) (sum : ℤ) (d : Part) → row.count ≡ 0 → i < length rows → IsWalk a b n all from rows columns i row j column sum → IsWalk a b n all from rows columns (i + 1) (get_or rows i d) j column sum
  walk-row i row j column sum d e h w = record {
    rows_in = omega (arith, h);
    columns_in = w.columns_in;
    halfway = subst (λ xs. IsHalfway a b n all sum xs (column_rest from columns j column)) (rows-step rows i row d e h) w.halfway;
  }

  -- units of rows are left, so a column is
  pub column_left : (i : ℕ) (row : Part) (j : ℕ) (column : Part) (sum : ℤ) → 0 < row.count → column.count ≡ 0 → IsWalk a b n all from rows columns i row j column sum → j < length columns
  column_left i row j column sum h e w = by (drop j columns) refl
    where
      some : 1 ≤ length (column_rest from columns j column)
      some = omega (arith, h, w.halfway.level, length-append (units_of row) (row_units (drop i rows)), length-replicate row.count row.score)

      by : (left : List Later) → drop j columns ≡ left → j < length columns
      by [] f = absurd (omega (arith, some, length-append (units_of column) (later_units from (drop j columns)), ap length (empty_run column e), ap (λ cs. length (later_units from cs)) f))
      by (c ∷ cs) f = omega (arith, length-drop j columns, ap length f)

  pub walk-skip : (i : ℕ) (row : Part) (j : ℕ) (column : Part) (sum : ℤ) (d : Later) → column.count ≡ 0 → j < length columns → (get_or columns j d).stage < from → IsWalk a b n all from rows columns i row j column sum → IsWalk a b n all from rows columns i row (j + 1) column sum
  walk-skip i row j column sum d e h s w = record {
    rows_in = w.rows_in;
    columns_in = omega (arith, h);
    halfway = subst (λ ys. IsHalfway a b n all sum (row_rest rows i row) ys) (columns-step from columns j column d e h ∙ ap (λ us. us ++ later_units from (drop (j + 1) columns)) (skipped from (get_or columns j d) s ∙ sym (empty_run column e))) w.halfway;
  }
    where
      skipped : (from : ℕ) (c : Later) → c.stage < from → units_from from c ≡ []
      skipped from c s = grind (arith, s)

  pub walk-column : (i : ℕ) (row : Part) (j : ℕ) (column : Part) (sum : ℤ) (d : Later) (next : Part) → column.count ≡ 0 → j < length columns → from ≤ (get_or columns j d).stage → next.count ≡ (get_or columns j d).count → next.score ≡ (get_or columns j d).score → IsWalk a b n all from rows columns i row j column sum → IsWalk a b n all from rows columns i row (j + 1) next sum
  walk-column i row j column sum d next e h s k f w = record {
    rows_in = w.rows_in;
    columns_in = omega (arith, h);
    halfway = subst (λ ys. IsHalfway a b n all sum (row_rest rows i row) ys) (columns-step from columns j column d e h ∙ ap (λ us. us ++ later_units from (drop (j + 1) columns)) (read from (get_or columns j d) s ∙ ap (λ m. replicate m (get_or columns j d).score) (sym k) ∙ ap (replicate next.count) (sym f))) w.halfway;
  }
    where
      read : (from : ℕ) (c : Later) → from ≤ c.stage → units_from from c ≡ replicate c.count c.score
      read from c s = grind (arith, s)

  split : (i : ℕ) (row : Part) (j : ℕ) (column : Part) (sum : ℤ) (k : ℕ) → k ≤ row.count → k ≤ column.count → IsWalk a b n all from rows columns i row j column sum → IsHalfway a b n all sum (replicate k row.score ++ (replicate (row.count - k) row.score ++ row_units (drop i rows))) (replicate k column.score ++ (replicate (column.count - k) column.score ++ later_units from (drop j columns)))
  split i row j column sum k h g w =
      subst (λ xs. IsHalfway a b n all sum xs (replicate k column.score ++ (replicate (column.count - k) column.score ++ later_units from (drop j columns)))) (part_of row k (row_units (drop i rows)) h)
      (subst (λ ys. IsHalfway a b n all sum (row_rest rows i row) ys) (part_of column k (later_units from (drop j columns)) g) w.halfway)

  pub walk-pairs : (i : ℕ) (row : Part) (j : ℕ) (column : Part) (sum : ℤ) (k : ℕ) → k ≤ row.count → k ≤ column.count → IsWalk a b n all from rows columns i row j column sum → IsWalk a b n all from rows columns i (record { score = row.score; count = row.count - k }) j (record { score = column.score; count = column.count - k }) (sum +ℤ (pos k *ℤ (row.score *ℤ column.score)))
  walk-pairs i row j column sum k h g w = record {
    rows_in = w.rows_in;
    columns_in = w.columns_in;
    halfway = halfway-step a b n all sum row.score column.score k _ _ (split i row j column sum k h g w);
  }

  pub walk-fits : (i : ℕ) (row : Part) (j : ℕ) (column : Part) (sum : ℤ) (k : ℕ) → 1 ≤ k → k ≤ row.count → k ≤ column.count → IsWalk a b n all from rows columns i row j column sum → unsigned_abs sum + k * (unsigned_abs row.score * unsigned_abs column.score) ≤ n * (a * b)
  walk-fits i row j column sum k s h g w = halfway-fits a b n all sum row.score column.score k _ _ s (split i row j column sum k h g w)

  pub walk-end : (i : ℕ) (row : Part) (j : ℕ) (column : Part) (sum : ℤ) → row.count ≡ 0 → length rows ≤ i → IsWalk a b n all from rows columns i row j column sum → sum ≡ all
  walk-end i row j column sum e h w = last (ap (λ us. us ++ row_units (drop i rows)) (empty_run row e) ∙ ap (λ ps. row_units ps) (drop_of_length-le rows h)) w.halfway.value
    where
      last : row_rest rows i row ≡ [] → sum +ℤ paired (row_rest rows i row) (column_rest from columns j column) ≡ all → sum ≡ all
      last f v = no_more sum ∙ ap (λ xs. sum +ℤ paired xs (column_rest from columns j column)) (sym f) ∙ v
        where
          no_more : (sum : ℤ) → sum ≡ sum +ℤ pos 0
          no_more sum = omega (arith, ints)

-- runs the other way round
reverse_replicate : {A : Type 0} (n : ℕ) (a : A) → reverse (replicate n a) ≡ replicate n a
reverse_replicate zero a = refl
reverse_replicate (suc n) a = reverse-append (a ∷ []) (replicate n a) ∙ ap (λ us. us ++ a ∷ []) (reverse_replicate n a) ∙ replicate_more n a ∙ ap (λ k. replicate k a) (add-one n)

reverse_run : (from : ℕ) (c : Later) → reverse (units_from from c) ≡ units_from from c
reverse_run from c = by (nat_le from c.stage)
  where
    by : (t : Bool) → reverse (cond t (replicate c.count c.score) []) ≡ cond t (replicate c.count c.score) []
    by true = reverse_replicate c.count c.score
    by false = refl

pub later_units-reverse : (from : ℕ) (columns : List Later) → later_units from (reverse columns) ≡ reverse (later_units from columns)
later_units-reverse from [] = refl
later_units-reverse from (c ∷ cs) =
    ap (later_units from) (reverse-append (c ∷ []) cs) ∙ flat_map-append (units_from from) (reverse cs) (c ∷ []) ∙
    ap (λ us. later_units from (reverse cs) ++ us) (append-nil (units_from from c) ∙ sym (reverse_run from c)) ∙
    ap (λ us. us ++ reverse (units_from from c)) (later_units-reverse from cs) ∙ sym (reverse-append (units_from from c) (later_units from cs))

sizes : (xs : List ℤ) (m : ℕ) → greatest_score xs ≤ m → AllByRecursion (λ x. unsigned_abs x ≤ m) xs
sizes [] m h = tt
sizes (x ∷ xs) m h = (omega (arith, h), sizes xs m (omega (arith, h)))

all_reverse : (P : ℤ → Type 0) (xs : List ℤ) → AllByRecursion P xs → AllByRecursion P (reverse xs)
all_reverse P [] a = tt
all_reverse P (x ∷ xs) a = subst (AllByRecursion P) (sym (reverse-append (x ∷ []) xs)) (all_push P (reverse xs) x (all_reverse P xs a.1) a.0)

pub walk-start : (from : ℕ) (rows : List Part) (columns : List Later) (downwards : Bool) → length (row_units rows) ≡ length (later_units from columns) →
    IsWalk (greatest_score (row_units rows)) (greatest_score (later_units from columns)) (length (row_units rows)) (paired (row_units rows) (later_units from (turned downwards columns))) from rows (turned downwards columns) 0 (record { score = pos 0; count = 0 }) 0 (record { score = pos 0; count = 0 }) (pos 0)
walk-start from rows columns downwards e = record {
  rows_in = omega arith;
  columns_in = omega arith;
  halfway = record {
    level = e ∙ long downwards;
    value = omega (arith, ints);
    small = omega arith;
    rows_small = sizes (row_units rows) (greatest_score (row_units rows)) (omega arith);
    columns_small = small downwards;
  };
}
  where
    long : (d : Bool) → length (later_units from columns) ≡ length (later_units from (turned d columns))
    long true = sym (ap length (later_units-reverse from columns) ∙ length-reverse (later_units from columns))
    long false = refl

    small : (d : Bool) → AllByRecursion (λ y. unsigned_abs y ≤ greatest_score (later_units from columns)) (later_units from (turned d columns))
    small true = subst (AllByRecursion (λ y. unsigned_abs y ≤ greatest_score (later_units from columns))) (sym (later_units-reverse from columns)) (all_reverse (λ y. unsigned_abs y ≤ greatest_score (later_units from columns)) (later_units from columns) (sizes (later_units from columns) _ (omega arith)))
    small false = sizes (later_units from columns) _ (omega arith)

pub length-turned : (downwards : Bool) (columns : List Later) → length (turned downwards columns) ≡ length columns
length-turned true columns = length-reverse columns
length-turned false columns = refl
