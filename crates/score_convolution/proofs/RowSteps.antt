-- What rows of draws say, and how it grows with a subject more.
use Rattle.std.proofs.Common.{◌≡◌, ℕ, zero, suc, ◌+◌, ◌*◌, ◌<◌, ◌≤◌, List, [], ◌∷◌, ◌++◌, length, take, drop, get_or, set, replicate, refl, sym, ◌∙◌, ap, arith, append-nil}
use Rattle.std.specs.Prelude.{ℤ, pos, ◌+ℤ◌}
use Rattle.std.specs.List.{AllByRecursion, sum}
use Rattle.std.proofs.lemmas.Int.{ints}
use Rattle.std.proofs.lemmas.List.{take_all}
use Rattle.node_pool.specs.Nodes.{weighted}
use Rattle.count_arrays.specs.Rows.{row_nodes, stepped}
use Rattle.count_arrays.proofs.RowNodes.{row-none, row-parts}
use Rattle.count_arrays.proofs.RowSums.{row_sum, row_sum-one, sum-cons, weighted-row}
use Rattle.score_convolution.specs.Draws.{draw_sum}
use Rattle.score_convolution.specs.DrawRows.{AreDraws, AreRows, IsDrawRow, NoneAbove, number_of, row_draws, rows_draws, with_one}
use Rattle.score_convolution.specs.declared.rows.DrawRow.{DrawRow}
use Rattle.score_convolution.proofs.DrawSums.{draw-parts, draw-plus}

-- ---- cells

-- what g says of cells from a number on
abbrev pub cells_draws : (ℤ → ℕ) → ℕ → ℤ → List ℕ → ℕ
cells_draws g stride lowest cells = weighted (λ k. g (number_of k)) (row_nodes lowest (pos stride) cells)

sums-same : (g h : ℤ → ℕ) → ((v : ℤ) → g v ≡ h v) → (lowest stride : ℤ) (cells : List ℕ) → row_sum (λ k. g (number_of k)) lowest stride cells ≡ row_sum (λ k. h (number_of k)) lowest stride cells
sums-same g h e lowest stride [] = refl
sums-same g h e lowest stride (c ∷ cells) = rw (e lowest, sums-same g h e (lowest +ℤ stride) stride cells) refl

pub cells-same : (g h : ℤ → ℕ) → ((v : ℤ) → g v ≡ h v) → (stride : ℕ) (lowest : ℤ) (cells : List ℕ) → cells_draws g stride lowest cells ≡ cells_draws h stride lowest cells
cells-same g h e stride lowest cells =
    weighted-row (λ k. g (number_of k)) lowest (pos stride) cells
    ∙ sums-same g h e lowest (pos stride) cells
    ∙ sym (weighted-row (λ k. h (number_of k)) lowest (pos stride) cells)

sums-plus : (g h : ℤ → ℕ) (lowest stride : ℤ) (cells : List ℕ) → row_sum (λ k. g (number_of k) + h (number_of k)) lowest stride cells ≡ row_sum (λ k. g (number_of k)) lowest stride cells + row_sum (λ k. h (number_of k)) lowest stride cells
sums-plus g h lowest stride [] = refl
sums-plus g h lowest stride (c ∷ cells) =
    let spread : c * (g lowest + h lowest) ≡ c * g lowest + c * h lowest = grind arith in
    omega (arith, spread, sums-plus g h (lowest +ℤ stride) stride cells)

pub cells-plus : (g h : ℤ → ℕ) (stride : ℕ) (lowest : ℤ) (cells : List ℕ) → cells_draws (λ v. g v + h v) stride lowest cells ≡ cells_draws g stride lowest cells + cells_draws h stride lowest cells
cells-plus g h stride lowest cells = omega (
  arith,
  weighted-row (λ k. g (number_of k) + h (number_of k)) lowest (pos stride) cells,
  weighted-row (λ k. g (number_of k)) lowest (pos stride) cells,
  weighted-row (λ k. h (number_of k)) lowest (pos stride) cells,
  sums-plus g h lowest (pos stride) cells,
)

sums-none : (lowest stride : ℤ) (cells : List ℕ) → row_sum (λ k. 0) lowest stride cells ≡ 0
sums-none lowest stride [] = refl
sums-none lowest stride (c ∷ cells) = omega (arith, sums-none (lowest +ℤ stride) stride cells)

pub cells-none : (g : ℤ → ℕ) → ((v : ℤ) → g v ≡ 0) → (stride : ℕ) (lowest : ℤ) (cells : List ℕ) → cells_draws g stride lowest cells ≡ 0
cells-none g none stride lowest cells = cells-same g (λ v. 0) none stride lowest cells ∙ weighted-row (λ k. 0) lowest (pos stride) cells ∙ sums-none lowest (pos stride) cells

sums-steady : (m : ℕ) (lowest stride : ℤ) (cells : List ℕ) → row_sum (λ k. m) lowest stride cells ≡ sum cells * m
sums-steady m lowest stride [] = omega arith
sums-steady m lowest stride (c ∷ cells) =
    let spread : (c + sum cells) * m ≡ c * m + sum cells * m = grind arith in
    rw (sum-cons c cells, spread, sums-steady m (lowest +ℤ stride) stride cells) refl

pub cells-steady : (m stride : ℕ) (lowest : ℤ) (cells : List ℕ) → cells_draws (λ v. m) stride lowest cells ≡ sum cells * m
cells-steady m stride lowest cells = weighted-row (λ k. m) lowest (pos stride) cells ∙ sums-steady m lowest (pos stride) cells

sums-moved : (g : ℤ → ℕ) (score lowest stride : ℤ) (cells : List ℕ) → row_sum (λ k. g (number_of k)) (lowest +ℤ score) stride cells ≡ row_sum (λ k. g (number_of k +ℤ score)) lowest stride cells
sums-moved g score lowest stride [] = refl
sums-moved g score lowest stride (c ∷ cells) =
    let on : (lowest +ℤ score) +ℤ stride ≡ (lowest +ℤ stride) +ℤ score = omega (arith, ints) in
    omega (arith, ap (λ z. row_sum (λ k. g (number_of k)) z stride cells) on, sums-moved g score (lowest +ℤ stride) stride cells)

pub cells-moved : (g : ℤ → ℕ) (score : ℤ) (stride : ℕ) (lowest : ℤ) (cells : List ℕ) → cells_draws g stride (lowest +ℤ score) cells ≡ cells_draws (λ v. g (v +ℤ score)) stride lowest cells
cells-moved g score stride lowest cells =
    weighted-row (λ k. g (number_of k)) (lowest +ℤ score) (pos stride) cells
    ∙ sums-moved g score lowest (pos stride) cells
    ∙ sym (weighted-row (λ k. g (number_of k +ℤ score)) lowest (pos stride) cells)

pub cells-one : (g : ℤ → ℕ) (stride : ℕ) (lowest : ℤ) (c : ℕ) → c ≡ 1 → cells_draws g stride lowest (c ∷ []) ≡ g lowest
cells-one g stride lowest c e = weighted-row (λ k. g (number_of k)) lowest (pos stride) (c ∷ []) ∙ once c (g lowest) e
  where
    once : (c n : ℕ) → c ≡ 1 → c * n + 0 ≡ n
    once c n e = rw e (omega arith)

-- the sum of the cells
pub cells-total : (lowest stride : ℤ) (cells : List ℕ) → weighted (λ k. 1) (row_nodes lowest stride cells) ≡ sum cells
cells-total lowest stride cells = weighted-row (λ k. 1) lowest stride cells ∙ row_sum-one lowest stride cells

-- empty cells at the end
pub longer : (f : List ℤ → ℕ) (lowest stride : ℤ) (cells : List ℕ) (n : ℕ) → weighted f (row_nodes lowest stride (cells ++ replicate n 0)) ≡ weighted f (row_nodes lowest stride cells)
longer f lowest stride cells n = ap (weighted f) (row-parts lowest stride cells (replicate n 0) ∙ ap (λ ns. row_nodes lowest stride cells ++ ns) (row-none (stepped lowest stride (length cells)) stride n) ∙ append-nil (row_nodes lowest stride cells))

-- there is a row
pub a-row : {K : Type 0} (rows : List (DrawRow K)) {n : ℕ} → n < length rows → DrawRow K
a-row [] h = absurd (omega (arith, h))
a-row (row ∷ rows) h = row

pub row-total : {K : Type 0} (cells_of : K → List ℕ) (limit stride : ℕ) (row : DrawRow K) → IsDrawRow cells_of limit row → row_draws cells_of (λ v. 1) stride row ≡ row.total
row-total cells_of limit stride row is = cells-total row.lowest (pos stride) (cells_of row.tally) ∙ sym is.whole

-- ---- rows

module _ {K : Type 0} (cells_of : K → List ℕ) (stride : ℕ) where
  abbrev pub of_row : (ℤ → ℕ) → DrawRow K → ℕ
  of_row g row = row_draws cells_of g stride row

  abbrev pub of_rows : (ℕ → ℤ → ℕ) → ℕ → List (DrawRow K) → ℕ
  of_rows f n rows = rows_draws cells_of f n stride rows

  pub rows-same : (f g : ℕ → ℤ → ℕ) → ((n : ℕ) (v : ℤ) → f n v ≡ g n v) → (n : ℕ) (rows : List (DrawRow K)) → of_rows f n rows ≡ of_rows g n rows
  rows-same f g e n [] = refl
  rows-same f g e n (row ∷ rows) = omega (arith, cells-same (f n) (g n) (e n) stride row.lowest (cells_of row.tally), rows-same f g e (n + 1) rows)

  pub rows-none : (f : ℕ → ℤ → ℕ) (n : ℕ) (rows : List (DrawRow K)) → ((m : ℕ) (v : ℤ) → n ≤ m → f m v ≡ 0) → of_rows f n rows ≡ 0
  rows-none f n [] none = refl
  rows-none f n (row ∷ rows) none = omega (arith, cells-none (f n) (λ v. none n v (omega arith)) stride row.lowest (cells_of row.tally), rows-none f (n + 1) rows (λ m v h. none m v (omega (arith, h))))

  pub rows-more : (f : ℕ → ℤ → ℕ) (n : ℕ) (rows : List (DrawRow K)) (row : DrawRow K) → of_rows f n (rows ++ row ∷ []) ≡ of_rows f n rows + of_row (f (n + length rows)) row
  rows-more f n [] row = last (n + 0) (omega arith)
    where
      last : (m : ℕ) → n ≡ m → of_row (f n) row + 0 ≡ 0 + of_row (f m) row
      last m e = rw e (omega arith)
  rows-more f n (first ∷ rows) row =
      let on : (n + 1) + length rows ≡ n + suc (length rows) = omega arith in
      omega (arith, rows-more f (n + 1) rows row, ap (λ m. of_row (f m) row) on)

  -- one row changed
  pub rows-set : (f : ℕ → ℤ → ℕ) (n : ℕ) (rows : List (DrawRow K)) (i : ℕ) (row d : DrawRow K) (more : ℕ) → i < length rows → of_row (f (n + i)) row ≡ of_row (f (n + i)) (get_or rows i d) + more → of_rows f n (set rows i row) ≡ of_rows f n rows + more
  rows-set f n [] i row d more h e = absurd (omega (arith, h))
  rows-set f n (first ∷ rows) zero row d more h e =
      let at : n + 0 ≡ n = omega arith in
      let now : of_row (f n) row ≡ of_row (f n) first + more = (rw at at e) in
      omega (arith, now)
  rows-set f n (first ∷ rows) (suc i) row d more h e =
      let on : n + suc i ≡ (n + 1) + i = omega arith in
      let rest = rows-set f (n + 1) rows i row d more (omega (arith, h)) (rw on at e) in
      omega (arith, rest)

  pub each-set : (P : DrawRow K → Type 0) (rows : List (DrawRow K)) (i : ℕ) (row : DrawRow K) → P row → AllByRecursion P rows → AllByRecursion P (set rows i row)
  each-set P [] i row p all = tt
  each-set P (first ∷ rows) zero row p all = (p, all.1)
  each-set P (first ∷ rows) (suc i) row p all = (all.0, each-set P rows i row p all.1)

  pub each-at : (P : DrawRow K → Type 0) (rows : List (DrawRow K)) (i : ℕ) (d : DrawRow K) → i < length rows → AllByRecursion P rows → P (get_or rows i d)
  each-at P [] i d h all = absurd (omega (arith, h))
  each-at P (first ∷ rows) zero d h all = all.0
  each-at P (first ∷ rows) (suc i) d h all = each-at P rows i d (omega (arith, h)) all.1

  pub get-take : (rows : List (DrawRow K)) (k i : ℕ) (d : DrawRow K) → i < k → get_or (take k rows) i d ≡ get_or rows i d
  get-take rows zero i d h = absurd (omega (arith, h))
  get-take [] (suc k) i d h = refl
  get-take (first ∷ rows) (suc k) zero d h = refl
  get-take (first ∷ rows) (suc k) (suc i) d h = get-take rows k i d (omega (arith, h))

  pub get-drop : (rows : List (DrawRow K)) (k : ℕ) (d : DrawRow K) → get_or (drop k rows) 0 d ≡ get_or rows k d
  get-drop rows zero d = refl
  get-drop [] (suc k) d = refl
  get-drop (first ∷ rows) (suc k) d = get-drop rows k d

  pub take-front : (rows : List (DrawRow K)) (k : ℕ) (row : DrawRow K) → k ≤ length rows → take k (rows ++ row ∷ []) ≡ take k rows
  take-front rows zero row h = refl
  take-front [] (suc k) row h = absurd (omega (arith, h))
  take-front (first ∷ rows) (suc k) row h = ap (λ more. first ∷ more) (take-front rows k row (omega (arith, h)))

  -- whatever stands for none
  pub at-any : (rows : List (DrawRow K)) (i : ℕ) (x d : DrawRow K) → i < length rows → get_or rows i x ≡ get_or rows i d
  at-any [] i x d h = absurd (omega (arith, h))
  at-any (first ∷ rows) zero x d h = refl
  at-any (first ∷ rows) (suc i) x d h = at-any rows i x d (omega (arith, h))

  pub each-more : (P : DrawRow K → Type 0) (rows : List (DrawRow K)) (row : DrawRow K) → P row → AllByRecursion P rows → AllByRecursion P (rows ++ row ∷ [])
  each-more P [] row p all = (p, tt)
  each-more P (first ∷ rows) row p all = (all.0, each-more P rows row p all.1)

  -- one changed, in two parts
  pub parts-set : (k : ℕ) (rows : List (DrawRow K)) (row : DrawRow K) → take k rows ++ set (drop k rows) 0 row ≡ set rows k row
  parts-set zero rows row = refl
  parts-set (suc k) [] row = refl
  parts-set (suc k) (first ∷ rows) row = ap (λ more. first ∷ more) (parts-set k rows row)

  -- the first rows, one more of them
  pub rows-take : (f : ℕ → ℤ → ℕ) (n : ℕ) (rows : List (DrawRow K)) (i : ℕ) (d : DrawRow K) → i < length rows → of_rows f n (take (i + 1) rows) ≡ of_rows f n (take i rows) + of_row (f (n + i)) (get_or rows i d)
  rows-take f n [] i d h = absurd (omega (arith, h))
  rows-take f n (first ∷ rows) zero d h = last (n + 0) (omega arith)
    where
      last : (m : ℕ) → n ≡ m → of_row (f n) first + 0 ≡ 0 + of_row (f m) first
      last m e = rw e (omega arith)
  rows-take f n (first ∷ rows) (suc i) d h =
      let on : (n + 1) + i ≡ n + suc i = omega arith in
      let one : suc i + 1 ≡ suc (i + 1) = omega arith in
      rw one (omega (arith, rows-take f (n + 1) rows i d (omega (arith, h)), ap (λ m. of_row (f m) (get_or rows i d)) on))

  -- only the row of one number says something
  pub rows-at : (f : ℕ → ℤ → ℕ) (n : ℕ) (rows : List (DrawRow K)) (i : ℕ) (d : DrawRow K) → i < length rows → ((m : ℕ) (v : ℤ) → (m ≡ n + i → ⊥) → f m v ≡ 0) → of_rows f n rows ≡ of_row (f (n + i)) (get_or rows i d)
  rows-at f n [] i d h none = absurd (omega (arith, h))
  rows-at f n (row ∷ rows) zero d h none =
      let rest = rows-none f (n + 1) rows (λ m v l. none m v (λ e. omega (arith, e, l))) in
      last (n + 0) (omega arith) rest
    where
      last : (m : ℕ) → n ≡ m → of_rows f (n + 1) rows ≡ 0 → of_row (f n) row + of_rows f (n + 1) rows ≡ of_row (f m) row
      last m e rest = rw (sym e) (omega (arith, rest))
  rows-at f n (row ∷ rows) (suc i) d h none =
      let on : (n + 1) + i ≡ n + suc i = omega arith in
      let first = cells-none (f n) (λ v. none n v (λ e. omega (arith, e))) stride row.lowest (cells_of row.tally) in
      let rest = rows-at f (n + 1) rows i d (omega (arith, h)) (λ m v l. none m v (λ e. l (e ∙ sym on))) in
      omega (arith, first, rest, ap (λ m. of_row (f m) (get_or rows i d)) on)

  -- and there is none
  pub rows-past : (f : ℕ → ℤ → ℕ) (n : ℕ) (rows : List (DrawRow K)) (i : ℕ) → length rows ≤ i → ((m : ℕ) (v : ℤ) → (m ≡ n + i → ⊥) → f m v ≡ 0) → of_rows f n rows ≡ 0
  rows-past f n [] i h none = refl
  rows-past f n (row ∷ rows) zero h none = absurd (omega (arith, h))
  rows-past f n (row ∷ rows) (suc i) h none =
      let on : (n + 1) + i ≡ n + suc i = omega arith in
      omega (arith, cells-none (f n) (λ v. none n v (λ e. omega (arith, e))) stride row.lowest (cells_of row.tally), rows-past f (n + 1) rows i (omega (arith, h)) (λ m v l. none m v (λ e. l (e ∙ sym on))))

  -- a row more is added to the one behind it
  pub down-told : (f : ℕ → ℤ → ℕ) (score : ℤ) (was rows new : List (DrawRow K)) (n j count : ℕ) (d : DrawRow K) → n ≡ j + 1 → j < length was → get_or rows j d ≡ get_or was j d
      → of_rows f 0 new ≡ of_rows f 0 rows + of_row (with_one score f j) (get_or rows j d)
      → of_rows f 0 rows + of_rows (with_one score f) 0 (take n was) ≡ of_rows f 0 was + of_rows (with_one score f) 0 (take count was)
      → of_rows f 0 new + of_rows (with_one score f) 0 (take j was) ≡ of_rows f 0 was + of_rows (with_one score f) 0 (take count was)
  down-told f score was rows new n j count d next h same added before =
      let zero_more : 0 + j ≡ j = omega arith in
      omega (
        arith,
        added,
        before,
        rows-take (with_one score f) 0 was j d h,
        ap (λ k. of_rows (with_one score f) 0 (take k was)) next,
        ap (λ k. of_row (with_one score f k) (get_or was j d)) zero_more,
        ap (of_row (with_one score f j)) same,
      )

  -- all rows but the last, and the last
  last-row : (f : ℕ → ℤ → ℕ) (rows : List (DrawRow K)) (last : ℕ) (d : DrawRow K) → length rows ≡ last + 1 → of_rows f 0 rows ≡ of_rows f 0 (take last rows) + of_row (f last) (get_or rows last d)
  last-row f rows last d long =
      let all : take (last + 1) rows ≡ rows = take_all (last + 1) rows (omega (arith, long)) in
      let zero_more : 0 + last ≡ last = omega arith in
      omega (arith, ap (λ xs. of_rows f 0 xs) all, rows-take f 0 rows last d (omega (arith, long)), ap (λ m. of_row (f m) (get_or rows last d)) zero_more)

  -- a row more, of the last one's draws with a subject
  pub next-pushed : (f : ℕ → ℤ → ℕ) (score : ℤ) (rows : List (DrawRow K)) (last : ℕ) (row d : DrawRow K) → length rows ≡ last + 1
      → ((g : ℤ → ℕ) → of_row g row ≡ of_row (λ v. g (v +ℤ score)) (get_or rows last d))
      → of_rows f 0 (rows ++ row ∷ []) + of_rows (with_one score f) 0 (take last (rows ++ row ∷ [])) ≡ of_rows f 0 rows + of_rows (with_one score f) 0 rows
  next-pushed f score rows last row d long told =
      let at : 0 + length rows ≡ last + 1 = omega (arith, long) in
      omega (
        arith,
        rows-more f 0 rows row,
        ap (λ m. of_row (f m) row) at,
        told (f (last + 1)),
        ap (λ xs. of_rows (with_one score f) 0 xs) (take-front rows last row (omega (arith, long))),
        last-row (with_one score f) rows last d long,
      )

  -- there are as many as there may be
  pub next-full : (f : ℕ → ℤ → ℕ) (score : ℤ) (most : ℕ) (rows : List (DrawRow K)) (last : ℕ) (d : DrawRow K) → length rows ≡ last + 1 → most ≤ last → NoneAbove most f
      → of_rows f 0 rows + of_rows (with_one score f) 0 (take last rows) ≡ of_rows f 0 rows + of_rows (with_one score f) 0 rows
  next-full f score most rows last d long full none =
      let over = cells-none (with_one score f last) (λ v. none (last + 1) (v +ℤ score) (omega (arith, full))) stride (get_or rows last d).lowest (cells_of (get_or rows last d).tally) in
      omega (arith, last-row (with_one score f) rows last d long, over)

-- ---- a subject more

pub take-one : (xs : List ℤ) (i : ℕ) (d : ℤ) → i < length xs → take (i + 1) xs ≡ take i xs ++ get_or xs i d ∷ []
take-one [] i d h = absurd (omega (arith, h))
take-one (x ∷ xs) zero d h = refl
take-one (x ∷ xs) (suc i) d h =
    let e : suc i + 1 ≡ suc (i + 1) = omega arith in
    rw e (ap (λ more. x ∷ more) (take-one xs i d (omega (arith, h))))

pub subject-more : (f : ℕ → ℤ → ℕ) (score : ℤ) (scores : List ℤ) (n : ℕ) (v : ℤ) → draw_sum f n v (scores ++ score ∷ []) ≡ draw_sum f n v scores + draw_sum (with_one score f) n v scores
subject-more f score scores n v = draw-parts f n v scores (score ∷ []) ∙ draw-plus f (with_one score f) n v scores

pub none-with : (most : ℕ) (score : ℤ) (f : ℕ → ℤ → ℕ) → NoneAbove most f → NoneAbove most (with_one score f)
none-with most score f none n v h = none (n + 1) (v +ℤ score) (omega (arith, h))

pub draws-more : {K : Type 0} (cells_of : K → List ℕ) (limit most stride : ℕ) (scores more : List ℤ) (score : ℤ) (old new : List (DrawRow K)) → more ≡ scores ++ score ∷ [] → AreDraws cells_of limit most stride scores old → AreRows cells_of limit most more new
    → ((f : ℕ → ℤ → ℕ) → NoneAbove most f → rows_draws cells_of f 0 stride new ≡ rows_draws cells_of f 0 stride old + rows_draws cells_of (with_one score f) 0 stride old)
    → AreDraws cells_of limit most stride more new
draws-more cells_of limit most stride scores more score old new whole are rows told = record {
  rows_are = rows;
  told = λ f none. omega (
    arith,
    told f none,
    are.told f none,
    are.told (with_one score f) (none-with most score f none),
    subject-more f score scores 0 (pos 0),
    ap (draw_sum f 0 (pos 0)) whole,
  );
}
