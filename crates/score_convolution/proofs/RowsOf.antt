-- How many draws there are in a row, and the least sum of their scores.
use Rattle.std.proofs.Common.{◌≡◌, ℕ, zero, suc, ◌+◌, ◌*◌, ◌/◌, ◌<◌, ◌≤◌, List, [], ◌∷◌, ◌++◌, length, take, get_or, max, min, subst, sym, ◌∙◌, ap, arith, add-one, inl, inr}
use Rattle.std.specs.Prelude.{ℤ, pos, ◌+ℤ◌, ◌-ℤ◌, ◌≤ℤ◌, unsigned_abs}
use Rattle.std.specs.Int.{◌∣◌}
use Rattle.std.specs.List.{AllByRecursion}
use Rattle.std.proofs.Math.Nat.{div-mul_cancel}
use Rattle.std.proofs.lemmas.Bool.{cases_eq}
use Rattle.std.proofs.lemmas.Int.{ints}
use Rattle.std.proofs.Math.Seq.{get_or-append_seam}
use Rattle.std.proofs.lemmas.List.{length-append, length-take-le, take-take}
use Rattle.std.proofs.lemmas.List.Elements.{Contains-get_or}
use Rattle.std.proofs.lemmas.Nat.{mul-le}
use Rattle.weights.specs.Numbers.{absolute_sum, binomial}
use Rattle.weights.specs.declared.TheConstants.{MAX}
use Rattle.weights.proofs.Binomials.{binomial-all, binomial-pascal, binomial-zero}
use Rattle.count_arrays.specs.Rows.{stepped}
use Rattle.count_arrays.proofs.RowSums.{stepped-is}
use Rattle.score_convolution.specs.Draws.{score_total}
use Rattle.score_convolution.specs.Subjects.{least}
use Rattle.score_convolution.specs.DrawRows.{AreDraws, AreRows, AreSubjects, IsDrawRow, IsRowOf, row_draws}
use Rattle.score_convolution.specs.declared.rows.DrawRow.{DrawRow}
use Rattle.score_convolution.proofs.Counted.{binomial-longer}
use Rattle.score_convolution.proofs.ScoreTotals.{absolute-first, absolute-next, absolute-within, next-small, total-more}

-- ---- how many there are

pascal : (n k : ℕ) → binomial (n + 1) (k + 1) ≡ binomial n (k + 1) + binomial n k
pascal n k = rw (add-one n, add-one k) (omega (arith, binomial-pascal n k))

-- ---- places

-- a place that is the distance by the stride
pub placed : (one other : ℤ) (stride : ℕ) → stride ∣ unsigned_abs (other -ℤ one) → one ≤ℤ other → (lowest : ℤ) → stepped lowest (pos stride) (unsigned_abs (other -ℤ one) / stride) ≡ lowest +ℤ (other -ℤ one)
placed one other stride apart order lowest =
    stepped-is lowest stride (unsigned_abs (other -ℤ one) / stride)
    ∙ ap (λ n. lowest +ℤ pos n) (div-mul_cancel stride apart)
    ∙ ap (λ z. lowest +ℤ z) (far (other -ℤ one) (omega (arith, ints, order)))
  where
    far : (z : ℤ) → pos 0 ≤ℤ z → pos (unsigned_abs z) ≡ z
    far z h = grind (arith, ints)

-- an upper bound of the sizes of scores grows with them
reach-on : (k n a b long : ℕ) → k ≤ n → a ≤ b → long ≤ k * (2 * a) + 1 → long ≤ n * (2 * b) + 1
reach-on k n a b long h l le = omega (arith, le, mul-le k (2 * a) n (2 * b) h (omega (arith, l)))

-- with a place that is no more than two scores' sizes
reach-more : (n a b one two new place : ℕ) → a ≤ b → place ≤ 2 * b → one ≤ n * (2 * a) + 1 → two ≤ (n + 1) * (2 * a) + 1 → new ≤ max two (place + one) → new ≤ (n + 1) * (2 * b) + 1
reach-more n a b one two new place h l first second le =
    let spread : (n + 1) * (2 * b) ≡ n * (2 * b) + 2 * b = grind arith in
    omega (arith, spread, l, le, mul-le n (2 * a) n (2 * b) (omega arith) (omega (arith, h)), mul-le (n + 1) (2 * a) (n + 1) (2 * b) (omega arith) (omega (arith, h)), first, second)

-- two of the first scores lie no further apart
sizes-apart : (a b : ℤ) (m : ℕ) → unsigned_abs a ≤ m → unsigned_abs b ≤ m → unsigned_abs (a -ℤ b) ≤ 2 * m
sizes-apart a b m h k = grind (arith, ints, h, k)

pub near-apart : (scores : List ℤ) (i n : ℕ) → i < length scores → n < i → unsigned_abs (get_or scores i (pos 0) -ℤ get_or scores n (pos 0)) ≤ 2 * absolute_sum (take (i + 1) scores)
near-apart scores i n h l = sizes-apart (get_or scores i (pos 0)) (get_or scores n (pos 0)) (absolute_sum (take (i + 1) scores)) (omega (arith, absolute-next scores i h)) (omega (arith, absolute-next scores n (omega (arith, h, l)), absolute-first (n + 1) (i + 1) scores (omega (arith, l))))

-- the places of a row, so many further on, are within the limit on all
pub reach-fits : (scores : List ℤ) (i n one two place : ℕ) → i < length scores → n < i → 2 * length scores * absolute_sum scores ≤ MAX → place ≤ 2 * absolute_sum (take (i + 1) scores) → one ≤ n * (2 * absolute_sum (take i scores)) + 1 → two ≤ (n + 1) * (2 * absolute_sum (take i scores)) + 1 → max two (place + one) ≤ MAX + 1
reach-fits scores i n one two place h l small near first second =
    let a : ℕ = absolute_sum scores in
    let turned : length scores * (2 * a) ≡ 2 * length scores * a = grind arith in
    omega (
      arith,
      small,
      turned,
      reach-more n (absolute_sum (take i scores)) a one two (max two (place + one)) place (absolute-within i scores) (omega (arith, near, absolute-within (i + 1) scores)) first second (omega arith),
      mul-le (n + 1) (2 * a) (length scores) (2 * a) (omega (arith, h, l)) (omega arith),
    )

pub subjects-apart : (stride : ℕ) (scores : List ℤ) → AreSubjects stride scores → (n i : ℕ) → n < length scores → i < length scores → stride ∣ unsigned_abs (get_or scores i (pos 0) -ℤ get_or scores n (pos 0))
subjects-apart stride scores are n i h l = are.apart (get_or scores i (pos 0)) (get_or scores n (pos 0)) (Contains-get_or scores i (pos 0) l) (Contains-get_or scores n (pos 0) h)

-- ---- rows

module _ {K : Type 0} (cells_of : K → List ℕ) (limit : ℕ) where
  abbrev RowOf : List ℤ → ℕ → DrawRow K → Type 0
  RowOf scores n row = IsRowOf cells_of limit scores n row

  -- nobody's row stays
  pub nobody-still : (scores : List ℤ) (i : ℕ) (row : DrawRow K) → RowOf (take i scores) 0 row → RowOf (take (i + 1) scores) 0 row
  nobody-still scores i row is = record {
    row_is = is.row_is;
    total = is.total ∙ binomial-zero (length (take i scores)) ∙ sym (binomial-zero (length (take (i + 1) scores)));
    lowest = is.lowest;
    reach = reach-on 0 0 (absolute_sum (take i scores)) (absolute_sum (take (i + 1) scores)) _ (omega arith) (absolute-first i (i + 1) scores (omega arith)) is.reach;
  }

  -- how many there are in a row and the one behind it
  totals : (scores : List ℤ) (i n : ℕ) (one two : DrawRow K) → i < length scores → RowOf (take i scores) n one → RowOf (take i scores) (n + 1) two → two.total + one.total ≡ binomial (i + 1) (n + 1)
  totals scores i n one two h is behind =
      let long : length (take i scores) ≡ i = length-take-le i scores (omega arith) in
      omega (arith, is.total, behind.total, ap (λ k. binomial k n) long, ap (λ k. binomial k (n + 1)) long, pascal i n)

  -- and that they are within a bound for all subjects
  pub totals-within : (bound most : ℕ) (scores : List ℤ) (i n : ℕ) (one two : DrawRow K) → ((k : ℕ) → k ≤ most → binomial (length scores) k ≤ bound) → i < length scores → n + 1 ≤ most → RowOf (take i scores) n one → RowOf (take i scores) (n + 1) two → two.total + one.total ≤ bound
  totals-within bound most scores i n one two within h l is behind = omega (arith, totals scores i n one two h is behind, binomial-longer (i + 1) (length scores) (n + 1) (omega (arith, h)), within (n + 1) l)

  -- the row of one more, with those who are drawn beside a subject more
  grown : (scores : List ℤ) (i n : ℕ) (one two new : DrawRow K) → i < length scores → n < i → RowOf (take i scores) n one → RowOf (take i scores) (n + 1) two
      → IsDrawRow cells_of limit new → new.total ≡ two.total + one.total → new.lowest ≡ two.lowest
      → (place : ℕ) → place ≤ 2 * absolute_sum (take (i + 1) scores) → length (cells_of new.tally) ≤ max (length (cells_of two.tally)) (place + length (cells_of one.tally)) → RowOf (take (i + 1) scores) (n + 1) new
  grown scores i n one two new h l is behind row total lowest place near reach = record {
    row_is = row;
    total = total ∙ totals scores i n one two h is behind ∙ ap (λ k. binomial k (n + 1)) (sym (length-take-le (i + 1) scores (omega arith)));
    lowest = lowest ∙ behind.lowest ∙ ap score_total (take-take (n + 1) i scores (omega arith) ∙ sym (take-take (n + 1) (i + 1) scores (omega arith)));
    reach = reach-more n (absolute_sum (take i scores)) (absolute_sum (take (i + 1) scores)) (length (cells_of one.tally)) (length (cells_of two.tally)) (length (cells_of new.tally)) place (absolute-first i (i + 1) scores (omega arith)) near is.reach behind.reach reach;
  }

  -- a subject who is drawn in place of the nth adds what they lie apart
  pub in-place : (scores : List ℤ) (i n : ℕ) (one two : DrawRow K) → i < length scores → n < i → RowOf (take i scores) n one → RowOf (take i scores) (n + 1) two
      → two.lowest +ℤ (get_or scores i (pos 0) -ℤ get_or scores n (pos 0)) ≡ one.lowest +ℤ get_or scores i (pos 0)
  in-place scores i n one two h l is behind =
      let first : one.lowest ≡ least n scores = is.lowest ∙ ap score_total (take-take n i scores (omega arith)) in
      let second : two.lowest ≡ least (n + 1) scores = behind.lowest ∙ ap score_total (take-take (n + 1) i scores (omega arith)) in
      omega (arith, ints, first, second, total-more scores n (omega arith))

  -- all of the first, one more of them
  pub all-drawn : (scores : List ℤ) (i : ℕ) (row new : DrawRow K) → i < length scores → RowOf (take i scores) i row → IsDrawRow cells_of limit new → new.total ≡ row.total → new.lowest ≡ row.lowest +ℤ get_or scores i (pos 0) → length (cells_of new.tally) ≡ length (cells_of row.tally) → RowOf (take (i + 1) scores) (i + 1) new
  all-drawn scores i row new h is now total lowest reach = record {
    row_is = now;
    total =
        total
        ∙ is.total
        ∙ ap (λ k. binomial k i) (length-take-le i scores (omega arith))
        ∙ binomial-all i
        ∙ sym (binomial-all (i + 1))
        ∙ ap (λ k. binomial k (i + 1)) (sym (length-take-le (i + 1) scores (omega arith)));
    lowest =
        let first : row.lowest ≡ least i scores = is.lowest ∙ ap score_total (take-take i i scores (omega arith)) in
        let all : least (i + 1) (take (i + 1) scores) ≡ least (i + 1) scores = ap score_total (take-take (i + 1) (i + 1) scores (omega arith)) in
        omega (arith, ints, lowest, first, all, total-more scores i h);
    reach = reach-on i (i + 1) (absolute_sum (take i scores)) (absolute_sum (take (i + 1) scores)) _ (omega arith) (absolute-first i (i + 1) scores (omega arith)) (omega (arith, reach, is.reach));
  }

  -- and their sum with a subject's score is within the limit
  pub row-small : (scores : List ℤ) (i : ℕ) (row : DrawRow K) → i < length scores → RowOf (take i scores) i row → absolute_sum scores ≤ MAX → unsigned_abs row.lowest + unsigned_abs (get_or scores i (pos 0)) ≤ MAX
  row-small scores i row h is small =
      let first : row.lowest ≡ least i scores = is.lowest ∙ ap score_total (take-take i i scores (omega arith)) in
      rw first (omega (arith, next-small scores i h, small))

  -- the row of nobody, alone
  pub nobody-draws : (most stride : ℕ) (row : DrawRow K) → IsDrawRow cells_of limit row → row.total ≡ 1 → row.lowest ≡ pos 0 → length (cells_of row.tally) ≡ 1 → ((g : ℤ → ℕ) → row_draws cells_of g stride row ≡ g (pos 0)) → AreDraws cells_of limit most stride [] (row ∷ [])
  nobody-draws most stride row is one lowest reach told = record {
    rows_are = record {
      long = omega arith;
      each = each;
    };
    told = λ f none. omega (arith, told (f 0));
  }
    where
      each : (n : ℕ) (d : DrawRow K) → n < length (row ∷ []) → RowOf [] n (get_or (row ∷ []) n d)
      each zero d h = record {
        row_is = is;
        total = one ∙ sym (binomial-zero 0);
        lowest = lowest;
        reach = omega (arith, reach);
      }
      each (suc n) d h = absurd (omega (arith, h))

  -- each row, whatever stands for none
  pub each-from : (P : DrawRow K → Type 0) (rows : List (DrawRow K)) → ((n : ℕ) (d : DrawRow K) → n < length rows → P (get_or rows n d)) → AllByRecursion P rows
  each-from P [] each = tt
  each-from P (row ∷ rows) each = (each 0 row (omega arith), each-from P rows (λ n d h. each (suc n) d (omega (arith, h))))

  -- the last row is of all before the ith subject, or of as many as there may be
  pub last-is : (most : ℕ) (scores : List ℤ) (i last : ℕ) (rows : List (DrawRow K)) → i < length scores → AreRows cells_of limit most (take i scores) rows → length rows ≡ last + 1 → last ≡ min most i
  last-is most scores i last rows h are e = omega (arith, e, are.long, ap (min most) (length-take-le i scores (omega (arith, h))))

  pub last-all : (most : ℕ) (scores : List ℤ) (i last : ℕ) (rows : List (DrawRow K)) (row d : DrawRow K) → i < length scores → AreRows cells_of limit most (take i scores) rows → length rows ≡ last + 1 → last < most → row ≡ get_or rows last d
      → RowOf (take i scores) i row
  last-all most scores i last rows row d h are long room e =
      let all : last ≡ i = omega (arith, last-is most scores i last rows h are long, room) in
      subst (λ k. RowOf (take i scores) k row) all (subst (λ r. RowOf (take i scores) last r) (sym e) (are.each last d (omega (arith, long))))

  -- a row more
  pub next-is : (scores : List ℤ) (i : ℕ) (rows : List (DrawRow K)) (row : DrawRow K) → length rows ≡ i + 1 → RowOf (take (i + 1) scores) (i + 1) row
      → (n : ℕ) (d : DrawRow K) → i < n → n < length (rows ++ row ∷ []) → RowOf (take (i + 1) scores) n (get_or (rows ++ row ∷ []) n d)
  next-is scores i rows row long is n d l m =
      let at : n ≡ length rows = omega (arith, l, m, long, length-append rows (row ∷ [])) in
      let end : get_or (rows ++ row ∷ []) (length rows) d ≡ row = get_or-append_seam rows row [] d in
      subst (λ k. RowOf (take (i + 1) scores) k (get_or (rows ++ row ∷ []) k d)) (sym at)
      (subst (λ r. RowOf (take (i + 1) scores) (length rows) r) (sym end) (subst (λ k. RowOf (take (i + 1) scores) k row) (sym long) is))

  -- a row more is added to the one behind it
  pub grown-down : (scores : List ℤ) (i j count : ℕ) (rows new : List (DrawRow K)) → i < length scores → j < i
      → ((d : DrawRow K) → RowOf (take i scores) j (get_or rows j d)) → ((d : DrawRow K) → RowOf (take i scores) (j + 1) (get_or rows (j + 1) d))
      → ((d : DrawRow K) → IsDrawRow cells_of limit (get_or new (j + 1) d))
      → ((d : DrawRow K) → (get_or new (j + 1) d).total ≡ (get_or rows (j + 1) d).total + (get_or rows j d).total)
      → ((d : DrawRow K) → (get_or new (j + 1) d).lowest ≡ (get_or rows (j + 1) d).lowest)
      → (place : ℕ) → place ≤ 2 * absolute_sum (take (i + 1) scores) → ((d : DrawRow K) → length (cells_of (get_or new (j + 1) d).tally) ≤ max (length (cells_of (get_or rows (j + 1) d).tally)) (place + length (cells_of (get_or rows j d).tally)))
      → ((k : ℕ) (d : DrawRow K) → (k ≡ j + 1 → ⊥) → get_or new k d ≡ get_or rows k d)
      → ((k : ℕ) (d : DrawRow K) → j + 1 < k → k ≤ count → RowOf (take (i + 1) scores) k (get_or rows k d))
      → (k : ℕ) (d : DrawRow K) → j < k → k ≤ count → RowOf (take (i + 1) scores) k (get_or new k d)
  grown-down scores i j count rows new h l is behind each total lowest place near reach others later k d m n = elim (cases_eq k (j + 1)) [
    | inl e ↦ rw e (grown scores i j (get_or rows j d) (get_or rows (j + 1) d) (get_or new (j + 1) d) h l (is d) (behind d) (each d) (total d) (lowest d) place near (reach d))
    | inr e ↦ subst (λ row. RowOf (take (i + 1) scores) k row) (sym (others k d e)) (later k d (omega (arith, m, e)) n)
  ]
