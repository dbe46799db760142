-- The interval of a sum of products narrows along every choice, and nothing in it passes a limit.
use Rattle.std.proofs.Common.{◌≡◌, ℕ, ◌+◌, ◌*◌, ◌<◌, ◌≤◌, List, [], ◌∷◌, length, refl, sym, ◌∙◌, ap, arith}
use Rattle.std.proofs.Math.IntN.{+ℤ_idr}
use Rattle.std.specs.Prelude.{ℤ, pos, ◌+ℤ◌, ◌*ℤ◌, ◌≤ℤ◌, int_le, unsigned_abs, slice_index}
use Rattle.std.specs.List.{sum}
use Rattle.std.proofs.Math.Nat.{mul-le-mul_left, le_refl}
use Rattle.std.proofs.lemmas.Int.{ints, unsigned_abs-mul}
use Rattle.networks.specs.declared.verdicts.Judge.{Judge}
use Rattle.networks.specs.Judged.{JudgeFits}
use Rattle.weights.specs.Grouped.{minus}
use Rattle.weights.specs.InOrder.{in_order}
use Rattle.weights.proofs.ChoiceLists.{IsChoice}
use Rattle.completion_bounds.specs.Pairings.{greatest_score}
use Rattle.room_network.specs.Numbers.{so_far}
use Rattle.later_scores.specs.LaterSums.{later_scores, subjects}
use Rattle.later_scores.proofs.Absolute.{size-plus, sizes-block}
use Rattle.later_scores.proofs.Later.{later-length, later-next, later-end}
use Rattle.label_network.specs.Meanings.{AreReached, IsMeasure}
use Rattle.weights.specs.Numbers.{absolute_sum}
use Rattle.label_network.specs.Linear.{row_sum, least_paired, greatest_paired, score_of, column_sum, linear_meaning, greatest_sizes, IsLinear}
use Rattle.label_network.specs.LinearSteps.{least_added, greatest_added, order_of, ordered, ordered_scores}
use Rattle.label_network.proofs.Ascending.{ascending, each-once}
use Rattle.label_network.proofs.Rearranging.{picked-minus, picked-fits, picked-sum, picked-row, picked-length, picked_scores-length}
use Rattle.label_network.proofs.LinearArcs.{least-added, greatest-added}
use Rattle.label_network.proofs.Rows.{fits-long}
use Rattle.label_network.proofs.LinearSizes.{row-size, picked-within, least-added-size, greatest-added-size}
use Rattle.label_network.proofs.Narrowing.{IsLeft, IsNarrowing, left-next, reached-left, reached-kept, measured, sizes-next}
use Rattle.label_network.proofs.PairedUnits.{least_paired_is, greatest_paired_is, paired-none}

-- between which sums a key ends
abbrev pub linear_low : List ℤ → List ℤ → List ℕ → ℕ → List ℕ → List ℤ → ℤ
linear_low us scores columns g r p = so_far p +ℤ least_paired us r (later_scores scores columns g)

abbrev pub linear_high : List ℤ → List ℤ → List ℕ → ℕ → List ℕ → List ℤ → ℤ
linear_high us scores columns g r p = so_far p +ℤ greatest_paired us r (later_scores scores columns g)

-- the partial is one number, no more than the products so far
pub record IsPartial (us scores : List ℤ) (columns : List ℕ) (g : ℕ) (r : List ℕ) (p : List ℤ) : Type 0 where
  pub one : length p ≡ 1
  pub small : unsigned_abs (so_far p) + greatest_score us * absolute_sum (later_scores scores columns g) ≤ greatest_sizes us scores columns

module _ (us : List ℤ) (rows : List ℕ) (scores : List ℤ) (columns : List ℕ) (judge : Judge) (h : IsLinear us rows scores columns judge) where
  -- the sizes that remain, in the order of the rows
  module _ (g : ℕ) (r : List ℕ) (l : IsLeft (linear_meaning us rows scores columns judge) g r) where
    pub rows-level : length r ≡ length us
    rows-level = fits-long r rows l.within ∙ sym h.wide

    pub ordered-level : length (ordered_scores us) ≡ length (ordered us r)
    ordered-level = picked_scores-length (order_of us) us ∙ sym (picked-length (order_of us) r)

    pub ordered-sum : sum (ordered us r) ≡ sum r
    ordered-sum = picked-sum (length us) (order_of us) r (each-once us) rows-level

    pub ordered-whole : sum (ordered us r) ≡ length (later_scores scores columns g)
    ordered-whole = ordered-sum ∙ sym l.whole ∙ sym (later-length scores columns g h.long)

    -- what can be added is added row by row
    rows-whole : sum r ≡ length (later_scores scores columns g)
    rows-whole = sym l.whole ∙ sym (later-length scores columns g h.long)

    pub least-stepwise : least_paired us r (later_scores scores columns g) ≡ least_added (ordered_scores us) (ordered us r) (later_scores scores columns g)
    least-stepwise = least_paired_is us r rows-level (later_scores scores columns g) rows-whole

    pub greatest-stepwise : greatest_paired us r (later_scores scores columns g) ≡ greatest_added (ordered_scores us) (ordered us r) (later_scores scores columns g)
    greatest-stepwise = greatest_paired_is us r rows-level (later_scores scores columns g) rows-whole

    -- and it is small
    pub least-small : unsigned_abs (least_paired us r (later_scores scores columns g)) ≤ greatest_score us * absolute_sum (later_scores scores columns g)
    least-small = rw least-stepwise (least-added-size (ordered_scores us) (ordered us r) (later_scores scores columns g) (greatest_score us) ordered-level ordered-whole (picked-within (order_of us) us))

    pub greatest-small : unsigned_abs (greatest_paired us r (later_scores scores columns g)) ≤ greatest_score us * absolute_sum (later_scores scores columns g)
    greatest-small = rw greatest-stepwise (greatest-added-size (ordered_scores us) (ordered us r) (later_scores scores columns g) (greatest_score us) ordered-level ordered-whole (picked-within (order_of us) us))

    module _ (p : List ℤ) (k : IsPartial us scores columns g r p) where
      pub low-small : unsigned_abs (so_far p) + unsigned_abs (least_paired us r (later_scores scores columns g)) ≤ greatest_sizes us scores columns
      low-small = omega (arith, k.small, least-small)

      pub high-small : unsigned_abs (so_far p) + unsigned_abs (greatest_paired us r (later_scores scores columns g)) ≤ greatest_sizes us scores columns
      high-small = omega (arith, k.small, greatest-small)

      pub low-rule : JudgeFits judge (linear_low us scores columns g r p)
      low-rule = h.rules_fit (linear_low us scores columns g r p) (omega (arith, low-small, size-plus (so_far p) (least_paired us r (later_scores scores columns g))))

      pub high-rule : JudgeFits judge (linear_high us scores columns g r p)
      high-rule = h.rules_fit (linear_high us scores columns g r p) (omega (arith, high-small, size-plus (so_far p) (greatest_paired us r (later_scores scores columns g))))

  -- a choice for a column
  module _ (g : ℕ) (r x : List ℕ) (before : g < length columns) (l : IsLeft (linear_meaning us rows scores columns judge) g r) (c : IsChoice (slice_index columns g) r x) where
    arc-sizes : sum (ordered us r) ≡ slice_index columns g + length (later_scores scores columns (g + 1))
    arc-sizes = ordered-sum g r l ∙ sizes-next (linear_meaning us rows scores columns judge) scores g r h.long before l

    pub choice-level : length x ≡ length us
    choice-level = c.long ∙ rows-level g r l

    choice-sum : sum (ordered us x) ≡ slice_index columns g
    choice-sum = picked-sum (length us) (order_of us) x (each-once us) choice-level ∙ c.whole

    choice-ordered : length (ordered us x) ≡ length (ordered us r)
    choice-ordered = picked-length (order_of us) x ∙ sym (picked-length (order_of us) r)

    row-ordered : row_sum (ordered_scores us) (ordered us x) ≡ row_sum us x
    row-ordered = picked-row (order_of us) us x (each-once us) choice-level

    column-ordered : score_of scores g *ℤ row_sum (ordered_scores us) (ordered us x) ≡ column_sum us scores g x
    column-ordered = ap (λ t. score_of scores g *ℤ t) row-ordered

    next-left : IsLeft (linear_meaning us rows scores columns judge) (g + 1) (minus r x)
    next-left = left-next columns rows h.level g r x before l c

    pub rising : (p : List ℤ) → linear_low us scores columns g r p ≤ℤ linear_low us scores columns (g + 1) (minus r x) ((so_far p +ℤ column_sum us scores g x) ∷ [])
    rising p =
        let next = least-stepwise (g + 1) (minus r x) next-left ∙ ap (λ ms. least_added (ordered_scores us) ms (later_scores scores columns (g + 1))) (picked-minus (order_of us) r x c.fitting) in
        let arc = least-added (ordered_scores us) (ordered us r) (ordered us x) (slice_index columns g) (score_of scores g) (later_scores scores columns (g + 1)) (ascending us) (ordered-level g r l) choice-ordered (picked-fits (order_of us) r x c.fitting) choice-sum arc-sizes in
        rw ((least-stepwise g r l ∙ ap (λ later. least_added (ordered_scores us) (ordered us r) later) (later-next scores columns g before h.long)), next) (omega (arith, ints, arc, column-ordered))

    pub falling : (p : List ℤ) → linear_high us scores columns (g + 1) (minus r x) ((so_far p +ℤ column_sum us scores g x) ∷ []) ≤ℤ linear_high us scores columns g r p
    falling p =
        let here = greatest-stepwise g r l ∙ ap (λ later. greatest_added (ordered_scores us) (ordered us r) later) (later-next scores columns g before h.long) in
        let next = greatest-stepwise (g + 1) (minus r x) next-left ∙ ap (λ ms. greatest_added (ordered_scores us) ms (later_scores scores columns (g + 1))) (picked-minus (order_of us) r x c.fitting) in
        let arc = greatest-added (ordered_scores us) (ordered us r) (ordered us x) (slice_index columns g) (score_of scores g) (later_scores scores columns (g + 1)) (ascending us) (ordered-level g r l) choice-ordered (picked-fits (order_of us) r x c.fitting) choice-sum arc-sizes in
        rw (here, next) (omega (arith, ints, arc, column-ordered))

    -- what it adds
    pub row-small : unsigned_abs (row_sum us x) ≤ greatest_score us * slice_index columns g
    row-small = rw (← c.whole) (row-size us x (greatest_score us) (le_refl (greatest_score us)))

    pub column-small : unsigned_abs (column_sum us scores g x) + greatest_score us * absolute_sum (later_scores scores columns (g + 1)) ≤ greatest_score us * absolute_sum (later_scores scores columns g)
    column-small =
        let split : absolute_sum (later_scores scores columns g) ≡ slice_index columns g * unsigned_abs (score_of scores g) + absolute_sum (later_scores scores columns (g + 1)) = ap absolute_sum (later-next scores columns g before h.long) ∙ sizes-block (slice_index columns g) (score_of scores g) (later_scores scores columns (g + 1)) in
        omega (arith, (unsigned_abs-mul (score_of scores g) (row_sum us x)), (mul-le-mul_left (unsigned_abs (score_of scores g)) row-small), (ap (λ n. greatest_score us * n) split ∙ apart (greatest_score us) (slice_index columns g) (unsigned_abs (score_of scores g)) (absolute_sum (later_scores scores columns (g + 1)))))
      where
        apart : (m c v s : ℕ) → m * (c * v + s) ≡ v * (m * c) + m * s
        apart m c v s = omega arith

    pub keeping : (p : List ℤ) → IsPartial us scores columns g r p → IsPartial us scores columns (g + 1) (minus r x) ((so_far p +ℤ column_sum us scores g x) ∷ [])
    keeping p k = record {
      one = refl;
      small = omega (arith, k.small, column-small, size-plus (so_far p) (column_sum us scores g x));
    }

  pub linear_narrowing : IsNarrowing (linear_meaning us rows scores columns judge) (IsPartial us scores columns)
  linear_narrowing = record {
    keeps = λ g r x p before l c k. keeping g r x before l c p k;
    rises = λ g r x p before l c k. rising g r x before l c p;
    falls = λ g r x p before l c k. falling g r x before l c p;
    low_end = λ r p l k. rw (later-end scores columns h.long, paired-none (in_order int_le (subjects us r))) (+ℤ_idr (so_far p));
    high_end = λ r p l k. rw (later-end scores columns h.long, paired-none (in_order int_le (subjects us r))) (+ℤ_idr (so_far p));
  }

  first-partial : IsPartial us scores columns 0 rows (pos 0 ∷ [])
  first-partial = record { one = refl; small = omega arith }

  pub linear_measure : IsMeasure (linear_meaning us rows scores columns judge)
  linear_measure = measured (linear_meaning us rows scores columns judge) h.level (IsPartial us scores columns) linear_narrowing first-partial (λ g r p k. k.one)

  pub reached_partial : (g : ℕ) (r : List ℕ) (p : List ℤ) → AreReached (linear_meaning us rows scores columns judge) g r p → IsPartial us scores columns g r p
  reached_partial g r p a = reached-kept (linear_meaning us rows scores columns judge) h.level (IsPartial us scores columns) linear_narrowing first-partial g r p a

  pub reached_left : (g : ℕ) (r : List ℕ) (p : List ℤ) → AreReached (linear_meaning us rows scores columns judge) g r p → IsLeft (linear_meaning us rows scores columns judge) g r
  reached_left g r p a = reached-left (linear_meaning us rows scores columns judge) h.level g r p a
