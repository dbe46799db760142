-- The box of the sums that groups can come to narrows along every choice.
use Rattle.std.proofs.Common.{◌≡◌, ℕ, zero, suc, ◌+◌, ◌-◌, ◌*◌, ◌<◌, ◌≤◌, Bool, true, false, cond, List, [], ◌∷◌, ◌++◌, length, min, refl, sym, ◌∙◌, ap, arith, nat_le}
use Rattle.std.proofs.Math.Nat.{add-mul}
use Rattle.std.proofs.Math.IntN.{+ℤ_idr}
use Rattle.std.specs.Prelude.{ℤ, pos, ◌+ℤ◌, ◌*ℤ◌, ◌≤ℤ◌, nat_lt, replicate, slice_index, unsigned_abs}
use Rattle.std.specs.List.{sum}
use Rattle.std.specs.Int.{int_min, int_max}
use Rattle.std.proofs.lemmas.Bool.{leb-true}
use Rattle.std.proofs.lemmas.Int.{ints, clamps, unsigned_abs-mul}
use Rattle.std.proofs.lemmas.List.{length-replicate, length-map}
use Rattle.std.proofs.lemmas.List.Sums.{sum_by-cons}
use Rattle.networks.specs.declared.verdicts.Judge.{Judge}
use Rattle.weights.specs.Grouped.{fits, minus}
use Rattle.weights.proofs.ChoiceLists.{IsChoice}
use Rattle.weights.proofs.Sized.{first_and, sum-minus}
use Rattle.completion_bounds.specs.Boxes.{factored_squares}
use Rattle.completion_bounds.proofs.Narrowing.{IsNarrower, greatest_squares-falls, greatest_squares-point, least_squares-point, least_squares-rises}
use Rattle.later_scores.specs.LaterSums.{greatest_sum, later_scores, least_sum, subjects}
use Rattle.weights.specs.Numbers.{absolute_sum}
use Rattle.later_scores.specs.declared.ends.End.TheVariants.{Least, Greatest}
use Rattle.later_scores.proofs.Absolute.{size-plus, sizes-block}
use Rattle.later_scores.proofs.Later.{later-end, later-next}
use Rattle.later_scores.proofs.LaterArcs.{part-arc, part-none}
use Rattle.label_network.specs.Linear.{score_of}
use Rattle.label_network.specs.Meanings.{AreReached, IsMeasure}
use Rattle.label_network.proofs.Rows.{fits-long}
use Rattle.label_network.proofs.Narrowing.{IsLeft, IsNarrowing, measured, reached-kept, reached-left, sizes-next}
use Rattle.networks.specs.PartialSums.{plus}
use Rattle.networks.proofs.Swaps.{length-plus}
use Rattle.kruskal_wallis.specs.RankSums.{greatest_parts, least_parts, score_parts, squares_meaning}
use Rattle.kruskal_wallis.specs.RankSumSteps.{IsSquaring}

-- ---- one group

least-greatest : (j : ℕ) (xs : List ℤ) → least_sum j xs ≤ℤ greatest_sum j xs
least-greatest zero xs = omega (arith, ints)
least-greatest (suc j) [] = omega (arith, ints)
least-greatest (suc j) (x ∷ xs) = by (nat_lt j (length xs)) (least-greatest j xs) (least-greatest (suc j) xs)
  where
    by : (b : Bool) → least_sum j xs ≤ℤ greatest_sum j xs → least_sum (suc j) xs ≤ℤ greatest_sum (suc j) xs
        → cond b (int_min (x +ℤ least_sum j xs) (least_sum (suc j) xs)) (x +ℤ least_sum j xs) ≤ℤ cond b (int_max (x +ℤ greatest_sum j xs) (greatest_sum (suc j) xs)) (x +ℤ greatest_sum j xs)
    by true h k = omega (arith, ints, clamps, h, k)
    by false h k = omega (arith, ints, h)

below : (p a t b : ℤ) → a ≤ℤ (t +ℤ b) → (p +ℤ a) ≤ℤ ((p +ℤ t) +ℤ b)
below p a t b h = omega (arith, ints, h)

above : (p a t b : ℤ) → (t +ℤ b) ≤ℤ a → ((p +ℤ t) +ℤ b) ≤ℤ (p +ℤ a)
above p a t b h = omega (arith, ints, h)

beside : (p a b : ℤ) → a ≤ℤ b → (p +ℤ a) ≤ℤ (p +ℤ b)
beside p a b h = omega (arith, ints, h)

-- ---- all groups

narrower : (p : List ℤ) (r x : List ℕ) (c : ℕ) (v : ℤ) (later : List ℤ) → length p ≡ length r → fits x r ≡ true → sum x ≤ c → sum (minus r x) ≤ length later
    → IsNarrower (plus p (least_parts (replicate c v ++ later) r)) (plus p (greatest_parts (replicate c v ++ later) r)) (plus (plus p (score_parts v x)) (least_parts later (minus r x))) (plus (plus p (score_parts v x)) (greatest_parts later (minus r x)))
narrower [] r x c v later l f h e = tt
narrower (p ∷ ps) [] x c v later l f h e = absurd (omega (arith, l))
narrower (p ∷ ps) (m ∷ ms) [] c v later l f h e = absurd (cc f)
narrower (p ∷ ps) (m ∷ ms) (k ∷ x) c v later l f h e =
    let both = first_and (nat_le k m) (fits x ms) f in
    let most : k ≤ m = leb-true k m both.0 in
    let xs : sum (k ∷ x) ≡ k + sum x = sum_by-cons (λ v. v) k x in
    let rs : sum ((m - k) ∷ minus ms x) ≡ (m - k) + sum (minus ms x) = sum_by-cons (λ v. v) (m - k) (minus ms x) in
    let some : k ≤ c = omega (arith, xs, h) in
    let room : m - k ≤ length later = omega (arith, rs, e) in (
      below p _ _ _ (part-arc Least c k m v later some most room),
      beside (p +ℤ (pos k *ℤ v)) _ _ (least-greatest (m - k) later),
      above p _ _ _ (part-arc Greatest c k m v later some most room),
      narrower ps ms x c v later (omega (arith, l)) both.1 (omega (arith, xs, h)) (omega (arith, rs, e)),
    )

-- after the last column the box is one point

pub lows-end : (p : List ℤ) (r : List ℕ) → length p ≡ length r → plus p (least_parts [] r) ≡ p
lows-end [] r l = refl
lows-end (p ∷ ps) [] l = absurd (omega (arith, l))
lows-end (p ∷ ps) (m ∷ ms) l = rw (part-none int_min m, +ℤ_idr p, lows-end ps ms (omega (arith, l))) refl

pub highs-end : (p : List ℤ) (r : List ℕ) → length p ≡ length r → plus p (greatest_parts [] r) ≡ p
highs-end [] r l = refl
highs-end (p ∷ ps) [] l = absurd (omega (arith, l))
highs-end (p ∷ ps) (m ∷ ms) l = rw (part-none int_max m, +ℤ_idr p, highs-end ps ms (omega (arith, l))) refl

-- ---- how great the sums are

pub length-parts : (v : ℤ) (x : List ℕ) → length (score_parts v x) ≡ length x
length-parts v x = length-map x (λ n. pos n *ℤ v)

sizes-plus : (v : ℤ) (p : List ℤ) (x : List ℕ) → absolute_sum (plus p (score_parts v x)) ≤ absolute_sum p + sum x * unsigned_abs v
sizes-plus v [] x = omega arith
sizes-plus v (p ∷ ps) [] = omega arith
sizes-plus v (p ∷ ps) (k ∷ x) =
    omega (arith, (size-plus p (pos k *ℤ v)), (unsigned_abs-mul (pos k) v), (ap (λ n. n * unsigned_abs v) (sum_by-cons (λ v. v) k x) ∙ add-mul k (sum x) (unsigned_abs v)), sizes-plus v ps x)

pub sizes-zeros : (n : ℕ) → absolute_sum (replicate n (pos 0)) ≡ 0
sizes-zeros zero = refl
sizes-zeros (suc n) = omega (arith, sizes-zeros n)

-- a sum for each group, and what is added so far is no more than the scores before
pub record IsPartial (scores : List ℤ) (columns rows : List ℕ) (g : ℕ) (r : List ℕ) (p : List ℤ) : Type 0 where
  pub wide : length p ≡ length rows
  pub small : absolute_sum p + absolute_sum (later_scores scores columns g) ≤ absolute_sum (subjects scores columns)

module _ (factors : List ℕ) (bound : ℕ) (scores : List ℤ) (columns rows : List ℕ) (judge : Judge) (h : IsSquaring factors bound scores columns rows judge) where
  -- a choice for a column
  module _ (g : ℕ) (r x : List ℕ) (p : List ℤ) (before : g < length columns) (l : IsLeft (squares_meaning factors bound scores columns rows judge) g r) (c : IsChoice (slice_index columns g) r x) (k : IsPartial scores columns rows g r p) where
    pub wide-left : length p ≡ length r
    wide-left = k.wide ∙ sym (fits-long r rows l.within)

    choice-long : length (score_parts (score_of scores g) x) ≡ length p
    choice-long = length-parts (score_of scores g) x ∙ c.long ∙ sym wide-left

    pub column-size : absolute_sum (later_scores scores columns g) ≡ slice_index columns g * unsigned_abs (score_of scores g) + absolute_sum (later_scores scores columns (g + 1))
    column-size = ap absolute_sum (later-next scores columns g before h.long) ∙ sizes-block (slice_index columns g) (score_of scores g) (later_scores scores columns (g + 1))

    room : sum (minus r x) ≤ length (later_scores scores columns (g + 1))
    room = omega (arith, sizes-next (squares_meaning factors bound scores columns rows judge) scores g r h.long before l, sum-minus r x c.fitting, c.whole)

    keeping : IsPartial scores columns rows (g + 1) (minus r x) (plus p (score_parts (score_of scores g) x))
    keeping =
        record {
          wide = length-plus p (score_parts (score_of scores g) x) ∙ k.wide;
          small = omega (arith, k.small, column-size, sizes-plus (score_of scores g) p x, (ap (λ n. n * unsigned_abs (score_of scores g)) c.whole));
        }

    pub in-box : IsNarrower (plus p (least_parts (replicate (slice_index columns g) (score_of scores g) ++ later_scores scores columns (g + 1)) r)) (plus p (greatest_parts (replicate (slice_index columns g) (score_of scores g) ++ later_scores scores columns (g + 1)) r)) (plus (plus p (score_parts (score_of scores g) x)) (least_parts (later_scores scores columns (g + 1)) (minus r x))) (plus (plus p (score_parts (score_of scores g) x)) (greatest_parts (later_scores scores columns (g + 1)) (minus r x)))
    in-box = narrower p r x (slice_index columns g) (score_of scores g) (later_scores scores columns (g + 1)) wide-left c.fitting (omega (arith, c.whole)) room

  capped : (a b : ℕ) → a ≤ b → pos (min a bound) ≤ℤ pos (min b bound)
  capped a b i = omega (arith, ints, i)

  whole-end : (p : List ℤ) (r : List ℕ) → IsPartial scores columns rows (length columns) r p → pos (min (factored_squares p factors) bound) ≡ pos (factored_squares p factors)
  whole-end p r k = ap pos (omega (arith, h.bounded p (omega (arith, k.small))))

  pub squares_narrowing : IsNarrowing (squares_meaning factors bound scores columns rows judge) (IsPartial scores columns rows)
  squares_narrowing = record {
    keeps = λ g r x p before l c k. keeping g r x p before l c k;
    rises = λ g r x p before l c k. rw (later-next scores columns g before h.long) (capped _ _ (least_squares-rises _ _ _ _ factors (in-box g r x p before l c k)));
    falls = λ g r x p before l c k. rw (later-next scores columns g before h.long) (capped _ _ (greatest_squares-falls _ _ _ _ factors (in-box g r x p before l c k)));
    low_end = λ r p l k.
        let same : length p ≡ length r = k.wide ∙ sym (fits-long r rows l.within) in
        rw (later-end scores columns h.long, lows-end p r same, highs-end p r same, least_squares-point p factors) (whole-end p r k);
    high_end = λ r p l k.
        let same : length p ≡ length r = k.wide ∙ sym (fits-long r rows l.within) in
        rw (later-end scores columns h.long, lows-end p r same, highs-end p r same, greatest_squares-point p factors) (whole-end p r k);
  }

  first-partial : IsPartial scores columns rows 0 rows (replicate (length rows) (pos 0))
  first-partial = record { wide = length-replicate (length rows) (pos 0); small = omega (arith, sizes-zeros (length rows)) }

  pub squares_measure : IsMeasure (squares_meaning factors bound scores columns rows judge)
  squares_measure = measured (squares_meaning factors bound scores columns rows judge) h.level (IsPartial scores columns rows) squares_narrowing first-partial (λ g r p k. k.wide)

  pub reached_partial : (g : ℕ) (r : List ℕ) (p : List ℤ) → AreReached (squares_meaning factors bound scores columns rows judge) g r p → IsPartial scores columns rows g r p
  reached_partial g r p a = reached-kept (squares_meaning factors bound scores columns rows judge) h.level (IsPartial scores columns rows) squares_narrowing first-partial g r p a

  pub reached_left : (g : ℕ) (r : List ℕ) (p : List ℤ) → AreReached (squares_meaning factors bound scores columns rows judge) g r p → IsLeft (squares_meaning factors bound scores columns rows judge) g r
  reached_left g r p a = reached-left (squares_meaning factors bound scores columns rows judge) h.level g r p a
