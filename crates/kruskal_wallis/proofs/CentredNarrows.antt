-- The box of the sums seen from their middle narrows along every choice, to the value at the end.
use Rattle.std.proofs.Common.{◌≡◌, ℕ, zero, suc, ◌+◌, ◌*◌, ◌<◌, ◌≤◌, List, [], ◌∷◌, ◌++◌, get_or, length, min, refl, sym, ◌∙◌, ap, arith}
use Rattle.std.specs.Prelude.{ℤ, pos, nat_abs, ◌+ℤ◌, ◌*ℤ◌, ◌≤ℤ◌, replicate, slice_index, unsigned_abs}
use Rattle.std.specs.List.{sum}
use Rattle.std.proofs.Math.Nat.{add-mul}
use Rattle.std.proofs.lemmas.Int.{ints}
use Rattle.std.proofs.lemmas.List.{length-replicate}
use Rattle.std.proofs.lemmas.List.Elements.{recursion_from_All}
use Rattle.std.proofs.lemmas.List.Sums.{sum_by-cons}
use Rattle.networks.specs.declared.verdicts.Judge.{Judge}
use Rattle.weights.specs.Grouped.{minus}
use Rattle.weights.proofs.ChoiceLists.{IsChoice}
use Rattle.weights.proofs.Filters.{all_replicate}
use Rattle.completion_bounds.specs.Boxes.{factored_squares}
use Rattle.completion_bounds.proofs.Narrowing.{IsNarrower, greatest_squares-falls, greatest_squares-point, least_squares-point, least_squares-rises}
use Rattle.later_scores.specs.LaterSums.{later_scores, subjects}
use Rattle.weights.specs.Numbers.{absolute_sum}
use Rattle.later_scores.proofs.Later.{later-end, later-next}
use Rattle.label_network.specs.Linear.{score_of}
use Rattle.label_network.specs.Meanings.{AreReached, IsMeasure, Meaning}
use Rattle.label_network.proofs.Rows.{fits-long}
use Rattle.label_network.proofs.Narrowing.{IsLeft, IsNarrowing, measured, reached-kept}
use Rattle.kruskal_wallis.specs.CentredSums.{IsCentred, centred_meaning, from_middle, seen_highs, seen_lows}
use Rattle.symmetry_reduction.specs.GroupSums.{AreHeld}
use Rattle.networks.specs.PartialSums.{plus}
use Rattle.kruskal_wallis.specs.RankSums.{score_parts}
use Rattle.kruskal_wallis.specs.RankSumSteps.{IsSquaring}
use Rattle.networks.proofs.Swaps.{length-plus}
use Rattle.kruskal_wallis.proofs.RankNarrows.{IsPartial, column-size, highs-end, in-box, length-parts, lows-end, sizes-zeros}

-- a box is as much narrower where all ends are moved alike
narrower-seen : (ls hs ps qs shifts : List ℤ) → IsNarrower ls hs ps qs → IsNarrower (plus ls shifts) (plus hs shifts) (plus ps shifts) (plus qs shifts)
narrower-seen [] [] [] [] shifts n = tt
narrower-seen [] [] [] (q ∷ qs) shifts n = absurd n
narrower-seen [] [] (p ∷ ps) qs shifts n = absurd n
narrower-seen [] (h ∷ hs) ps qs shifts n = absurd n
narrower-seen (l ∷ ls) [] ps qs shifts n = absurd n
narrower-seen (l ∷ ls) (h ∷ hs) [] qs shifts n = absurd n
narrower-seen (l ∷ ls) (h ∷ hs) (p ∷ ps) [] shifts n = absurd n
narrower-seen (l ∷ ls) (h ∷ hs) (p ∷ ps) (q ∷ qs) [] n = n
narrower-seen (l ∷ ls) (h ∷ hs) (p ∷ ps) (q ∷ qs) (s ∷ shifts) n = (moved l p s n.0, moved p q s n.1, moved q h s n.2, narrower-seen ls hs ps qs shifts n.3)
  where
    moved : (a b s : ℤ) → a ≤ℤ b → (a +ℤ s) ≤ℤ (b +ℤ s)
    moved a b s h = omega (arith, ints, h)

-- ---- sums of which none is negative

pub held-at : (zs : List ℤ) (i : ℕ) → AreHeld zs → get_or zs i (pos 0) ≡ pos (nat_abs (get_or zs i (pos 0)))
held-at [] i h = refl
held-at (z ∷ zs) zero h = h.0
held-at (z ∷ zs) (suc i) h = held-at zs i h.1

more-held : (z s : ℤ) (n : ℕ) → z ≡ pos (nat_abs z) → s ≡ pos (nat_abs s) → z +ℤ (pos n *ℤ s) ≡ pos (nat_abs (z +ℤ (pos n *ℤ s)))
more-held z s n h k = rw (h, k) refl

held-plus : (s : ℤ) (p : List ℤ) (x : List ℕ) → s ≡ pos (nat_abs s) → AreHeld p → AreHeld (plus p (score_parts s x))
held-plus s [] x k h = tt
held-plus s (z ∷ p) [] k h = h
held-plus s (z ∷ p) (n ∷ x) k h = (more-held z s n h.0 k, held-plus s p x k h.1)

size-more : (z s : ℤ) (n : ℕ) → z ≡ pos (nat_abs z) → s ≡ pos (nat_abs s) → unsigned_abs (z +ℤ (pos n *ℤ s)) ≡ unsigned_abs z + n * unsigned_abs s
size-more z s n h k = rw (h, k) refl

sizes-more : (s : ℤ) (p : List ℤ) (x : List ℕ) → s ≡ pos (nat_abs s) → AreHeld p → length x ≡ length p → absolute_sum (plus p (score_parts s x)) ≡ absolute_sum p + sum x * unsigned_abs s
sizes-more s [] [] k h l = omega arith
sizes-more s [] (n ∷ x) k h l = absurd (omega (arith, l))
sizes-more s (z ∷ p) [] k h l = absurd (omega (arith, l))
sizes-more s (z ∷ p) (n ∷ x) k h l =
    omega (arith, size-more z s n h.0 k, ap (λ v. v * unsigned_abs s) (sum_by-cons (λ v. v) n x) ∙ add-mul n (sum x) (unsigned_abs s), sizes-more s p x k h.1 (omega (arith, l)))

-- a sum for each group, none negative, that come to the scores before
pub record IsHeldPartial (scores : List ℤ) (columns rows : List ℕ) (g : ℕ) (r : List ℕ) (p : List ℤ) : Type 0 where
  pub wide : length p ≡ length rows
  pub held : AreHeld p
  pub whole : absolute_sum p + absolute_sum (later_scores scores columns g) ≡ absolute_sum (subjects scores columns)

module _ (factors : List ℕ) (bound base middle : ℕ) (scores : List ℤ) (columns rows : List ℕ) (judge : Judge) (h : IsSquaring factors bound scores columns rows judge) (c : IsCentred factors bound base middle scores columns rows) where
  abbrev shifts : List ℤ
  shifts = from_middle middle rows

  abbrev m : Meaning
  m = centred_meaning factors bound base middle scores columns rows judge

  abbrev Kept : ℕ → List ℕ → List ℤ → Type 0
  Kept = IsHeldPartial scores columns rows

  partial-of : (g : ℕ) (r : List ℕ) (p : List ℤ) → Kept g r p → IsPartial scores columns rows g r p
  partial-of g r p k = record { wide = k.wide; small = omega (arith, k.whole) }

  keeping : (g : ℕ) (r x : List ℕ) (p : List ℤ) → g < length columns → IsLeft m g r → IsChoice (slice_index columns g) r x → Kept g r p → Kept (g + 1) (minus r x) (plus p (score_parts (score_of scores g) x))
  keeping g r x p before l o k =
      let s : ℤ = score_of scores g in
      let held = held-at scores g (recursion_from_All _ scores c.held) in
      let long : length x ≡ length p = o.long ∙ fits-long r rows l.within ∙ sym k.wide in
      record {
        wide = length-plus p (score_parts s x) ∙ k.wide;
        held = held-plus s p x held k.held;
        whole = omega (arith, k.whole, sizes-more s p x held k.held long, ap (λ n. n * unsigned_abs s) o.whole, column-size factors bound scores columns rows judge h g r x p before l o (partial-of g r p k));
      }

  narrower-box : (g : ℕ) (r x : List ℕ) (p : List ℤ) (before : g < length columns) (l : IsLeft m g r) (o : IsChoice (slice_index columns g) r x) (k : Kept g r p)
      → let later = replicate (slice_index columns g) (score_of scores g) ++ later_scores scores columns (g + 1) in
      let next = later_scores scores columns (g + 1) in
      let q = plus p (score_parts (score_of scores g) x) in
      IsNarrower (seen_lows shifts later r p) (seen_highs shifts later r p) (seen_lows shifts next (minus r x) q) (seen_highs shifts next (minus r x) q)
  narrower-box g r x p before l o k = narrower-seen _ _ _ _ shifts (in-box factors bound scores columns rows judge h g r x p before l o (partial-of g r p k))

  capped : (a b : ℕ) → a ≤ b → pos (min (base + a) bound) ≤ℤ pos (min (base + b) bound)
  capped a b i = omega (arith, ints, i)

  -- at the end the sums are those of all scores
  whole-end : (r : List ℕ) (p : List ℤ) → Kept (length columns) r p → pos (min (base + factored_squares (plus p shifts) factors) bound) ≡ pos (factored_squares p factors)
  whole-end r p k =
      let all : ℕ = absolute_sum (subjects scores columns) in
      let end : absolute_sum p ≡ all = omega (arith, k.whole, ap absolute_sum (later-end scores columns h.long)) in
      ap (λ v. pos (min v bound)) (c.value p k.held k.wide end) ∙ ap pos (omega (arith, h.bounded p (omega (arith, end))))

  narrowing : IsNarrowing m Kept
  narrowing = record {
    keeps = keeping;
    rises = λ g r x p before l o k. rw (later-next scores columns g before h.long) (capped _ _ (least_squares-rises _ _ _ _ factors (narrower-box g r x p before l o k)));
    falls = λ g r x p before l o k. rw (later-next scores columns g before h.long) (capped _ _ (greatest_squares-falls _ _ _ _ factors (narrower-box g r x p before l o k)));
    low_end = λ r p l k.
        let same : length p ≡ length r = k.wide ∙ sym (fits-long r rows l.within) in
        rw (later-end scores columns h.long, lows-end p r same, highs-end p r same, least_squares-point (plus p shifts) factors) (whole-end r p k);
    high_end = λ r p l k.
        let same : length p ≡ length r = k.wide ∙ sym (fits-long r rows l.within) in
        rw (later-end scores columns h.long, lows-end p r same, highs-end p r same, greatest_squares-point (plus p shifts) factors) (whole-end r p k);
  }

  first-kept : Kept 0 rows (replicate (length rows) (pos 0))
  first-kept = record {
    wide = length-replicate (length rows) (pos 0);
    held = all_replicate (λ z. z ≡ pos (nat_abs z)) (length rows) (pos 0) refl;
    whole = omega (arith, sizes-zeros (length rows));
  }

  pub centred_measure : IsMeasure m
  centred_measure = measured m h.level Kept narrowing first-kept (λ g r p k. k.wide)

  pub reached_held : (g : ℕ) (r : List ℕ) (p : List ℤ) → AreReached m g r p → Kept g r p
  reached_held g r p a = reached-kept m h.level Kept narrowing first-kept g r p a
