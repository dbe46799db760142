-- The intervals of Kendall's K narrow along every choice.
use Rattle.std.proofs.Common.{◌≡◌, ℕ, zero, suc, ◌+◌, ◌*◌, ◌<◌, ◌≤◌, List, [], ◌∷◌, length, get_or, drop, refl, ap, arith, add-one, drop-cons, drop_of_length-le}
use Rattle.std.specs.Prelude.{ℤ, pos, ◌+ℤ◌, ◌-ℤ◌, ◌≤ℤ◌, slice_index, unsigned_abs}
use Rattle.std.specs.List.{sum, Contains}
use Rattle.std.proofs.Math.Nat.{mul-le-mul}
use Rattle.std.proofs.lemmas.Bool.{lt-ltb}
use Rattle.std.proofs.lemmas.Int.{ints}
use Rattle.std.proofs.lemmas.List.Sums.{sum_by-drop_more}
use Rattle.weights.specs.Grouped.{minus}
use Rattle.weights.proofs.ChoiceLists.{IsChoice}
use Rattle.weights.proofs.Sized.{sum-minus}
use Rattle.networks.specs.Judged.{JudgeFits}
use Rattle.networks.specs.Network.{IsReached}
use Rattle.networks.specs.declared.verdicts.Judge.{Judge}
use Rattle.room_network.specs.Meanings.{AreReached, IsMeasure}
use Rattle.room_network.specs.Plans.{alone}
use Rattle.room_network.specs.Numbers.{IsScalar, IsOutcome, so_far}
use Rattle.room_network.specs.declared.numbers.Operation.TheVariants.{Sum}
use Rattle.concordant_pairs.specs.ConcordantPairs.{pairs_across}
use Rattle.kendall_test.specs.KendallNetwork.{concordance_added, kendall_meaning, kendall_numbers, open_pairs, concordant_pairs, concordance}
use Rattle.kendall_test.specs.KendallRooms.{counts_left, kendall_floor, kendall_plan}
use Rattle.kendall_test.specs.KendallSteps.{AreKendallCounts, IsKendall}
use Rattle.kendall_test.proofs.CodeLaws.{sum-first}
use Rattle.kendall_test.proofs.KendallPlans.{after-few, choice, choice-few, left-sum}

-- pairs of a subject here and a later one, whose second values are not equal
pub concordant-most : (x y : List ℕ) → concordant_pairs x y + concordant_pairs y x ≤ sum x * sum y
concordant-most [] [] = omega arith
concordant-most [] (b ∷ y) = omega arith
concordant-most (a ∷ x) [] = omega arith
concordant-most (a ∷ x) (b ∷ y) =
    rw (sum-first a x, sum-first b y) (omega (arith, concordant-most x y))

concordance-low : (x y : List ℕ) → (pos 0 -ℤ pos (sum x * sum y)) ≤ℤ concordance x y
concordance-low x y = omega (arith, ints, concordant-most x y)

concordance-high : (x y : List ℕ) → concordance x y ≤ℤ pos (sum x * sum y)
concordance-high x y = omega (arith, ints, concordant-most x y)

pub concordant-among : (cs : List ℕ) → concordant_pairs cs cs ≡ pairs_across cs
concordant-among [] = refl
concordant-among (c ∷ cs) = ap (λ n. c * sum cs + n) (concordant-among cs)

pub all-pairs : (cs : List ℕ) → sum cs ≤ 120 → pairs_across cs ≤ 14400
all-pairs cs h = omega (arith, concordant-among cs, concordant-most cs cs, mul-le-mul h h)

open-next : (columns : List ℕ) (g : ℕ) → g < length columns → open_pairs columns g ≡ slice_index columns g * sum (drop (g + 1) columns) + open_pairs columns (g + 1)
open-next columns g h =
    let split : drop g columns ≡ get_or columns g 0 ∷ drop (g + 1) columns = rw add-one (drop-cons columns g 0 h) in
    ap pairs_across split

open-end : (columns : List ℕ) (g : ℕ) → length columns ≤ g → open_pairs columns g ≡ 0
open-end columns g h = rw (drop_of_length-le columns {i = g} h) refl

module _ (columns rows : List ℕ) (judge : Judge) where
  -- rooms that are reached with a partial are reached
  pub room-reached : (g : ℕ) (room p : List ℤ) → AreReached (kendall_meaning columns rows judge) g room p → IsReached (alone (kendall_plan columns rows)) g room
  room-reached zero room p r = r.0
  room-reached (suc g) room p (s, q, c, r, before, o, e, f) = (s, c, room-reached g s q r, before, rw (lt-ltb g (length columns) before) o, e)

  partial-long : (g : ℕ) (room p : List ℤ) → AreReached (kendall_meaning columns rows judge) g room p → length p ≡ 1
  partial-long zero room p r = ap length r.1
  partial-long (suc g) room p (s, q, c, r, before, o, e, f) = ap length f

  module _ (a : AreKendallCounts columns rows) (g : ℕ) (room : List ℤ) (r : IsReached (alone (kendall_plan columns rows)) g room) (before : g < length columns) (c : List ℕ) (o : Contains ((kendall_floor columns rows).choices g room) c) where
    abbrev left : List ℕ
    left = counts_left columns (length rows) g room

    chosen : IsChoice (slice_index columns g) left c
    chosen = choice columns rows a g room r c o

    pub added-few : unsigned_abs (concordance_added columns (length rows) g room c) ≤ 14400
    added-few = omega (arith, ints, concordance-low c (minus left c), concordance-high c (minus left c), mul-le-mul (choice-few columns rows a g room r c o) (after-few columns rows a g room r c o))

    placed : sum c * sum (minus left c) ≡ slice_index columns g * sum (drop (g + 1) columns)
    placed =
        let more : sum (drop g columns) ≡ get_or columns g 0 + sum (drop (g + 1) columns) = sum_by-drop_more (λ v. v) columns g 0 before in
        let rest : sum (minus left c) ≡ sum (drop (g + 1) columns) = omega (arith, more, left-sum columns rows a g room r, chosen.whole, sum-minus left c chosen.fitting) in
        rw (chosen.whole, rest) refl

    narrower : open_pairs columns g ≡ sum c * sum (minus left c) + open_pairs columns (g + 1)
    narrower = rw placed (open-next columns g before)

    pub rising : (s : ℤ) → (s +ℤ (pos 0 -ℤ pos (open_pairs columns g))) ≤ℤ ((s +ℤ concordance_added columns (length rows) g room c) +ℤ (pos 0 -ℤ pos (open_pairs columns (g + 1))))
    rising s = omega (arith, ints, narrower, concordance-low c (minus left c))

    pub falling : (s : ℤ) → ((s +ℤ concordance_added columns (length rows) g room c) +ℤ pos (open_pairs columns (g + 1))) ≤ℤ (s +ℤ pos (open_pairs columns g))
    falling s = omega (arith, ints, narrower, concordance-high c (minus left c))

  less-none : (s : ℤ) → s +ℤ (pos 0 -ℤ pos (open_pairs columns (length columns))) ≡ s
  less-none s = rw (open-end columns (length columns) (omega arith)) (omega (arith, ints))

  more-none : (s : ℤ) → s +ℤ pos (open_pairs columns (length columns)) ≡ s
  more-none s = rw (open-end columns (length columns) (omega arith)) (omega (arith, ints))

  module _ (a : AreKendallCounts columns rows) where
    pub kendall_measure : IsMeasure (kendall_meaning columns rows judge)
    kendall_measure = record {
      wide = partial-long;
      low_rises = λ g room p c r before o. rising a g room (room-reached g room p r) before c o (so_far p);
      high_falls = λ g room p c r before o. falling a g room (room-reached g room p r) before c o (so_far p);
      low_ends = λ room p r. less-none (so_far p);
      high_ends = λ room p r. more-none (so_far p);
    }

    columns-few : sum columns ≤ 120
    columns-few = omega (arith, a.level, a.few)

    -- K so far, with all pairs that are open
    partial-within : (g : ℕ) (room p : List ℤ) → AreReached (kendall_meaning columns rows judge) g room p → unsigned_abs (so_far p) + open_pairs columns g ≤ open_pairs columns 0
    partial-within zero room p r = rw r.1 (omega arith)
    partial-within (suc g) room p (s, q, c, r, before, o, e, f) =
        let past = partial-within g s q r in
        let at : IsReached (alone (kendall_plan columns rows)) g s = room-reached g s q r in
        rw (f, ← add-one) (omega (arith, ints, past, rising a g s at before c o (so_far q), falling a g s at before c o (so_far q)))

    module _ (g : ℕ) (room p : List ℤ) (r : AreReached (kendall_meaning columns rows judge) g room p) where
      partial-few : unsigned_abs (so_far p) + open_pairs columns g ≤ 14400
      partial-few = omega (arith, partial-within g room p r, all-pairs columns columns-few)

      low-outcome : ((v : ℤ) → unsigned_abs v ≤ 14400 → JudgeFits judge v) → IsOutcome Sum judge (so_far p) (pos 0 -ℤ pos (open_pairs columns g))
      low-outcome fits = record { fits = omega (arith, ints, partial-few); ruled = fits _ (omega (arith, ints, partial-few)) }

      high-outcome : ((v : ℤ) → unsigned_abs v ≤ 14400 → JudgeFits judge v) → IsOutcome Sum judge (so_far p) (pos (open_pairs columns g))
      high-outcome fits = record { fits = omega (arith, ints, partial-few); ruled = fits _ (omega (arith, ints, partial-few)) }

  pub kendall_number : IsKendall columns rows judge → IsScalar (kendall_floor columns rows) (kendall_numbers columns rows judge)
  kendall_number h = record {
    narrows = kendall_measure h.counts;
    steps = λ g room c p v. omega (arith, partial-few h.counts g room p v.reached, added-few h.counts g room (room-reached g room p v.reached) v.before c v.allowed);
    lows = λ g room p r. low-outcome h.counts g room p r h.rules_fit;
    highs = λ g room p r. high-outcome h.counts g room p r h.rules_fit;
  }
