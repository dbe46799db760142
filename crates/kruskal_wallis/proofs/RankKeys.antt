-- What the measure of squared sums knows at each of its keys.
use Rattle.std.proofs.Common.{◌≡◌, ℕ, zero, suc, ◌+◌, ◌-◌, ◌*◌, ◌<◌, ◌≤◌, ◌⊎◌, List, [], ◌∷◌, ◌++◌, length, take, drop, get_or, refl, sym, ◌∙◌, ap, subst, arith, inl, inr, length-append}
use Rattle.std.specs.Prelude.{ℤ, pos, unsigned_abs, slice_index}
use Rattle.std.specs.List.{sum, Contains}
use Rattle.std.proofs.Math.Nat.{mul-le-mul_right}
use Rattle.std.proofs.lemmas.Bool.{cases_lt}
use Rattle.std.proofs.lemmas.Int.{unsigned_abs-mul}
use Rattle.std.proofs.Math.Seq.{drop-append_seam, take-append_seam}
use Rattle.std.proofs.lemmas.List.{length-map}
use Rattle.std.proofs.lemmas.List.Sums.{sum_by-take-drop}
use Rattle.weights.specs.declared.TheConstants.{MAX}
use Rattle.weights.proofs.ChoiceLists.{IsChoice}
use Rattle.later_scores.specs.declared.ends.End.{End}
use Rattle.later_scores.specs.declared.ends.End.TheVariants.{Least, Greatest}
use Rattle.later_scores.specs.LaterSteps.{better_of}
use Rattle.later_scores.specs.LaterSums.{later_scores, part_sum, subjects}
use Rattle.later_scores.specs.LaterTables.{IsTabled}
use Rattle.later_scores.proofs.Absolute.{part-size}
use Rattle.later_scores.proofs.Later.{later-length}
use Rattle.label_network.specs.LabelSteps.{AreSizes}
use Rattle.weights.specs.Numbers.{absolute_sum}
use Rattle.label_network.specs.Linear.{score_of}
use Rattle.room_network.specs.Meanings.{AreReached}
use Rattle.label_network.specs.LabelNetwork.{over_rooms}
use Rattle.label_network.specs.Meanings.{IsPlace, allowed, sizes_in}
use Rattle.label_network.proofs.Enough.{group-enough}
use Rattle.label_network.proofs.LinearKeys.{reached-stage}
use Rattle.label_network.proofs.Narrowing.{IsLeft, chosen}
use Rattle.label_network.proofs.OverRooms.{over_place}
use Rattle.label_network.proofs.Rows.{fits-long, length-abs}
use Rattle.label_network.proofs.Sizes.{sizes-of_pos}
use Rattle.pooled_columns.proofs.GroupFacts.{at-within}
use Rattle.kruskal_wallis.specs.RankSums.{greatest_parts, least_parts, score_parts}
use Rattle.kruskal_wallis.specs.RankSumSteps.{AreAddable, AreTabled, parts_of}
use Rattle.kruskal_wallis.specs.SumMeanings.{sums_meaning}
use Rattle.kruskal_wallis.specs.declared.rank_sums.RankSums.{RankSums}
use Rattle.kruskal_wallis.proofs.RankNarrows.{IsPartial, column-size, reached_left, reached_partial}

pub size-within : (p : List ℤ) (i : ℕ) → unsigned_abs (get_or p i (pos 0)) ≤ absolute_sum p
size-within [] i = omega arith
size-within (a ∷ p) zero = omega arith
size-within (a ∷ p) (suc i) = omega (arith, size-within p i)

pub parts-small : (end : End) (later : List ℤ) (r : List ℕ) (i : ℕ) → unsigned_abs (get_or (parts_of end later r) i (pos 0)) ≤ absolute_sum later
parts-small end later [] i = omega arith
parts-small end later (n ∷ r) zero = part-size end n later
parts-small end later (n ∷ r) (suc i) = parts-small end later r i

pub counts-within : (v : ℤ) (x : List ℕ) (i : ℕ) → unsigned_abs (get_or (score_parts v x) i (pos 0)) ≤ sum x * unsigned_abs v
counts-within v x i = by x i (sum x) (at-within x)
  where
    by : (x : List ℕ) (i n : ℕ) → ((j : ℕ) → get_or x j 0 ≤ n) → unsigned_abs (get_or (score_parts v x) i (pos 0)) ≤ n * unsigned_abs v
    by [] i n h = omega arith
    by (k ∷ x) zero n h = rw (unsigned_abs-mul (pos k) v) (mul-le-mul_right (unsigned_abs v) (h 0))
    by (k ∷ x) (suc i) n h = by x i n (λ j. h (suc j))

module _ (m : RankSums) where
  abbrev later : ℕ → List ℤ
  later g = later_scores m.later.scores.items m.later.columns.items g

  module _ (g : ℕ) (f p : List ℤ) (r : AreReached (over_rooms (sums_meaning m)) g f p) where
    a : IsPlace (sums_meaning m) g f p
    a = over_place (sums_meaning m) g f p r

    pub left : IsLeft (sums_meaning m) g (sizes_in f)
    left = reached_left m.factors.items m.bound m.later.scores.items m.later.columns.items m.rows.items m.judge m.right.squaring g (sizes_in f) p a.reached

    pub partial_is : IsPartial m.later.scores.items m.later.columns.items m.rows.items g (sizes_in f) p
    partial_is = reached_partial m.factors.items m.bound m.later.scores.items m.later.columns.items m.rows.items m.judge m.right.squaring g (sizes_in f) p a.reached

    pub within-stages : g ≤ length m.later.columns.items
    within-stages = reached-stage (sums_meaning m) g (sizes_in f) p a.reached

    pub long : length f ≡ length m.rows.items
    long = sym (length-abs f) ∙ fits-long (sizes_in f) m.rows.items left.within

    few : sum (sizes_in f) ≤ 10000
    few = omega (arith, left.whole, m.right.squaring.level, m.right.squaring.few, sum_by-take-drop (λ v. v) m.later.columns.items g)

    pub sizes : AreSizes f
    sizes = sizes-of_pos (sizes_in f) (omega (arith, few)) f a.whole

    pub whole : sum (sizes_in f) ≡ length (later g)
    whole = sym left.whole ∙ sym (later-length m.later.scores.items m.later.columns.items g m.right.squaring.long)

    enough : (i : ℕ) → (get_or m.rows.items i 0 ≤ m.later.width - 1) ⊎ (sum m.rows.items ≤ (m.later.width - 1) + get_or m.rows.items i 0)
    enough i = elim (cases_lt (m.later.width - 1) (get_or m.rows.items i 0)) [
      | inl many ↦ inr (m.right.enough.each i many)
      | inr few ↦ inl few
    ]

    pub are-tabled : 1 ≤ m.later.width → AreTabled m.later.width (later g) (sizes_in f)
    are-tabled some =
        let back : (m.later.width - 1) + 1 ≡ m.later.width = omega (arith, some) in
        record {
          few = λ i. omega (arith, whole, at-within (sizes_in f) i);
          held = λ i. subst (λ n. IsTabled n (get_or (sizes_in f) i 0) (later g)) back
              (group-enough (m.later.width - 1) m.rows.items (sizes_in f) (later g) i (enough i) left.within whole);
        }

    pub end-within : (end : End) (i : ℕ) → unsigned_abs (get_or p i (pos 0)) + unsigned_abs (get_or (parts_of end (later g) (sizes_in f)) i (pos 0)) ≤ absolute_sum (subjects m.later.scores.items m.later.columns.items)
    end-within end i = omega (arith, size-within p i, parts-small end (later g) (sizes_in f) i, partial_is.small)

    pub end-addable : (end : End) → AreAddable p (parts_of end (later g) (sizes_in f))
    end-addable end = record { each = λ i l. omega (arith, end-within end i, m.right.squaring.sums_fit) }

    pub as-many : length (sizes_in f) ≡ length p
    as-many = fits-long (sizes_in f) m.rows.items left.within ∙ sym partial_is.wide

    pub end-long : (end : End) → length (parts_of end (later g) (sizes_in f)) ≡ length p
    end-long end = length-map (sizes_in f) (λ n. part_sum (better_of end) n (later g)) ∙ as-many

    -- both halves of the outlook
    module _ (outlook : List ℤ) (e : outlook ≡ least_parts (later g) (sizes_in f) ++ greatest_parts (later g) (sizes_in f)) where
      pub outlook-long : length outlook ≡ length p + length p
      outlook-long = ap length e ∙ length-append (least_parts (later g) (sizes_in f)) (greatest_parts (later g) (sizes_in f)) ∙ rw (end-long Least, end-long Greatest) refl

      pub front-is : take (length p) outlook ≡ least_parts (later g) (sizes_in f)
      front-is = rw (e, ← end-long Least) (take-append_seam (least_parts (later g) (sizes_in f)) (greatest_parts (later g) (sizes_in f)))

      pub back-is : drop (length p) outlook ≡ greatest_parts (later g) (sizes_in f)
      back-is = rw (e, ← end-long Least) (drop-append_seam (least_parts (later g) (sizes_in f)) (greatest_parts (later g) (sizes_in f)))

    -- a choice there
    module _ (before : g < length m.later.columns.items) (x : List ℕ) (o : Contains (allowed (sums_meaning m) g (sizes_in f)) x) where
      pub choice : IsChoice (slice_index m.later.columns.items g) (sizes_in f) x
      choice = chosen (slice_index m.later.columns.items g) (sizes_in f) x o

      pub choice-long : length x ≡ length m.rows.items
      choice-long = choice.long ∙ fits-long (sizes_in f) m.rows.items left.within

      pub column-fits : sum x * unsigned_abs (score_of m.later.scores.items g) + absolute_sum (later (g + 1)) ≡ absolute_sum (later g)
      column-fits =
          ap (λ n. n * unsigned_abs (score_of m.later.scores.items g) + absolute_sum (later (g + 1))) choice.whole
          ∙ sym (column-size m.factors.items m.bound m.later.scores.items m.later.columns.items m.rows.items m.judge m.right.squaring g (sizes_in f) x p before left choice partial_is)

      pub parts-fit : sum x * unsigned_abs (score_of m.later.scores.items g) ≤ MAX
      parts-fit = omega (arith, column-fits, partial_is.small, m.right.squaring.sums_fit)

      pub parts-addable : AreAddable p (score_parts (score_of m.later.scores.items g) x)
      parts-addable = record { each = λ i l. omega (arith, size-within p i, counts-within (score_of m.later.scores.items g) x i, column-fits, partial_is.small, m.right.squaring.sums_fit) }
