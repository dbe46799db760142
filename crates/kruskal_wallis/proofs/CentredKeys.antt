-- What the measure of the sums seen from their middle knows at each of its keys.
use Rattle.std.proofs.Common.{◌≡◌, ℕ, zero, suc, ◌+◌, ◌*◌, ◌^◌, ◌<◌, ◌≤◌, Bool, true, false, cond, List, [], ◌∷◌, ◌++◌, length, take, drop, get_or, min, replicate, refl, sym, ◌∙◌, ap, arith, inl, inr, length-append}
use Rattle.std.specs.Prelude.{ℤ, pos, nat_abs, nat_lt, ◌+ℤ◌, ◌-ℤ◌, unsigned_abs}
use Rattle.std.specs.List.{sum}
use Rattle.std.proofs.lemmas.Bool.{cases_lt}
use Rattle.std.proofs.lemmas.Int.{clamps, ints}
use Rattle.std.proofs.lemmas.List.Elements.{recursion_from_All}
use Rattle.std.proofs.lemmas.List.Sums.{sum_by-cons}
use Rattle.std.proofs.Math.Nat.{mul-le-mul_left}
use Rattle.std.proofs.Math.Seq.{drop-append_seam, take-append_seam}
use Rattle.weights.specs.Numbers.{absolute_sum}
use Rattle.weights.proofs.Filters.{all_replicate}
use Rattle.completion_bounds.specs.Boxes.{greatest_squares}
use Rattle.room_network.specs.Meanings.{AreReached, IsEnd, IsMove, IsRoom, IsStep}
use Rattle.later_scores.specs.declared.ends.End.{End}
use Rattle.later_scores.specs.declared.ends.End.TheVariants.{Least, Greatest}
use Rattle.later_scores.specs.LaterSteps.{better_of}
use Rattle.later_scores.specs.LaterSums.{later_scores, part_sum, subjects}
use Rattle.label_network.specs.LabelNetwork.{over_rooms}
use Rattle.label_network.specs.Meanings.{sizes_in}
use Rattle.label_network.specs.Meanings.{AreReached as LabelReached}
use Rattle.label_network.proofs.OverRooms.{over_place, under_place}
use Rattle.symmetry_reduction.specs.GroupSums.{AreHeld}
use Rattle.networks.specs.PartialSums.{plus}
use Rattle.kruskal_wallis.specs.CentredSums.{HasNarrowBoxes, from_middle}
use Rattle.kruskal_wallis.specs.RankSumSteps.{AreAddable, AreNarrow, IsSquaring, parts_of}
use Rattle.kruskal_wallis.specs.SumMeanings.{seen_meaning, sums_meaning}
use Rattle.kruskal_wallis.specs.declared.centred_sums.CentredSums.{CentredSums}
use Rattle.kruskal_wallis.proofs.CentredNarrows.{IsHeldPartial, held-at, reached_held}
use Rattle.kruskal_wallis.proofs.CentredSquares.{taken-is}
use Rattle.kruskal_wallis.proofs.Corners.{corners}
use Rattle.kruskal_wallis.proofs.RankKeys.{end-long, long, partial_is, parts-small, size-within}
use Rattle.networks.proofs.Swaps.{length-plus}
use Rattle.symmetry_reduction.proofs.GroupSums.{plus-at}
use Rattle.kruskal_wallis.proofs.RankNarrows.{length-parts}

-- ---- sums of squares

-- a bound that is kept twice
pub capped-twice : (b x n : ℕ) → min (b + min x n) n ≡ min (b + x) n
capped-twice b x n = omega arith

-- ---- scores of which none is negative

held-append : (xs ys : List ℤ) → AreHeld xs → AreHeld ys → AreHeld (xs ++ ys)
held-append [] ys h k = k
held-append (x ∷ xs) ys h k = (h.0, held-append xs ys h.1 k)

held-drop : (g : ℕ) (zs : List ℤ) → AreHeld zs → AreHeld (drop g zs)
held-drop zero zs h = h
held-drop (suc g) [] h = tt
held-drop (suc g) (z ∷ zs) h = held-drop g zs h.1

held-subjects : (scores : List ℤ) (counts : List ℕ) → AreHeld scores → AreHeld (subjects scores counts)
held-subjects [] counts h = tt
held-subjects (s ∷ scores) [] h = tt
held-subjects (s ∷ scores) (c ∷ counts) h = held-append (replicate c s) (subjects scores counts) (all_replicate (λ z. z ≡ pos (nat_abs z)) c s h.0) (held-subjects scores counts h.1)

better-held : (e : End) (a b : ℤ) → a ≡ pos (nat_abs a) → b ≡ pos (nat_abs b) → better_of e a b ≡ pos (nat_abs (better_of e a b))
better-held Least a b h k = omega (arith, ints, clamps, h, k)
better-held Greatest a b h k = omega (arith, ints, clamps, h, k)

part-held : (e : End) (j : ℕ) (xs : List ℤ) → AreHeld xs → part_sum (better_of e) j xs ≡ pos (nat_abs (part_sum (better_of e) j xs))
part-held e zero xs h = refl
part-held e (suc j) [] h = refl
part-held e (suc j) (x ∷ xs) h = by (nat_lt j (length xs)) (taken x (part_sum (better_of e) j xs) h.0 (part-held e j xs h.1)) (part-held e (suc j) xs h.1)
  where
    taken : (a b : ℤ) → a ≡ pos (nat_abs a) → b ≡ pos (nat_abs b) → a +ℤ b ≡ pos (nat_abs (a +ℤ b))
    taken a b h k = omega (arith, ints, h, k)

    by : (b : Bool) → x +ℤ part_sum (better_of e) j xs ≡ pos (nat_abs (x +ℤ part_sum (better_of e) j xs)) → part_sum (better_of e) (suc j) xs ≡ pos (nat_abs (part_sum (better_of e) (suc j) xs))
        → let z = cond b (better_of e (x +ℤ part_sum (better_of e) j xs) (part_sum (better_of e) (suc j) xs)) (x +ℤ part_sum (better_of e) j xs) in z ≡ pos (nat_abs z)
    by true i k = better-held e (x +ℤ part_sum (better_of e) j xs) (part_sum (better_of e) (suc j) xs) i k
    by false i k = i

-- ---- places of a list

plus-apart : (p a s : List ℤ) → length s ≡ length a → plus p (plus a s) ≡ plus (plus p a) s
plus-apart [] a s e = refl
plus-apart (x ∷ p) [] [] e = refl
plus-apart (x ∷ p) [] (z ∷ s) e = absurd (omega (arith, e))
plus-apart (x ∷ p) (y ∷ a) [] e = absurd (omega (arith, e))
plus-apart (x ∷ p) (y ∷ a) (z ∷ s) e = rw (plus-apart p a s (omega (arith, e)), one x y z) refl
  where
    one : (x y z : ℤ) → x +ℤ (y +ℤ z) ≡ (x +ℤ y) +ℤ z
    one x y z = omega (arith, ints)

pub none-behind : (zs : List ℤ) (i : ℕ) → length zs ≤ i → get_or zs i (pos 0) ≡ pos 0
none-behind [] i h = refl
none-behind (z ∷ zs) zero h = absurd (omega (arith, h))
none-behind (z ∷ zs) (suc i) h = none-behind zs i (omega (arith, h))

-- what a middle takes from one group is no more than from all
taken-at : (m : ℕ) (rows : List ℕ) (i : ℕ) → (t : ℕ) × (get_or (from_middle m rows) i (pos 0) ≡ pos 0 -ℤ pos t) × (t ≤ m * sum rows)
taken-at m [] i = (0, refl, omega arith)
taken-at m (n ∷ rows) zero = (n * m, taken-is n m, omega (arith, more m n (sum rows), ap (λ v. m * v) (sum_by-cons (λ v. v) n rows)))
  where
    more : (m n s : ℕ) → m * (n + s) ≡ n * m + m * s
    more m n s = grind arith
taken-at m (n ∷ rows) (suc i) =
    let rest = taken-at m rows i in
    (rest.0, rest.1, omega (arith, rest.2, mul-le-mul_left m (less n (sum rows)), ap (λ v. m * v) (sum_by-cons (λ v. v) n rows)))
  where
    less : (n s : ℕ) → s ≤ n + s
    less n s = omega arith

parts-held : (e : End) (later : List ℤ) (r : List ℕ) → AreHeld later → AreHeld (parts_of e later r)
parts-held e later [] h = tt
parts-held e later (n ∷ r) h = (part-held e n later h, parts-held e later r h)

module _ (s : CentredSums) where
  squaring : IsSquaring s.sums.factors.items s.sums.bound s.sums.later.scores.items s.sums.later.columns.items s.sums.rows.items s.sums.judge
  squaring = s.sums.right.squaring

  abbrev all : ℕ
  all = absolute_sum (subjects s.sums.later.scores.items s.sums.later.columns.items)

  abbrev later : ℕ → List ℤ
  later g = later_scores s.sums.later.scores.items s.sums.later.columns.items g

  -- the places are those of the sums as they are
  label-place : (g : ℕ) (r : List ℕ) (p : List ℤ) → LabelReached (seen_meaning s) g r p → LabelReached (sums_meaning s.sums) g r p
  label-place zero r p a = a
  label-place (suc g) r p (q, t, c, a, before, o, e, f) = (q, t, c, label-place g q t a, before, o, e, f)

  pub place : (g : ℕ) (f p : List ℤ) → AreReached (over_rooms (seen_meaning s)) g f p → AreReached (over_rooms (sums_meaning s.sums)) g f p
  place g f p r =
      let a = over_place (seen_meaning s) g f p r in
      under_place (sums_meaning s.sums) g f p (record { whole = a.whole; reached = label-place g (sizes_in f) p a.reached })

  pub room : (g : ℕ) (f : List ℤ) → IsRoom (over_rooms (seen_meaning s)) g f → IsRoom (over_rooms (sums_meaning s.sums)) g f
  room g f a = record { partial = a.partial; reached = place g f a.partial a.reached }

  pub move : (g : ℕ) (f : List ℤ) (c : List ℕ) (p : List ℤ) → IsMove (over_rooms (seen_meaning s)) g f c p → IsMove (over_rooms (sums_meaning s.sums)) g f c p
  move g f c p a = record { before = a.before; reached = place g f p a.reached; allowed = a.allowed }

  pub step : (g : ℕ) (f : List ℤ) (c : List ℕ) → IsStep (over_rooms (seen_meaning s)) g f c → IsStep (over_rooms (sums_meaning s.sums)) g f c
  step g f c a = record { partial = a.partial; move = move g f c a.partial a.move }

  pub end : (p : List ℤ) → IsEnd (over_rooms (seen_meaning s)) p → IsEnd (over_rooms (sums_meaning s.sums)) p
  end p a = record { room = a.room; reached = place (length s.sums.later.columns.items) a.room p a.reached }

  -- the front of so many numbers has room for a number for each group
  pub as-few : (n : ℕ) → n ≡ length s.sums.rows.items → n ≤ 8
  as-few n e = omega (arith, e, squaring.few_rows)

  abbrev shifts : List ℤ
  shifts = from_middle s.middle s.sums.rows.items

  pub shifts-long : length shifts ≡ length s.sums.rows.items
  shifts-long = length-parts (pos 0 -ℤ pos s.middle) s.sums.rows.items

  pub parts-wide : (g : ℕ) (f p : List ℤ) → AreReached (over_rooms (seen_meaning s)) g f p → (e : End) → length (parts_of e (later g) (sizes_in f)) ≡ length s.sums.rows.items
  parts-wide g f p r e = end-long s.sums g f p (place g f p r) e ∙ (partial_is s.sums g f p (place g f p r)).wide

  pub room-long : (g : ℕ) (f p : List ℤ) → AreReached (over_rooms (seen_meaning s)) g f p → length f ≡ length s.sums.rows.items
  room-long g f p r = long s.sums g f p (place g f p r)

  -- what the groups of a room can still get, seen from the middle
  abbrev ends : ℕ → List ℤ → End → List ℤ
  ends g f e = plus (parts_of e (later g) (sizes_in f)) shifts

  pub parts-beside : (g : ℕ) (f p : List ℤ) → AreReached (over_rooms (seen_meaning s)) g f p → (e : End) → length shifts ≡ length (parts_of e (later g) (sizes_in f))
  parts-beside g f p r e = shifts-long ∙ sym (parts-wide g f p r e)

  later-held : (g : ℕ) → AreHeld (later g)
  later-held g = held-subjects (drop g s.sums.later.scores.items) (drop g s.sums.later.columns.items) (held-drop g s.sums.later.scores.items (recursion_from_All _ s.sums.later.scores.items s.right.held))

  module _ (g : ℕ) (f p : List ℤ) (r : AreReached (over_rooms (seen_meaning s)) g f p) where
    pub kept : IsHeldPartial s.sums.later.scores.items s.sums.later.columns.items s.sums.rows.items g (sizes_in f) p
    kept = reached_held s.sums.factors.items s.sums.bound s.base s.middle s.sums.later.scores.items s.sums.later.columns.items s.sums.rows.items s.sums.judge squaring s.right g (sizes_in f) p (over_place (seen_meaning s) g f p r).reached

    pub partial-few : length p ≤ 8
    partial-few = as-few (length p) kept.wide

    pub ends-long : (e : End) → length (ends g f e) ≡ length p
    ends-long e = length-plus (parts_of e (later g) (sizes_in f)) shifts ∙ parts-wide g f p r e ∙ sym kept.wide

    parts-in : (e : End) → length (parts_of e (later g) (sizes_in f)) ≡ length p
    parts-in e = parts-wide g f p r e ∙ sym kept.wide

    -- what a group ends at, seen from the middle, is no more than all scores
    record IsSeen (a b t : ℕ) (e : End) (i : ℕ) : Type 0 where
      sum_is : get_or p i (pos 0) ≡ pos a
      part_is : get_or (parts_of e (later g) (sizes_in f)) i (pos 0) ≡ pos b
      taken : get_or shifts i (pos 0) ≡ pos 0 -ℤ pos t
      within : a + b ≤ all
      less : t ≤ all

    abbrev SeenAt : End → ℕ → Type 0
    SeenAt e i = (a : ℕ) × (b : ℕ) × (t : ℕ) × IsSeen a b t e i

    seen-at : (e : End) (i : ℕ) → SeenAt e i
    seen-at e i =
        let part = parts_of e (later g) (sizes_in f) in
        let away = taken-at s.middle s.sums.rows.items i in
        let one = held-at p i kept.held in
        let other = held-at part i (parts-held e (later g) (sizes_in f) (later-held g)) in (
          nat_abs (get_or p i (pos 0)),
          nat_abs (get_or part i (pos 0)),
          away.0,
          record {
            sum_is = one;
            part_is = other;
            taken = away.1;
            within = omega (arith, ints, size-within p i, parts-small e (later g) (sizes_in f) i, kept.whole, ap unsigned_abs one, ap unsigned_abs other);
            less = omega (arith, away.2, s.right.below);
          },
        )

    -- what the groups can still get, and what the middle takes from it
    pub parts-addable : (e : End) → AreAddable (parts_of e (later g) (sizes_in f)) shifts
    parts-addable e = record {
      each = λ i h.
          let away = taken-at s.middle s.sums.rows.items i in
          rw away.1 (omega (arith, ints, parts-small e (later g) (sizes_in f) i, kept.whole, away.2, s.right.below, s.right.small));
    }

    module _ (parts : List ℤ) (e : parts ≡ parts_of Least (later g) (sizes_in f) ++ parts_of Greatest (later g) (sizes_in f)) where
      beside : length f ≡ length (parts_of Least (later g) (sizes_in f))
      beside = room-long g f p r ∙ sym (parts-wide g f p r Least)

      pub front-parts : take (length f) parts ≡ parts_of Least (later g) (sizes_in f)
      front-parts = rw (e, beside) (take-append_seam (parts_of Least (later g) (sizes_in f)) (parts_of Greatest (later g) (sizes_in f)))

      pub back-parts : drop (length f) parts ≡ parts_of Greatest (later g) (sizes_in f)
      back-parts = rw (e, beside) (drop-append_seam (parts_of Least (later g) (sizes_in f)) (parts_of Greatest (later g) (sizes_in f)))

    end-is : (e : End) (i : ℕ) → i < length p → get_or (ends g f e) i (pos 0) ≡ get_or (parts_of e (later g) (sizes_in f)) i (pos 0) +ℤ get_or shifts i (pos 0)
    end-is e i h = plus-at (parts_of e (later g) (sizes_in f)) shifts i (parts-beside g f p r e) (omega (arith, h, parts-in e))

    pub end-addable : (e : End) → AreAddable p (ends g f e)
    end-addable e = record {
      each = λ i h.
          let (a, b, t, seen) = seen-at e i in
          rw (end-is e i h, seen.sum_is, seen.part_is, seen.taken) (omega (arith, ints, seen.within, seen.less, s.right.small));
    }

    pub end-narrow : (e : End) → HasNarrowBoxes s.sums.bound s.sums.later.scores.items s.sums.later.columns.items → AreNarrow p (ends g f e)
    end-narrow e n = record {
      each = λ i h.
          let (a, b, t, seen) = seen-at e i in
          rw (end-is e i h, seen.sum_is, seen.part_is, seen.taken) (omega (arith, ints, seen.within, seen.less, n.small));
    }

    -- between which sums the groups end, by what they have and what they can still get
    pub side-is : (e : End) → plus p (ends g f e) ≡ plus (plus p (parts_of e (later g) (sizes_in f))) shifts
    side-is e = plus-apart p (parts_of e (later g) (sizes_in f)) shifts (parts-beside g f p r e)

    pub side-long : (e : End) → length (plus p (ends g f e)) ≡ length s.sums.rows.items
    side-long e = length-plus p (ends g f e) ∙ kept.wide

    side-within : (e : End) (i : ℕ) → unsigned_abs (get_or (plus p (ends g f e)) i (pos 0)) ≤ all
    side-within e i = elim (cases_lt i (length p)) [
      | inl here ↦
          (let (a, b, t, seen) = seen-at e i in
          rw (plus-at p (ends g f e) i (ends-long e) here, end-is e i here, seen.sum_is, seen.part_is, seen.taken) (omega (arith, ints, seen.within, seen.less)))
      | inr past ↦ rw (none-behind (plus p (ends g f e)) i (omega (arith, past, length-plus p (ends g f e)))) (omega arith)
    ]

    pub box-fits : s.sums.bound < 2 ^ 124 → greatest_squares (plus p (ends g f Least)) (plus p (ends g f Greatest)) s.sums.factors.items < 2 ^ 127
    box-fits n = omega (arith, n, squaring.one_each, squaring.few_rows, corners all s.sums.bound s.sums.factors.items (plus p (ends g f Least)) (plus p (ends g f Greatest)) squaring.bounded (side-within Least) (side-within Greatest), mul-le-mul_right' (length s.sums.factors.items) 8 s.sums.bound (omega (arith, squaring.one_each, squaring.few_rows)))
      where
        mul-le-mul_right' : (a b c : ℕ) → a ≤ b → a * c ≤ b * c
        mul-le-mul_right' a b c h = grind (arith, h)

    -- the two halves of the outlook
    module _ (outlook : List ℤ) (e : outlook ≡ ends g f Least ++ ends g f Greatest) where
      pub outlook-long : length outlook ≡ length p + length p
      outlook-long = ap length e ∙ length-append (ends g f Least) (ends g f Greatest) ∙ rw (ends-long Least, ends-long Greatest) refl

      pub front-is : take (length p) outlook ≡ ends g f Least
      front-is = rw (e, ← ends-long Least) (take-append_seam (ends g f Least) (ends g f Greatest))

      pub back-is : drop (length p) outlook ≡ ends g f Greatest
      back-is = rw (e, ← ends-long Least) (drop-append_seam (ends g f Least) (ends g f Greatest))
