-- The rooms of ranks: what a reached room has and a choice there, that the plan is sound, and the bounds of what is still added.
use Rattle.std.proofs.Common.{◌≡◌, ℕ, zero, suc, ◌+◌, ◌-◌, ◌*◌, ◌<◌, ◌≤◌, mul-one, min, Bool, true, false, cond, nat_eq, List, [], ◌∷◌, drop, length, refl, sym, ◌∙◌, ap, subst, arith, add-one, drop_of_length-le, length-drop, length-append, eq-eqb, get_or, ◌++◌, inl, inr}
use Rattle.std.proofs.Math.Nat.{mul-le-mul}
use Rattle.std.specs.Prelude.{ℤ, pos, unsigned_abs, Contains}
use Rattle.std.specs.List.{sum, sum_by}
use Rattle.std.proofs.lemmas.Bool.{cases_lt}
use Rattle.std.proofs.lemmas.List.{drop_more, get_or_append_left}
use Rattle.weights.specs.declared.TheConstants.{MAX}
use Rattle.weights.proofs.Appended.{get-last}
use Rattle.weights.proofs.FirstLabel.{number_of_labellings-positive}
use Rattle.weights.proofs.Sums.{sum_by-same}
use Rattle.networks.specs.Completions.{completions, path_weight, total_weight}
use Rattle.networks.specs.Network.{IsReached, Network}
use Rattle.networks.proofs.Elements.{term-le-sum_by}
use Rattle.networks.proofs.Steps.{reached-next, total_weight-step}
use Rattle.networks.specs.Judged.{JudgeFits}
use Rattle.networks.specs.declared.verdicts.Judge.{Judge}
use Rattle.room_network.specs.Meanings.{IsMeasure}
use Rattle.room_network.specs.Numbers.{IsScalar}
use Rattle.room_network.specs.Plans.{IsPlan, Plan, alone}
use Rattle.room_network.specs.declared.numbers.Operation.TheVariants.{Sum}
use Rattle.room_network.proofs.RoomKeys.{choices_before, is_allowed}
use Rattle.count_rooms.specs.OneCount.{chosen, remaining}
use Rattle.count_rooms.proofs.NaturalMeasures.{AreBounds, natural_measure, natural_number}
use Rattle.count_rooms.proofs.OneCounts.{between, different, some-choice}
use Rattle.stratified_ranks.specs.RankRooms.{column_at, column_ranks, greatest_added, least_added, left, rank_floor, rank_meaning, rank_numbers, rank_plan, second_of, ways_of}
use Rattle.stratified_ranks.specs.RankSteps.{AreColumns, AreFitColumns, AreLaterWays, RankChoice, RankSeat, later_ways}
use Rattle.stratified_ranks.specs.declared.rank_columns.Column.{Column}
use Rattle.stratified_ranks.proofs.RankLabellings.{later-ways, later_sizes, number-more, ways_give}
use Rattle.stratified_ranks.proofs.RankSums.{added-meet, column-within, columns-sound_at, greatest-within, high-falls, low-rises, ranks-from, remaining-within}
use Rattle.stratified_ranks.proofs.TwoParts.{halves}

-- ---- columns from a stage on

pub stage-split : (columns : List Column) (g : ℕ) → g < length columns → drop g columns ≡ column_at columns g ∷ drop (g + 1) columns
stage-split columns g h = drop_more columns g _ h

pub columns-from : (columns : List Column) (g : ℕ) → AreColumns columns → AreColumns (drop g columns)
columns-from columns zero s = s
columns-from [] (suc g) s = s
columns-from (c ∷ columns) (suc g) s = columns-from columns g s.1

pub columns-at : (columns : List Column) → AreColumns columns → (g : ℕ) → g < length columns → AreColumns (column_at columns g ∷ drop (g + 1) columns)
columns-at columns s g h = subst AreColumns (stage-split columns g h) (columns-from columns g s)

left-few : (columns : List Column) → AreColumns columns → left columns ≤ 10000
left-few [] s = omega arith
left-few (c ∷ columns) s = s.0.small

left-factor : (a b m : ℕ) → 1 ≤ b → a * b ≤ m → a ≤ m
left-factor a b m h l = grind arith

right-factor : (a b m : ℕ) → 1 ≤ a → a * b ≤ m → b ≤ m
right-factor a b m h l = grind arith

-- at least one labelling of some subjects, and of all later strata
pub ways-some : (n r : ℕ) → 1 ≤ ways_of n r
ways-some n r = number_of_labellings-positive (halves n r)

pub later-some : (columns : List Column) → 1 ≤ later_ways columns
later-some [] = omega arith
later-some (c ∷ columns) = by (nat_eq c.later 0) (later-some columns)
  where
    by : (b : Bool) → 1 ≤ later_ways columns → 1 ≤ cond b (ways_of (left columns) (second_of columns)) 1 * later_ways columns
    by true h = mul-le-mul (ways-some (left columns) (second_of columns)) h
    by false h = omega (arith, h)

module _ (columns : List Column) (f : AreFitColumns columns) where
  abbrev plan : Plan
  plan = rank_plan columns

  abbrev net : Network
  net = alone (rank_plan columns)

  s : AreColumns columns
  s = columns-sound_at columns f.sound

  -- ---- rooms

  record IsRankRoom (g : ℕ) (room : List ℤ) : Type 0 where
    pub is : room ≡ pos (remaining room) ∷ []
    pub stage : g ≤ length columns
    pub within : remaining room ≤ left (drop g columns)

  within-here : (g : ℕ) (room : List ℤ) → IsRankRoom g room → g < length columns → remaining room ≤ (column_at columns g).size + (column_at columns g).later
  within-here g room r before = subst (λ cs. remaining room ≤ left cs) (stage-split columns g before) r.within

  -- a choice of a room
  record IsRankChoice (c : Column) (r : ℕ) (x : List ℕ) : Type 0 where
    pub is : x ≡ chosen x ∷ []
    pub least : r ≤ chosen x + c.later
    pub here : chosen x ≤ c.size
    pub most : chosen x ≤ r

  choice-at : (g : ℕ) (room : List ℤ) (x : List ℕ) → Contains (plan.floor.choices g room) x → IsRankChoice (column_at columns g) (remaining room) x
  choice-at g room x o =
      let c : Column = column_at columns g in
      let b = between (remaining room - c.later) (min c.size (remaining room)) x o in
      record { is = b.one; least = omega (arith, b.least); here = omega (arith, b.most); most = omega (arith, b.most) }

  room-at : (g : ℕ) (room : List ℤ) → IsReached net g room → IsRankRoom g room
  room-at zero room r = rw r (record { is = refl; stage = omega arith; within = f.within })
  room-at (suc g) room (j, x, r, before, o, e) =
      let past = room-at g j r in
      let choice = choice-at g j x (is_allowed plan g j x before o) in
      rw (e, ← add-one g) (record {
        is = refl;
        stage = omega (arith, before);
        within = remaining-within (column_at columns g) (drop (g + 1) columns) (columns-at columns s g before).0 (remaining j) (chosen x) (within-here g j past before) choice.least choice.most;
      })

  -- the labellings of the rest of a room's stratum, and of all later ones
  abbrev ways_from : ℕ → ℕ → ℕ
  ways_from g r = ways_of (left (drop g columns)) r * later_ways (drop g columns)

  ways-from_some : (g r : ℕ) → 1 ≤ ways_from g r
  ways-from_some g r = mul-le-mul (ways-some (left (drop g columns)) r) (later-some (drop g columns))

  rest-is : (g : ℕ) (room : List ℤ) → IsRankRoom g room → total_weight net g room ≡ ways_from g (remaining room)
  unfolding total_weight
  rest-is g room r =
      let k : List ℤ = pos (remaining room) ∷ [] in
      ap (λ k. sum_by (path_weight net g k) (completions net g k)) r.is
      ∙ sum_by-same (path_weight net g k) (λ w. path_weight net g k w * 1) (λ w. sym (mul-one (path_weight net g k w))) (completions net g k)
      ∙ rw (← length-drop g columns) (ways_give columns (drop g columns) g (remaining room) (λ w. 1) refl (omega (arith, r.stage, length-drop g columns)) (columns-from columns g s) r.within)
      ∙ number-more (halves (left (drop g columns)) (remaining room)) (later_sizes (drop g columns))
      ∙ ap (λ m. ways_of (left (drop g columns)) (remaining room) * m) (later-ways (drop g columns))

  pub plan_sound : IsPlan plan
  plan_sound = record {
    first_long = refl;
    next_long = λ g room x e. refl;
    some_choice = λ g room r before. some-choice (remaining room - (column_at columns g).later) (min (column_at columns g).size (remaining room)) (omega (arith, within-here g room (room-at g room r) before));
    different = λ g room r before. different (remaining room - (column_at columns g).later) (min (column_at columns g).size (remaining room));
    weighty = λ g room x r before o. ways-some (column_at columns g).size (chosen x);
    fits = omega (arith, rest-is 0 (pos (second_of columns) ∷ []) (room-at 0 (pos (second_of columns) ∷ []) refl), f.total_fits);
  }

  -- ---- no weight passes the limit

  arc-within : (g : ℕ) (room : List ℤ) (x : List ℕ) → g < length columns → Contains (net.choices g room) x → net.weight g room x * total_weight net (g + 1) (net.next g room x) ≤ total_weight net g room
  arc-within g room x before o = omega (arith, term-le-sum_by (λ c. net.weight g room c * total_weight net (g + 1) (net.next g room c)) (net.choices g room) x o, total_weight-step net g room before)

  total-fits : (g : ℕ) (room : List ℤ) → IsReached net g room → total_weight net g room ≤ MAX
  total-fits zero room r = rw r plan_sound.fits
  total-fits (suc g) room (j, x, r, before, o, e) =
      rw (e, ← add-one g) (right-factor (net.weight g j x) _ MAX (ways-some (column_at columns g).size (chosen x)) (omega (arith, arc-within g j x before o, total-fits g j r)))

  -- ---- what is known of a reached room, and of a choice there

  -- the ranks from a stage on
  ranks-fit : (g : ℕ) → sum (column_ranks (drop g columns)) ≤ MAX
  ranks-fit g = omega (arith, ranks-from columns g, f.ranks_fit)

  pub seat : (g : ℕ) (room : List ℤ) → IsReached net g room → RankSeat columns g room
  seat g room a =
      let r = room-at g room a in
      let from : AreColumns (drop g columns) = columns-from columns g s in
      let all : ways_from g (remaining room) ≤ MAX = omega (arith, rest-is g room r, total-fits g room a) in
      record {
        one = record { is = r.is; small = omega (arith, r.within, left-few (drop g columns) from) };
        stage = r.stage;
        sound = from;
        few = left-few (drop g columns) from;
        within = r.within;
        own = left-factor _ _ MAX (later-some (drop g columns)) all;
        both = all;
        meets = λ before. omega (arith, within-here g room r before);
        total = rest-is g room r;
        least = omega (arith, added-meet (drop g columns) (remaining room) from r.within, greatest-within (drop g columns) (remaining room) from r.within, ranks-fit g);
        greatest = omega (arith, greatest-within (drop g columns) (remaining room) from r.within, ranks-fit g);
      }

  pub choice-seat : (g : ℕ) (room : List ℤ) (x : List ℕ) → IsReached net g room → g < length columns → Contains (plan.floor.choices g room) x → RankChoice (column_at columns g) room x
  choice-seat g room x a before o =
      let c = choice-at g room x o in
      let allowed : Contains (net.choices g room) x = subst (λ cs. Contains cs x) (sym (choices_before plan g room before)) o in
      let next = room-at (g + 1) (net.next g room x) (reached-next net g room x a before allowed) in
      let some : 1 ≤ total_weight net (g + 1) (net.next g room x) = omega (arith, rest-is (g + 1) (net.next g room x) next, ways-from_some (g + 1) (remaining (net.next g room x))) in
      record {
        some = subst (λ xs. 0 < length xs) (sym c.is) (omega arith);
        within = c.here;
        most = c.most;
        fits = left-factor _ _ MAX some (omega (arith, arc-within g room x before allowed, total-fits g room a));
        few = omega (arith, (f.sound.each g before).small);
        added = omega (arith, column-within (column_at columns g) (drop (g + 1) columns) (chosen x) c.here, subst (λ cs. sum (column_ranks cs) ≤ MAX) (stage-split columns g before) (ranks-fit g));
      }

  -- ---- the sum of ranks

  pub bounds : AreBounds plan Sum (λ g room x. chosen x * (column_at columns g).rank) (λ g room. least_added (drop g columns) (remaining room)) (λ g room. greatest_added (drop g columns) (remaining room))
  bounds = record {
    low = λ g room x a before o. (let c = choice-at g room x o in
        rw (stage-split columns g before) (low-rises (column_at columns g) (drop (g + 1) columns) (columns-at columns s g before) (remaining room) (chosen x) c.least c.here c.most));
    high = high;
    steps = λ g room x a before o. omega (arith, high g room x a before o);
    meet = λ g room a. added-meet (drop g columns) (remaining room) (columns-from columns g s) (room-at g room a).within;
    low_ends = λ room a. omega (arith, added-meet _ _ (columns-from columns (length columns) s) (room-at (length columns) room a).within, none (remaining room));
    high_ends = λ room a. none (remaining room);
  }
    where
      none : (r : ℕ) → greatest_added (drop (length columns) columns) r ≡ 0
      none r = rw (drop_of_length-le columns {i = length columns} (omega arith)) refl

      high : (g : ℕ) (room : List ℤ) (x : List ℕ) → IsReached net g room → g < length columns → Contains (plan.floor.choices g room) x
          → chosen x * (column_at columns g).rank + greatest_added (drop (g + 1) columns) (remaining (plan.floor.next g room x)) ≤ greatest_added (drop g columns) (remaining room)
      high g room x a before o =
          let c = choice-at g room x o in
          rw (stage-split columns g before) (high-falls (column_at columns g) (drop (g + 1) columns) (columns-at columns s g before) (remaining room) (chosen x) c.least c.here c.most)

  first-fits : greatest_added columns (second_of columns) ≤ sum (column_ranks columns)
  first-fits = greatest-within columns (second_of columns) s f.within

  pub rank_measure : (judge : Judge) → IsMeasure (rank_meaning columns judge)
  rank_measure judge = natural_measure plan Sum _ _ _ bounds judge

  pub rank_number : (judge : Judge) → ((v : ℤ) → unsigned_abs v ≤ sum (column_ranks columns) → JudgeFits judge v) → IsScalar (rank_floor columns) (rank_numbers columns judge)
  rank_number judge fits = natural_number plan Sum _ _ _ bounds judge (omega (arith, first-fits, f.ranks_fit)) (λ n h. fits (pos n) (omega (arith, h, first-fits)))

-- ---- the table of later labellings

pub later-fewer : (columns : List Column) (g : ℕ) → later_ways (drop g columns) ≤ later_ways columns
later-fewer columns zero = omega arith
later-fewer [] (suc g) = omega arith
later-fewer (c ∷ columns) (suc g) = by (nat_eq c.later 0) (later-fewer columns g)
  where
    larger : (a b n : ℕ) → 1 ≤ a → n ≤ b → n ≤ a * b
    larger a b n h l = grind arith

    by : (b : Bool) → later_ways (drop g columns) ≤ later_ways columns → later_ways (drop g columns) ≤ cond b (ways_of (left columns) (second_of columns)) 1 * later_ways columns
    by true h = larger _ _ _ (ways-some (left columns) (second_of columns)) h
    by false h = omega (arith, h)

pub own-fits : (c : Column) (columns : List Column) (b : ℕ) → c.later ≡ 0 → b ≡ later_ways columns → later_ways (c ∷ columns) ≤ MAX → (ways_of (left columns) (second_of columns) ≤ MAX) × (ways_of (left columns) (second_of columns) * b ≤ MAX)
own-fits c columns b e same h =
    let last : nat_eq c.later 0 ≡ true = eq-eqb c.later 0 e in
    let all : ways_of (left columns) (second_of columns) * later_ways columns ≤ MAX = rw last at h in
    (left-factor _ _ MAX (later-some columns) all, rw same all)

-- a place past the others of a list
pub table-more : (columns : List Column) (done : ℕ) (ways : List ℕ) (w : ℕ) → AreLaterWays columns done ways → done < length columns → w ≡ later_ways (column_at columns (length columns - done - 1) ∷ drop (length columns - done - 1 + 1) columns) → AreLaterWays columns (done + 1) (ways ++ w ∷ [])
table-more columns done ways w a before e = record {
  long = omega (arith, length-append ways (w ∷ []), a.long);
  within = omega (arith, before);
  each = each;
}
  where
    each : (i : ℕ) → i ≤ done + 1 → get_or (ways ++ w ∷ []) i 0 ≡ later_ways (drop (length columns - i) columns)
    each i h = elim (cases_lt done i) [
      | inl l ↦ (let z : i ≡ length ways = omega (arith, l, h, a.long) in
          let back : length columns - done - 1 ≡ length columns - i = omega (arith, z, a.long) in
          let here = stage-split columns (length columns - done - 1) (omega (arith, before)) in
          ap (λ n. get_or (ways ++ w ∷ []) n 0) z ∙ get-last ways w 0 (length ways) refl ∙ e ∙ ap later_ways (sym here) ∙ ap (λ n. later_ways (drop n columns)) back)
      | inr l ↦ get_or_append_left ways (w ∷ []) 0 i (omega (arith, l, a.long)) ∙ a.each i l
    ]

pub suffix-fits : (columns : List Column) (g : ℕ) → g < length columns → later_ways columns ≤ MAX → later_ways (column_at columns g ∷ drop (g + 1) columns) ≤ MAX
suffix-fits columns g before h = subst (λ cs. later_ways cs ≤ MAX) (stage-split columns g before) (omega (arith, later-fewer columns g, h))

pub total-later : (columns : List Column) → AreFitColumns columns → later_ways columns ≤ MAX
total-later columns f = right-factor _ _ MAX (ways-some (left columns) (second_of columns)) f.total_fits
