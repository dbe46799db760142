-- The rooms of Kendall's test: their ways are the tables of counts, but for the order of the counts that are 0; and what a reached room has.
use Rattle.std.proofs.Common.{◌≡◌, ◌≢◌, ℕ, zero, suc, ◌+◌, ◌-◌, ◌*◌, ◌<◌, ◌≤◌, List, [], ◌∷◌, map, drop, length, get_or, true, refl, sym, ◌∙◌, ap, subst, arith, add-one, drop-cons, drop_of_length-le, mul-one, one-mul}
use Rattle.std.specs.Prelude.{ℤ, pos, slice_index}
use Rattle.std.specs.List.{sum_by, sum, Contains}
use Rattle.std.proofs.lemmas.Bool.{lt-ltb}
use Rattle.std.proofs.lemmas.List.Sums.{sum_by-drop_more}
use Rattle.weights.specs.declared.TheConstants.{MAX}
use Rattle.weights.specs.Grouped.{choices, columns_of, fits, minus, tables, table_weight}
use Rattle.weights.specs.Labellings.{labellings, number_of_labellings}
use Rattle.weights.proofs.ChoiceLists.{IsChoice, choices-each}
use Rattle.weights.proofs.FirstLabel.{number_of_labellings-positive}
use Rattle.weights.proofs.GroupingLaw.{grouping}
use Rattle.weights.proofs.Sized.{length-minus, sum-minus}
use Rattle.weights.proofs.Sums.{sum_by-flat_map, sum_by-map, sum_by-one, sum_by-same, sum_by-same_where}
use Rattle.networks.specs.Completions.{paths, path_weight, total_weight}
use Rattle.networks.specs.Network.{IsReached}
use Rattle.networks.proofs.Images.{mapped_from}
use Rattle.room_network.specs.Plans.{Gives, Plan, IsPlan, alone}
use Rattle.room_network.proofs.RoomKeys.{is_allowed}
use Rattle.label_network.specs.LabelSteps.{least}
use Rattle.label_network.proofs.Differing.{choices-differ}
use Rattle.label_network.proofs.LaterChoices.{least-first}
use Rattle.label_network.proofs.Narrowing.{chosen, fits-self, minus-within}
use Rattle.label_network.proofs.Sizes.{fewer-labellings}
use Rattle.kendall_test.specs.CountCodes.{code, counts_of_code}
use Rattle.kendall_test.specs.KendallRooms.{counts_left, kendall_plan, room_of_counts}
use Rattle.kendall_test.specs.KendallSteps.{AreKendallCounts}
use Rattle.kendall_test.proofs.Arranged.{arranged, choices-arranged, labellings-arranged, length-arranged, minus-arranged, padded-some, some-arranged, sum-arranged}
use Rattle.kendall_test.proofs.CodeLaws.{code-same, read-code}

-- the counts of a code, the zeros behind the others
pub counts-arranged : (r : List ℕ) (m units : ℕ) → m ≡ length r → units ≡ sum r → sum r ≤ 120 → counts_of_code m units (code r) ≡ arranged r r
counts-arranged r m units e f few = rw (f, read-code m r (sym e) few, e) (padded-some r)

-- what is left by a choice of the moved sizes has the same code
pub left-code : (r c : List ℕ) → length c ≡ length r → fits c r ≡ true → code (minus (arranged r r) (arranged r c)) ≡ code (minus r c)
left-code r c e f =
    ap code (minus-arranged r r c refl e)
    ∙ code-same (arranged r (minus r c)) (minus r c) (some-arranged r (minus r c) (minus-within r c r f (fits-self r)))

-- a table as a way of the rooms: each column's counts stand as the room's do
abbrev pub moved : List ℕ → List (List ℕ) → List (List ℕ)
moved r [] = []
moved r (c ∷ w) = arranged r c ∷ moved (minus r c) w

module _ (columns rows : List ℕ) where
  abbrev plan : Plan
  plan = kendall_plan columns rows

  -- counts of the subjects from stage g on, one for each second value
  pub record AreFor (g : ℕ) (r : List ℕ) : Type 0 where
    pub long : length r ≡ length rows
    pub whole : sum (drop g columns) ≡ sum r
    pub few : sum r ≤ 120

  pub counts-are : (g : ℕ) (r : List ℕ) → AreFor g r → counts_left columns (length rows) g (room_of_counts r) ≡ arranged r r
  counts-are g r h = counts-arranged r (length rows) (sum (drop g columns)) (sym h.long) h.whole h.few

  pub next-is : (g : ℕ) (r c : List ℕ) → AreFor g r → length c ≡ length r → fits c r ≡ true → plan.floor.next g (room_of_counts r) (arranged r c) ≡ room_of_counts (minus r c)
  next-is g r c h long f =
      ap (λ s. room_of_counts (minus s (arranged r c))) (counts-are g r h) ∙ ap (λ z. pos z ∷ []) (left-code r c long f)

  pub for-next : (g : ℕ) (r c : List ℕ) → g < length columns → AreFor g r → IsChoice (slice_index columns g) r c → AreFor (g + 1) (minus r c)
  for-next g r c before h o =
      let more : sum (drop g columns) ≡ get_or columns g 0 + sum (drop (g + 1) columns) = sum_by-drop_more (λ v. v) columns g 0 before in
      record {
        long = length-minus r c ∙ h.long;
        whole = omega (arith, more, h.whole, o.whole, sum-minus r c o.fitting);
        few = omega (arith, h.few, sum-minus r c o.fitting);
      }

  -- a sum over the ways from a room is that over the tables
  ways_are : (n g : ℕ) (r : List ℕ) (f : List (List ℕ) → ℕ) → g + n ≡ length columns → AreFor g r
      → sum_by (λ w. path_weight (alone plan) g (room_of_counts r) w * f w) (paths (alone plan) n g (room_of_counts r)) ≡ sum_by (λ w. table_weight w * f (moved r w)) (tables (drop g columns) r)
  ways_are zero g r f e h = rw (drop_of_length-le columns {i = g} (omega arith)) refl
  ways_are (suc n) g r f e h =
      let before : g < length columns = omega arith in
      let split : drop g columns ≡ slice_index columns g ∷ drop (g + 1) columns = rw add-one (drop-cons columns g 0 before) in
      let room : List ℤ = room_of_counts r in
      let col : ℕ = slice_index columns g in
      let here : List ℕ → ℕ = λ d. sum_by (λ w. path_weight (alone plan) g room (d ∷ w) * f (d ∷ w)) (paths (alone plan) n (g + 1) (plan.floor.next g room d)) in
      rw (lt-ltb g (length columns) before)
      (sum_by-flat_map (λ w. path_weight (alone plan) g room w * f w) (λ d. map (λ w. d ∷ w) (paths (alone plan) n (g + 1) (plan.floor.next g room d))) (choices col (counts_left columns (length rows) g room))
      ∙ sum_by-same _ here (λ d. sum_by-map (λ w. path_weight (alone plan) g room w * f w) (λ w. d ∷ w) (paths (alone plan) n (g + 1) (plan.floor.next g room d))) (choices col (counts_left columns (length rows) g room))
      ∙ ap (λ s. sum_by here (choices col s)) (counts-are g r h)
      ∙ ap (sum_by here) (choices-arranged col r)
      ∙ sum_by-map here (arranged r) (choices col r)
      ∙ sum_by-same_where (IsChoice col r) _ (λ c. sum_by (λ w. table_weight (c ∷ w) * f (moved r (c ∷ w))) (tables (drop (g + 1) columns) (minus r c))) (λ c o. one before c o (ways_are n (g + 1) (minus r c) (λ w. number_of_labellings c * f (arranged r c ∷ w)) (omega arith) (for-next g r c before h o))) (choices col r) (choices-each col r)
      ∙ sym (sum_by-flat_map (λ w. table_weight w * f (moved r w)) (λ c. map (λ w. c ∷ w) (tables (drop (g + 1) columns) (minus r c))) (choices col r)
      ∙ sum_by-same _ _ (λ c. sum_by-map (λ w. table_weight w * f (moved r w)) (λ w. c ∷ w) (tables (drop (g + 1) columns) (minus r c))) (choices col r))
      ∙ ap (λ cs. sum_by (λ w. table_weight w * f (moved r w)) (tables cs r)) (sym split))
    where
      regroup : (a b c : ℕ) → a * b * c ≡ b * (a * c)
      regroup a b c = omega arith

      one : g < length columns → (c : List ℕ) → IsChoice (slice_index columns g) r c
          → sum_by (λ w. path_weight (alone plan) (g + 1) (room_of_counts (minus r c)) w * (number_of_labellings c * f (arranged r c ∷ w))) (paths (alone plan) n (g + 1) (room_of_counts (minus r c))) ≡ sum_by (λ w. table_weight w * (number_of_labellings c * f (arranged r c ∷ moved (minus r c) w))) (tables (drop (g + 1) columns) (minus r c))
          → sum_by (λ w. path_weight (alone plan) g (room_of_counts r) (arranged r c ∷ w) * f (arranged r c ∷ w)) (paths (alone plan) n (g + 1) (plan.floor.next g (room_of_counts r) (arranged r c))) ≡ sum_by (λ w. table_weight (c ∷ w) * f (moved r (c ∷ w))) (tables (drop (g + 1) columns) (minus r c))
      one before c o later =
          let next = next-is g r c h o.long o.fitting in
          ap (λ k. sum_by (λ w. (number_of_labellings (arranged r c) * path_weight (alone plan) (g + 1) k w) * f (arranged r c ∷ w)) (paths (alone plan) n (g + 1) k)) next
          ∙ ap (λ v. sum_by (λ w. (v * path_weight (alone plan) (g + 1) (room_of_counts (minus r c)) w) * f (arranged r c ∷ w)) (paths (alone plan) n (g + 1) (room_of_counts (minus r c)))) (labellings-arranged r c o.fitting)
          ∙ sum_by-same _ _ (λ w. regroup (number_of_labellings c) (path_weight (alone plan) (g + 1) (room_of_counts (minus r c)) w) (f (arranged r c ∷ w))) (paths (alone plan) n (g + 1) (room_of_counts (minus r c)))
          ∙ later
          ∙ sum_by-same _ _ (λ w. sym (regroup (number_of_labellings c) (table_weight w) (f (arranged r c ∷ moved (minus r c) w)))) (tables (drop (g + 1) columns) (minus r c))

  -- the law, by the grouping law
  module _ (a : AreKendallCounts columns rows) where
    for-first : AreFor 0 rows
    for-first = record { long = refl; whole = a.level; few = a.few }

    pub kendall_gives : Gives plan (labellings rows) (λ xs. 1) (λ xs. moved rows (columns_of (length rows) columns xs))
    kendall_gives = record {
      law = λ f.
          ways_are (length columns - 0) 0 rows f (omega arith) for-first
          ∙ grouping columns rows (λ w. f (moved rows w)) a.level
          ∙ sum_by-same _ _ (λ xs. sym (one-mul (f (moved rows (columns_of (length rows) columns xs))))) (labellings rows);
    }

    -- what a reached room has
    pub record IsLeftRoom (g : ℕ) (room : List ℤ) : Type 0 where
      pub counts : List ℕ
      pub is : room ≡ room_of_counts counts
      pub for : AreFor g counts
      pub within : fits counts rows ≡ true
      pub stage : g ≤ length columns

    pub left_room : (g : ℕ) (room : List ℤ) → IsReached (alone plan) g room → IsLeftRoom g room
    left_room zero room r = record { counts = rows; is = r; for = for-first; within = fits-self rows; stage = omega arith }
    left_room (suc g) room (j, d, r, before, o, e) =
        let past : IsLeftRoom g j = left_room g j r in
        let s : List ℕ = past.counts in
        let col : ℕ = slice_index columns g in
        let held : Contains (map (arranged s) (choices col s)) d = subst (λ cs. Contains cs d) (ap (plan.floor.choices g) past.is ∙ ap (choices col) (counts-are g s past.for) ∙ choices-arranged col s) (is_allowed plan g j d before o) in
        let from = mapped_from (arranged s) d (choices col s) held in
        let c : IsChoice col s from.0 = chosen col s from.0 from.1 in
        record {
          counts = minus s from.0;
          is = e ∙ ap (λ k. plan.floor.next g k d) past.is ∙ ap (plan.floor.next g (room_of_counts s)) (sym from.2) ∙ next-is g s from.0 past.for c.long c.fitting;
          for = rw (← add-one) (for-next g s from.0 before past.for c);
          within = minus-within s from.0 rows c.fitting past.within;
          stage = omega (arith, before);
        }

    module _ (g : ℕ) (room : List ℤ) (r : IsReached (alone plan) g room) where
      abbrev pub here : IsLeftRoom g room
      here = left_room g room r

      abbrev pub left : List ℕ
      left = counts_left columns (length rows) g room

      pub left-is : left ≡ arranged here.counts here.counts
      left-is = ap (counts_left columns (length rows) g) here.is ∙ counts-are g here.counts here.for

      pub left-long : length left ≡ length rows
      left-long = ap length left-is ∙ length-arranged here.counts here.counts refl ∙ here.for.long

      pub left-sum : sum left ≡ sum (drop g columns)
      left-sum = ap sum left-is ∙ sum-arranged here.counts here.counts (fits-self here.counts) ∙ sym here.for.whole

      pub left-few : sum left ≤ 120
      left-few = omega (arith, left-sum, here.for.whole, here.for.few)

      left-number : number_of_labellings left ≡ number_of_labellings here.counts
      left-number = ap number_of_labellings left-is ∙ labellings-arranged here.counts here.counts (fits-self here.counts)

      pub left-fits : number_of_labellings left ≤ MAX
      left-fits = omega (arith, left-number, fewer-labellings here.counts rows here.within, a.total)

      -- what remains of a room weighs as many labellings as its counts have
      pub rest_is : total_weight (alone plan) g room ≡ number_of_labellings left
      unfolding total_weight
      rest_is =
          let s : List ℕ = here.counts in
          let n : ℕ = length columns - g in
          ap (λ k. sum_by (path_weight (alone plan) g k) (paths (alone plan) n g k)) here.is
          ∙ sum_by-same _ (λ w. path_weight (alone plan) g (room_of_counts s) w * 1) (λ w. sym (mul-one (path_weight (alone plan) g (room_of_counts s) w))) (paths (alone plan) n g (room_of_counts s))
          ∙ ways_are n g s (λ w. 1) (omega (arith, here.stage)) here.for
          ∙ grouping (drop g columns) s (λ w. 1) here.for.whole
          ∙ sum_by-one (labellings s)
          ∙ sym left-number

      pub enough : g < length columns → slice_index columns g ≤ sum left
      enough before =
          let more : sum (drop g columns) ≡ get_or columns g 0 + sum (drop (g + 1) columns) = sum_by-drop_more (λ x. x) columns g 0 before in
          omega (arith, more, left-sum)

      -- the first choice is one, and the others come after it
      pub first_is : g < length columns → plan.floor.choices g room ≡ least (slice_index columns g) left ∷ plan.floor.later g room (least (slice_index columns g) left)
      first_is before = least-first (slice_index columns g) left (enough before)

      some_way : g < length columns → plan.floor.choices g room ≢ []
      some_way before e = let first = first_is before in absurd (cc (first, e))

      module _ (c : List ℕ) (o : Contains (plan.floor.choices g room) c) where
        pub choice : IsChoice (slice_index columns g) left c
        choice = chosen (slice_index columns g) left c o

        pub choice-few : sum c ≤ 120
        choice-few = omega (arith, sum-minus left c choice.fitting, left-few)

        pub after-few : sum (minus left c) ≤ 120
        after-few = omega (arith, sum-minus left c choice.fitting, left-few)

    pub plan_sound : IsPlan plan
    plan_sound = record {
      first_long = refl;
      next_long = λ g room c e. refl;
      some_choice = some_way;
      different = λ g room r before. choices-differ (slice_index columns g) (counts_left columns (length rows) g room);
      weighty = λ g room c r before o. number_of_labellings-positive c;
      fits = rw (rest_is 0 (room_of_counts rows) refl) (left-fits 0 (room_of_counts rows) refl);
    }
