-- The labellings of a table of two rows and two columns with odds: its rooms give them, and what remains of a room.
use Rattle.std.proofs.Common.{◌≡◌, ℕ, zero, suc, ◌+◌, ◌-◌, ◌*◌, ◌^◌, ◌<◌, ◌≤◌, cond, List, [], ◌∷◌, map, take, drop, length, nat_eq, nat_le, true, refl, sym, ◌∙◌, ap, subst, arith, ne_eqb, length-drop, mul-one, mul_assoc, one-mul}
use Rattle.std.specs.Prelude.{ℤ, pos, slice_index}
use Rattle.std.specs.List.{AllByRecursion, Contains, sum, sum_by}
use Rattle.std.proofs.Math.Nat.{mul_comm, one-le-pow}
use Rattle.std.proofs.lemmas.Bool.{leb-true}
use Rattle.std.proofs.lemmas.List.{take_all}
use Rattle.std.proofs.lemmas.List.Elements.{recursion_from_All, All-contains_itself}
use Rattle.std.proofs.lemmas.List.Sums.{sum_by-cons, sum_by-take-drop}
use Rattle.weights.specs.declared.TheConstants.{MAX}
use Rattle.weights.specs.declared.odds.Odds.{Odds}
use Rattle.weights.specs.Grouped.{columns_of, fits, minus}
use Rattle.weights.specs.Labellings.{labellings, number_of_labellings}
use Rattle.weights.specs.Numbers.{binomial}
use Rattle.weights.proofs.Binomials.{binomial-positive}
use Rattle.weights.proofs.ChoiceLists.{IsChoice}
use Rattle.weights.proofs.Filters.{flat_map-same}
use Rattle.weights.proofs.FirstLabel.{number_of_labellings-positive}
use Rattle.weights.proofs.Members.{IsLabelling, labelling_from}
use Rattle.weights.proofs.Sized.{first_and, sum-minus}
use Rattle.weights.proofs.Sums.{sum_by-same, sum_by-same_where, sum_by-scaled}
use Rattle.networks.specs.Completions.{paths, path_weight, total_weight}
use Rattle.networks.specs.Network.{IsReached}
use Rattle.networks.proofs.Elements.{term-le-sum_by}
use Rattle.networks.proofs.Steps.{total_weight-last, total_weight-step}
use Rattle.room_network.specs.Plans.{Gives, IsPlan, Plan, alone, ways, way_weight}
use Rattle.room_network.proofs.RoomKeys.{choices_before, is_allowed}
use Rattle.label_network.specs.LabelRooms.{label_plan}
use Rattle.label_network.specs.Meanings.{sizes_in}
use Rattle.label_network.proofs.LabelPlans.{label_plan_sound, labels_give, rest_is, sizes-back}
use Rattle.label_network.proofs.Narrowing.{chosen}
use Rattle.two_by_two.specs.FisherOdds.{labels_weight}
use Rattle.weights.specs.Odds.{IsOdds, odds_weight}
use Rattle.two_by_two.specs.OddsNetworks.{odds_at, odds_plan}
use Rattle.two_by_two.specs.OddsSteps.{AreWeighted, cells_weight, odds_total}
use Rattle.weights.proofs.CellSums.{by_cells, zeros_in, sum-two}
use Rattle.weights.proofs.Products.{product-some}

-- ---- products

pub product_left : (a b : ℕ) → 1 ≤ b → a ≤ a * b
product_left a b h = grind arith

pub product_right : (a b : ℕ) → 1 ≤ a → b ≤ a * b
product_right a b h = grind arith

apart : (a b x y : ℕ) → (a * b) * (x * y) ≡ (a * x) * (b * y)
apart a b x y = grind arith

turned : (a b : ℕ) → (a * b) * 1 ≡ b * (a * 1)
turned a b = grind arith

-- ---- pairs

pub is-pair : (xs : List ℕ) → length xs ≡ 2 → xs ≡ slice_index xs 0 ∷ slice_index xs 1 ∷ []
is-pair [] e = absurd (omega (arith, e))
is-pair (x ∷ []) e = absurd (omega (arith, e))
is-pair (x ∷ y ∷ []) e = refl
is-pair (x ∷ y ∷ z ∷ xs) e = absurd (omega (arith, e))

pub pair-sum : (xs : List ℕ) → length xs ≡ 2 → sum xs ≡ slice_index xs 0 + slice_index xs 1
pair-sum xs e = ap sum (is-pair xs e) ∙ sum-two (slice_index xs 0) (slice_index xs 1)

-- counts that fit sizes and have as many subjects are these sizes
full : (x r : List ℕ) → fits x r ≡ true → sum x ≡ sum r → slice_index x 0 ≡ slice_index r 0
full [] [] f e = refl
full [] (r ∷ rs) f e = absurd (cc f)
full (a ∷ x) [] f e = absurd (cc f)
full (a ∷ x) (r ∷ rs) f e =
    let both = first_and (nat_le a r) (fits x rs) f in
    let here : a ≤ r = leb-true a r both.0 in
    let same : a ≡ r = omega (arith, e, here, sum-minus rs x both.1, sum_by-cons (λ v. v) a x, sum_by-cons (λ v. v) r rs) in
    same

members : {X : Type 0} (xs : List X) → AllByRecursion (Contains xs) xs
members xs = recursion_from_All (Contains xs) xs (All-contains_itself xs)

-- ---- odds

pub some-weight : (odds : Odds) → IsOdds odds → (n x : ℕ) → 1 ≤ odds_weight odds n x
some-weight odds i n x = product-some (odds.above ^ x) (odds.below ^ (n - x)) (one-le-pow x odds.above i.above_some) (one-le-pow (n - x) odds.below i.below_some)

at-some : (odds : Odds) → IsOdds odds → (g : ℕ) → 1 ≤ odds_at odds g
at-some odds i zero = i.above_some
at-some odds i (suc g) = rw (ne_eqb (suc g) 0 (λ e. omega (arith, e))) i.below_some

-- what the odds of a way weigh, from a column on
abbrev way_odds : Odds → ℕ → List (List ℕ) → ℕ
way_odds odds g [] = 1
way_odds odds g (c ∷ w) = odds_at odds g ^ slice_index c 0 * way_odds odds (g + 1) w

-- the first row's subjects of the second column
other-cell : (c d n m : ℕ) → c + d ≡ n + m → (xs : List ℕ) → Contains (labellings (n ∷ m ∷ [])) xs → zeros_in (take d (drop c xs)) ≡ n - zeros_in (take c xs)
other-cell c d n m level xs o =
    let l : IsLabelling (n ∷ m ∷ []) xs = labelling_from (n ∷ m ∷ []) xs o in
    let long : length xs ≡ n + m = l.over.long ∙ sum-two n m in
    let rest : take d (drop c xs) ≡ drop c xs = take_all d (drop c xs) (omega (arith, length-drop c xs, long, level)) in
    let zeros : zeros_in xs ≡ n = ap (λ ys. slice_index ys 0) l.counted in
    let split : zeros_in (take c xs) + zeros_in (drop c xs) ≡ zeros_in xs = sum_by-take-drop (λ l. cond (nat_eq l 0) 1 0) xs c in
    ap zeros_in rest ∙ omega (arith, zeros, split)

-- the first row has no more of them than it has in all
pub cell-within-row : (c : ℕ) (rows : List ℕ) → length rows ≡ 2 → (xs : List ℕ) → Contains (labellings rows) xs → zeros_in (take c xs) ≤ slice_index rows 0
cell-within-row c rows two xs o =
    let l : IsLabelling (slice_index rows 0 ∷ slice_index rows 1 ∷ []) xs = labelling_from (slice_index rows 0 ∷ slice_index rows 1 ∷ []) xs (subst (λ rs. Contains (labellings rs) xs) (is-pair rows two) o) in
    let zeros : zeros_in xs ≡ slice_index rows 0 = ap (λ ys. slice_index ys 0) l.counted in
    let split : zeros_in (take c xs) + zeros_in (drop c xs) ≡ zeros_in xs = sum_by-take-drop (λ l. cond (nat_eq l 0) 1 0) xs c in
    omega (arith, zeros, split)

two-odds : (odds : Odds) (c d n m : ℕ) → c + d ≡ n + m → (xs : List ℕ) → Contains (labellings (n ∷ m ∷ [])) xs → way_odds odds 0 (columns_of 2 (c ∷ d ∷ []) xs) ≡ odds_weight odds n (zeros_in (take c xs))
two-odds odds c d n m level xs o =
    ap (λ y. odds.above ^ zeros_in (take c xs) * y)
    (mul-one (odds.below ^ zeros_in (take d (drop c xs))) ∙ ap (λ y. odds.below ^ y) (other-cell c d n m level xs o))

labels-odds : (odds : Odds) (columns rows : List ℕ) → length columns ≡ 2 → length rows ≡ 2 → sum columns ≡ sum rows → (xs : List ℕ) → Contains (labellings rows) xs
    → way_odds odds 0 (columns_of (length rows) columns xs) ≡ labels_weight odds columns rows xs
labels-odds odds columns rows a b level xs o =
    ap (λ k. way_odds odds 0 (columns_of k columns xs)) b
    ∙ ap (λ cs. way_odds odds 0 (columns_of 2 cs xs)) (is-pair columns a)
    ∙ two-odds odds (slice_index columns 0) (slice_index columns 1) (slice_index rows 0) (slice_index rows 1) (omega (arith, level, pair-sum columns a, pair-sum rows b)) xs
    (subst (λ rs. Contains (labellings rs) xs) (is-pair rows b) o)

-- ---- what the rooms give

module _ (odds : Odds) (columns rows : List ℕ) where
  abbrev labels : Plan
  labels = label_plan columns rows

  abbrev plan : Plan
  plan = odds_plan odds columns rows

  -- the rooms and the ways are those of the labels
  pub same-rooms : (g : ℕ) (room : List ℤ) → IsReached (alone plan) g room → IsReached (alone labels) g room
  same-rooms zero room r = r
  same-rooms (suc g) room (j, c, r, before, o, e) = (j, c, same-rooms g j r, before, o, e)

  same-paths : (n g : ℕ) (room : List ℤ) → paths (alone plan) n g room ≡ paths (alone labels) n g room
  same-paths zero g room = refl
  same-paths (suc n) g room =
      flat_map-same (λ c. map (λ cs. c ∷ cs) (paths (alone plan) n (g + 1) (plan.floor.next g room c))) (λ c. map (λ cs. c ∷ cs) (paths (alone labels) n (g + 1) (labels.floor.next g room c)))
      (λ c. ap (map (λ cs. c ∷ cs)) (same-paths n (g + 1) (labels.floor.next g room c))) ((alone labels).choices g room)

  way-weighs : (g : ℕ) (room : List ℤ) (w : List (List ℕ)) → path_weight (alone plan) g room w ≡ path_weight (alone labels) g room w * way_odds odds g w
  way-weighs g room [] = refl
  way-weighs g room (c ∷ w) =
      ap (λ n. number_of_labellings c * odds_at odds g ^ slice_index c 0 * n) (way-weighs (g + 1) (labels.floor.next g room c) w)
      ∙ apart (number_of_labellings c) (odds_at odds g ^ slice_index c 0) (path_weight (alone labels) (g + 1) (labels.floor.next g room c) w) (way_odds odds (g + 1) w)

  abbrev cut : List ℕ → List (List ℕ)
  cut = columns_of (length rows) columns

  module _ (two_columns : length columns ≡ 2) (two_rows : length rows ≡ 2) (level : sum columns ≡ sum rows) where
    term : (f : List (List ℕ) → ℕ) (xs : List ℕ) → Contains (labellings rows) xs → 1 * (way_odds odds 0 (cut xs) * f (cut xs)) ≡ labels_weight odds columns rows xs * f (cut xs)
    term f xs o = one-mul (way_odds odds 0 (cut xs) * f (cut xs)) ∙ ap (λ n. n * f (cut xs)) (labels-odds odds columns rows two_columns two_rows level xs o)

    pub odds_give : Gives plan (labellings rows) (labels_weight odds columns rows) cut
    odds_give = record {
      law = λ f.
          ap (sum_by (λ w. way_weight plan w * f w)) (same-paths (length columns - 0) 0 (map pos rows))
          ∙ sum_by-same (λ w. way_weight plan w * f w) (λ w. way_weight labels w * (way_odds odds 0 w * f w)) (λ w. ap (λ n. n * f w) (way-weighs 0 (map pos rows) w) ∙ mul_assoc (way_weight labels w) (way_odds odds 0 w) (f w)) (ways labels)
          ∙ (labels_give columns rows level).law (λ w. way_odds odds 0 w * f w)
          ∙ sum_by-same_where (Contains (labellings rows)) (λ xs. 1 * (way_odds odds 0 (cut xs) * f (cut xs))) (λ xs. labels_weight odds columns rows xs * f (cut xs)) (term f) (labellings rows) (members (labellings rows));
    }

    rooms-total : total_weight (alone plan) 0 (map pos rows) ≡ odds_total odds columns rows
    unfolding total_weight
    rooms-total =
        sum_by-same (way_weight plan) (λ w. way_weight plan w * 1) (λ w. sym (mul-one (way_weight plan w))) (ways plan)
        ∙ odds_give.law (λ w. 1)
        ∙ sum_by-same (λ xs. labels_weight odds columns rows xs * 1) (labels_weight odds columns rows) (λ xs. mul-one (labels_weight odds columns rows xs)) (labellings rows)

    -- the same by first cells
    pub cells-total : cells_weight odds (slice_index columns 0) (slice_index columns 1) (slice_index rows 0) ≡ odds_total odds columns rows
    cells-total =
        let c : ℕ = slice_index columns 0 in
        let d : ℕ = slice_index columns 1 in
        let n : ℕ = slice_index rows 0 in
        let m : ℕ = slice_index rows 1 in
        let even : c + d ≡ n + m = omega (arith, level, pair-sum columns two_columns, pair-sum rows two_rows) in
        sym (
        ap (λ rs. sum_by (labels_weight odds columns rows) (labellings rs)) (is-pair rows two_rows)
        ∙ by_cells c d n m (odds_weight odds n) even
        )

-- ---- of rooms that weigh so much in all

module _ (odds : Odds) (columns rows : List ℕ) (total : ℕ) (a : AreWeighted odds columns rows total) where
  abbrev own : Plan
  own = odds_plan odds columns rows

  abbrev own_labels : Plan
  own_labels = label_plan columns rows

  pub own-total : (room : List ℤ) → IsReached (alone own) 0 room → total_weight (alone own) 0 room ≡ total
  own-total room r = ap (total_weight (alone own) 0) r ∙ rooms-total odds columns rows a.two_columns a.two_rows a.labelled.level ∙ sym a.total_is

  pub odds_sound : IsPlan own
  odds_sound =
      let s : IsPlan own_labels = label_plan_sound columns rows a.labelled in
      record {
        first_long = s.first_long;
        next_long = s.next_long;
        some_choice = λ g room r. s.some_choice g room (same-rooms odds columns rows g room r);
        different = λ g room r. s.different g room (same-rooms odds columns rows g room r);
        weighty = λ g room c r before o. product-some (number_of_labellings c) (odds_at odds g ^ slice_index c 0) (number_of_labellings-positive c) (one-le-pow (slice_index c 0) (odds_at odds g) (at-some odds a.some_odds g));
        fits = omega (arith, own-total (map pos rows) refl, a.total_fits);
      }

  -- ---- what remains

  -- the second column has all subjects that remain
  last-whole : (room : List ℤ) → IsReached (alone own) 1 room → sum (sizes_in room) ≡ slice_index columns 1
  last-whole room (j, d, r, before, o, e) =
      let first : IsChoice (slice_index columns 0) (sizes_in j) d = chosen (slice_index columns 0) (sizes_in j) d (is_allowed own 0 j d before o) in
      let left : sum (sizes_in room) ≡ sum (minus (sizes_in j) d) = ap sum (ap sizes_in e ∙ sizes-back (minus (sizes_in j) d)) in
      let all : sum (sizes_in j) ≡ sum columns = ap sum (ap sizes_in r ∙ sizes-back rows) ∙ sym a.labelled.level in
      omega (arith, first.whole, sum-minus (sizes_in j) d first.fitting, left, all, pair-sum columns a.two_columns)

  two-stages : 1 < length columns
  two-stages = omega (arith, a.two_columns)

  last-choice : (room : List ℤ) → IsReached (alone own) 1 room → (c : List ℕ) → Contains ((alone own).choices 1 room) c → slice_index c 0 ≡ slice_index (sizes_in room) 0
  last-choice room r c o =
      let here : IsChoice (slice_index columns 1) (sizes_in room) c = chosen (slice_index columns 1) (sizes_in room) c (is_allowed own 1 room c two-stages o) in
      full c (sizes_in room) here.fitting (here.whole ∙ sym (last-whole room r))

  end-own : (room : List ℤ) → total_weight (alone own) 2 room ≡ 1
  end-own room = subst (λ g. total_weight (alone own) g room ≡ 1) a.two_columns (total_weight-last (alone own) room)

  end-labels : (room : List ℤ) → total_weight (alone own_labels) 2 room ≡ 1
  end-labels room = subst (λ g. total_weight (alone own_labels) g room ≡ 1) a.two_columns (total_weight-last (alone own_labels) room)

  last-term : (room : List ℤ) → IsReached (alone own) 1 room → (c : List ℕ) → Contains ((alone own).choices 1 room) c
      → (number_of_labellings c * odds.below ^ slice_index c 0) * total_weight (alone own) 2 (own.floor.next 1 room c) ≡ odds.below ^ slice_index (sizes_in room) 0 * (number_of_labellings c * total_weight (alone own_labels) 2 (own.floor.next 1 room c))
  last-term room r c o =
      ap (λ t. (number_of_labellings c * odds.below ^ slice_index c 0) * t) (end-own (own.floor.next 1 room c))
      ∙ ap (λ n. (number_of_labellings c * odds.below ^ n) * 1) (last-choice room r c o)
      ∙ turned (number_of_labellings c) (odds.below ^ slice_index (sizes_in room) 0)
      ∙ ap (λ t. odds.below ^ slice_index (sizes_in room) 0 * (number_of_labellings c * t)) (sym (end-labels (own.floor.next 1 room c)))

  pub last-rest : (room : List ℤ) → IsReached (alone own) 1 room → total_weight (alone own) 1 room ≡ number_of_labellings (sizes_in room) * odds.below ^ slice_index (sizes_in room) 0
  last-rest room r =
      let b : ℕ = odds.below ^ slice_index (sizes_in room) 0 in
      total_weight-step (alone own) 1 room two-stages
      ∙ sum_by-same_where (Contains ((alone own).choices 1 room)) (λ c. (number_of_labellings c * odds.below ^ slice_index c 0) * total_weight (alone own) 2 (own.floor.next 1 room c)) (λ c. b * (number_of_labellings c * total_weight (alone own_labels) 2 (own.floor.next 1 room c))) (last-term room r) ((alone own).choices 1 room) (members ((alone own).choices 1 room))
      ∙ sum_by-scaled b (λ c. number_of_labellings c * total_weight (alone own_labels) 2 (own.floor.next 1 room c)) ((alone own).choices 1 room)
      ∙ ap (λ n. b * n) (sym (total_weight-step (alone own_labels) 1 room two-stages) ∙ rest_is columns rows a.labelled.level 1 room (same-rooms odds columns rows 1 room r))
      ∙ mul_comm b (number_of_labellings (sizes_in room))

  reached-stage : (g : ℕ) (room : List ℤ) → IsReached (alone own) g room → g ≤ length columns
  reached-stage zero room r = omega arith
  reached-stage (suc g) room (j, c, r, before, o, e) = omega (arith, before)

  pub end-rest : (g : ℕ) (room : List ℤ) → IsReached (alone own) g room → 2 ≤ g → total_weight (alone own) g room ≡ 1
  end-rest g room r h =
      let here : g ≡ 2 = omega (arith, reached-stage g room r, h, a.two_columns) in
      ap (λ i. total_weight (alone own) i room) here ∙ end-own room

  -- ---- no weight on the way passes that of all

  arc-within : (g : ℕ) (room : List ℤ) (c : List ℕ) → g < length columns → Contains ((alone own).choices g room) c → own.weight g room c * total_weight (alone own) (g + 1) (own.floor.next g room c) ≤ total_weight (alone own) g room
  arc-within g room c before o =
      subst (λ n. own.weight g room c * total_weight (alone own) (g + 1) (own.floor.next g room c) ≤ n) (sym (total_weight-step (alone own) g room before))
      (term-le-sum_by (λ c. own.weight g room c * total_weight (alone own) (g + 1) (own.floor.next g room c)) ((alone own).choices g room) c o)

  some-arc : (g : ℕ) (room : List ℤ) (c : List ℕ) → 1 ≤ own.weight g room c
  some-arc g room c = product-some (number_of_labellings c) (odds_at odds g ^ slice_index c 0) (number_of_labellings-positive c) (one-le-pow (slice_index c 0) (odds_at odds g) (at-some odds a.some_odds g))

  some-rest : (room : List ℤ) → IsReached (alone own) 1 room → 1 ≤ total_weight (alone own) 1 room
  some-rest room r =
      subst (λ n. 1 ≤ n) (sym (last-rest room r))
      (product-some (number_of_labellings (sizes_in room)) (odds.below ^ slice_index (sizes_in room) 0) (number_of_labellings-positive (sizes_in room)) (one-le-pow (slice_index (sizes_in room) 0) odds.below a.some_odds.below_some))

  chain : (w r t m : ℕ) → w * r ≤ t → t ≤ m → 1 ≤ r → w ≤ m
  chain w r t m h l s = omega (arith, h, l, product_left w r s)

  chain-rest : (w r t m : ℕ) → w * r ≤ t → t ≤ m → 1 ≤ w → r ≤ m
  chain-rest w r t m h l s = omega (arith, h, l, product_right w r s)

  first-fits : (room : List ℤ) → IsReached (alone own) 0 room → total_weight (alone own) 0 room ≤ MAX
  first-fits room r = omega (arith, own-total room r, a.total_fits)

  rest-fits : (room : List ℤ) → IsReached (alone own) 1 room → total_weight (alone own) 1 room ≤ MAX
  rest-fits room (j, d, r, before, o, e) =
      subst (λ k. total_weight (alone own) 1 k ≤ MAX) (sym e)
      (chain-rest (own.weight 0 j d) (total_weight (alone own) 1 (own.floor.next 0 j d)) (total_weight (alone own) 0 j) MAX (arc-within 0 j d before o) (first-fits j r) (some-arc 0 j d))

  arc-fits : (g : ℕ) (room : List ℤ) (c : List ℕ) → IsReached (alone own) g room → g < length columns → Contains ((alone own).choices g room) c → own.weight g room c ≤ MAX
  arc-fits zero room c r before o =
      chain (own.weight 0 room c) (total_weight (alone own) 1 (own.floor.next 0 room c)) (total_weight (alone own) 0 room) MAX (arc-within 0 room c before o) (first-fits room r) (some-rest (own.floor.next 0 room c) (room, c, r, before, o, refl))
  arc-fits (suc zero) room c r before o =
      let last : total_weight (alone own) 2 (own.floor.next 1 room c) ≡ 1 = end-own (own.floor.next 1 room c) in
      chain (own.weight 1 room c) (total_weight (alone own) 2 (own.floor.next 1 room c)) (total_weight (alone own) 1 room) MAX (arc-within 1 room c before o) (rest-fits room r) (omega (arith, last))
  arc-fits (suc (suc g)) room c r before o = absurd (omega (arith, before, a.two_columns))

  -- a choice, and what remains, as the bodies compute them
  pub record Factors (ways odds_of : ℕ) : Type 0 where
    pub power_fits : odds_of ≤ MAX
    pub product_fits : ways * odds_of ≤ MAX

  pub arc_of : (g : ℕ) (room : List ℤ) (c : List ℕ) → IsReached (alone own) g room → g < length columns → Contains (own.floor.choices g room) c → Factors (number_of_labellings c) (odds_at odds g ^ slice_index c 0)
  arc_of g room c r before o =
      let free : Contains ((alone own).choices g room) c = subst (λ cs. Contains cs c) (sym (choices_before own g room before)) o in
      let all : number_of_labellings c * odds_at odds g ^ slice_index c 0 ≤ MAX = arc-fits g room c r before free in
      record {
        power_fits = chain-rest (number_of_labellings c) (odds_at odds g ^ slice_index c 0) MAX MAX all (omega arith) (number_of_labellings-positive c);
        product_fits = all;
      }

  pub last_of : (room : List ℤ) → IsReached (alone own) 1 room → Factors (number_of_labellings (sizes_in room)) (odds.below ^ slice_index (sizes_in room) 0)
  last_of room r =
      let all : number_of_labellings (sizes_in room) * odds.below ^ slice_index (sizes_in room) 0 ≤ MAX = subst (λ n. n ≤ MAX) (last-rest room r) (rest-fits room r) in
      record {
        power_fits = chain-rest (number_of_labellings (sizes_in room)) (odds.below ^ slice_index (sizes_in room) 0) MAX MAX all (omega arith) (number_of_labellings-positive (sizes_in room));
        product_fits = all;
      }

-- ---- what first cells weigh

-- no factor passes the whole
pub record AreWithin (a b x y : ℕ) : Type 0 where
  pub first : a ≤ a * b * (x * y)
  pub second : b ≤ a * b * (x * y)
  pub third : x ≤ a * b * (x * y)
  pub fourth : y ≤ a * b * (x * y)
  pub ways : a * b ≤ a * b * (x * y)
  pub each : x * y ≤ a * b * (x * y)

pub are-within : (a b x y : ℕ) → 1 ≤ a → 1 ≤ b → 1 ≤ x → 1 ≤ y → AreWithin a b x y
are-within a b x y h i j k =
    let ways : a * b ≤ a * b * (x * y) = product_left (a * b) (x * y) (product-some x y j k) in
    let each : x * y ≤ a * b * (x * y) = product_right (a * b) (x * y) (product-some a b h i) in
    record {
      first = omega (arith, ways, product_left a b i);
      second = omega (arith, ways, product_right a b h);
      third = omega (arith, each, product_left x y k);
      fourth = omega (arith, each, product_right x y j);
      ways = ways;
      each = each;
    }

pub cell-factors : (odds : Odds) → IsOdds odds → (left right upper cell : ℕ) → cell ≤ left → cell ≤ upper → upper ≤ right + cell → AreWithin (binomial left cell) (binomial right (upper - cell)) (odds.above ^ cell) (odds.below ^ (upper - cell))
cell-factors odds i left right upper cell l u r =
    are-within (binomial left cell) (binomial right (upper - cell)) (odds.above ^ cell) (odds.below ^ (upper - cell))
    (binomial-positive left cell l) (binomial-positive right (upper - cell) (omega (arith, r))) (one-le-pow cell odds.above i.above_some) (one-le-pow (upper - cell) odds.below i.below_some)
