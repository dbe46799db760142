-- The rooms of Zelen's test: their ways give the labellings with the observed sum, what a reached room has and a choice there, and the bounds of the weights that still come.
use Rattle.std.proofs.Common.{mul_assoc, one-mul, drop_of_length-le, ◌≡◌, ℕ, zero, suc, ◌+◌, ◌-◌, ◌*◌, ◌<◌, ◌≤◌, cond, List, [], ◌∷◌, length, drop, map, nat_eq, eq-eqb, refl, sym, ◌∙◌, ap, subst, arith, add-one, mul-one, length-drop}
use Rattle.std.specs.Prelude.{ℤ, pos, Contains}
use Rattle.std.specs.List.{range_with_len, sum, sum_by}
use Rattle.std.proofs.Math.Nat.{mul-le-mul_right}
use Rattle.weights.specs.declared.TheConstants.{MAX}
use Rattle.weights.specs.Conditional.{unit_weight}
use Rattle.weights.proofs.CellSums.{same-within}
use Rattle.weights.proofs.Sums.{sum_by-filter, sum_by-map, sum_by-same}
use Rattle.networks.specs.Completions.{path_weight, paths, total_weight}
use Rattle.networks.specs.Network.{IsReached}
use Rattle.networks.specs.Judged.{JudgeFits}
use Rattle.networks.specs.declared.verdicts.Judge.{Judge}
use Rattle.room_network.specs.Meanings.{IsMeasure, partial_after, way_value}
use Rattle.room_network.specs.Numbers.{IsScalar, so_far}
use Rattle.room_network.specs.declared.numbers.Operation.TheVariants.{Product}
use Rattle.room_network.specs.Plans.{Gives, IsPlan, Plan, alone}
use Rattle.room_network.proofs.RoomKeys.{KeepsWidth, choices_before, is_allowed}
use Rattle.strata_cells.specs.declared.stratum.Stratum.{Stratum}
use Rattle.strata_cells.specs.Strata.{cell_weight, cells_of, cells_weight, first_cells, greatest_cell, least_cell, strata_labellings, stratum_at}
use Rattle.strata_cells.proofs.CellLaws.{by-cells}
use Rattle.strata_cells.proofs.FirstCells.{cells-sum, left-within, own-cells, weight-some}
use Rattle.strata_cells.proofs.StrataSums.{drop-head, next-drop}
use Rattle.count_rooms.specs.OneCount.{choices_between, chosen, remaining}
use Rattle.count_rooms.proofs.NaturalMeasures.{AreBounds, EachChoice, natural_measure, natural_number}
use Rattle.count_rooms.proofs.OneCounts.{IsBetween, between, different, some-choice}
use Rattle.count_rooms.proofs.WaySums.{gather, gather-none, gather-step}
use Rattle.zelen_test.specs.Zelen.{has_sum, observed_strata_labels, observed_sum_labellings}
use Rattle.zelen_test.specs.ZelenNetwork.{greatest_choice, least_choice, lesser_weights, number_with, own_sum, zelen_floor, zelen_meaning, zelen_numbers, zelen_plan, zelen_weights}
use Rattle.zelen_test.specs.ZelenSteps.{AreSummed, CanHave, IsLeft, ZelenChoice, ZelenSeat}
use Rattle.zelen_test.proofs.LabellingsWithSum.{can-next, choice-range, number-is, number_by, over-none, with-choices, with_cell, with_sum, number-term}
use Rattle.zelen_test.proofs.RemainingSums.{can-here, left-can, left-first, left-next, number-within}
use Rattle.zelen_test.proofs.LesserWeights.{lesser-number, number-some, lesser-within}
use Rattle.zelen_test.proofs.LaterSums.{most-few}
use Rattle.zelen_test.proofs.Unimodal.{lesser-least}

-- the choices of a way that has these first cells
abbrev pub cut : List ℕ → List (List ℕ)
cut cells = map (λ x. x ∷ []) cells

module _ (strata : List Stratum) (total : ℕ) where
  abbrev plan : Plan
  plan = zelen_plan strata total

  -- the ways of a room are the labellings of the later strata that have its sum
  module _ (t : Stratum) (ts : List Stratum) (g left : ℕ) (f : List (List ℕ) → ℕ) where
    abbrev with_choice : ℕ → ℕ
    with_choice x = cell_weight t x * gather (alone plan) (length ts) (g + 1) (pos (left - x) ∷ []) (λ w. f ((x ∷ []) ∷ w))

    room-step : drop g strata ≡ t ∷ ts → g < length strata → gather (alone plan) (suc (length ts)) g (pos left ∷ []) f ≡ sum_by with_choice (range_with_len (least_choice t ts left) (greatest_choice t ts left + 1 - least_choice t ts left))
    room-step d before =
        let here = drop-head g strata t ts d in
        let term : List ℕ → ℕ = λ c. zelen_weights strata g (pos left ∷ []) c * gather (alone plan) (length ts) (g + 1) (plan.floor.next g (pos left ∷ []) c) (λ w. f (c ∷ w)) in
        gather-step (alone plan) (length ts) g (pos left ∷ []) f
        ∙ ap (sum_by term) (choices_before plan g (pos left ∷ []) before)
        ∙ ap (λ (s : Stratum). sum_by term (choices_between (least_choice s (drop (g + 1) strata) left) (greatest_choice s (drop (g + 1) strata) left))) here.0
        ∙ ap (λ (later : List Stratum). sum_by term (choices_between (least_choice t later left) (greatest_choice t later left))) here.1
        ∙ sum_by-map term (λ x. x ∷ []) (range_with_len (least_choice t ts left) (greatest_choice t ts left + 1 - least_choice t ts left))
        ∙ sum_by-same (λ x. term (x ∷ [])) with_choice (λ x. ap (λ (s : Stratum). cell_weight s x * gather (alone plan) (length ts) (g + 1) (pos (left - x) ∷ []) (λ w. f ((x ∷ []) ∷ w))) here.0) (range_with_len (least_choice t ts left) (greatest_choice t ts left + 1 - least_choice t ts left))

  ways-from : (ts : List Stratum) (g left done all : ℕ) (f : List (List ℕ) → ℕ) → drop g strata ≡ ts → g + length ts ≡ length strata → done + left ≡ all → CanHave ts left → gather (alone plan) (length ts) g (pos left ∷ []) f ≡ with_sum ts done all (λ cells. f (cut cells))
  ways-from [] g left done all f d e sums can =
      let same : done + 0 ≡ all = omega (arith, sums, can.most) in
      gather-none (alone plan) g (pos left ∷ []) f
      ∙ sym (over-none (λ cells. cond (nat_eq (done + sum cells) all) (f (cut cells)) 0) ∙ ap (λ b. cond b (f []) 0) (eq-eqb (done + 0) all same))
  ways-from (t ∷ ts) g left done all f d e sums can =
      let r = choice-range t ts left can in
      let from : ℕ = least_choice t ts left in
      let to : ℕ = greatest_choice t ts left in
      let here = drop-head g strata t ts d in
      room-step t ts g left f d (omega (arith, e))
      ∙ same-within (with_choice t ts g left f) (with_cell t ts done all (λ cells. f (cut cells))) from (to + 1 - from) (λ x l m.
      (let most : x ≤ to = omega (arith, m, r.some) in
      ap (λ n. cell_weight t x * n) (ways-from ts (g + 1) (left - x) (done + x) all (λ w. f ((x ∷ []) ∷ w)) here.1 (omega (arith, e)) (omega (arith, sums, most, r.within)) (can-next t ts left can x l most))))
      ∙ sym (with-choices t ts left can done all (λ cells. f (cut cells)) sums)

  pub zelen_width : KeepsWidth (zelen_floor strata total)
  zelen_width = record { first_long = refl; next_long = λ g room c e. refl }

  none-left : drop (length strata) strata ≡ []
  none-left = drop_of_length-le strata {i = length strata} (omega arith)

  module _ (start : CanHave strata total) where
    -- what a reached room has
    record IsZelenRoom (g : ℕ) (room : List ℤ) : Type 0 where
      pub held : room ≡ pos (remaining room) ∷ []
      pub stage : g ≤ length strata
      pub left : IsLeft strata total g (remaining room)

    room-can : (g : ℕ) (room : List ℤ) → IsZelenRoom g room → CanHave (drop g strata) (remaining room)
    room-can g room r = left-can strata total start g (remaining room) r.left

    here-can : (g : ℕ) (room : List ℤ) → IsZelenRoom g room → g < length strata → CanHave (stratum_at strata g ∷ drop (g + 1) strata) (remaining room)
    here-can g room r before = can-here strata total start g before (remaining room) r.left

    -- what is allowed there
    record IsZelenChoice (g : ℕ) (room : List ℤ) (c : List ℕ) : Type 0 where
      pub between : IsBetween (least_choice (stratum_at strata g) (drop (g + 1) strata) (remaining room)) (greatest_choice (stratum_at strata g) (drop (g + 1) strata) (remaining room)) c
      pub least : least_cell (stratum_at strata g) ≤ chosen c
      pub most : chosen c ≤ greatest_cell (stratum_at strata g)
      pub left : chosen c ≤ remaining room

    choice-of : (g : ℕ) (room : List ℤ) (c : List ℕ) → IsZelenRoom g room → g < length strata → Contains (plan.floor.choices g room) c → IsZelenChoice g room c
    choice-of g room c r before m =
        let range = choice-range (stratum_at strata g) (drop (g + 1) strata) (remaining room) (here-can g room r before) in
        let b = between (least_choice (stratum_at strata g) (drop (g + 1) strata) (remaining room)) (greatest_choice (stratum_at strata g) (drop (g + 1) strata) (remaining room)) c m in
        record { between = b; least = omega (arith, range.low, b.least); most = omega (arith, range.high, b.most); left = omega (arith, range.within, b.most) }

    room-of : (g : ℕ) (room : List ℤ) → IsReached (alone plan) g room → IsZelenRoom g room
    room-of zero room r = rw r (record { held = refl; stage = omega arith; left = left-first strata total start })
    room-of (suc g) room (j, c, r, before, o, e) =
        let past = room-of g j r in
        let choice = choice-of g j c past before (is_allowed plan g j c before o) in
        rw (e, ← add-one g) (record { held = refl; stage = omega (arith, before); left = left-next strata total start g before (remaining j) (chosen c) past.left choice.between.least choice.between.most })

    rest-is : (g : ℕ) (room : List ℤ) → IsZelenRoom g room → total_weight (alone plan) g room ≡ number_with (drop g strata) (remaining room)
    unfolding total_weight
    rest-is g room r =
        let left : ℕ = remaining room in
        let stages : length strata - g ≡ length (drop g strata) = sym (length-drop g strata) in
        ap (λ (k : List ℤ). sum_by (path_weight (alone plan) g k) (paths (alone plan) (length strata - g) g k)) r.held
        ∙ ap (λ n. sum_by (path_weight (alone plan) g (pos left ∷ [])) (paths (alone plan) n g (pos left ∷ []))) stages
        ∙ sum_by-same (path_weight (alone plan) g (pos left ∷ [])) (λ w. path_weight (alone plan) g (pos left ∷ []) w * 1) (λ w. sym (mul-one (path_weight (alone plan) g (pos left ∷ []) w))) (paths (alone plan) (length (drop g strata)) g (pos left ∷ []))
        ∙ ways-from (drop g strata) g left 0 left (λ w. 1) refl (omega (arith, stages, r.stage)) (omega arith) (room-can g room r)
        ∙ sym (number-is (drop g strata) left)

    pub zelen_sound : number_with strata total ≤ MAX → IsPlan plan
    zelen_sound fits = record {
      first_long = zelen_width.first_long;
      next_long = zelen_width.next_long;
      some_choice = λ g room r before. some-choice (least_choice (stratum_at strata g) (drop (g + 1) strata) (remaining room)) (greatest_choice (stratum_at strata g) (drop (g + 1) strata) (remaining room)) (choice-range (stratum_at strata g) (drop (g + 1) strata) (remaining room) (here-can g room (room-of g room r) before)).some;
      different = λ g room r before. different (least_choice (stratum_at strata g) (drop (g + 1) strata) (remaining room)) (greatest_choice (stratum_at strata g) (drop (g + 1) strata) (remaining room));
      weighty = λ g room c r before o. (let choice = choice-of g room c (room-of g room r) before o in weight-some (stratum_at strata g) (chosen c) choice.least choice.most);
      fits = omega (arith, rest-is 0 (pos total ∷ []) (room-of 0 (pos total ∷ []) refl), fits);
    }

    -- ---- the product of weights

    -- a choice weighs no more than what remains of its room, with what remains after it
    weight-times : EachChoice plan (λ g room c. zelen_weights strata g room c * number_with (drop (g + 1) strata) (remaining room - chosen c) ≤ number_with (drop g strata) (remaining room))
    weight-times g room c a before o =
        let r = room-of g room a in
        let i = choice-of g room c r before o in
        let term = number-term (stratum_at strata g) (drop (g + 1) strata) (remaining room) (here-can g room r before) (chosen c) i.between.least i.between.most in
        subst (λ ts. number_by (stratum_at strata g) (drop (g + 1) strata) (remaining room) (chosen c) ≤ number_with ts (remaining room)) (sym (next-drop strata g before)) term

    weight-within : EachChoice plan (λ g room c. zelen_weights strata g room c ≤ number_with (drop g strata) (remaining room))
    weight-within g room c a before o =
        let r = room-of g room a in
        let i = choice-of g room c r before o in
        let later = drop (g + 1) strata in
        let can = can-next (stratum_at strata g) later (remaining room) (here-can g room r before) (chosen c) i.between.least i.between.most in
        omega (arith, weight-times g room c a before o, left-within (zelen_weights strata g room c) _ (number-some later (remaining room - chosen c) can))

    pub bounds : AreBounds plan Product (zelen_weights strata) (λ g room. lesser_weights (drop g strata)) (λ g room. number_with (drop g strata) (remaining room))
    bounds = record {
      low = λ g room c a before o. (let i = choice-of g room c (room-of g room a) before o in
          rw (next-drop strata g before) (mul-le-mul_right (lesser_weights (drop (g + 1) strata)) (lesser-least (stratum_at strata g) (chosen c) i.least i.most)));
      high = weight-times;
      steps = weight-within;
      meet = λ g room a. lesser-number (drop g strata) (remaining room) (room-can g room (room-of g room a));
      low_ends = λ room a. ap lesser_weights none-left;
      high_ends = λ room a. ap (λ ts. number_with ts (remaining room)) none-left ∙ last (remaining room) (subst (λ ts. CanHave ts (remaining room)) none-left (room-can (length strata) room (room-of (length strata) room a)));
    }
      where
        last : (left : ℕ) → CanHave [] left → number_with [] left ≡ 1
        last left can = (let none : left ≡ 0 = omega (arith, can.most) in rw none refl)

    pub zelen_measure : (judge : Judge) → IsMeasure (zelen_meaning strata total judge)
    zelen_measure judge = natural_measure plan Product _ _ _ bounds judge

    pub zelen_number : (judge : Judge) → number_with strata total ≤ MAX → ((v : ℤ) → JudgeFits judge v) → IsScalar (zelen_floor strata total) (zelen_numbers strata judge)
    zelen_number judge fits ruled = natural_number plan Product _ _ _ bounds judge fits (λ n h. ruled (pos n))

  -- ---- the value of a way

  way-from : (judge : Judge) (ts : List Stratum) (g : ℕ) (cells : List ℕ) (r : List ℤ) (n : ℕ) → drop g strata ≡ ts → length cells ≡ length ts → partial_after (zelen_meaning strata total judge) g r (pos n ∷ []) (cut cells) ≡ pos (n * cells_weight ts cells) ∷ []
  way-from judge [] g [] r n d e = ap (λ k. pos k ∷ []) (sym (mul-one n))
  way-from judge [] g (x ∷ cells) r n d e = absurd (omega (arith, e))
  way-from judge (t ∷ ts) g [] r n d e = absurd (omega (arith, e))
  way-from judge (t ∷ ts) g (x ∷ cells) r n d e =
      let here = drop-head g strata t ts d in
      way-from judge ts (g + 1) cells (plan.floor.next g r (x ∷ [])) (n * cell_weight (stratum_at strata g) x) here.1 (omega (arith, e))
      ∙ ap (λ (s : Stratum). pos ((n * cell_weight s x) * cells_weight ts cells) ∷ []) here.0
      ∙ ap (λ k. pos k ∷ []) (mul_assoc n (cell_weight t x) (cells_weight ts cells))

  pub value-of : (judge : Judge) (cells : List ℕ) → length cells ≡ length strata → way_value (zelen_meaning strata total judge) (cut cells) ≡ pos (cells_weight strata cells)
  value-of judge cells e = ap so_far (way-from judge strata 0 cells plan.floor.first 1 refl e) ∙ ap pos (one-mul (cells_weight strata cells))

-- ---- what is known of a reached room, and of a choice there

module _ (strata : List Stratum) (sum : ℕ) (d : AreSummed strata sum) (fits : number_with strata sum ≤ MAX) where
  pub seat : (g : ℕ) (room : List ℤ) → IsReached (alone (zelen_plan strata sum)) g room → ZelenSeat strata sum g room
  seat g room a =
      let r = room-of strata sum d.can g room a in
      record {
        one = record { is = r.held; small = omega (arith, r.left.most, most-few strata sum d g) };
        stage = r.stage;
        left = r.left;
        number = omega (arith, number-within strata sum d.can g (remaining room) r.stage r.left, fits);
        lesser = omega (arith, lesser-within strata sum d g r.stage, fits);
        meets = λ before. (choice-range (stratum_at strata g) (drop (g + 1) strata) (remaining room) (here-can strata sum d.can g room r before)).some;
        total = rest-is strata sum d.can g room r;
      }

  pub choice-seat : EachChoice (zelen_plan strata sum) (ZelenChoice strata)
  choice-seat g room c a before o =
      let r = room-of strata sum d.can g room a in
      let i = choice-of strata sum d.can g room c r before o in
      record {
        some = subst (λ xs. 0 < length xs) (sym i.between.one) (omega arith);
        least = i.least;
        most = i.most;
        left = i.left;
        fits = omega (arith, weight-within strata sum d.can g room c a before o, number-within strata sum d.can g (remaining room) r.stage r.left, fits);
      }

-- the law
module _ (strata : List Stratum) (can : CanHave strata (own_sum strata)) where
  pub zelen_gives : Gives (zelen_plan strata (own_sum strata)) (observed_sum_labellings strata) unit_weight (λ xs. cut (cells_of strata xs))
  zelen_gives = record {
    law = λ f. (let all : ℕ = own_sum strata in
        let given : ℕ = first_cells strata (observed_strata_labels strata) in
        ap (λ m. gather (alone (zelen_plan strata all)) m 0 (pos all ∷ []) f) (let e : length strata - 0 ≡ length strata = omega arith in e)
        ∙ ways-from strata all strata 0 all 0 all f refl (omega arith) (omega arith) can
        ∙ sym (by-cells strata (λ cells. cond (nat_eq (0 + sum cells) all) (f (cut cells)) 0))
        ∙ sum_by-same (λ xs. cond (nat_eq (0 + sum (cells_of strata xs)) all) (f (cut (cells_of strata xs))) 0) (λ xs. cond (has_sum strata given xs) (1 * f (cut (cells_of strata xs))) 0) (λ xs.
        ap (λ n. cond (nat_eq n all) (f (cut (cells_of strata xs))) 0) (let e : 0 + sum (cells_of strata xs) ≡ first_cells strata xs = omega (arith, cells-sum strata xs) in e)
        ∙ ap (λ n. cond (nat_eq (first_cells strata xs) n) (f (cut (cells_of strata xs))) 0) (sym (own-cells strata))
        ∙ ap (λ n. cond (has_sum strata given xs) n 0) (sym (one-mul (f (cut (cells_of strata xs)))))) (strata_labellings strata)
        ∙ sym (sum_by-filter (λ xs. 1 * f (cut (cells_of strata xs))) (has_sum strata given) (strata_labellings strata)));
  }
