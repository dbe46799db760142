-- The interval of a table's weight by its columns and rows narrows along every choice of sorted rooms: it does not see the order of the sizes.
use Rattle.std.proofs.Common.{◌≡◌, ℕ, zero, suc, ◌+◌, ◌*◌, ◌/◌, ◌<◌, ◌≤◌, max, min, List, [], ◌∷◌, map, length, drop, cond, refl, sym, ◌∙◌, ap, subst, arith, add-one, drop-cons, nat_le, mul_assoc, mul-one}
use Rattle.std.specs.Int.{div_ceil}
use Rattle.std.specs.Prelude.{ℤ, pos, ◌≤ℤ◌, slice_index}
use Rattle.std.specs.List.{sum, Contains}
use Rattle.std.proofs.Math.Nat.{mul-le-mul_left}
use Rattle.networks.specs.declared.verdicts.Judge.{Judge}
use Rattle.weights.specs.declared.TheConstants.{MAX}
use Rattle.weights.specs.Grouped.{choices, minus, table_weight}
use Rattle.weights.specs.Labellings.{number_of_labellings}
use Rattle.weights.proofs.ChoiceLists.{IsChoice}
use Rattle.weights.proofs.OneOrder.{length-in_order}
use Rattle.completion_bounds.specs.Fillings.{falling, filled_in_turn, greatest_weight, is_at_least, product_by}
use Rattle.completion_bounds.proofs.Factorials.{total, total-is}
use Rattle.completion_bounds.proofs.FallingSizes.{falling-twice}
use Rattle.room_network.specs.Meanings.{AreReached, IsMeasure, IsMove, IsRoom, IsStep, partial_after}
use Rattle.room_network.specs.Numbers.{so_far}
use Rattle.label_network.specs.Meanings.{sizes_in}
use Rattle.label_network.proofs.LabelPlans.{sizes-back}
use Rattle.label_network.proofs.Rows.{fits-long}
use Rattle.label_network.proofs.Narrowing.{AreLeft, chosen}
use Rattle.sorted_tables.proofs.ChoiceSums.{labellings-falling}
use Rattle.sorted_tables.proofs.SortedPlans.{IsLeftRoom, among-all, left-onward, left-start, sizes-fallen}
use Rattle.row_products.specs.RowProducts.{factorial, greatest_by_rows, greatest_product, least_by_rows, least_product}
use Rattle.fisher_test.specs.SortedWeighing.{sharper_high, sharper_low, sorted_meaning}
use Rattle.fisher_test.specs.WeightSteps.{past_of}
use Rattle.fisher_test.specs.WeightSteps.{IsProduct, IsWeightKey, IsWeightMove, IsWeightRoom, IsWeightStep}
use Rattle.fisher_test.proofs.SharperFactors.{columns_high, columns_low, high-ends, high-onward, high_over, low-ends, low-onward, low_over}
use Rattle.fisher_test.proofs.FilledColumns.{product-falling}
use Rattle.fisher_test.proofs.WeightNarrows.{first-product, keeping, none_left, risen}

-- what the later columns and the rows say does not see the order of the sizes
abbrev low_with : List ℕ → ℕ → ℕ → ℕ
low_with later a b = cond (nat_le (product_by factorial later) MAX) (max a b) a

abbrev high_with : List ℕ → ℕ → ℕ → ℕ
high_with later a b = cond (nat_le (product_by factorial later) MAX) (min a b) a

low-falling : (later r : List ℕ) → low_over later (falling r) ≡ low_over later r
low-falling later r =
    ap (λ s. low_with later (product_by (λ c. number_of_labellings (filled_in_turn c s)) later) (least_by_rows (falling r) later)) (falling-twice r)
    ∙ ap (λ n. low_with later (columns_low later r) (div_ceil (product_by factorial later) n)) (product-falling (greatest_product later) r)

high-falling : (later r : List ℕ) → high_over later (falling r) ≡ high_over later r
high-falling later r =
    ap (λ n. high_with later (min n (product_by (greatest_weight (length (falling r))) later)) (greatest_by_rows (falling r) later)) (labellings-falling r)
    ∙ ap (λ l. high_with later (min (number_of_labellings r) (product_by (greatest_weight l) later)) (greatest_by_rows (falling r) later)) (length-in_order is_at_least r)
    ∙ ap (λ n. high_with later (columns_high later r) (product_by factorial later / n)) (product-falling (least_product (length later)) r)

-- what the choices multiply
pub sorted-from : (rows columns : List ℕ) (judge : Judge) (w : List (List ℕ)) (g : ℕ) (room p : List ℤ) → so_far p ≡ pos (past_of p)
    → so_far (partial_after (sorted_meaning rows columns judge) g room p w) ≡ pos (past_of p * table_weight w)
sorted-from rows columns judge [] g room p e = e ∙ ap pos (sym (mul-one (past_of p)))
sorted-from rows columns judge (x ∷ w) g room p e =
    sorted-from rows columns judge w (g + 1) (map pos (falling (minus (sizes_in room) x))) (pos (past_of p * number_of_labellings x) ∷ []) refl
    ∙ ap pos (mul_assoc (past_of p) (number_of_labellings x) (table_weight w))

more-times : (p a s b : ℕ) → a ≤ s * b → p * a ≤ (p * s) * b
more-times p a s b h =
    omega (arith, mul-le-mul_left p h, mul_assoc p s b)

less-times : (p a s b : ℕ) → s * b ≤ a → (p * s) * b ≤ p * a
less-times p a s b h =
    omega (arith, mul-le-mul_left p h, mul_assoc p s b)

module _ (rows columns : List ℕ) (judge : Judge) (level : sum columns ≡ sum rows) (some : 1 ≤ length rows) (falls : falling rows ≡ rows) where
  left-of : (g : ℕ) (room p : List ℤ) → IsWeightKey rows columns g room p → AreLeft columns rows g (sizes_in room)
  left-of g room p k = record { whole = k.level; within = k.within }

  key-start : IsWeightKey rows columns 0 (map pos rows) (pos 1 ∷ [])
  key-start =
      let start : IsLeftRoom columns rows 0 (map pos rows) = left-start columns rows level falls in
      record {
        stage = omega arith;
        whole = start.held;
        level = start.left.whole;
        within = start.left.within;
        product = subst (λ r. IsProduct rows 0 r (pos 1 ∷ [])) (sym (sizes-back rows)) (first-product rows columns judge level some);
      }

  key-onward : (g : ℕ) (room p : List ℤ) (c : List ℕ) → g < length columns → IsWeightKey rows columns g room p → Contains (choices (slice_index columns g) (sizes_in room)) c → IsWeightKey rows columns (suc g) (map pos (falling (minus (sizes_in room) c))) (pos (past_of p * number_of_labellings c) ∷ [])
  key-onward g room p c before k o =
      let next : IsLeftRoom columns rows (suc g) (map pos (falling (minus (sizes_in room) c))) = left-onward columns rows level falls g room c before (record { held = k.whole; left = left-of g room p k }) o in
      let choice : IsChoice (slice_index columns g) (sizes_in room) c = chosen (slice_index columns g) (sizes_in room) c o in
      let kept : IsProduct rows (g + 1) (minus (sizes_in room) c) (pos (past_of p * number_of_labellings c) ∷ []) = keeping rows columns judge level some g (sizes_in room) (left-of g room p k) c p before choice k.product in
      let same : number_of_labellings (sizes_in (map pos (falling (minus (sizes_in room) c)))) ≡ number_of_labellings (minus (sizes_in room) c) = ap number_of_labellings (sizes-fallen (minus (sizes_in room) c)) ∙ labellings-falling (minus (sizes_in room) c) in
      record {
        stage = omega (arith, before);
        whole = next.held;
        level = next.left.whole;
        within = next.left.within;
        product = record { one = kept.one; whole = kept.whole; some = kept.some; small = rw same kept.small };
      }

  -- what every reached key has
  pub sorted_key : (g : ℕ) (room p : List ℤ) → AreReached (sorted_meaning rows columns judge) g room p → IsWeightKey rows columns g room p
  sorted_key zero room p r = rw (r.0, r.1) key-start
  sorted_key (suc g) room p (s, q, c, r, before, o, e, f) = rw (e, f) (key-onward g s q c before (sorted_key g s q r) (among-all columns rows g s c o))

  pub sorted_room : (g : ℕ) (room : List ℤ) → IsRoom (sorted_meaning rows columns judge) g room → IsWeightRoom rows columns g room
  sorted_room g room v = record { partial = v.partial; place = sorted_key g room v.partial v.reached }

  pub sorted_move : (g : ℕ) (room : List ℤ) (c : List ℕ) (p : List ℤ) → IsMove (sorted_meaning rows columns judge) g room c p → IsWeightMove rows columns g room c p
  sorted_move g room c p v = record { before = v.before; place = sorted_key g room p v.reached; allowed = among-all columns rows g room c v.allowed }

  pub sorted_step : (g : ℕ) (room : List ℤ) (c : List ℕ) → IsStep (sorted_meaning rows columns judge) g room c → IsWeightStep rows columns g room c
  sorted_step g room c v = record { partial = v.partial; move = sorted_move g room c v.partial v.move }

  -- a choice there
  module _ (g : ℕ) (room p : List ℤ) (c : List ℕ) (r : AreReached (sorted_meaning rows columns judge) g room p) (before : g < length columns) (o : Contains (choices (slice_index columns g) (sizes_in room)) c) where
    key : IsWeightKey rows columns g room p
    key = sorted_key g room p r

    choice : IsChoice (slice_index columns g) (sizes_in room) c
    choice = chosen (slice_index columns g) (sizes_in room) c o

    later : drop g columns ≡ slice_index columns g ∷ drop (g + 1) columns
    later = rw add-one (drop-cons columns g 0 before)

    whole : total (sizes_in room) ≡ slice_index columns g + total (drop (g + 1) columns)
    whole = total-is (sizes_in room) ∙ sym key.level ∙ sym (total-is (drop g columns)) ∙ ap total later

    rises : pos (past_of p * sharper_low columns g (sizes_in room)) ≤ℤ pos ((past_of p * number_of_labellings c) * sharper_low columns (g + 1) (sizes_in (map pos (falling (minus (sizes_in room) c)))))
    rises =
        let step : low_over (drop g columns) (sizes_in room) ≤ number_of_labellings c * low_over (drop (g + 1) columns) (minus (sizes_in room) c) = rw later (low-onward (slice_index columns g) (drop (g + 1) columns) (sizes_in room) c choice whole) in
        rw (sizes-fallen (minus (sizes_in room) c), low-falling (drop (g + 1) columns) (minus (sizes_in room) c))
        (risen _ _ (more-times (past_of p) (low_over (drop g columns) (sizes_in room)) (number_of_labellings c) (low_over (drop (g + 1) columns) (minus (sizes_in room) c)) step))

    falls_on : pos ((past_of p * number_of_labellings c) * sharper_high columns (g + 1) (sizes_in (map pos (falling (minus (sizes_in room) c))))) ≤ℤ pos (past_of p * sharper_high columns g (sizes_in room))
    falls_on =
        let wide : 0 < length (sizes_in room) = omega (arith, fits-long (sizes_in room) rows key.within, some) in
        let step : number_of_labellings c * high_over (drop (g + 1) columns) (minus (sizes_in room) c) ≤ high_over (drop g columns) (sizes_in room) = rw later (high-onward (slice_index columns g) (drop (g + 1) columns) (sizes_in room) c choice whole wide) in
        rw (sizes-fallen (minus (sizes_in room) c), high-falling (drop (g + 1) columns) (minus (sizes_in room) c))
        (risen _ _ (less-times (past_of p) (high_over (drop g columns) (sizes_in room)) (number_of_labellings c) (high_over (drop (g + 1) columns) (minus (sizes_in room) c)) step))

  ended : (room p : List ℤ) → IsWeightKey rows columns (length columns) room p → sum (sizes_in room) ≡ 0
  ended room p k = sym k.level ∙ ap sum (none_left rows columns judge level some)

  pub sorted_measure : IsMeasure (sorted_meaning rows columns judge)
  sorted_measure = record {
    wide = λ g room p r. (sorted_key g room p r).product.one;
    low_rises = λ g room p c r before o. rises g room p c r before (among-all columns rows g room c o);
    high_falls = λ g room p c r before o. falls_on g room p c r before (among-all columns rows g room c o);
    low_ends = λ room p r.
        let k = sorted_key (length columns) room p r in
        ap (λ cs. pos (past_of p * low_over cs (sizes_in room))) (none_left rows columns judge level some)
        ∙ ap (λ n. pos (past_of p * n)) (low-ends (sizes_in room))
        ∙ ap pos (mul-one (past_of p)) ∙ sym k.product.whole;
    high_ends = λ room p r.
        let k = sorted_key (length columns) room p r in
        ap (λ cs. pos (past_of p * high_over cs (sizes_in room))) (none_left rows columns judge level some)
        ∙ ap (λ n. pos (past_of p * n)) (high-ends (sizes_in room) (ended room p k))
        ∙ ap pos (mul-one (past_of p)) ∙ sym k.product.whole;
  }
