-- Keys of a network of products: where they lead, and what their completions weigh, as labellings of what remains.
use Rattle.std.proofs.Common.{◌≡◌, ℕ, zero, suc, ◌+◌, ◌-◌, ◌*◌, ◌<◌, ◌≤◌, List, [], ◌∷◌, ◌++◌, map, take, drop, length, Bool, true, false, cond, refl, sym, ◌∙◌, ap, subst, arith, add-one, drop-cons, drop_of_length-le}
use Rattle.std.specs.Prelude.{ℤ, pos, ◌+ℤ◌, int_le, slice_index, slice_index_or}
use Rattle.std.specs.List.{sum, sum_by, Contains}
use Rattle.std.proofs.Math.IntN.{+ℤ_assoc, +ℤ_idr}
use Rattle.std.proofs.lemmas.Bool.{lt-ltb}
use Rattle.weights.specs.declared.tails.Tail.{Tail}
use Rattle.weights.specs.Grouped.{choices, columns_of, minus, table_weight, tables}
use Rattle.weights.specs.InOrder.{in_order}
use Rattle.weights.specs.Labellings.{labellings, number_of_labellings}
use Rattle.weights.specs.declared.rules.Rule.{Rule}
use Rattle.weights.specs.Rules.{passes}
use Rattle.weights.proofs.Chosen.{one_if}
use Rattle.weights.proofs.GroupingLaw.{by_columns, by_columns-step, grouping}
use Rattle.weights.proofs.Sized.{length-minus}
use Rattle.weights.proofs.Sums.{sum_by-same}
use Rattle.networks.specs.declared.verdicts.Judge.{Judge}
use Rattle.networks.specs.Completions.{extreme_weight, is_inside, over_arcs, path_weight, total_weight}
use Rattle.networks.specs.Judged.{rule_in, verdict_of}
use Rattle.networks.specs.Network.{Network, IsReached}
use Rattle.networks.proofs.Judging.{verdict-point}
use Rattle.networks.proofs.Steps.{extreme_weight-step, total_weight-last, total_weight-step}
use Rattle.room_network.proofs.RoomKeys.{back_is, front_is}
use Rattle.room_network.specs.Numbers.{so_far}
use Rattle.later_scores.specs.LaterSums.{later_scores, subjects}
use Rattle.later_scores.proofs.Later.{later-end}
use Rattle.label_network.specs.LabelNetwork.{label_network}
use Rattle.label_network.specs.Linear.{column_sum, greatest_paired, least_paired, linear_meaning, linear_statistic, table_sum}
use Rattle.label_network.specs.Meanings.{sizes_in}
use Rattle.label_network.proofs.LabelPlans.{sizes-back}
use Rattle.label_network.proofs.LinearValues.{statistic-table}
use Rattle.label_network.proofs.PairedUnits.{paired-none}
use Rattle.label_network.proofs.Rows.{length-pos}

-- sizes that remain, and a sum so far
abbrev pub key_of : List ℕ → ℤ → List ℤ
key_of r p = map pos r ++ p ∷ []

last-passing : (n : Network) (t : Tail) (k : List ℤ) → extreme_weight n t n.count k ≡ one_if (is_inside (n.verdict t n.count k))
unfolding extreme_weight
last-passing n t k =
    let e : n.count - n.count ≡ 0 = omega arith in
    rw e (by (is_inside (n.verdict t n.count k)))
  where
    by : (b : Bool) → sum_by (path_weight n n.count k) (cond b ([] ∷ []) []) ≡ one_if b
    by true = refl
    by false = refl

-- of an interval of one number the verdict is the rule's
ended : (rule : Rule) (low high p : ℤ) → low ≡ p → high ≡ p → is_inside (verdict_of rule low high) ≡ passes rule p
ended rule low high p e f = rw (e, f) (verdict-point rule p)

one-table : (f : List (List ℕ) → ℕ) (r : List ℕ) → by_columns [] r f ≡ f []
one-table f r = omega arith

module _ (us : List ℤ) (rows : List ℕ) (scores : List ℤ) (columns : List ℕ) (judge : Judge) where
  abbrev pub net : Network
  net = label_network (linear_meaning us rows scores columns judge)

  module _ (r : List ℕ) (p : ℤ) (wide : length r ≡ length rows) where
    front : take (length rows) (key_of r p) ≡ map pos r
    front = front_is (length rows) (map pos r) (p ∷ []) (length-pos r ∙ wide)

    behind : drop (length rows) (key_of r p) ≡ p ∷ []
    behind = back_is (length rows) (map pos r) (p ∷ []) (length-pos r ∙ wide)

    pub next-key : (g : ℕ) (x : List ℕ) → net.next g (key_of r p) x ≡ key_of (minus r x) (p +ℤ column_sum us scores g x)
    next-key g x = rw (front, behind, sizes-back r) refl

    pub choices-key : (g : ℕ) → g < length columns → net.choices g (key_of r p) ≡ choices (slice_index columns g) r
    choices-key g before = rw (lt-ltb g (length columns) before, front, sizes-back r) refl

    pub arrives : (g : ℕ) (x : List ℕ) → g < length columns → Contains (choices (slice_index columns g) r) x → IsReached net g (key_of r p) → IsReached net (suc g) (key_of (minus r x) (p +ℤ column_sum us scores g x))
    arrives g x before o a = (key_of r p, x, a, before, subst (λ cs. Contains cs x) (sym (choices-key g before)) o, sym (next-key g x))

    least-end : (sizes : List ℕ) (later : List ℤ) → later ≡ [] → least_paired us sizes later ≡ pos 0
    least-end sizes later e = rw e (paired-none (in_order int_le (subjects us sizes)))

    greatest-end : (sizes : List ℕ) (later : List ℤ) → later ≡ [] → greatest_paired us sizes later ≡ pos 0
    greatest-end sizes later e = rw e (paired-none (in_order int_le (subjects us sizes)))

    sum-end : (partial : List ℤ) (z : ℤ) → partial ≡ p ∷ [] → z ≡ pos 0 → so_far partial +ℤ z ≡ p
    sum-end partial z e f = rw (e, f) (+ℤ_idr p)

    last-value : length scores ≡ length columns → (t : Tail) → extreme_weight net t (length columns) (key_of r p) ≡ one_if (passes (rule_in judge t) p)
    last-value long t =
        let none : later_scores scores columns (length columns) ≡ [] = later-end scores columns long in
        last-passing net t (key_of r p)
        ∙ ap one_if (ended (rule_in judge t) _ _ p (sum-end _ _ behind (least-end (sizes_in (take (length rows) (key_of r p))) _ none)) (sum-end _ _ behind (greatest-end (sizes_in (take (length rows) (key_of r p))) _ none)))

  -- what a key's completions weigh in some way that goes from arc to arc
  module _ (long : length scores ≡ length columns) (W : ℕ → List ℤ → ℕ) (F : ℤ → ℕ)
      (step : (g : ℕ) (k : List ℤ) → g < length columns → W g k ≡ over_arcs net (W (g + 1)) g k)
      (last : (r : List ℕ) (p : ℤ) → length r ≡ length rows → W (length columns) (key_of r p) ≡ F p) where
    tables-same : (cs ds : List ℕ) (ss vs : List ℤ) (r : List ℕ) (p : ℤ) → cs ≡ ds → ss ≡ vs → by_columns cs r (λ w. F (p +ℤ table_sum us ss w)) ≡ by_columns ds r (λ w. F (p +ℤ table_sum us vs w))
    tables-same cs ds ss vs r p e f = rw (e, f) refl

    tables-end : (r : List ℕ) (p : ℤ) → by_columns [] r (λ w. F (p +ℤ table_sum us [] w)) ≡ F p
    tables-end r p = one-table (λ w. F (p +ℤ table_sum us [] w)) r ∙ ap F (+ℤ_idr p)

    by_tables : (m g : ℕ) (r : List ℕ) (p : ℤ) → g + m ≡ length columns → length r ≡ length rows → W g (key_of r p) ≡ by_columns (drop g columns) r (λ w. F (p +ℤ table_sum us (drop g scores) w))
    by_tables zero g r p e wide =
        let here : g ≡ length columns = omega (arith, e) in
        ap (λ i. W i (key_of r p)) here
        ∙ last r p wide
        ∙ sym (tables-same (drop g columns) [] (drop g scores) [] r p (drop_of_length-le columns {i = g} (omega (arith, here))) (drop_of_length-le scores {i = g} (omega (arith, here, long))) ∙ tables-end r p)
    by_tables (suc m) g r p e wide =
        let before : g < length columns = omega (arith, e) in
        let c : ℕ = slice_index columns g in
        let s : ℤ = slice_index_or scores g (pos 0) in
        let later : List ℕ = drop (g + 1) columns in
        let others : List ℤ = drop (g + 1) scores in
        let cs : drop g columns ≡ c ∷ later = rw add-one (drop-cons columns g 0 before) in
        let ss : drop g scores ≡ s ∷ others = rw add-one (drop-cons scores g (pos 0) (omega (arith, before, long))) in
        let arc : (x : List ℕ) → W (g + 1) (net.next g (key_of r p) x) ≡ by_columns later (minus r x) (λ w. F (p +ℤ table_sum us (s ∷ others) (x ∷ w))) = λ x.
        ap (W (g + 1)) (next-key r p wide g x)
        ∙ by_tables m (g + 1) (minus r x) (p +ℤ column_sum us scores g x) (omega (arith, e)) (length-minus r x ∙ wide)
        ∙ sum_by-same _ _ (λ w. ap (λ z. table_weight w * F z) (+ℤ_assoc p (column_sum us scores g x) (table_sum us others w))) (tables later (minus r x)) in
        step g (key_of r p) before
        ∙ ap (sum_by (λ x. net.weight g (key_of r p) x * W (g + 1) (net.next g (key_of r p) x))) (choices-key r p wide g before)
        ∙ sum_by-same _ _ (λ x. ap (λ v. number_of_labellings x * v) (arc x)) (choices c r)
        ∙ sym (tables-same (drop g columns) (c ∷ later) (drop g scores) (s ∷ others) r p cs ss ∙ by_columns-step c later r (λ w. F (p +ℤ table_sum us (s ∷ others) w)))

    pub by_labellings : (g : ℕ) (r : List ℕ) (p : ℤ) → g ≤ length columns → length r ≡ length rows → length us ≡ length rows → sum (drop g columns) ≡ sum r → W g (key_of r p) ≡ sum_by (λ xs. F (p +ℤ linear_statistic us (later_scores scores columns g) xs)) (labellings r)
    by_labellings g r p within wide level whole =
        by_tables (length columns - g) g r p (omega (arith, within)) wide
        ∙ grouping (drop g columns) r (λ w. F (p +ℤ table_sum us (drop g scores) w)) whole
        ∙ sum_by-same _ _ (λ xs. ap (λ z. F (p +ℤ z)) (
        ap (λ k. table_sum us (drop g scores) (columns_of k (drop g columns) xs)) (wide ∙ sym level)
        ∙ sym (statistic-table us (drop g scores) (drop g columns) xs))) (labellings r)

  module _ (long : length scores ≡ length columns) (g : ℕ) (r : List ℕ) (p : ℤ) (within : g ≤ length columns) (wide : length r ≡ length rows) (level : length us ≡ length rows) (whole : sum (drop g columns) ≡ sum r) where
    pub total-key : total_weight net g (key_of r p) ≡ sum_by (λ xs. 1) (labellings r)
    total-key = by_labellings long (total_weight net) (λ z. 1) (total_weight-step net) (λ r p w. total_weight-last net (key_of r p)) g r p within wide level whole

    pub extreme-key : (t : Tail) → extreme_weight net t g (key_of r p) ≡ sum_by (λ xs. one_if (passes (rule_in judge t) (p +ℤ linear_statistic us (later_scores scores columns g) xs))) (labellings r)
    extreme-key t = by_labellings long (extreme_weight net t) (λ z. one_if (passes (rule_in judge t) z)) (extreme_weight-step net t) (λ r p w. last-value r p w long t) g r p within wide level whole
