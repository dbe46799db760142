-- Neighbouring groups of equal size may change places in every key of the network of their squared sums.
use Rattle.std.proofs.Common.{◌≡◌, ℕ, zero, suc, ◌+◌, ◌*◌, ◌/◌, ◌<◌, List, [], ◌∷◌, ◌++◌, length, map, take, drop, min, replicate, true, refl, sym, ◌∙◌, ap, subst, arith}
use Rattle.std.specs.Prelude.{ℤ, pos, nat_abs, ◌≤ℤ◌, slice_index, ◌+ℤ◌, ◌-ℤ◌, ◌*ℤ◌}
use Rattle.std.specs.List.{sum_by, Contains}
use Rattle.std.proofs.lemmas.List.{length-map}
use Rattle.weights.specs.Grouped.{choices, minus}
use Rattle.weights.specs.Labellings.{number_of_labellings}
use Rattle.weights.proofs.Sized.{length-minus}
use Rattle.completion_bounds.specs.Boxes.{factored_squares, greatest_squares, least_squares}
use Rattle.networks.specs.declared.verdicts.Judge.{Judge}
use Rattle.networks.specs.Network.{Network, IsReached}
use Rattle.networks.specs.Judged.{HasIntervals}
use Rattle.networks.specs.Completions.{over_arcs}
use Rattle.networks.specs.Symmetries.{IsSymmetry}
use Rattle.networks.proofs.Lumping.{over_allowed}
use Rattle.networks.proofs.Steps.{reached-next}
use Rattle.networks.proofs.Swaps.{length-plus, length-swap, map-swap, plus-swap, swap_at}
use Rattle.room_network.proofs.RoomKeys.{IsKey, choices_before, is_key, partial-next, room-next, weighed}
use Rattle.later_scores.specs.LaterSums.{greatest_sum, later_scores, least_sum}
use Rattle.label_network.specs.LabelNetwork.{label_network, over_rooms}
use Rattle.label_network.specs.LabelRooms.{label_weight}
use Rattle.label_network.specs.Linear.{score_of}
use Rattle.label_network.specs.Meanings.{AreReached, IsMeasure, Meaning, sizes_in}
use Rattle.label_network.proofs.LabelPlans.{label_width}
use Rattle.label_network.proofs.Narrowing.{chosen}
use Rattle.label_network.proofs.OverRooms.{over_measure, over_place}
use Rattle.label_network.proofs.Rows.{length-pos}
use Rattle.scores.specs.PlaceScores.{common_multiple}
use Rattle.kruskal_wallis.specs.KruskalWallis.{size_factors}
use Rattle.kruskal_wallis.specs.SumMeanings.{sums_meaning}
use Rattle.kruskal_wallis.specs.CentredSums.{IsCentred, centred_meaning, from_middle}
use Rattle.networks.specs.PartialSums.{plus}
use Rattle.kruskal_wallis.specs.RankSums.{score_parts, squares_meaning}
use Rattle.kruskal_wallis.specs.RankSumSteps.{IsSquaring}
use Rattle.kruskal_wallis.specs.declared.rank_sums.RankSums.{RankSums}
use Rattle.label_network.proofs.ChoiceSwaps.{labellings-swap, minus-swap, swapped_choices, swapped_member}
use Rattle.symmetry_reduction.specs.OrderedGroups.{IsExchange, same_at, exchange}
use Rattle.symmetry_reduction.specs.ReducedNetworks.{MayBeReduced}
use Rattle.symmetry_reduction.proofs.PlaceOrder.{back-key, front-key, swap-same}
use Rattle.kruskal_wallis.proofs.CentredNarrows.{centred_measure}
use Rattle.kruskal_wallis.proofs.RankNarrows.{length-parts, squares_measure}

squares-swap : (i : ℕ) (p : List ℤ) (f : List ℕ) → length f ≡ length p → factored_squares (swap_at i p) (swap_at i f) ≡ factored_squares p f
squares-swap i [] f e = refl
squares-swap i (x ∷ p) [] e = absurd (omega arith)
squares-swap zero (x ∷ []) (v ∷ []) e = refl
squares-swap zero (x ∷ []) (v ∷ w ∷ f) e = absurd (omega arith)
squares-swap zero (x ∷ y ∷ p) (v ∷ []) e = absurd (omega arith)
squares-swap zero (x ∷ y ∷ p) (v ∷ w ∷ f) e = omega arith
squares-swap (suc i) (x ∷ p) (v ∷ f) e = omega (arith, squares-swap i p f (omega arith))

least-swap : (i : ℕ) (a b : List ℤ) (f : List ℕ) → length b ≡ length a → length f ≡ length a → least_squares (swap_at i a) (swap_at i b) (swap_at i f) ≡ least_squares a b f
least-swap i [] b f e l = refl
least-swap i (x ∷ a) [] f e l = absurd (omega arith)
least-swap i (x ∷ a) (y ∷ b) [] e l = absurd (omega arith)
least-swap zero (x ∷ []) (y ∷ []) (v ∷ []) e l = refl
least-swap zero (x ∷ []) (y ∷ []) (v ∷ w ∷ f) e l = absurd (omega arith)
least-swap zero (x ∷ []) (y ∷ z ∷ b) (v ∷ f) e l = absurd (omega arith)
least-swap zero (x ∷ u ∷ a) (y ∷ []) (v ∷ f) e l = absurd (omega arith)
least-swap zero (x ∷ u ∷ a) (y ∷ z ∷ b) (v ∷ []) e l = absurd (omega arith)
least-swap zero (x ∷ u ∷ a) (y ∷ z ∷ b) (v ∷ w ∷ f) e l = omega arith
least-swap (suc i) (x ∷ a) (y ∷ b) (v ∷ f) e l = omega (arith, least-swap i a b f (omega arith) (omega arith))

greatest-swap : (i : ℕ) (a b : List ℤ) (f : List ℕ) → length b ≡ length a → length f ≡ length a → greatest_squares (swap_at i a) (swap_at i b) (swap_at i f) ≡ greatest_squares a b f
greatest-swap i [] b f e l = refl
greatest-swap i (x ∷ a) [] f e l = absurd (omega arith)
greatest-swap i (x ∷ a) (y ∷ b) [] e l = absurd (omega arith)
greatest-swap zero (x ∷ []) (y ∷ []) (v ∷ []) e l = refl
greatest-swap zero (x ∷ []) (y ∷ []) (v ∷ w ∷ f) e l = absurd (omega arith)
greatest-swap zero (x ∷ []) (y ∷ z ∷ b) (v ∷ f) e l = absurd (omega arith)
greatest-swap zero (x ∷ u ∷ a) (y ∷ []) (v ∷ f) e l = absurd (omega arith)
greatest-swap zero (x ∷ u ∷ a) (y ∷ z ∷ b) (v ∷ []) e l = absurd (omega arith)
greatest-swap zero (x ∷ u ∷ a) (y ∷ z ∷ b) (v ∷ w ∷ f) e l = omega arith
greatest-swap (suc i) (x ∷ a) (y ∷ b) (v ∷ f) e l = omega (arith, greatest-swap i a b f (omega arith) (omega arith))

swap-replicate : (i n : ℕ) (z : ℤ) → swap_at i (replicate n z) ≡ replicate n z
swap-replicate i zero z = refl
swap-replicate zero (suc zero) z = refl
swap-replicate zero (suc (suc n)) z = refl
swap-replicate (suc i) (suc n) z = ap (λ zs. z ∷ zs) (swap-replicate i n z)

module _ (factors : List ℕ) (bound : ℕ) (scores : List ℤ) (columns rows : List ℕ) (judge : Judge) (h : IsSquaring factors bound scores columns rows judge) (even : (i : ℕ) → same_at i rows ≡ true → swap_at i factors ≡ factors)
    (outlook : ℕ → List ℕ → List ℤ) (low high : ℕ → List ℕ → List ℤ → ℤ) (measure : IsMeasure (record (squares_meaning factors bound scores columns rows judge) { outlook = outlook; low = low; high = high })) where
  abbrev m : Meaning
  m = record (squares_meaning factors bound scores columns rows judge) { outlook = outlook; low = low; high = high }

  abbrev n : Network
  n = label_network m

  abbrev room : List ℤ → List ℤ
  room k = take (length rows) k

  abbrev partial : List ℤ → List ℤ
  partial k = drop (length rows) k

  abbrev AKey : ℕ → List ℤ → Type 0
  AKey = IsKey (over_rooms m) label_weight (label_width columns rows)

  a-key : (g : ℕ) (k : List ℤ) → IsReached n g k → AKey g k
  a-key = is_key (over_rooms m) label_weight (label_width columns rows)

  reached-label : (g : ℕ) (k : List ℤ) → IsReached n g k → AreReached m g (sizes_in (room k)) (partial k)
  reached-label g k r = (over_place m g (room k) (partial k) (a-key g k r).reached).reached

  room-long : (g : ℕ) (k : List ℤ) → IsReached n g k → length (room k) ≡ length rows
  room-long g k r = (a-key g k r).long

  sizes-long : (g : ℕ) (k : List ℤ) → IsReached n g k → length (sizes_in (room k)) ≡ length rows
  sizes-long g k r = length-map (room k) nat_abs ∙ room-long g k r

  partial-long : (g : ℕ) (k : List ℤ) → IsReached n g k → length (partial k) ≡ length rows
  partial-long g k r = measure.wide g (sizes_in (room k)) (partial k) (reached-label g k r)

  choices-at : (g : ℕ) (k : List ℤ) → g < length columns → n.choices g k ≡ choices (slice_index columns g) (sizes_in (room k))
  choices-at g k before = choices_before (weighed (over_rooms m) label_weight) g (room k) before

  choice-long : (g : ℕ) (k : List ℤ) (c : List ℕ) → IsReached n g k → g < length columns → Contains (n.choices g k) c → length c ≡ length rows
  choice-long g k c r before o = (chosen (slice_index columns g) (sizes_in (room k)) c (subst (λ cs. Contains cs c) (choices-at g k before) o)).long ∙ sizes-long g k r

  -- what two groups that change places leave of a key
  exchange-room : (i g : ℕ) (k : List ℤ) → IsReached n g k → room (exchange (length rows) i k) ≡ swap_at i (room k)
  exchange-room i g k r = front-key (length rows) (swap_at i (room k)) (swap_at i (partial k)) (length-swap i (room k) ∙ room-long g k r)

  exchange-partial : (i g : ℕ) (k : List ℤ) → IsReached n g k → partial (exchange (length rows) i k) ≡ swap_at i (partial k)
  exchange-partial i g k r = back-key (length rows) (swap_at i (room k)) (swap_at i (partial k)) (length-swap i (room k) ∙ room-long g k r)

  exchange-sizes : (i g : ℕ) (k : List ℤ) → IsReached n g k → sizes_in (room (exchange (length rows) i k)) ≡ swap_at i (sizes_in (room k))
  exchange-sizes i g k r = ap sizes_in (exchange-room i g k r) ∙ map-swap nat_abs i (room k)

  -- where choices lead that change places with the groups
  exchange-next : (i g : ℕ) (k : List ℤ) (c : List ℕ) → IsReached n g k → length c ≡ length rows → n.next g (exchange (length rows) i k) (swap_at i c) ≡ exchange (length rows) i (n.next g k c)
  exchange-next i g k c r l =
      let s : ℤ = score_of scores g in
      let sizes : List ℕ = sizes_in (room k) in
      let parts : List ℤ = score_parts s c in
      let left : List ℤ = map pos (minus sizes c) in
      let sums : List ℤ = plus (partial k) parts in
      let long : length left ≡ length rows = length-pos (minus sizes c) ∙ length-minus sizes c ∙ sizes-long g k r in
      ap (λ q. map pos (minus q (swap_at i c)) ++ plus (partial (exchange (length rows) i k)) (score_parts s (swap_at i c))) (exchange-sizes i g k r)
      ∙ ap (λ q. map pos (minus (swap_at i sizes) (swap_at i c)) ++ plus q (score_parts s (swap_at i c))) (exchange-partial i g k r)
      ∙ ap (λ q. map pos q ++ plus (swap_at i (partial k)) (score_parts s (swap_at i c))) (minus-swap i sizes c (l ∙ sym (sizes-long g k r)))
      ∙ ap (λ q. q ++ plus (swap_at i (partial k)) (score_parts s (swap_at i c))) (map-swap pos i (minus sizes c))
      ∙ ap (λ q. swap_at i left ++ plus (swap_at i (partial k)) q) (map-swap (λ x. pos x *ℤ s) i c)
      ∙ ap (λ q. swap_at i left ++ q) (plus-swap i (partial k) parts (length-parts s c ∙ l ∙ sym (partial-long g k r)))
      ∙ sym (
      ap (λ q. swap_at i q ++ swap_at i (partial (left ++ sums))) (front-key (length rows) left sums long)
      ∙ ap (λ q. swap_at i left ++ swap_at i q) (back-key (length rows) left sums long))

  exchange-first : (i : ℕ) → same_at i rows ≡ true → exchange (length rows) i n.first ≡ n.first
  exchange-first i s =
      ap (λ q. swap_at i q ++ swap_at i (partial n.first)) (front-key (length rows) (map pos rows) (replicate (length rows) (pos 0)) (length-pos rows))
      ∙ ap (λ q. swap_at i (map pos rows) ++ swap_at i q) (back-key (length rows) (map pos rows) (replicate (length rows) (pos 0)) (length-pos rows))
      ∙ ap (λ q. q ++ swap_at i (replicate (length rows) (pos 0))) (sym (map-swap pos i rows) ∙ ap (map pos) (swap-same i rows s))
      ∙ ap (λ q. map pos rows ++ q) (swap-replicate i (length rows) (pos 0))

  exchange-member : (i g : ℕ) (k : List ℤ) (c : List ℕ) → IsReached n g k → g < length columns → Contains (n.choices g k) c → Contains (n.choices g (exchange (length rows) i k)) (swap_at i c)
  exchange-member i g k c r before o =
      subst (λ cs. Contains cs (swap_at i c)) (sym (choices-at g (exchange (length rows) i k) before ∙ ap (choices (slice_index columns g)) (exchange-sizes i g k r)))
      (swapped_member i (slice_index columns g) (sizes_in (room k)) c (subst (λ cs. Contains cs c) (choices-at g k before) o))

  exchange-stays : (i : ℕ) → same_at i rows ≡ true → (g : ℕ) (k : List ℤ) → IsReached n g k → IsReached n g (exchange (length rows) i k)
  exchange-stays i s zero k r = ap (exchange (length rows) i) r ∙ exchange-first i s
  exchange-stays i s (suc g) k (j, c, r, before, o, e) = (
    exchange (length rows) i j,
    swap_at i c,
    exchange-stays i s g j r,
    before,
    exchange-member i g j c r before o,
    ap (exchange (length rows) i) e ∙ sym (exchange-next i g j c r (choice-long g j c r before o)),
  )

  -- what a choice at sizes and sums adds to a sum over arcs
  abbrev term : (List ℤ → ℕ) → ℕ → List ℕ → List ℤ → List ℕ → ℕ
  term f g r p c = number_of_labellings c * f (map pos (minus r c) ++ plus p (score_parts (score_of scores g) c))

  exchange-arcs : (f : List ℤ → ℕ) (g : ℕ) (k j : List ℤ) → ((l i : List ℤ) → IsReached n (g + 1) l → IsExchange rows l i → f i ≡ f l) → IsReached n g k → IsExchange rows k j → g < n.count → over_arcs n f g j ≡ over_arcs n f g k
  exchange-arcs f g k j even_f r (i, s, e) before =
      let here : List ℤ = exchange (length rows) i k in
      let sizes : List ℕ = sizes_in (room k) in
      let c : ℕ = slice_index columns g in
      ap (over_arcs n f g) e
      ∙ ap (sum_by (term f g (sizes_in (room here)) (partial here))) (choices-at g here before ∙ ap (choices c) (exchange-sizes i g k r))
      ∙ swapped_choices (term f g (sizes_in (room here)) (partial here)) i c sizes
      ∙ over_allowed (choices c sizes) _ (term f g sizes (partial k)) (λ x o.
      let allowed : Contains (n.choices g k) x = subst (λ cs. Contains cs x) (sym (choices-at g k before)) o in
      ap (λ w. w * f (n.next g here (swap_at i x))) (labellings-swap i x)
      ∙ ap (λ q. number_of_labellings x * f q) (exchange-next i g k x r (choice-long g k x r before allowed))
      ∙ ap (λ w. number_of_labellings x * w) (even_f (n.next g k x) (exchange (length rows) i (n.next g k x)) (reached-next n g k x r before allowed) (i, s, refl)))
      ∙ sym (ap (sum_by (term f g sizes (partial k))) (choices-at g k before))

  exchange-ends : (k j : List ℤ) → IsReached n n.count k → IsExchange rows k j → n.value j ≡ n.value k
  exchange-ends k j r (i, s, e) =
      ap n.value e
      ∙ ap (λ q. pos (factored_squares q factors)) (exchange-partial i n.count k r)
      ∙ ap (λ q. pos (factored_squares (swap_at i (partial k)) q)) (sym (even i s))
      ∙ ap pos (squares-swap i (partial k) factors (h.one_each ∙ sym (partial-long n.count k r)))

  pub equal-symmetry : IsSymmetry n (IsExchange rows)
  equal-symmetry = record {
    stays = λ g k j r t. subst (IsReached n g) (sym t.2) (exchange-stays t.0 t.1 g k r);
    arcs = exchange-arcs;
    ends = exchange-ends;
  }

  -- ---- intervals

  rises : (g : ℕ) (k : List ℤ) (c : List ℕ) → IsReached n g k → g < n.count → Contains (n.choices g k) c → m.low g (sizes_in (room k)) (partial k) ≤ℤ m.low (g + 1) (sizes_in (room (n.next g k c))) (partial (n.next g k c))
  rises g k c r before o =
      let key : AKey g k = a-key g k r in
      rw (room-next (over_rooms m) label_weight (label_width columns rows) g k c key.long, partial-next (over_rooms m) label_weight (label_width columns rows) g k c key.long)
      ((over_measure m measure).low_rises g (room k) (partial k) c key.reached before (subst (λ cs. Contains cs c) (choices-at g k before) o))

  falls : (g : ℕ) (k : List ℤ) (c : List ℕ) → IsReached n g k → g < n.count → Contains (n.choices g k) c → m.high (g + 1) (sizes_in (room (n.next g k c))) (partial (n.next g k c)) ≤ℤ m.high g (sizes_in (room k)) (partial k)
  falls g k c r before o =
      let key : AKey g k = a-key g k r in
      rw (room-next (over_rooms m) label_weight (label_width columns rows) g k c key.long, partial-next (over_rooms m) label_weight (label_width columns rows) g k c key.long)
      ((over_measure m measure).high_falls g (room k) (partial k) c key.reached before (subst (λ cs. Contains cs c) (choices-at g k before) o))

  abbrev sums_intervals : HasIntervals n judge
  sums_intervals = record {
    low = λ g k. m.low g (sizes_in (room k)) (partial k);
    high = λ g k. m.high g (sizes_in (room k)) (partial k);
    verdicts = λ t g k r. refl;
    low_rises = rises;
    high_falls = falls;
    low_ends = λ k r. measure.low_ends (sizes_in (room k)) (partial k) (reached-label n.count k r);
    high_ends = λ k r. measure.high_ends (sizes_in (room k)) (partial k) (reached-label n.count k r);
  }

  -- the ends of the box of a key whose groups change places
  module _ (i g : ℕ) (k : List ℤ) (r : IsReached n g k) where
    abbrev here : List ℤ
    here = exchange (length rows) i k

    abbrev sizes : List ℕ
    sizes = sizes_in (room k)

    pub box-side : (part : ℕ → ℤ) → plus (partial here) (map part (sizes_in (room here))) ≡ swap_at i (plus (partial k) (map part sizes))
    box-side part =
        ap (λ q. plus (partial here) (map part q)) (exchange-sizes i g k r)
        ∙ ap (λ q. plus q (map part (swap_at i sizes))) (exchange-partial i g k r)
        ∙ ap (plus (swap_at i (partial k))) (map-swap part i sizes)
        ∙ plus-swap i (partial k) (map part sizes) (length-map sizes part ∙ sizes-long g k r ∙ sym (partial-long g k r))

    pub side-long : (part : ℕ → ℤ) → length (plus (partial k) (map part sizes)) ≡ length rows
    side-long part = length-plus (partial k) (map part sizes) ∙ partial-long g k r

  -- where the ends of intervals stay, groups of equal size may be put in order
  module _ (low-turn : (i g : ℕ) → same_at i rows ≡ true → (k : List ℤ) → IsReached n g k → low g (sizes_in (room (exchange (length rows) i k))) (partial (exchange (length rows) i k)) ≡ low g (sizes_in (room k)) (partial k))
      (high-turn : (i g : ℕ) → same_at i rows ≡ true → (k : List ℤ) → IsReached n g k → high g (sizes_in (room (exchange (length rows) i k))) (partial (exchange (length rows) i k)) ≡ high g (sizes_in (room k)) (partial k)) where
    pub rows-reduced : MayBeReduced rows n judge
    rows-reduced = record {
      few = h.few_rows;
      wide = refl;
      symmetry = equal-symmetry;
      intervals = sums_intervals;
      low = λ g k j r (i, s, e). ap (sums_intervals.low g) e ∙ low-turn i g s k r;
      high = λ g k j r (i, s, e). ap (sums_intervals.high g) e ∙ high-turn i g s k r;
    }

-- ---- the two measures

module _ (factors : List ℕ) (bound : ℕ) (scores : List ℤ) (columns rows : List ℕ) (judge : Judge) (h : IsSquaring factors bound scores columns rows judge) (even : (i : ℕ) → same_at i rows ≡ true → swap_at i factors ≡ factors) where
  -- the ends of a box that change places with the groups have the same squares
  least-even : (i : ℕ) → same_at i rows ≡ true → (lows highs : List ℤ) → length lows ≡ length rows → length highs ≡ length rows → least_squares (swap_at i lows) (swap_at i highs) factors ≡ least_squares lows highs factors
  least-even i s lows highs l k = ap (least_squares (swap_at i lows) (swap_at i highs)) (sym (even i s)) ∙ least-swap i lows highs factors (k ∙ sym l) (h.one_each ∙ sym l)

  greatest-even : (i : ℕ) → same_at i rows ≡ true → (lows highs : List ℤ) → length lows ≡ length rows → length highs ≡ length rows → greatest_squares (swap_at i lows) (swap_at i highs) factors ≡ greatest_squares lows highs factors
  greatest-even i s lows highs l k = ap (greatest_squares (swap_at i lows) (swap_at i highs)) (sym (even i s)) ∙ greatest-swap i lows highs factors (k ∙ sym l) (h.one_each ∙ sym l)

  abbrev low-part : ℕ → ℕ → ℤ
  low-part g c = least_sum c (later_scores scores columns g)

  abbrev high-part : ℕ → ℕ → ℤ
  high-part g c = greatest_sum c (later_scores scores columns g)

  abbrev plain : Meaning
  plain = squares_meaning factors bound scores columns rows judge

  pub squares-reduced : MayBeReduced rows (label_network plain) judge
  squares-reduced =
      let side = box-side factors bound scores columns rows judge h even plain.outlook plain.low plain.high (squares_measure factors bound scores columns rows judge h) in
      let long = side-long factors bound scores columns rows judge h even plain.outlook plain.low plain.high (squares_measure factors bound scores columns rows judge h) in
      rows-reduced factors bound scores columns rows judge h even plain.outlook plain.low plain.high (squares_measure factors bound scores columns rows judge h)
      (λ i g s k r. ap (λ v. pos (min v bound))
      (rw (side i g k r (low-part g), side i g k r (high-part g)) (least-even i s _ _ (long i g k r (low-part g)) (long i g k r (high-part g)))))
      (λ i g s k r. ap (λ v. pos (min v bound))
      (rw (side i g k r (low-part g), side i g k r (high-part g)) (greatest-even i s _ _ (long i g k r (low-part g)) (long i g k r (high-part g)))))

  module _ (base middle : ℕ) (c : IsCentred factors bound base middle scores columns rows) where
    abbrev shifts : List ℤ
    shifts = from_middle middle rows

    abbrev centred : Meaning
    centred = centred_meaning factors bound base middle scores columns rows judge

    shifts-long : length shifts ≡ length rows
    shifts-long = length-parts (pos 0 -ℤ pos middle) rows

    -- groups of equal size are seen from one middle
    shifts-even : (i : ℕ) → same_at i rows ≡ true → swap_at i shifts ≡ shifts
    shifts-even i s = sym (map-swap (λ n. pos n *ℤ (pos 0 -ℤ pos middle)) i rows) ∙ ap (from_middle middle) (swap-same i rows s)

    seen-swap : (i : ℕ) → same_at i rows ≡ true → (ends : List ℤ) → length ends ≡ length rows → plus (swap_at i ends) shifts ≡ swap_at i (plus ends shifts)
    seen-swap i s ends l = ap (plus (swap_at i ends)) (sym (shifts-even i s)) ∙ plus-swap i ends shifts (shifts-long ∙ sym l)

    seen-long : (ends : List ℤ) → length ends ≡ length rows → length (plus ends shifts) ≡ length rows
    seen-long ends l = length-plus ends shifts ∙ l

    pub centred-reduced : MayBeReduced rows (label_network centred) judge
    centred-reduced =
        let measure = centred_measure factors bound base middle scores columns rows judge h c in
        let side = box-side factors bound scores columns rows judge h even centred.outlook centred.low centred.high measure in
        let long = side-long factors bound scores columns rows judge h even centred.outlook centred.low centred.high measure in
        rows-reduced factors bound scores columns rows judge h even centred.outlook centred.low centred.high measure
        (λ i g s k r. ap (λ v. pos (min (base + v) bound))
        (rw (side i g k r (low-part g), side i g k r (high-part g), seen-swap i s _ (long i g k r (low-part g)), seen-swap i s _ (long i g k r (high-part g)))
        (least-even i s _ _ (seen-long _ (long i g k r (low-part g))) (seen-long _ (long i g k r (high-part g))))))
        (λ i g s k r. ap (λ v. pos (min (base + v) bound))
        (rw (side i g k r (low-part g), side i g k r (high-part g), seen-swap i s _ (long i g k r (low-part g)), seen-swap i s _ (long i g k r (high-part g)))
        (greatest-even i s _ _ (seen-long _ (long i g k r (low-part g))) (seen-long _ (long i g k r (high-part g))))))

-- ---- the factors of a test

-- groups of equal size have equal factors
pub even-factors : (sizes : List ℕ) (i : ℕ) → same_at i sizes ≡ true → swap_at i (size_factors sizes) ≡ size_factors sizes
even-factors sizes i s = sym (map-swap (λ n. common_multiple sizes / n) i sizes) ∙ ap (map (λ n. common_multiple sizes / n)) (swap-same i sizes s)

pub groups-reduced : (m : RankSums) (sizes : List ℕ) → sizes ≡ m.rows.items → m.factors.items ≡ size_factors sizes → MayBeReduced sizes (label_network (sums_meaning m)) m.judge
groups-reduced m sizes rows_are factors_are =
    subst (λ ns. MayBeReduced ns (label_network (sums_meaning m)) m.judge) (sym rows_are)
    (squares-reduced m.factors.items m.bound m.later.scores.items m.later.columns.items m.rows.items m.judge m.right.squaring
    (subst (λ ns. (i : ℕ) → same_at i ns ≡ true → swap_at i m.factors.items ≡ m.factors.items) rows_are
    (subst (λ fs. (i : ℕ) → same_at i sizes ≡ true → swap_at i fs ≡ fs) (sym factors_are) (even-factors sizes))))
