-- What completes the keys before the last two columns: the choices of the last but one, each with what it leaves.
use Rattle.std.proofs.Common.{◌≡◌, ℕ, zero, suc, ◌+◌, ◌-◌, ◌*◌, ◌/◌, ◌<◌, ◌≤◌, ◌⊎◌, inl, inr, List, [], ◌∷◌, ◌++◌, map, filter, take, drop, get_or, length, Bool, true, false, cond, refl, sym, ◌∙◌, ap, subst, arith, add-one, drop-cons, drop_of_length-le, mul_assoc, lt-ltb, nat_le, mul-one}
use Rattle.std.specs.Prelude.{ℤ, pos, nat_abs, int_le, slice_index}
use Rattle.std.specs.List.{sum, AllByRecursion}
use Rattle.std.proofs.Math.Nat.{mul-div-le, mul-le-mul_left}
use Rattle.std.proofs.lemmas.Bool.Decides.{leb_tells}
use Rattle.std.proofs.lemmas.List.{take-append-drop}
use Rattle.std.proofs.lemmas.Nat.{le-div}
use Rattle.std.proofs.lemmas.List.Sums.{sum_by-cons, sum_by-take-le, sum_by_more}
use Rattle.weights.specs.declared.lines.Line.{Line}
use Rattle.weights.specs.declared.rules.Rule.{Rule}
use Rattle.weights.specs.declared.rules.Rule.TheVariants.{AtMost}
use Rattle.weights.specs.declared.tails.Tail.TheVariants.{Two}
use Rattle.weights.specs.declared.TheConstants.{MAX}
use Rattle.weights.specs.Grouped.{choices, minus}
use Rattle.weights.specs.Labellings.{number_of_labellings}
use Rattle.weights.specs.Rules.{passes}
use Rattle.weights.proofs.Filters.{all_map}
use Rattle.weights.proofs.OneOrder.{length-in_order}
use Rattle.weights.proofs.Sized.{length-minus}
use Rattle.weights.proofs.Sums.{sum_by-same, sum_by-same_where}
use Rattle.node_pool.specs.Nodes.{Node, weighted}
use Rattle.completion_bounds.specs.Fillings.{falling, is_at_least}
use Rattle.networks.specs.declared.verdicts.Judge.{Judge}
use Rattle.networks.specs.Network.{IsReached, Network}
use Rattle.stage_network.specs.ArcSteps.{IsRun, segment}
use Rattle.stage_network.specs.StageSteps.{Housed}
use Rattle.networks.specs.Completions.{extreme_weight, total_weight}
use Rattle.stage_network.proofs.Stepping.{reached_at}
use Rattle.networks.proofs.Steps.{extreme-le-total}
use Rattle.room_network.specs.Numbers.{so_far}
use Rattle.room_network.specs.Plans.{alone}
use Rattle.room_network.proofs.RoomKeys.{IsKey, back_is, front_is, is_key}
use Rattle.room_network.proofs.RoomLaws.{room_intervals}
use Rattle.label_network.specs.Meanings.{sizes_in}
use Rattle.label_network.proofs.LabelPlans.{sizes-back}
use Rattle.label_network.proofs.Rows.{length-pos}
use Rattle.label_network.proofs.Sizes.{fewer-labellings}
use Rattle.sorted_tables.specs.ChoiceLines.{choice_line, choice_lines}
use Rattle.sorted_tables.specs.GatheredChoices.{gathered_weight, is_gathered}
use Rattle.sorted_tables.specs.SortedRooms.{sorted_plan, sorted_weight}
use Rattle.sorted_tables.proofs.ChoiceSums.{completed, completed-same, lines-completed, lines-weigh}
use Rattle.sorted_tables.proofs.SortedPlans.{sorted_width}
use Rattle.fisher_test.specs.LastSteps.{AreBeforeLast, AreLast, most_in, once, valued, weight_network, weight_of}
use Rattle.fisher_test.specs.SortedWeighing.{sorted_meaning}
use Rattle.fisher_test.specs.WeightSteps.{IsWeightKey, past_of}
use Rattle.fisher_test.proofs.FirstHalves.{extreme-values, run-more, segment-le, segment-more, take-le, valued-le, values, values-step, weighted-le}
use Rattle.fisher_test.proofs.SortedNarrows.{sorted_key, sorted_measure}

one_number : (p : List ℤ) → length p ≡ 1 → p ≡ so_far p ∷ []
one_number [] e = absurd (omega (arith, e))
one_number (z ∷ []) e = refl
one_number (z ∷ y ∷ p) e = absurd (omega (arith, e))

-- lines that tell the extreme completions of a key, by its partial
pub record IsBehind (n : Network) (most g : ℕ) (k partial : List ℤ) (lines : List Line) : Type 0 where
  pub light : weight_of lines ≤ MAX
  pub one : length partial ≡ 1
  pub some : 1 ≤ past_of partial
  pub weighs : (w : ℕ) → w ≡ valued (λ v. once (λ z. int_le z (pos most)) (pos (past_of partial * nat_abs v))) lines → w ≡ extreme_weight n Two g k

module _ (rows columns : List ℕ) (judge : Judge) where
  next-left : (j : ℕ) → j < length columns → drop j columns ≡ slice_index columns j ∷ drop (j + 1) columns
  next-left j before = rw add-one (drop-cons columns j 0 before)

  -- from each key on
  values-completed : (f : ℤ → ℕ) (m g : ℕ) (r : List ℕ) (p : ℕ) → g + m ≡ length columns → length r ≡ length rows → values (weight_network rows columns judge) f m g (map pos r ++ pos p ∷ []) ≡ completed (λ v. f (pos (p * v))) (drop g columns) r
  values-completed f zero g r p e long =
      let none : drop g columns ≡ [] = drop_of_length-le columns {i = g} (omega (arith, e)) in
      let last : so_far (drop (length rows) (map pos r ++ pos p ∷ [])) ≡ pos p = ap so_far (back_is (length rows) (map pos r) (pos p ∷ []) (length-pos r ∙ long)) in
      let same : f (so_far (drop (length rows) (map pos r ++ pos p ∷ []))) ≡ f (pos (p * 1)) = ap f (last ∙ ap pos (sym (mul-one p))) in
      rw none (omega (arith, same))
  values-completed f (suc m) g r p e long =
      let n = weight_network rows columns judge in
      let key : List ℤ = map pos r ++ pos p ∷ [] in
      let before : g < length columns = omega (arith, e) in
      let split : drop g columns ≡ slice_index columns g ∷ drop (g + 1) columns = next-left g before in
      let front : take (length rows) (map pos r ++ pos p ∷ []) ≡ map pos r = front_is (length rows) (map pos r) (pos p ∷ []) (length-pos r ∙ long) in
      let back : drop (length rows) (map pos r ++ pos p ∷ []) ≡ pos p ∷ [] = back_is (length rows) (map pos r) (pos p ∷ []) (length-pos r ∙ long) in
      values-step n f m g key
      ∙ rw (lt-ltb g (length columns) before, front, back, sizes-back r, split)
      (sum_by-same _ _ (λ c. ap (λ w. gathered_weight r c * w) (
      values-completed f m (g + 1) (falling (minus r c)) (p * number_of_labellings c) (omega (arith, e)) (length-in_order is_at_least (minus r c) ∙ length-minus r c ∙ long)
      ∙ completed-same (λ v. f (pos ((p * number_of_labellings c) * v))) (λ v. f (pos (p * (number_of_labellings c * v)))) (λ v. ap (λ w. f (pos w)) (mul_assoc p (number_of_labellings c) v)) (drop (g + 1) columns) (falling (minus r c))
      )) (filter (is_gathered r) (choices (slice_index columns g) r)))

  two_left : (g : ℕ) → g + 2 ≡ length columns → drop g columns ≡ slice_index columns g ∷ slice_index columns (g + 1) ∷ []
  two_left g e =
      next-left g (omega (arith, e))
      ∙ ap (λ cs. slice_index columns g ∷ cs) (next-left (g + 1) (omega (arith, e)))
      ∙ ap (λ cs. slice_index columns g ∷ slice_index columns (g + 1) ∷ cs) (drop_of_length-le columns {i = g + 1 + 1} (omega (arith, e)))

  module _ (a : AreLast rows columns judge) where
    key-of : (g : ℕ) (k : List ℤ) → IsReached (weight_network rows columns judge) g k → IsWeightKey rows columns g (take (length rows) k) (drop (length rows) k)
    key-of g k r = sorted_key rows columns judge a.weighing.level a.weighing.some a.ordered.falls g (take (length rows) k) (drop (length rows) k) (is_key (sorted_meaning rows columns judge) sorted_weight (sorted_width columns rows) g k r).reached

    -- a key before the last two columns
    module _ (g : ℕ) (left : g + 2 ≡ length columns) (k : List ℤ) (r : IsReached (weight_network rows columns judge) g k) where
      key : IsWeightKey rows columns g (take (length rows) k) (drop (length rows) k)
      key = key-of g k r

      pub at : IsKey (sorted_meaning rows columns judge) sorted_weight (sorted_width columns rows) g k
      at = is_key (sorted_meaning rows columns judge) sorted_weight (sorted_width columns rows) g k r

      abbrev pub sizes : List ℕ
      sizes = sizes_in (take (length rows) k)

      abbrev pub past : ℕ
      past = past_of (drop (length rows) k)

      sizes-long : length sizes ≡ length rows
      sizes-long = sym (length-pos sizes) ∙ ap length (sym key.whole) ∙ at.long

      number-behind : drop (length rows) k ≡ pos past ∷ []
      number-behind = one_number (drop (length rows) k) key.product.one ∙ ap (λ z. z ∷ []) key.product.whole

      key-parts : k ≡ map pos sizes ++ pos past ∷ []
      key-parts =
          sym (take-append-drop (length rows) k)
          ∙ ap (λ room. room ++ drop (length rows) k) key.whole
          ∙ ap (λ p. map pos sizes ++ p) number-behind

      whole : sum sizes ≡ slice_index columns g + slice_index columns (g + 1)
      whole = omega (arith, key.level, ap sum (two_left g left), sum_by-cons (λ v. v) (slice_index columns g) (slice_index columns (g + 1) ∷ []), sum_by-cons (λ v. v) (slice_index columns (g + 1)) [])

      few-labellings : number_of_labellings sizes ≤ MAX
      few-labellings = omega (arith, fewer-labellings sizes rows key.within, a.weighing.total_fits)

      pub lines-light : weight_of (choice_lines (slice_index columns g) sizes) ≤ MAX
      lines-light = omega (arith, lines-weigh (slice_index columns g) sizes (omega (arith, whole)), few-labellings)

      key-values : (f : ℤ → ℕ) → values (weight_network rows columns judge) f (length columns - g) g k ≡ valued (λ z. f (pos (past * nat_abs z))) (choice_lines (slice_index columns g) sizes)
      key-values f =
          let n = weight_network rows columns judge in
          let two : length columns - g ≡ 2 = omega (arith, left) in
          ap (λ m. values n f m g k) two
          ∙ ap (values n f 2 g) key-parts
          ∙ values-completed f 2 g sizes past (omega (arith, left)) sizes-long
          ∙ ap (λ cs. completed (λ v. f (pos (past * v))) cs sizes) (two_left g left)
          ∙ sym (lines-completed (λ z. f (pos (past * nat_abs z))) (slice_index columns g) (slice_index columns (g + 1)) sizes whole)

      -- its extreme completions
      pub key-extreme : extreme_weight (weight_network rows columns judge) Two g k ≡ valued (λ v. once (λ z. int_le z (pos (most_in judge.two))) (pos (past * nat_abs v))) (choice_lines (slice_index columns g) sizes)
      key-extreme =
          let n = weight_network rows columns judge in
          let measure = sorted_measure rows columns judge a.weighing.level a.weighing.some a.ordered.falls in
          extreme-values n judge (room_intervals (sorted_meaning rows columns judge) sorted_weight (sorted_width columns rows) measure) Two g k r (omega (arith, left))
          ∙ ap (λ (u : Rule). values n (once (passes u)) (length columns - g) g k) a.rule
          ∙ key-values (once (passes (AtMost (pos (most_in judge.two)))))

      -- by the lines of its room
      module _ (room partial : List ℤ) (same : room ≡ take (length rows) k) (is : partial ≡ drop (length rows) k) (lines : List Line) (listed : lines ≡ choice_lines (slice_index columns g) (sizes_in room)) where
        lines-are : lines ≡ choice_lines (slice_index columns g) sizes
        lines-are = listed ∙ ap (λ s. choice_lines (slice_index columns g) (sizes_in s)) same

        weighs-so : (w : ℕ) → w ≡ valued (λ v. once (λ z. int_le z (pos (most_in judge.two))) (pos (past_of partial * nat_abs v))) lines → w ≡ extreme_weight (weight_network rows columns judge) Two g k
        weighs-so w e =
            e
            ∙ ap (λ p. valued (λ v. once (λ z. int_le z (pos (most_in judge.two))) (pos (past_of p * nat_abs v))) lines) is
            ∙ ap (valued (λ v. once (λ z. int_le z (pos (most_in judge.two))) (pos (past * nat_abs v)))) lines-are
            ∙ sym key-extreme

        pub behind : IsBehind (weight_network rows columns judge) (most_in judge.two) g k partial lines
        behind = record {
          light = subst (λ ls. weight_of ls ≤ MAX) (sym lines-are) lines-light;
          one = ap length is ∙ key.product.one;
          some = subst (λ p. 1 ≤ past_of p) (sym is) key.product.some;
          weighs = weighs-so;
        }

    -- a node of a room before the last two columns
    module _ (limit g : ℕ) (nodes : Housed) (b : AreBeforeLast rows columns judge limit g nodes) (start end : ℕ) (last : end ≤ length nodes.nodes) (d : Node) (room : List ℤ) (first : room ≡ take nodes.room_width (get_or nodes.nodes start d).key) where
      room-is : room ≡ take (length rows) (get_or nodes.nodes start d).key
      room-is = first ∙ ap (λ w. take w (get_or nodes.nodes start d).key) b.meeting.shape.room_width

      pub room-reached : start < end → IsReached (alone (sorted_plan columns rows)) g room
      room-reached order =
          let r = reached_at (weight_network rows columns judge) g nodes.nodes start d b.meeting.reached (omega (arith, order, last)) in
          subst (IsReached (alone (sorted_plan columns rows)) g) (sym room-is) (at g b.left (get_or nodes.nodes start d).key r).room

      pub node-behind : IsRun (length rows) nodes.nodes start end → (i : ℕ) → start ≤ i → i < end → (partial : List ℤ) → partial ≡ drop nodes.room_width (get_or nodes.nodes i d).key → (lines : List Line) → lines ≡ choice_lines (slice_index columns g) (sizes_in room) → IsBehind (weight_network rows columns judge) (most_in judge.two) g (get_or nodes.nodes i d).key partial lines
      node-behind run i from below partial is lines listed =
          let r = reached_at (weight_network rows columns judge) g nodes.nodes i d b.meeting.reached (omega (arith, below, last)) in
          behind g b.left (get_or nodes.nodes i d).key r room partial (room-is ∙ sym (run i d from below)) (is ∙ ap (λ w. drop w (get_or nodes.nodes i d).key) b.meeting.shape.room_width) lines listed

-- the lines' values are weights
pub lines-natural : (c : ℕ) (r : List ℕ) → AllByRecursion (λ (l : Line). l.value ≡ pos (nat_abs l.value)) (choice_lines c r)
lines-natural c r = all_map (λ (l : Line). l.value ≡ pos (nat_abs l.value)) (choice_line r) (filter (is_gathered r) (choices c r)) (each (filter (is_gathered r) (choices c r)))
  where
    each : (xs : List (List ℕ)) → AllByRecursion (λ x. pos (number_of_labellings x * number_of_labellings (minus r x)) ≡ pos (number_of_labellings x * number_of_labellings (minus r x))) xs
    each [] = tt
    each (x ∷ xs) = (refl, each xs)

pub natural-lines : (c : ℕ) (r : List ℕ) (lines : List Line) → lines ≡ choice_lines c r → AllByRecursion (λ (l : Line). l.value ≡ pos (nat_abs l.value)) lines
natural-lines c r lines e = subst (λ ls. AllByRecursion (λ (l : Line). l.value ≡ pos (nat_abs l.value)) ls) (sym e) (lines-natural c r)

-- sums over some of the nodes fit

module _ (n : Network) (g : ℕ) (nodes : List Node) where
  extreme-most : weighted (extreme_weight n Two g) nodes ≤ weighted (total_weight n g) nodes
  extreme-most = weighted-le (extreme_weight n Two g) (total_weight n g) (extreme-le-total n Two g) nodes

  pub node-next : (s i : ℕ) (d : Node) → s ≤ i → i < length nodes → weighted (extreme_weight n Two g) (segment s (i + 1) nodes) ≡ weighted (extreme_weight n Two g) (segment s i nodes) + (get_or nodes i d).weight * extreme_weight n Two g (get_or nodes i d).key
  node-next s i d h low = segment-more (extreme_weight n Two g) s i nodes d h low

  pub node-fits : (s i : ℕ) (d : Node) → s ≤ i → i < length nodes → weighted (total_weight n g) nodes ≤ MAX → weighted (extreme_weight n Two g) (segment s i nodes) + (get_or nodes i d).weight * extreme_weight n Two g (get_or nodes i d).key ≤ MAX
  node-fits s i d h low light = omega (arith, node-next s i d h low, segment-le (extreme_weight n Two g) s (i + 1) nodes (omega (arith, h)), extreme-most, light)

  pub run-next : (s e closed : ℕ) → s ≤ e → (closed + weighted (extreme_weight n Two g) (take s nodes)) + weighted (extreme_weight n Two g) (segment s e nodes) ≡ closed + weighted (extreme_weight n Two g) (take e nodes)
  run-next s e closed h = omega (arith, run-more (extreme_weight n Two g) s e nodes h)

  pub run-fits : (s e closed : ℕ) → s ≤ e → closed + weighted (total_weight n g) nodes ≤ MAX → (closed + weighted (extreme_weight n Two g) (take s nodes)) + weighted (extreme_weight n Two g) (segment s e nodes) ≤ MAX
  run-fits s e closed h light = omega (arith, run-next s e closed h, take-le (extreme_weight n Two g) e nodes, extreme-most, light)

-- lines whose values, times a number, are no more than another one

within-quotient : (p most v : ℕ) → 1 ≤ p → nat_le v (most / p) ≡ nat_le (p * v) most
within-quotient p most v some = by (leb_tells v (most / p)) (leb_tells (p * v) most)
  where
    transposed : v * p ≡ p * v
    transposed = grind arith

    by : ((nat_le v (most / p) ≡ true) × (v ≤ most / p)) ⊎ ((nat_le v (most / p) ≡ false) × (most / p < v)) → ((nat_le (p * v) most ≡ true) × (p * v ≤ most)) ⊎ ((nat_le (p * v) most ≡ false) × (most < p * v)) → nat_le v (most / p) ≡ nat_le (p * v) most
    by (inl a) (inl b) = a.0 ∙ sym b.0
    by (inl a) (inr b) =
        let times : p * v ≤ p * (most / p) = mul-le-mul_left p a.1 in
        absurd (omega (arith, times, mul-div-le most p, b.1))
    by (inr a) (inl b) =
        let more : v ≤ most / p = le-div v most p (omega (arith, some)) (omega (arith, transposed, b.1)) in
        absurd (omega (arith, more, a.1))
    by (inr a) (inr b) = a.0 ∙ sym b.0

pub valued-within : (p most : ℕ) → 1 ≤ p → (lines : List Line) → AllByRecursion (λ (l : Line). l.value ≡ pos (nat_abs l.value)) lines → valued (once (λ v. int_le v (pos (most / p)))) lines ≡ valued (λ v. once (λ z. int_le z (pos most)) (pos (p * nat_abs v))) lines
valued-within p most some lines natural = sum_by-same_where (λ (l : Line). l.value ≡ pos (nat_abs l.value)) _ _ each lines natural
  where
    each : (l : Line) → l.value ≡ pos (nat_abs l.value) → l.weight * once (λ v. int_le v (pos (most / p))) l.value ≡ l.weight * once (λ z. int_le z (pos most)) (pos (p * nat_abs l.value))
    each l e = ap (λ w. l.weight * w) (ap (once (λ v. int_le v (pos (most / p)))) e ∙ ap (λ b. cond b 1 0) (within-quotient p most (nat_abs l.value) some))

-- lines one after another

few : (b : Bool) → cond b 1 0 ≤ 1
few true = omega arith
few false = omega arith

module _ (p : ℤ → Bool) (lines : List Line) (i : ℕ) where
  pub line-next : (d : Line) → i < length lines → valued (once p) (take (i + 1) lines) ≡ valued (once p) (take i lines) + (get_or lines i d).weight * once p (get_or lines i d).value
  line-next d low = sum_by_more (λ (l : Line). l.weight * once p l.value) lines i d low

  pub lines-few : valued (once p) (take i lines) ≤ weight_of lines
  lines-few = omega (arith, sum_by-take-le (λ (l : Line). l.weight * once p l.value) lines i, valued-le (once p) (λ v. 1) (λ v. few (p v)) lines)
