-- The network of the sums seen from their middle: it follows the test, its choices add to the sums, and one number holds these.
use Rattle.std.proofs.Common.{◌≡◌, ℕ, ◌+◌, ◌-◌, ◌/◌, ◌^◌, ◌<◌, ◌≤◌, List, [], ◌∷◌, drop, length, take, refl, ◌∙◌, ap, subst, arith}
use Rattle.std.specs.Prelude.{ℤ, pos, nat_abs, ◌*ℤ◌, slice_index}
use Rattle.std.specs.List.{AllByRecursion}
use Rattle.std.proofs.lemmas.Int.{ints}
use Rattle.std.proofs.lemmas.List.Elements.{recursion_from_All}
use Rattle.weights.specs.declared.TheConstants.{MAX}
use Rattle.weights.specs.Grouped.{columns_of, minus}
use Rattle.weights.specs.Numbers.{absolute_sum}
use Rattle.networks.specs.Judged.{IsJudged}
use Rattle.networks.specs.Network.{Network, IsReached}
use Rattle.networks.specs.declared.verdicts.Judge.{Judge}
use Rattle.room_network.proofs.RoomKeys.{is_key}
use Rattle.room_network.specs.Meanings.{IsMove}
use Rattle.later_scores.specs.LaterSums.{subjects}
use Rattle.label_network.specs.LabelNetwork.{label_network, over_rooms}
use Rattle.label_network.specs.LabelRooms.{label_weight}
use Rattle.label_network.specs.Linear.{score_of}
use Rattle.label_network.specs.Meanings.{Meaning, sizes_in}
use Rattle.label_network.proofs.Endings.{labelling_value, partial_after}
use Rattle.label_network.proofs.LabelPlans.{label_width}
use Rattle.label_network.proofs.Rows.{fits-long}
use Rattle.label_network.proofs.Narrowing.{chosen, reached-left}
use Rattle.label_network.proofs.OverRooms.{over_place}
use Rattle.symmetry_reduction.specs.ReducedNetworks.{reduced_network}
use Rattle.symmetry_reduction.specs.GroupSums.{AreHeld}
use Rattle.networks.specs.PartialSums.{plus}
use Rattle.symmetry_reduction.specs.declared.orders.Order.{Order}
use Rattle.packed_keys.specs.PackedGroups.{AddsSteps}
use Rattle.packed_keys.specs.PackedKeys.{IsDigit, MayBePacked}
use Rattle.packed_keys.proofs.Widths.{bits-few, bits-fit}
use Rattle.kruskal_wallis.specs.CentredSums.{IsCentred, centred_meaning}
use Rattle.kruskal_wallis.specs.RankSums.{score_parts, squares_meaning}
use Rattle.kruskal_wallis.specs.RankSumSteps.{IsSquaring}
use Rattle.kruskal_wallis.proofs.CentredNarrows.{IsHeldPartial, held-at, reached_held}
use Rattle.kruskal_wallis.proofs.RankNarrows.{length-parts}

are-digits : (base : ℕ) (zs : List ℤ) → absolute_sum zs < base → AreHeld zs → AllByRecursion (IsDigit base) zs
are-digits base [] h a = tt
are-digits base (z ∷ zs) h a = (
  record { held = a.0; small = omega (arith, ints, h, a.0) },
  are-digits base zs (omega (arith, h)) a.1,
)

parts-held : (s : ℤ) (x : List ℕ) → s ≡ pos (nat_abs s) → AreHeld (score_parts s x)
parts-held s [] h = tt
parts-held s (n ∷ x) h = (one n s h, parts-held s x h)
  where
    one : (n : ℕ) (s : ℤ) → s ≡ pos (nat_abs s) → pos n *ℤ s ≡ pos (nat_abs (pos n *ℤ s))
    one n s h = rw h refl

module _ (factors : List ℕ) (bound base middle : ℕ) (scores : List ℤ) (columns rows : List ℕ) (judge : Judge) (h : IsSquaring factors bound scores columns rows judge) (c : IsCentred factors bound base middle scores columns rows) where
  abbrev m : Meaning
  m = centred_meaning factors bound base middle scores columns rows judge

  abbrev n : Network
  n = label_network m

  -- the partials are those of the plain sums, and so is the value
  after-same : (cs : List (List ℕ)) (g : ℕ) (r : List ℕ) (p : List ℤ) → partial_after m g r p cs ≡ partial_after (squares_meaning factors bound scores columns rows judge) g r p cs
  after-same [] g r p = refl
  after-same (x ∷ cs) g r p = after-same cs (g + 1) (minus r x) (plus p (score_parts (score_of scores g) x))

  pub same-value : (xs : List ℕ) → labelling_value m xs ≡ labelling_value (squares_meaning factors bound scores columns rows judge) xs
  same-value xs = ap m.value (after-same (columns_of (length rows) columns xs) 0 rows m.first)

  reached-at : (g : ℕ) (k : List ℤ) → IsReached n g k → IsHeldPartial scores columns rows g (sizes_in (take (length rows) k)) (drop (length rows) k)
  reached-at g k r =
      reached_held factors bound base middle scores columns rows judge h c g (sizes_in (take (length rows) k)) (drop (length rows) k)
      (over_place m g (take (length rows) k) (drop (length rows) k) (is_key (over_rooms m) label_weight (label_width columns rows) g k r).reached).reached

  pub adds-steps : (order : Order) → AddsSteps order (over_rooms m)
  adds-steps order = record {
    steps = refl;
    wide = λ g room x p v. length-parts (score_of scores g) x ∙ choice-long g room x p v;
    held = λ g room x p v. parts-held (score_of scores g) x (held-at scores g (recursion_from_All _ scores c.held));
    moves = λ g room x p v s. refl;
  }
    where
      choice-long : (g : ℕ) (room : List ℤ) (x : List ℕ) (p : List ℤ) → IsMove (over_rooms m) g room x p → length x ≡ length rows
      choice-long g room x p v = (chosen (slice_index columns g) (sizes_in room) x v.allowed).long ∙ fits-long (sizes_in room) rows (reached-left m h.level g (sizes_in room) p (over_place m g room p v.reached).reached).within

  -- in whatever order its groups are, a reached key is one of plain sums, which are digits
  pub packed-sums : (order : Order) (sizes : List ℕ) → 2 ≤ length rows → absolute_sum (subjects scores columns) < 2 ^ (127 / length rows) → IsJudged (reduced_network order sizes n)
      → ((g : ℕ) (key : List ℤ) → IsReached (reduced_network order sizes n) g key → IsReached n g key) → MayBePacked (length rows) (127 / length rows) (reduced_network order sizes n)
  packed-sums order sizes some small judged reached = record {
    room = omega (arith, h.few_rows);
    within = omega arith;
    few = omega (arith, h.few_rows);
    narrow = bits-few (length rows) some;
    fits = subst (λ i. (2 ^ (127 / length rows)) ^ i ≤ MAX + 1) (twice (length rows)) (bits-fit (length rows));
    judged = judged;
    each = λ g key r. (let k = reached-at g key (reached g key r) in
        are-digits (2 ^ (127 / length rows)) (drop (length rows) key) (omega (arith, k.whole, small)) k.held);
  }
    where
      twice : (k : ℕ) → k ≡ k + k - k
      twice k = omega arith
