-- The sums of a test's groups, seen from their middle: what makes them so, and that their network follows the test.
use Rattle.std.proofs.Common.{◌≡◌, ℕ, ◌*◌, ◌/◌, ◌^◌, ◌<◌, ◌≤◌, List, [], ◌∷◌, get_or, length, map, max, true, refl, sym, ◌∙◌, ap, subst, arith}
use Rattle.std.specs.Prelude.{ℤ}
use Rattle.std.specs.List.{AllByRecursion, sum}
use Prim.Native.Nat.{◌∣◌}
use Rattle.std.proofs.Math.Nat.{mul-div_cancel', mul-le-mul, mul-le-mul_left}
use Rattle.std.proofs.lemmas.List.Elements.{recursion_from_All}
use Rattle.std.proofs.lemmas.List.Sums.{sum_by-cons}
use Rattle.weights.specs.Numbers.{absolute_sum}
use Rattle.weights.specs.declared.tails.Tail.{Tail}
use Rattle.scores.specs.PlaceScores.{common_multiple}
use Rattle.scores.specs.Scores.{scale_of}
use Rattle.scores.proofs.MultipleLemmas.{common_multiple-all}
use Rattle.sample_reader.specs.Groups.{group_sizes}
use Rattle.networks.specs.Follows.{Follows}
use Rattle.networks.specs.Judged.{judge_of}
use Rattle.networks.specs.Network.{Network, IsReached}
use Rattle.networks.proofs.Swaps.{swap_at}
use Rattle.later_scores.specs.LaterSums.{subjects}
use Rattle.label_network.specs.LabelNetwork.{label_network, over_rooms}
use Rattle.label_network.specs.Meanings.{Meaning}
use Rattle.label_network.proofs.Endings.{labelling_value}
use Rattle.labelled.proofs.LabelLaws.{label-follows}
use Rattle.symmetry_reduction.specs.OrderedGroups.{same_at}
use Rattle.symmetry_reduction.specs.ReducedNetworks.{MayBeReduced, reduced_network}
use Rattle.symmetry_reduction.specs.declared.orders.Order.{Order}
use Rattle.packed_keys.specs.PackedGroups.{AddsSteps}
use Rattle.packed_keys.specs.PackedKeys.{MayBePacked}
use Rattle.networks.specs.GoesOn.{GoesOn}
use Rattle.networks.proofs.GoingOn.{judged-goes_on}
use Rattle.pooled_columns.specs.PooledColumns.{column_sizes, pooled_values}
use Rattle.kruskal_wallis.specs.CentredSums.{AreParts}
use Rattle.kruskal_wallis.specs.KruskalWallis.{ScoredGroups, kruskal_wallis_says, kruskal_wallis_test, pooled_scores, size_factors}
use Rattle.kruskal_wallis.specs.RankSums.{unpacked_meaning}
use Rattle.kruskal_wallis.specs.RankSumSteps.{AreFitting}
use Rattle.kruskal_wallis.specs.SumMeanings.{AreSums, seen_meaning, sums_meaning}
use Rattle.kruskal_wallis.specs.declared.centred_sums.CentredSums.{CentredSums}
use Rattle.kruskal_wallis.proofs.CentredNarrows.{centred_measure}
use Rattle.kruskal_wallis.proofs.EqualKeys.{centred-reduced, even-factors, groups-reduced}
use Rattle.kruskal_wallis.proofs.FittingKruskalWallis.{column-total, multiple-some as some-multiple, scores-long, unpacked-value}
use Rattle.kruskal_wallis.proofs.PackedCentred.{adds-steps, packed-sums, same-value}

parts-of : (l : ℕ) (sizes : List ℕ) → AllByRecursion (λ n. n ∣ l) sizes → AreParts l (map (λ n. l / n) sizes) sizes
parts-of l [] d = tt
parts-of l (n ∷ sizes) d = (omega (arith, mul-div_cancel' n d.0), parts-of l sizes d.1)

first-part : (l d : ℕ) (factors sizes : List ℕ) → 1 ≤ length sizes → AreParts l factors sizes → get_or factors 0 d * get_or sizes 0 0 ≡ l
first-part l d factors [] some parts = absurd (omega (arith, some))
first-part l d [] (n ∷ sizes) some parts = absurd parts
first-part l d (f ∷ factors) (n ∷ sizes) some parts = parts.0

sum-some : (sizes : List ℕ) → 1 ≤ length sizes → AllByRecursion (λ n. 0 < n) sizes → 1 ≤ sum sizes
sum-some [] some each = absurd (omega (arith, some))
sum-some (n ∷ sizes) some each = omega (arith, each.0, sum_by-cons (λ v. v) n sizes)

module _ (samples : ScoredGroups) (f : AreFitting samples) where
  pub size-parts : AreParts (common_multiple (group_sizes samples.groups)) (size_factors (group_sizes samples.groups)) (group_sizes samples.groups)
  size-parts = parts-of _ (group_sizes samples.groups) (common_multiple-all (group_sizes samples.groups) (recursion_from_All (λ n. 0 < n) (group_sizes samples.groups) f.none_empty)).all

  -- the square of all scores together passes no bound
  pub square-within : common_multiple (group_sizes samples.groups) * (absolute_sum (pooled_scores samples) * absolute_sum (pooled_scores samples)) ≤ (kruskal_wallis_test samples).bound
  square-within =
      let part : absolute_sum (pooled_scores samples) ≤ max (absolute_sum (pooled_scores samples)) (scale_of samples.kind (pooled_values samples.groups)) = omega arith in
      mul-le-mul_left (common_multiple (group_sizes samples.groups)) (mul-le-mul part part)

  pub multiple-is : (a d : ℕ) (groups : List ℕ) → a ≡ get_or (size_factors (group_sizes samples.groups)) 0 d → groups ≡ group_sizes samples.groups → a * get_or groups 0 0 ≡ common_multiple (group_sizes samples.groups)
  multiple-is a d groups e g = ap (λ n. n * get_or groups 0 0) e ∙ ap (λ ns. get_or (size_factors (group_sizes samples.groups)) 0 d * get_or ns 0 0) g
      ∙ first-part _ d (size_factors (group_sizes samples.groups)) (group_sizes samples.groups) (omega (arith, f.some)) size-parts

  pub multiple-some : 1 ≤ common_multiple (group_sizes samples.groups)
  multiple-some = some-multiple (group_sizes samples.groups) f.none_empty

  pub some-scores : 1 ≤ length (pooled_scores samples)
  some-scores = omega (arith, sum-some (group_sizes samples.groups) (omega (arith, f.some)) (recursion_from_All (λ n. 0 < n) (group_sizes samples.groups) f.none_empty), f.whole, scores-long samples)

  -- ---- the network

  module _ (s : CentredSums) (a : AreSums samples s.sums) where
    rows-are : s.sums.rows.items ≡ group_sizes samples.groups
    rows-are = ap (λ (m : Meaning). m.rows) a.meaning

    pub seen-follows : (tail : Tail) → Follows (kruskal_wallis_test samples) tail (label_network (seen_meaning s))
    seen-follows tail =
        let r = s.sums in
        let squaring = r.right.squaring in
        label-follows (kruskal_wallis_says samples) (seen_meaning s)
        (centred_measure r.factors.items r.bound s.base s.middle r.later.scores.items r.later.columns.items r.rows.items r.judge squaring s.right)
        (ap (λ (m : Meaning). m.judge) a.meaning) rows-are
        (λ xs member. unpacked-value samples f xs ∙ sym (same-value r.factors.items r.bound s.base s.middle r.later.scores.items r.later.columns.items r.rows.items r.judge squaring s.right xs ∙ ap (λ m. labelling_value m xs) a.meaning))
        tail

    even : (i : ℕ) → same_at i s.sums.rows.items ≡ true → swap_at i s.sums.factors.items ≡ s.sums.factors.items
    even = subst (λ fs. (i : ℕ) → same_at i s.sums.rows.items ≡ true → swap_at i fs ≡ fs) (ap size_factors rows-are ∙ sym a.factors) (even-factors s.sums.rows.items)

    reduced : MayBeReduced s.sums.rows.items (label_network (seen_meaning s)) s.sums.judge
    reduced = centred-reduced s.sums.factors.items s.sums.bound s.sums.later.scores.items s.sums.later.columns.items s.sums.rows.items s.sums.judge s.sums.right.squaring even s.base s.middle s.right

    module _ (sizes : List ℕ) (e : sizes ≡ group_sizes samples.groups) where
      to-rows : s.sums.rows.items ≡ sizes
      to-rows = rows-are ∙ sym e

      pub seen-ordered : MayBeReduced sizes (label_network (seen_meaning s)) s.sums.judge
      seen-ordered = subst (λ ns. MayBeReduced ns (label_network (seen_meaning s)) s.sums.judge) to-rows reduced

      -- one number has a digit for the sum of each group
      pub seen-packed : (order : Order) (bits : ℕ) → bits ≡ 127 / length sizes → absolute_sum (pooled_scores samples) < 2 ^ (127 / length (group_sizes samples.groups)) → (tail : Tail) → Follows (kruskal_wallis_test samples) tail (reduced_network order sizes (label_network (seen_meaning s)))
          → ((g : ℕ) (key : List ℤ) → IsReached (reduced_network order sizes (label_network (seen_meaning s))) g key → IsReached (label_network (seen_meaning s)) g key) → MayBePacked (length s.sums.rows.items) bits (reduced_network order sizes (label_network (seen_meaning s)))
      seen-packed order bits b small tail follows reached =
          let r = s.sums in
          let all : absolute_sum (subjects r.later.scores.items r.later.columns.items) ≡ absolute_sum (pooled_scores samples) = ap (λ (m : Meaning). absolute_sum (subjects r.later.scores.items m.columns)) a.meaning ∙ ap (λ zs. absolute_sum (subjects zs (column_sizes (pooled_values samples.groups)))) a.scores ∙ column-total samples f in
          let own : absolute_sum (subjects r.later.scores.items r.later.columns.items) < 2 ^ (127 / length r.rows.items) = subst (λ ns. absolute_sum (subjects r.later.scores.items r.later.columns.items) < 2 ^ (127 / length ns)) (sym rows-are) (subst (λ n. n < 2 ^ (127 / length (group_sizes samples.groups))) (sym all) small) in
          subst (λ k. MayBePacked (length r.rows.items) k (reduced_network order sizes (label_network (seen_meaning s)))) (ap (λ ns. 127 / length ns) to-rows ∙ sym b)
          (packed-sums r.factors.items r.bound s.base s.middle r.later.scores.items r.later.columns.items r.rows.items r.judge r.right.squaring s.right order sizes (subst (λ ns. 2 ≤ length ns) (sym rows-are) f.some) own
          (record { judge = judge_of (kruskal_wallis_test samples); intervals = follows.intervals }) reached)

    pub seen-adds : (order : Order) → AddsSteps order (over_rooms (seen_meaning s))
    seen-adds = adds-steps s.sums.factors.items s.sums.bound s.base s.middle s.sums.later.scores.items s.sums.later.columns.items s.sums.rows.items s.sums.judge s.sums.right.squaring s.right

    -- seen from their middle, the sums go on for the sums as they are
    pub seen-goes_on : (g : ℕ) → g ≤ (label_network (unpacked_meaning samples)).count → GoesOn (label_network (unpacked_meaning samples)) (label_network (seen_meaning s)) g g (λ k. k)
    seen-goes_on =
        let n : Network = label_network (sums_meaning s.sums) in
        let factors : s.sums.factors.items ≡ size_factors s.sums.rows.items = a.factors ∙ ap size_factors (sym rows-are) in
        let plain = groups-reduced s.sums s.sums.rows.items refl factors in
        subst (λ (m : Meaning). (g : ℕ) → g ≤ (label_network m).count → GoesOn (label_network m) (label_network (seen_meaning s)) g g (λ k. k)) a.meaning
        (judged-goes_on n (label_network (seen_meaning s)).verdict s.sums.judge plain.intervals reduced.intervals)
