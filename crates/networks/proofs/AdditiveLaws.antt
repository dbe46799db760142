-- Why an additive network is lawful: its intervals narrow along arcs to the value, by either measure of the sums.
use Rattle.std.proofs.Common.{◌≡◌, ◌≢◌, ℕ, zero, suc, ◌+◌, ◌-◌, ◌<◌, ◌≤◌, List, [], ◌∷◌, length, AllPairs, Bool, true, false, refl, sym, ◌∙◌, ap, arith, subst, inl, inr}
use Rattle.std.specs.Prelude.{ℤ, pos, ◌+ℤ◌, ◌≤ℤ◌, min}
use Rattle.std.specs.List.{Contains, AllByRecursion, sum_by}
use Rattle.std.proofs.lemmas.Bool.{cases_lt}
use Rattle.std.proofs.lemmas.Int.{ints}
use Rattle.weights.specs.declared.TheConstants.{MAX}
use Rattle.weights.specs.declared.tails.Tail.{Tail}
use Rattle.weights.specs.Rules.{RuleFits}
use Rattle.networks.specs.declared.additive.SumValue.{SumValue}
use Rattle.networks.specs.declared.additive.SumValue.TheVariants.{First, Squares}
use Rattle.networks.specs.Network.{IsReached}
use Rattle.networks.specs.Laws.{IsLawful}
use Rattle.networks.specs.Judged.{HasIntervals, rule_in}
use Rattle.networks.specs.PartialSums.{plus, kept}
use Rattle.networks.specs.Addends.{Addends, additive_network, first_sum, high, high_end, least_sum_to_come, low, low_end, most_sum_to_come, square, totals, sum_value_of, zeros}
use Rattle.networks.specs.Distances.{far_square, near_square}
use Rattle.networks.specs.SoundAddends.{AddsBetween, IsAdditive, IsMeasured}
use Rattle.networks.proofs.Apart.{none_apart}
use Rattle.networks.proofs.Swaps.{IsEvenAt, sum_by-swap_at, swap_at}
use Rattle.networks.proofs.Judging.{fits-high, fits-low, intervals-inside, intervals-outside, intervals-decided}
use Rattle.networks.proofs.Bridge.{choices-before, additive_total}
use Rattle.networks.proofs.AdditiveKeys.{allowed-before, choice_between, choices-past, over_stages-none, over_stages-step, reached_length}
use Rattle.networks.proofs.SquaredDistances.{far-falls, near-rises}
use Rattle.networks.proofs.SquaredEnds.{ends_fall, ends_rise, far_at_end, near_at_end, squares_bounded}

-- one sum

first-next : (b : Bool) (k v : List ℤ) → length k ≡ 1 → length v ≡ 1 → first_sum (kept b (plus k v)) ≡ first_sum k +ℤ first_sum v
first-next b [] v e h = absurd (omega arith)
first-next b (x ∷ y ∷ ys) v e h = absurd (omega arith)
first-next b (x ∷ []) [] e h = absurd (omega arith)
first-next b (x ∷ []) (v ∷ w ∷ vs) e h = absurd (omega arith)
first-next true (x ∷ []) (v ∷ []) e h = refl
first-next false (x ∷ []) (v ∷ []) e h = refl

first-between : (l h : ℤ) (v : List ℤ) → length v ≡ 1 → AllByRecursion (λ z. (l ≤ℤ z) × (z ≤ℤ h)) v → (l ≤ℤ first_sum v) × (first_sum v ≤ℤ h)
first-between l h [] e w = absurd (omega arith)
first-between l h (x ∷ xs) e w = w.0

-- along an arc, and at the end

module _ (a : Addends) (s : IsAdditive a) where
  low-arc : (v : SumValue) → IsMeasured a v → (g : ℕ) (k : List ℤ) (c : List ℕ) → IsReached (additive_network a) g k → g < a.count → Contains ((additive_network a).choices g k) c
      → low_end v (least_sum_to_come a g) (most_sum_to_come a g) k ≤ℤ low_end v (least_sum_to_come a (g + 1)) (most_sum_to_come a (g + 1)) (kept a.sorted (plus k (a.adds g c)))
  low-arc First one g k c r h m =
      let w : AddsBetween a g c = choice_between a s g k c h m in
      let b : (a.least g ≤ℤ first_sum (a.adds g c)) × (first_sum (a.adds g c) ≤ℤ a.most g) = first-between (a.least g) (a.most g) (a.adds g c) (w.wide ∙ one) w.between in
      omega (arith, ints, b.0, over_stages-step a.least a.count g h, first-next a.sorted k (a.adds g c) (reached_length a g k r ∙ one) (w.wide ∙ one))
  low-arc (Squares x) q g k c r h m = (let up = ends_rise a s x q (near_square x.centre) g k c r h m (near-rises x.centre) in omega (arith, ints, up))

  high-arc : (v : SumValue) → IsMeasured a v → (g : ℕ) (k : List ℤ) (c : List ℕ) → IsReached (additive_network a) g k → g < a.count → Contains ((additive_network a).choices g k) c
      → high_end v (least_sum_to_come a (g + 1)) (most_sum_to_come a (g + 1)) (kept a.sorted (plus k (a.adds g c))) ≤ℤ high_end v (least_sum_to_come a g) (most_sum_to_come a g) k
  high-arc First one g k c r h m =
      let w : AddsBetween a g c = choice_between a s g k c h m in
      let b : (a.least g ≤ℤ first_sum (a.adds g c)) × (first_sum (a.adds g c) ≤ℤ a.most g) = first-between (a.least g) (a.most g) (a.adds g c) (w.wide ∙ one) w.between in
      omega (arith, ints, b.1, over_stages-step a.most a.count g h, first-next a.sorted k (a.adds g c) (reached_length a g k r ∙ one) (w.wide ∙ one))
  high-arc (Squares x) q g k c r h m = (let down = ends_fall a s x q (far_square x.centre) g k c r h m (far-falls x.centre) in omega (arith, ints, down))

  low-last : (v : SumValue) → IsMeasured a v → (k : List ℤ) → IsReached (additive_network a) a.count k → low_end v (least_sum_to_come a a.count) (most_sum_to_come a a.count) k ≡ sum_value_of v k
  low-last First one k r = omega (arith, ints, over_stages-none a.least a.count)
  low-last (Squares x) q k r = ap pos (near_at_end a s x q k r)

  high-last : (v : SumValue) → IsMeasured a v → (k : List ℤ) → IsReached (additive_network a) a.count k → high_end v (least_sum_to_come a a.count) (most_sum_to_come a a.count) k ≡ sum_value_of v k
  high-last First one k r = omega (arith, ints, over_stages-none a.most a.count)
  high-last (Squares x) q k r =
      let most_of : sum_by square k ≤ x.bound = squares_bounded a s x q k r in
      ap (λ n. pos (min x.bound n)) (far_at_end a s x q k r) ∙ ap pos (let e : min x.bound (sum_by square k) ≡ sum_by square k = omega arith in e)

  pub additive_intervals : HasIntervals (additive_network a) a.judge
  additive_intervals = record {
    low = low a;
    high = high a;
    verdicts = λ t g k r. refl;
    low_rises = low-arc a.value s.measured;
    high_falls = high-arc a.value s.measured;
    low_ends = low-last a.value s.measured;
    high_ends = high-last a.value s.measured;
  }

  -- the value does not see the order of the sums
  even-value : (v : SumValue) → IsMeasured a v → IsEvenAt a.slots (sum_value_of v)
  even-value First one i k l = ap first_sum (alone i k (l ∙ one))
    where
      alone : (i : ℕ) (k : List ℤ) → length k ≡ 1 → swap_at i k ≡ k
      alone i [] e = absurd (omega arith)
      alone zero (x ∷ []) e = refl
      alone (suc i) (x ∷ []) e = refl
      alone i (x ∷ y ∷ ys) e = absurd (omega arith)
  even-value (Squares x) q i k l = ap pos (sum_by-swap_at square i k)

  pub value_even : IsEvenAt a.slots (sum_value_of a.value)
  value_even = even-value a.value s.measured

  weighty_arc : (g : ℕ) (k : List ℤ) (c : List ℕ) → Contains ((additive_network a).choices g k) c → 1 ≤ a.weight g c
  weighty_arc g k c m = elim (cases_lt g a.count) [
    | inl before ↦ s.weighty g c before (allowed-before a g k c before m)
    | inr past ↦ (let none : Contains [] c = subst (λ cs. Contains cs c) (choices-past a g k past) m in absurd (omega (arith, none.1)))
  ]

  some_arc : (g : ℕ) (k : List ℤ) → IsReached (additive_network a) g k → g < a.count → (additive_network a).choices g k ≢ []
  some_arc g k r before e = s.some_choice g before (sym (choices-before a g k before) ∙ e)

  different_arcs : (g : ℕ) (k : List ℤ) → AllPairs ◌≢◌ ((additive_network a).choices g k)
  different_arcs g k = elim (cases_lt g a.count) [
    | inl before ↦ subst (AllPairs ◌≢◌) (sym (choices-before a g k before)) (s.different g before)
    | inr past ↦ subst (AllPairs ◌≢◌) (sym (choices-past a g k past)) none_apart
  ]

  pub additive_lawful : IsLawful (additive_network a)
  additive_lawful = record {
    width_least = s.slots_some;
    width_most = s.slots_few;
    long = reached_length a;
    some_choice = some_arc;
    weighty = λ g k c r allowed. weighty_arc g k c allowed;
    different = λ g k r. different_arcs g k;
    ends = λ k r. choices-past a a.count k (omega arith);
    fits = (let all : totals a (a.count - 0) 0 ≤ MAX = subst (λ m. totals a m 0 ≤ MAX) (let e : a.count ≡ a.count - 0 = omega arith in e) s.fits in omega (arith, all, additive_total a 0 (zeros a) (omega arith)));
    inside = intervals-inside (additive_network a) a.judge additive_intervals;
    outside = intervals-outside (additive_network a) a.judge additive_intervals;
    decided = intervals-decided (additive_network a) a.judge additive_intervals;
  }

  -- the rules fit both ends of every reached interval
  pub low_fits : (t : Tail) (g : ℕ) (k : List ℤ) → IsReached (additive_network a) g k → RuleFits (rule_in a.judge t) (low a g k)
  unfolding additive_intervals
  low_fits = fits-low (additive_network a) a.judge additive_intervals some_arc s.low_fits s.high_fits

  pub high_fits : (t : Tail) (g : ℕ) (k : List ℤ) → IsReached (additive_network a) g k → RuleFits (rule_in a.judge t) (high a g k)
  unfolding additive_intervals
  high_fits = fits-high (additive_network a) a.judge additive_intervals some_arc s.low_fits s.high_fits
