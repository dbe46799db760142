-- The marks that are left after a stage: a key's completions are their lists of signs, and end at the key's sum with theirs.
use Rattle.std.proofs.Common.{◌≡◌, ℕ, zero, suc, ◌+◌, ◌-◌, ◌*◌, ◌^◌, ◌≤◌, Bool, true, cond, List, [], ◌∷◌, ◌++◌, length, length-append, drop, refl, sym, ◌∙◌, ap, subst, arith}
use Rattle.std.specs.Prelude.{ℤ, pos, ◌+ℤ◌, ◌≤ℤ◌, unsigned_abs, nat_abs, replicate, All}
use Rattle.std.specs.List.{AllByRecursion, sum_by}
use Rattle.std.proofs.Math.Nat.{pow-le-pow_right}
use Rattle.std.proofs.lemmas.List.{length-drop, length-replicate}
use Rattle.std.proofs.lemmas.List.Elements.{All-from_recursion, recursion_from_All}
use Rattle.std.proofs.lemmas.List.Sums.{sum_by-append, sum_by-cons}
use Rattle.std.proofs.lemmas.List.Folds.{sum_by-replicate}
use Rattle.weights.specs.declared.TheConstants.{MAX}
use Rattle.weights.specs.declared.tails.Tail.{Tail}
use Rattle.weights.specs.declared.rules.Rule.{Rule}
use Rattle.weights.specs.Numbers.{absolute_sum}
use Rattle.weights.specs.Rules.{passes}
use Rattle.weights.proofs.Filters.{all_weaker, filter-same_where}
use Rattle.weights.proofs.Sums.{absolute_sum-by}
use Rattle.midranks.specs.Ties.{values_in}
use Rattle.midranks.specs.declared.ties.Tie.{Tie}
use Rattle.node_pool.specs.Nodes.{Node}
use Rattle.node_pool.specs.PoolSteps.{nodes_of}
use Rattle.networks.specs.Addends.{additive_network, over_earlier, stride, totals}
use Rattle.networks.specs.Completions.{completions, ends_inside, extreme_weight, is_inside, path_end, path_weight, total_weight}
use Rattle.networks.specs.Judged.{HasIntervals, rule_in}
use Rattle.networks.specs.Network.{Network, IsReached}
use Rattle.networks.specs.declared.verdicts.Judge.{Judge}
use Rattle.networks.proofs.AdditiveKeys.{reached_length, reached_small}
use Rattle.networks.proofs.AdditiveLaws.{additive_intervals}
use Rattle.networks.proofs.Bridge.{additive_total}
use Rattle.networks.proofs.Judging.{EndsBetween, end_verdict, values_between, verdict-point}
use Rattle.networks.proofs.Steps.{passing}
use Rattle.stage_network.specs.FromKeys.{AreStarts}
use Rattle.score_convolution.specs.DrawRows.{number_of}
use Rattle.score_convolution.specs.DrawnSums.{passing_onward}
use Rattle.one_sample_tests.specs.SampleSteps.{AreStages, sizes_in, subjects_of}
use Rattle.one_sample_tests.specs.SignNetwork.{mark_addends}
use Rattle.one_sample_tests.proofs.MarkNetwork.{passing-is, reach-from, reach-is, sound_stages, total-from}
use Rattle.one_sample_tests.proofs.MarkSums.{by_marks, over_marks}

-- ---- the subjects of groups

pub subjects-more : (ts : List Tie) (t : Tie) → subjects_of (ts ++ t ∷ []) ≡ subjects_of ts ++ replicate t.count t.value
subjects-more [] t = none-behind (replicate t.count t.value)
  where
    none-behind : (zs : List ℤ) → zs ++ [] ≡ zs
    none-behind [] = refl
    none-behind (z ∷ zs) = ap (λ ys. z ∷ ys) (none-behind zs)
subjects-more (u ∷ ts) t = ap (λ zs. replicate u.count u.value ++ zs) (subjects-more ts t) ∙ grouped (replicate u.count u.value) (subjects_of ts) (replicate t.count t.value)
  where
    grouped : (xs ys zs : List ℤ) → xs ++ (ys ++ zs) ≡ (xs ++ ys) ++ zs
    grouped [] ys zs = refl
    grouped (x ∷ xs) ys zs = ap (λ us. x ∷ us) (grouped xs ys zs)

subjects-many : (ts : List Tie) → length (subjects_of ts) ≡ values_in ts
subjects-many [] = refl
subjects-many (t ∷ ts) =
    omega (arith, length-append (replicate t.count t.value) (subjects_of ts), length-replicate {A = ℤ} t.count t.value, subjects-many ts, sum_by-cons (λ (u : Tie). u.count) t ts)

subjects-size : (ts : List Tie) → sum_by nat_abs (subjects_of ts) ≡ sizes_in ts
subjects-size [] = refl
subjects-size (t ∷ ts) =
    omega (arith, sum_by-append nat_abs (replicate t.count t.value) (subjects_of ts), sum_by-replicate nat_abs t.count t.value, subjects-size ts, sum_by-cons (λ (u : Tie). u.count * nat_abs u.value) t ts)

values-left : (g : ℕ) (ts : List Tie) → values_in (drop g ts) ≤ values_in ts
values-left zero ts = omega arith
values-left (suc g) [] = omega arith
values-left (suc g) (t ∷ ts) = omega (arith, values-left g ts, sum_by-cons (λ (u : Tie). u.count) t ts)

-- ---- numbers of keys of one number

one-each : (P : ℤ → Type 0) (row : List ℤ) (weights : List ℕ) → length row ≡ length weights → AllByRecursion (λ (a : Node). AllByRecursion P a.key) (nodes_of 1 row weights) → AllByRecursion P row
one-each P [] ws e a = tt
one-each P (z ∷ row) [] e a = absurd (omega (arith, e))
one-each P (z ∷ row) (w ∷ ws) e a = (a.0.0, one-each P row ws (omega (arith, e)) a.1)

-- ---- from a key of a stage on

-- the extreme completions of a key are those whose value passes the rule
extreme-at : (n : Network) (judge : Judge) → HasIntervals n judge → (t : Tail) (g : ℕ) (k : List ℤ) → IsReached n g k → g ≤ n.count → extreme_weight n t g k ≡ passing n (λ e. passes (rule_in judge t) (n.value e)) (n.count - g) g k
unfolding extreme_weight
extreme-at n judge h t g k r l =
    ap (sum_by (path_weight n g k))
    (filter-same_where (λ cs. EndsBetween n judge h (h.low g k) (h.high g k) (path_end n g k cs)) (ends_inside n t g k) (λ cs. passes (rule_in judge t) (n.value (path_end n g k cs)))
    (λ cs w. ap is_inside (end_verdict n judge h t (path_end n g k cs) w.reached) ∙ verdict-point (rule_in judge t) (n.value (path_end n g k cs))) (completions n g k) (values_between n judge h g k r l))

module _ (groups : List Tie) (judge : Judge) (s : AreStages groups judge) where
  abbrev n : Network
  n = additive_network (mark_addends groups judge)

  abbrev left : ℕ → List ℤ
  left g = subjects_of (drop g groups)

  all-left : (g : ℕ) → g ≤ length groups → g + length (drop g groups) ≡ length groups
  all-left g l = omega (arith, l, length-drop g groups)

  many-left : (g : ℕ) → g ≤ length groups → length groups - g ≡ length (drop g groups)
  many-left g l = omega (arith, l, length-drop g groups)

  pub left-few : (g : ℕ) → 2 ^ length (left g) ≤ MAX
  left-few g =
      let fewer : length (left g) ≤ values_in groups = omega (arith, subjects-many (drop g groups), values-left g groups) in
      let less : 2 ^ length (left g) ≤ 2 ^ values_in groups = pow-le-pow_right (omega arith) fewer in
      omega (arith, less, s.total_fits)

  -- what a key has so far, and what is left, are within all
  sizes-split : (g : ℕ) → g ≤ length groups → over_earlier (stride (mark_addends groups judge)) g + absolute_sum (left g) ≤ MAX
  sizes-split g l =
      let some = recursion_from_All (λ (t : Tie). pos 0 ≤ℤ t.value) groups s.some in
      let whole : over_earlier (stride (mark_addends groups judge)) (length groups) ≡ sizes_in groups = reach-is groups judge some in
      let here : over_earlier (stride (mark_addends groups judge)) (g + length (drop g groups)) ≡ over_earlier (stride (mark_addends groups judge)) g + sizes_in (drop g groups) = reach-from groups judge some (drop g groups) g refl in
      let same : over_earlier (stride (mark_addends groups judge)) (g + length (drop g groups)) ≡ sizes_in groups = ap (over_earlier (stride (mark_addends groups judge))) (all-left g l) ∙ whole in
      omega (arith, here, same, absolute_sum-by (left g), subjects-size (drop g groups), s.sums_fit)

  pub left-near : (g : ℕ) → g ≤ length groups → absolute_sum (left g) ≤ MAX
  left-near g l = omega (arith, sizes-split g l)

  pub keys-small : (g : ℕ) (row : List ℤ) (weights : List ℕ) → AreStarts n g row weights → All (λ k. unsigned_abs k + absolute_sum (left g) ≤ MAX) row
  keys-small g row weights starts =
      let P : ℤ → Type 0 = λ k. unsigned_abs k + absolute_sum (left g) ≤ MAX in
      let within = sizes-split g starts.within in
      All-from_recursion P row
      (one-each P row weights (omega (arith, starts.long))
      (all_weaker (λ (a : Node). IsReached n g a.key) (λ (a : Node). AllByRecursion P a.key)
      (λ a r. all_weaker (λ z. nat_abs z ≤ over_earlier (stride (mark_addends groups judge)) g) P (λ z h. omega (arith, h, within)) a.key (reached_small (mark_addends groups judge) (sound_stages groups judge s) g a.key r))
      (nodes_of 1 row weights) starts.reached))

  pub total-left : (g : ℕ) (k : List ℤ) → IsReached n g k → g ≤ length groups → total_weight n g k ≡ 2 ^ length (left g)
  total-left g k r l =
      additive_total (mark_addends groups judge) g k l
      ∙ ap (λ m. totals (mark_addends groups judge) m g) (many-left g l)
      ∙ total-from groups judge (drop g groups) g refl
      ∙ ap (λ m. 2 ^ m) (sym (subjects-many (drop g groups)))

  one-number : (k : List ℤ) → length k ≡ 1 → k ≡ number_of k ∷ []
  one-number [] e = absurd (omega (arith, e))
  one-number (z ∷ []) e = refl
  one-number (z ∷ y ∷ zs) e = absurd (omega (arith, e))

  pub extreme-left : (t : Tail) (g : ℕ) (k : List ℤ) → IsReached n g k → g ≤ length groups → extreme_weight n t g k ≡ passing_onward (rule_in judge t) (number_of k) (left g)
  extreme-left t g k r l =
      let rule : Rule = rule_in judge t in
      let p : List ℤ → Bool = λ e. passes rule (n.value e) in
      let z : ℤ = number_of k in
      extreme-at n judge (additive_intervals (mark_addends groups judge) (sound_stages groups judge s)) t g k r l
      ∙ ap (λ m. passing n p m g k) (many-left g l)
      ∙ ap (passing n p (length (drop g groups)) g) (one-number k (reached_length (mark_addends groups judge) g k r))
      ∙ passing-is groups judge p (drop g groups) g z refl (all-left g l)
      ∙ sym (by_marks (left g) (λ u. cond (passes rule (z +ℤ u)) 1 0))
