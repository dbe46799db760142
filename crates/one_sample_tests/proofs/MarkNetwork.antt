-- The network of marks: its completions end at the sums of the plus marks' scores, and it keeps the laws.
use Rattle.std.proofs.Common.{◌≡◌, ℕ, zero, suc, ◌+◌, ◌-◌, ◌*◌, ◌^◌, ◌<◌, ◌≤◌, Bool, true, false, cond, List, [], ◌∷◌, ◌%◌, length, drop, get_or, set, lit≤, inl, inr, refl, sym, ◌∙◌, ap, subst, arith, add-one, suc-add}
use Rattle.std.specs.Prelude.{ℤ, pos, negsuc, ◌+ℤ◌, ◌*ℤ◌, ◌≤ℤ◌, nat_abs, max, slice_index, Contains}
use Rattle.std.specs.List.{AllByRecursion, range_with_len, sum_by}
use Rattle.std.proofs.Math.IntN.{pos-*ℤ-pos}
use Rattle.std.proofs.Math.Nat.{mod-eq_of_lt, mul-le-mul_right, pow-le-pow_right}
use Rattle.std.proofs.lemmas.Bool.{cases_lt}
use Rattle.std.proofs.lemmas.Int.{ints}
use Rattle.std.proofs.lemmas.List.Elements.{All-contains, All-from_recursion, recursion_from_All}
use Rattle.std.proofs.lemmas.List.Sums.{sum_by-cons}
use Rattle.std.proofs.lemmas.Nat.{pow-add}
use Rattle.weights.specs.declared.TheConstants.{MAX}
use Rattle.weights.specs.Numbers.{binomial}
use Rattle.weights.proofs.Binomials.{binomial-positive}
use Rattle.weights.proofs.Filters.{all_map, all_weaker}
use Rattle.weights.proofs.Members.{range-below}
use Rattle.weights.proofs.Sums.{sum_by-map, sum_by-same}
use Rattle.midranks.specs.Ties.{values_in}
use Rattle.midranks.specs.declared.ties.Tie.{Tie}
use Rattle.networks.specs.Judged.{JudgeFits}
use Rattle.networks.specs.declared.verdicts.Judge.{Judge}
use Rattle.networks.specs.Completions.{ending_weight, path_weight, value_weights}
use Rattle.networks.specs.Addends.{Addends, additive_network, high, low, over_earlier, over_stages, reach, stage_total, stride, totals, zeros}
use Rattle.networks.specs.SoundAddends.{AddsBetween, IsAdditive}
use Rattle.networks.proofs.Bridge.{choices-before}
use Rattle.networks.proofs.Steps.{passing, passing-step}
use Rattle.one_sample_tests.specs.SignNetwork.{choices_from, group_at, mark_addends}
use Rattle.one_sample_tests.specs.SampleSteps.{AreStages, sizes_in, subjects_of}
use Rattle.weights.proofs.Ranges.{range-different}
use Rattle.one_sample_tests.proofs.MarkSums.{all_plus, binomial-small, by_plus, over-same, over_marks}

drop-head : (g : ℕ) (groups : List Tie) (t : Tie) (ts : List Tie) → drop g groups ≡ t ∷ ts → (group_at groups g ≡ t) × (drop (g + 1) groups ≡ ts)
drop-head zero [] t ts d = absurd (cc d)
drop-head (suc g) [] t ts d = absurd (cc d)
drop-head zero (u ∷ us) t ts d = (cc, cc)
drop-head (suc g) (u ∷ us) t ts d = let rest = drop-head g us t ts d in (rest.0, rw (suc-add g 1) rest.1)

-- ---- where completions end

plus-none : (t : ℤ) → t +ℤ pos 0 ≡ t
plus-none t = omega (arith, ints)

grouped-plus : (a b c : ℤ) → (a +ℤ b) +ℤ c ≡ a +ℤ (b +ℤ c)
grouped-plus a b c = omega (arith, ints)

module _ (groups : List Tie) (judge : Judge) (p : List ℤ → Bool) where
  pub passing-is : (ts : List Tie) (g : ℕ) (k : ℤ) → drop g groups ≡ ts → g + length ts ≡ length groups
      → passing (additive_network (mark_addends groups judge)) p (length ts) g (k ∷ []) ≡ over_marks (subjects_of ts) (λ u. cond (p ((k +ℤ u) ∷ [])) 1 0)
  passing-is [] g k d e = by (p (k ∷ [])) ∙ ap (λ z. cond (p (z ∷ [])) 1 0) (sym (plus-none k))
    where
      by : (b : Bool) → sum_by (path_weight (additive_network (mark_addends groups judge)) g (k ∷ [])) (cond b ([] ∷ []) []) ≡ cond b 1 0
      by true = refl
      by false = refl
  passing-is (t ∷ ts) g k d e =
      let n = additive_network (mark_addends groups judge) in
      let here = drop-head g groups t ts d in
      let ends : ℤ → ℕ = λ u. cond (p ((k +ℤ u) ∷ [])) 1 0 in
      let after : (x : ℤ) → passing n p (length ts) (g + 1) ((k +ℤ x) ∷ []) ≡ over_marks (subjects_of ts) (λ u. ends (x +ℤ u)) =
      λ x. passing-is ts (g + 1) (k +ℤ x) here.1 (omega (arith, e)) ∙ over-same (subjects_of ts) (λ u. cond (p (((k +ℤ x) +ℤ u) ∷ [])) 1 0) (λ u. ends (x +ℤ u)) (λ u. ap (λ z. cond (p (z ∷ [])) 1 0) (grouped-plus k x u)) in
      passing-step n p (length ts) g (k ∷ [])
      ∙ ap (sum_by (λ c. binomial (group_at groups g).count (slice_index c 0) * passing n p (length ts) (g + 1) ((k +ℤ (pos (slice_index c 0) *ℤ (group_at groups g).value)) ∷ []))) (choices-before (mark_addends groups judge) g (k ∷ []) (omega (arith, e)))
      ∙ ap (λ (u : Tie). sum_by (λ c. binomial u.count (slice_index c 0) * passing n p (length ts) (g + 1) ((k +ℤ (pos (slice_index c 0) *ℤ u.value)) ∷ [])) (choices_from 0 (u.count + 1))) here.0
      ∙ sum_by-map (λ c. binomial t.count (slice_index c 0) * passing n p (length ts) (g + 1) ((k +ℤ (pos (slice_index c 0) *ℤ t.value)) ∷ [])) (λ j. j ∷ []) (range_with_len 0 (t.count + 1))
      ∙ sum_by-same (λ j. binomial t.count j * passing n p (length ts) (g + 1) ((k +ℤ (pos j *ℤ t.value)) ∷ [])) (λ j. binomial t.count j * over_marks (subjects_of ts) (λ u. ends ((pos j *ℤ t.value) +ℤ u))) (λ j. ap (λ w. binomial t.count j * w) (after (pos j *ℤ t.value))) (range_with_len 0 (t.count + 1))
      ∙ ap (λ m. sum_by (λ j. binomial t.count j * over_marks (subjects_of ts) (λ u. ends ((pos j *ℤ t.value) +ℤ u))) (range_with_len 0 m)) (add-one t.count)
      ∙ sym (by_plus t.count t.value (subjects_of ts) ends)

zero-plus : (t : ℤ) → pos 0 +ℤ t ≡ t
zero-plus t = omega (arith, ints)

pub ends_at : (groups : List Tie) (judge : Judge) (p : ℤ → Bool) → value_weights (additive_network (mark_addends groups judge)) p ≡ over_marks (subjects_of groups) (λ u. cond (p u) 1 0)
unfolding ending_weight
ends_at groups judge p =
    let all : length groups - 0 ≡ length groups = omega arith in
    ap (λ m. passing (additive_network (mark_addends groups judge)) (λ k. p (value k)) m 0 (pos 0 ∷ [])) all
    ∙ passing-is groups judge (λ k. p (value k)) groups 0 (pos 0) refl (omega arith)
    ∙ over-same (subjects_of groups) (λ u. cond (p (pos 0 +ℤ u)) 1 0) (λ u. cond (p u) 1 0) (λ u. ap (λ z. cond (p z) 1 0) (zero-plus u))
  where
    value : List ℤ → ℤ
    value k = (additive_network (mark_addends groups judge)).value k

-- ---- the laws

times-some : (n : ℕ) (v : ℤ) → pos 0 ≤ℤ v → pos n *ℤ v ≡ pos (n * nat_abs v)
times-some n (pos m) h = pos-*ℤ-pos n m
times-some n (negsuc m) h = absurd (omega (arith, ints, h))

choice-one : (least n : ℕ) → AllByRecursion (λ c. slice_index c 0 < least + n) (choices_from least n)
choice-one least n = all_map (λ c. slice_index c 0 < least + n) (λ j. j ∷ []) (range_with_len least n) (range-below least n)

module _ (groups : List Tie) (judge : Judge) where
  abbrev a : Addends
  a = mark_addends groups judge

  -- at most all of a group are plus
  pub choice-within : (g : ℕ) (c : List ℕ) → Contains (a.choices g) c → slice_index c 0 ≤ (group_at groups g).count
  choice-within g c m =
      let n : ℕ = (group_at groups g).count + 1 in
      let below : slice_index c 0 < 0 + n = All-contains (λ d. slice_index d 0 < 0 + n) (choices_from 0 n) c (All-from_recursion (λ d. slice_index d 0 < 0 + n) (choices_from 0 n) (choice-one 0 n)) m in
      omega (arith, below)

  pub stage-total : (g : ℕ) → stage_total a g ≡ 2 ^ (group_at groups g).count
  stage-total g =
      let n : ℕ = (group_at groups g).count in
      sum_by-map (λ c. binomial n (slice_index c 0)) (λ j. j ∷ []) (range_with_len 0 (n + 1)) ∙ ap (λ m. sum_by (binomial n) (range_with_len 0 m)) (add-one n) ∙ all_plus n

  pub total-from : (ts : List Tie) (g : ℕ) → drop g groups ≡ ts → totals a (length ts) g ≡ 2 ^ values_in ts
  total-from [] g d = refl
  total-from (t ∷ ts) g d =
      let here = drop-head g groups t ts d in
      let own : stage_total a g ≡ 2 ^ t.count = stage-total g ∙ ap (λ (u : Tie). 2 ^ u.count) here.0 in
      let rest : totals a (length ts) (g + 1) ≡ 2 ^ values_in ts = total-from ts (g + 1) here.1 in
      rw (own, rest) (sym (pow-add 2 t.count (values_in ts)) ∙ ap (λ n. 2 ^ n) (sym (sum_by-cons (λ (u : Tie). u.count) t ts)))

  module _ (some : AllByRecursion (λ (t : Tie). pos 0 ≤ℤ t.value) groups) where
    value-some : (g : ℕ) → pos 0 ≤ℤ (group_at groups g).value
    value-some g = at g groups some
      where
        at : (g : ℕ) (ts : List Tie) → AllByRecursion (λ (t : Tie). pos 0 ≤ℤ t.value) ts → pos 0 ≤ℤ (group_at ts g).value
        at zero [] all = omega (arith, ints)
        at (suc g) [] all = omega (arith, ints)
        at zero (t ∷ ts) all = all.0
        at (suc g) (t ∷ ts) all = at g ts all.1

    -- what so many plus marks of a group add
    pub added : (g j : ℕ) → pos j *ℤ (group_at groups g).value ≡ pos (j * nat_abs (group_at groups g).value)
    added g j = times-some j (group_at groups g).value (value-some g)

    adds-between : (g : ℕ) (c : List ℕ) → slice_index c 0 ≤ (group_at groups g).count → AddsBetween a g c
    adds-between g c h =
        let less : slice_index c 0 * nat_abs (group_at groups g).value ≤ (group_at groups g).count * nat_abs (group_at groups g).value = mul-le-mul_right (nat_abs (group_at groups g).value) h in
        record { wide = refl; between = ((omega (arith, ints, added g (slice_index c 0)), omega (arith, ints, added g (slice_index c 0), added g (group_at groups g).count, less)), tt) }

    stride-is : (g : ℕ) → stride a g ≡ (group_at groups g).count * nat_abs (group_at groups g).value
    stride-is g = ap (λ z. max (nat_abs (pos 0)) (nat_abs z)) (added g (group_at groups g).count) ∙ omega arith

    pub reach-from : (ts : List Tie) (g : ℕ) → drop g groups ≡ ts → over_earlier (stride a) (g + length ts) ≡ over_earlier (stride a) g + sizes_in ts
    reach-from [] g d = ap (over_earlier (stride a)) (let e : g + 0 ≡ g = omega arith in e) ∙ omega arith
    reach-from (t ∷ ts) g d =
        let here = drop-head g groups t ts d in
        let own : stride a g ≡ t.count * nat_abs t.value = stride-is g ∙ ap (λ (u : Tie). u.count * nat_abs u.value) here.0 in
        let rest : over_earlier (stride a) (g + 1 + length ts) ≡ over_earlier (stride a) (g + 1) + sizes_in ts = reach-from ts (g + 1) here.1 in
        let next : over_earlier (stride a) (g + 1) ≡ over_earlier (stride a) g + stride a g = ap (over_earlier (stride a)) (add-one g) in
        ap (over_earlier (stride a)) (let e : g + suc (length ts) ≡ g + 1 + length ts = omega arith in e)
        ∙ omega (arith, own, rest, next, sum_by-cons (λ (u : Tie). u.count * nat_abs u.value) t ts)

    pub reach-is : reach a ≡ sizes_in groups
    reach-is = ap (over_earlier (stride a)) (let e : length groups ≡ 0 + length groups = omega arith in e) ∙ reach-from groups 0 refl ∙ omega arith

    most-from : (ts : List Tie) (g : ℕ) → drop g groups ≡ ts → over_stages a.most (length ts) g ≡ pos (sizes_in ts)
    most-from [] g d = refl
    most-from (t ∷ ts) g d =
        let here = drop-head g groups t ts d in
        let own : a.most g ≡ pos (t.count * nat_abs t.value) = added g (group_at groups g).count ∙ ap (λ (u : Tie). pos (u.count * nat_abs u.value)) here.0 in
        rw own (omega (arith, ints, most-from ts (g + 1) here.1, sum_by-cons (λ (u : Tie). u.count * nat_abs u.value) t ts))

    pub high-is : high a 0 (zeros a) ≡ pos (sizes_in groups)
    high-is = zero-plus (over_stages a.most (length groups - 0) 0) ∙ ap (λ m. over_stages a.most m 0) (let e : length groups - 0 ≡ length groups = omega arith in e) ∙ most-from groups 0 refl

    none-from : (m g : ℕ) → over_stages a.least m g ≡ pos 0
    none-from zero g = refl
    none-from (suc m) g = zero-plus (over_stages a.least m (g + 1)) ∙ none-from m (g + 1)

    pub low-is : low a 0 (zeros a) ≡ pos 0
    low-is = zero-plus (over_stages a.least (length groups - 0) 0) ∙ none-from (length groups - 0) 0

    pub additive : 2 ^ values_in groups ≤ MAX → sizes_in groups ≤ MAX → JudgeFits judge (pos 0) → JudgeFits judge (pos (sizes_in groups)) → IsAdditive a
    additive total sums least most = record {
      slots_some = omega arith;
      slots_few = omega arith;
      some_choice = λ g h e. no-choice ((group_at groups g).count) e;
      different = λ g h. range-different 0 ((group_at groups g).count + 1);
      weighty = λ g c h m. binomial-positive (group_at groups g).count (slice_index c 0) (choice-within g c m);
      fits = omega (arith, total-from groups 0 refl, total);
      between = λ g h. all_weaker (λ c. slice_index c 0 < 0 + ((group_at groups g).count + 1)) (AddsBetween a g) (λ c l. adds-between g c (omega (arith, l))) (choices_from 0 ((group_at groups g).count + 1)) (choice-one 0 ((group_at groups g).count + 1));
      sums_fit = omega (arith, reach-is, sums);
      measured = refl;
      low_fits = subst (JudgeFits judge) (sym low-is) least;
      high_fits = subst (JudgeFits judge) (sym high-is) most;
    }
      where
        no-choice : (n : ℕ) → choices_from 0 (n + 1) ≡ [] → ⊥
        no-choice n e = absurd (cc (rw (add-one n) at e))

pub sound_stages : (groups : List Tie) (judge : Judge) → AreStages groups judge → IsAdditive (mark_addends groups judge)
sound_stages groups judge s = additive groups judge (recursion_from_All (λ (t : Tie). pos 0 ≤ℤ t.value) groups s.some) s.total_fits s.sums_fit s.low_fits s.high_fits

-- ---- what its functions compute

-- a group has at most what all have
at-most : (f : Tie → ℕ) → f (record { value = pos 0; count = 0 }) ≡ 0 → (ts : List Tie) (g : ℕ) → f (group_at ts g) ≤ sum_by f ts
at-most f e [] zero = omega (arith, e)
at-most f e [] (suc g) = omega (arith, e)
at-most f e (t ∷ ts) zero = omega (arith, sum_by-cons f t ts)
at-most f e (t ∷ ts) (suc g) = omega (arith, sum_by-cons f t ts, at-most f e ts g)

module _ (groups : List Tie) (judge : Judge) (s : AreStages groups judge) (g : ℕ) where
  ways-fit : 2 ^ (group_at groups g).count ≤ MAX
  ways-fit =
      let more : 2 ^ (group_at groups g).count ≤ 2 ^ values_in groups = pow-le-pow_right (lit≤ tt) (at-most (λ t. t.count) refl groups g) in
      omega (arith, more, s.total_fits)

  pub few-subjects : (group_at groups g).count < 128
  few-subjects = few (group_at groups g).count ways-fit
    where
      few : (n : ℕ) → 2 ^ n ≤ MAX → n < 128
      few n h = elim (cases_lt n 128) [
        | inl l ↦ l
        | inr m ↦ (let more : 2 ^ 128 ≤ 2 ^ n = pow-le-pow_right (lit≤ tt) m in absurd (omega (arith, more, h)))
      ]

  pub added-small : (j : ℕ) → j ≤ (group_at groups g).count → nat_abs (pos j *ℤ (group_at groups g).value) ≤ MAX
  added-small j h =
      let is = added groups judge (recursion_from_All (λ (t : Tie). pos 0 ≤ℤ t.value) groups s.some) g j in
      let most : j * nat_abs (group_at groups g).value ≤ (group_at groups g).count * nat_abs (group_at groups g).value = mul-le-mul_right (nat_abs (group_at groups g).value) h in
      let all : (group_at groups g).count * nat_abs (group_at groups g).value ≤ sizes_in groups = at-most (λ t. t.count * nat_abs t.value) refl groups g in
      rw is (omega (arith, most, all, s.sums_fit))

  pub ways-small : (j : ℕ) → binomial (group_at groups g).count j ≤ MAX
  ways-small j = omega (arith, binomial-small (group_at groups g).count j, ways-fit)

  pub doubled : 1 * 2 ^ (group_at groups g).count % 340282366920938463463374607431768211456 ≡ stage_total (mark_addends groups judge) g
  doubled =
      let small : 1 * 2 ^ (group_at groups g).count < 340282366920938463463374607431768211456 = omega (arith, ways-fit) in
      rw (mod-eq_of_lt small) (omega arith) ∙ sym (stage-total groups judge g)

pub next-choices : (n : ℕ) (choice : List ℕ) → length choice ≡ 1 → get_or choice 0 0 < n
    → let next = set choice 0 (get_or choice 0 0 + 1) in choices_from (get_or choice 0 0 + 1) (n - get_or choice 0 0) ≡ next ∷ choices_from (slice_index next 0 + 1) (n - slice_index next 0)
next-choices n [] long h = absurd (omega arith)
next-choices n (j ∷ k ∷ choice) long h = absurd (omega arith)
next-choices n (j ∷ []) long h = let e : n - j ≡ suc (n - (j + 1)) = omega (arith, h) in rw e refl
