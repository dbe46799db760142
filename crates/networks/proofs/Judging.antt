-- Verdicts by intervals are sound, and settled at the end; and where a rule fits the first key's interval, it fits every reached one's.
use Rattle.std.proofs.Common.{◌≡◌, ◌≢◌, ℕ, zero, suc, ◌+◌, ◌-◌, ◌≤◌, ◌<◌, List, [], ◌∷◌, true, false, ◌⊎◌, inl, inr, refl, sym, ◌∙◌, ap, subst, arith, add-one}
use Rattle.std.specs.Prelude.{ℤ, pos, negsuc, ◌*ℤ◌, ◌≤ℤ◌, nat_abs, nat_le}
use Rattle.std.specs.List.{AllByRecursion, Contains, sum_by}
use Rattle.std.proofs.lemmas.Int.{ints}
use Rattle.std.proofs.Math.IntN.{zero-*ℤ, suc_ℤ-*ℤ}
use Rattle.weights.specs.declared.tails.Tail.{Tail}
use Rattle.weights.specs.declared.tails.Tail.TheVariants.{Less, Greater, Two}
use Rattle.weights.specs.declared.rules.Rule.{Rule}
use Rattle.weights.specs.declared.rules.Rule.TheVariants.{AtMost, AtLeast, Far}
use Rattle.weights.specs.declared.TheConstants.{MAX}
use Rattle.weights.specs.Rules.{passes, factor_of, centre_of, RuleFits}
use Rattle.weights.proofs.Filters.{all_weaker, filter-same_where}
use Rattle.weights.proofs.Members.{Contains-here}
use Rattle.networks.specs.declared.stages.Verdict.TheVariants.{Inside, Outside, Undecided}
use Rattle.networks.specs.declared.verdicts.Judge.{Judge}
use Rattle.networks.specs.Network.{Network, IsReached}
use Rattle.networks.specs.Completions.{completions, path_end, path_weight, is_inside, ends_inside, extreme_weight, ending_weight}
use Rattle.networks.specs.Judged.{offset, far_verdict, rule_in, verdict_of, HasIntervals, JudgeFits}
use Rattle.networks.proofs.Steps.{completions-keep, reached-next}

-- a greater value, times q
pub times-≤ : (q : ℕ) (x y : ℤ) → x ≤ℤ y → (pos q *ℤ x) ≤ℤ (pos q *ℤ y)
times-≤ zero x y h = rw (zero-*ℤ x, zero-*ℤ y) (omega (arith, ints))
times-≤ (suc q) x y h = omega (arith, ints, suc_ℤ-*ℤ (pos q) x, suc_ℤ-*ℤ (pos q) y, times-≤ q x y h)

pub offset-≤ : (q : ℕ) (c x y : ℤ) → x ≤ℤ y → offset q c x ≤ℤ offset q c y
offset-≤ q c x y h = omega (arith, ints, times-≤ q x y h)

-- of a distance

far-inside : (d : ℕ) (a b x : ℤ) → a ≤ℤ x → x ≤ℤ b → far_verdict d a b ≡ Inside → nat_le d (nat_abs x) ≡ true
far-inside d a b (pos n) l h e = grind (arith, ints)
far-inside d a b (negsuc n) l h e = grind (arith, ints)

far-outside : (d : ℕ) (a b x : ℤ) → a ≤ℤ x → x ≤ℤ b → far_verdict d a b ≡ Outside → nat_le d (nat_abs x) ≡ false
far-outside d a b (pos n) l h e = grind (arith, ints)
far-outside d a b (negsuc n) l h e = grind (arith, ints)

far-point : (d : ℕ) (x : ℤ) → is_inside (far_verdict d x x) ≡ nat_le d (nat_abs x)
far-point d (pos n) = grind (arith, ints)
far-point d (negsuc n) = grind (arith, ints)

far-decided : (d : ℕ) (x : ℤ) → far_verdict d x x ≢ Undecided
far-decided d (pos n) e = grind (arith, ints)
far-decided d (negsuc n) e = grind (arith, ints)

-- a verdict is sound

pub verdict-inside : (rule : Rule) (low high v : ℤ) → low ≤ℤ v → v ≤ℤ high → verdict_of rule low high ≡ Inside → passes rule v ≡ true
verdict-inside (AtMost t) low high v l h e = grind (arith, ints)
verdict-inside (AtLeast t) low high v l h e = grind (arith, ints)
verdict-inside (Far q c d) low high v l h e = far-inside d (offset q c low) (offset q c high) (offset q c v) (offset-≤ q c low v l) (offset-≤ q c v high h) e

pub verdict-outside : (rule : Rule) (low high v : ℤ) → low ≤ℤ v → v ≤ℤ high → verdict_of rule low high ≡ Outside → passes rule v ≡ false
verdict-outside (AtMost t) low high v l h e = grind (arith, ints)
verdict-outside (AtLeast t) low high v l h e = grind (arith, ints)
verdict-outside (Far q c d) low high v l h e = far-outside d (offset q c low) (offset q c high) (offset q c v) (offset-≤ q c low v l) (offset-≤ q c v high h) e

-- of one value it is the rule's

pub verdict-point : (rule : Rule) (v : ℤ) → is_inside (verdict_of rule v v) ≡ passes rule v
verdict-point (AtMost t) v = grind (arith, ints)
verdict-point (AtLeast t) v = grind (arith, ints)
verdict-point (Far q c d) v = far-point d (offset q c v)

pub verdict-decided : (rule : Rule) (v : ℤ) → verdict_of rule v v ≢ Undecided
verdict-decided (AtMost t) v e = grind (arith, ints)
verdict-decided (AtLeast t) v e = grind (arith, ints)
verdict-decided (Far q c d) v e = far-decided d (offset q c v) e

-- tails

pub same_tail : (s t : Tail) → (s ≡ t) ⊎ (s ≢ t)
same_tail Less Less = inl refl
same_tail Less Greater = inr (λ e. cc)
same_tail Less Two = inr (λ e. cc)
same_tail Greater Less = inr (λ e. cc)
same_tail Greater Greater = inl refl
same_tail Greater Two = inr (λ e. cc)
same_tail Two Less = inr (λ e. cc)
same_tail Two Greater = inr (λ e. cc)
same_tail Two Two = inl refl

-- lists

some_member : {X : Type 0} (xs : List X) → xs ≢ [] → (x : X) × Contains xs x
some_member [] ne = absurd (ne refl)
some_member (x ∷ xs) ne = (x, Contains-here x x xs refl)

-- a rule fits what lies between two values that it fits

abs-between : (a x b : ℤ) (m : ℕ) → a ≤ℤ x → x ≤ℤ b → nat_abs a ≤ m → nat_abs b ≤ m → nat_abs x ≤ m
abs-between a (pos x) b m l h p q = grind (arith, ints)
abs-between a (negsuc x) b m l h p q = grind (arith, ints)

pub fits-between : (rule : Rule) (a v b : ℤ) → a ≤ℤ v → v ≤ℤ b → RuleFits rule a → RuleFits rule b → RuleFits rule v
fits-between rule a v b l h p q = record {
  least_factor = p.least_factor;
  observed = p.observed;
  times = abs-between (pos (factor_of rule) *ℤ a) (pos (factor_of rule) *ℤ v) (pos (factor_of rule) *ℤ b) MAX (times-≤ (factor_of rule) a v l) (times-≤ (factor_of rule) v b h) p.times q.times;
  apart = abs-between (offset (factor_of rule) (centre_of rule) a) (offset (factor_of rule) (centre_of rule) v) (offset (factor_of rule) (centre_of rule) b) MAX (offset-≤ (factor_of rule) (centre_of rule) a v l) (offset-≤ (factor_of rule) (centre_of rule) v b h) p.apart q.apart;
}

-- a network with intervals

module _ (n : Network) (judge : Judge) (h : HasIntervals n judge) where
  -- what an arc keeps of an interval from low to high
  record IsWithin (low high : ℤ) (g : ℕ) (k : List ℤ) : Type 0 where
    reached : IsReached n g k
    above : low ≤ℤ h.low g k
    below : h.high g k ≤ℤ high

  within-step : (low high : ℤ) (g : ℕ) (k : List ℤ) (c : List ℕ) → IsReached n g k → g < n.count → Contains (n.choices g k) c → IsWithin low high g k → IsWithin low high (g + 1) (n.next g k c)
  within-step low high g k c r before allowed w = record {
    reached = reached-next n g k c r before allowed;
    above = omega (arith, ints, w.above, h.low_rises g k c r before allowed);
    below = omega (arith, ints, w.below, h.high_falls g k c r before allowed);
  }

  -- a completion ends at a reached key whose value lies between
  pub record EndsBetween (low high : ℤ) (e : List ℤ) : Type 0 where
    pub reached : IsReached n n.count e
    pub above : low ≤ℤ n.value e
    pub below : n.value e ≤ℤ high

  pub values_between : (g : ℕ) (k : List ℤ) → IsReached n g k → g ≤ n.count → AllByRecursion (λ cs. EndsBetween (h.low g k) (h.high g k) (path_end n g k cs)) (completions n g k)
  values_between g k r l =
      all_weaker (λ cs. IsWithin (h.low g k) (h.high g k) n.count (path_end n g k cs)) (λ cs. EndsBetween (h.low g k) (h.high g k) (path_end n g k cs))
      (λ cs w. record {
        reached = w.reached;
        above = subst (λ z. h.low g k ≤ℤ z) (h.low_ends (path_end n g k cs) w.reached) w.above;
        below = subst (λ z. z ≤ℤ h.high g k) (h.high_ends (path_end n g k cs) w.reached) w.below;
      })
      (completions n g k)
      (completions-keep n (IsWithin (h.low g k) (h.high g k)) (within-step (h.low g k) (h.high g k)) g k r l (record { reached = r; above = omega (arith, ints); below = omega (arith, ints) }))

  -- the verdict of a last key is that of its value
  pub end_verdict : (t : Tail) (e : List ℤ) → IsReached n n.count e → n.verdict t n.count e ≡ verdict_of (rule_in judge t) (n.value e) (n.value e)
  end_verdict t e r = h.verdicts t n.count e r ∙ ap (λ z. verdict_of (rule_in judge t) z (h.high n.count e)) (h.low_ends e r) ∙ ap (λ z. verdict_of (rule_in judge t) (n.value e) z) (h.high_ends e r)

  end_extreme : (t : Tail) (e : List ℤ) → IsReached n n.count e → is_inside (n.verdict t n.count e) ≡ passes (rule_in judge t) (n.value e)
  end_extreme t e r = ap is_inside (end_verdict t e r) ∙ verdict-point (rule_in judge t) (n.value e)

  -- the laws of verdicts, for every tail

  pub intervals-inside : (t : Tail) (g : ℕ) (k : List ℤ) → IsReached n g k → g ≤ n.count → n.verdict t g k ≡ Inside → AllByRecursion (λ cs. ends_inside n t g k cs ≡ true) (completions n g k)
  intervals-inside t g k r l e =
      all_weaker (λ cs. EndsBetween (h.low g k) (h.high g k) (path_end n g k cs)) (λ cs. ends_inside n t g k cs ≡ true)
      (λ cs w. end_extreme t (path_end n g k cs) w.reached ∙ verdict-inside (rule_in judge t) (h.low g k) (h.high g k) (n.value (path_end n g k cs)) w.above w.below (sym (h.verdicts t g k r) ∙ e))
      (completions n g k) (values_between g k r l)

  pub intervals-outside : (t : Tail) (g : ℕ) (k : List ℤ) → IsReached n g k → g ≤ n.count → n.verdict t g k ≡ Outside → AllByRecursion (λ cs. ends_inside n t g k cs ≡ false) (completions n g k)
  intervals-outside t g k r l e =
      all_weaker (λ cs. EndsBetween (h.low g k) (h.high g k) (path_end n g k cs)) (λ cs. ends_inside n t g k cs ≡ false)
      (λ cs w. end_extreme t (path_end n g k cs) w.reached ∙ verdict-outside (rule_in judge t) (h.low g k) (h.high g k) (n.value (path_end n g k cs)) w.above w.below (sym (h.verdicts t g k r) ∙ e))
      (completions n g k) (values_between g k r l)

  pub intervals-decided : (t : Tail) (k : List ℤ) → IsReached n n.count k → n.verdict t n.count k ≢ Undecided
  intervals-decided t k r e = verdict-decided (rule_in judge t) (n.value k) (sym (end_verdict t k r) ∙ e)

  -- the extreme completions are those whose value passes the rule
  pub extreme-passes : (t : Tail) → extreme_weight n t 0 n.first ≡ ending_weight n (λ k. passes (rule_in judge t) (n.value k))
  unfolding extreme_weight ending_weight
  extreme-passes t =
      ap (sum_by (path_weight n 0 n.first))
      (filter-same_where (λ cs. EndsBetween (h.low 0 n.first) (h.high 0 n.first) (path_end n 0 n.first cs)) (ends_inside n t 0 n.first) (λ cs. passes (rule_in judge t) (n.value (path_end n 0 n.first cs)))
      (λ cs w. end_extreme t (path_end n 0 n.first cs) w.reached) (completions n 0 n.first) (values_between 0 n.first refl (omega arith)))

  -- a reached key's interval lies in that of the first key
  pub narrowed : (g : ℕ) (k : List ℤ) → IsReached n g k → (h.low 0 n.first ≤ℤ h.low g k) × (h.high g k ≤ℤ h.high 0 n.first)
  narrowed zero k r = rw r (omega (arith, ints), omega (arith, ints))
  narrowed (suc g) k (j, c, r, before, allowed, e) =
      let past : (h.low 0 n.first ≤ℤ h.low g j) × (h.high g j ≤ℤ h.high 0 n.first) = narrowed g j r in
      let low : h.low g j ≤ℤ h.low (suc g) k = rw (e, ← add-one) (h.low_rises g j c r before allowed) in
      let high : h.high (suc g) k ≤ℤ h.high g j = rw (e, ← add-one) (h.high_falls g j c r before allowed) in
      (omega (arith, ints, past.0, low), omega (arith, ints, past.1, high))

  module _ (some : (g : ℕ) (k : List ℤ) → IsReached n g k → g < n.count → n.choices g k ≢ []) where
    ordered-from : (m g : ℕ) (k : List ℤ) → g + m ≡ n.count → IsReached n g k → h.low g k ≤ℤ h.high g k
    ordered-from zero g k e r =
        let last : g ≡ n.count = omega arith in
        subst (λ i. IsReached n i k → h.low i k ≤ℤ h.high i k) (sym last) (λ r'. omega (arith, ints, h.low_ends k r', h.high_ends k r')) r
    ordered-from (suc m) g k e r =
        let before : g < n.count = omega arith in
        let one : (c : List ℕ) × Contains (n.choices g k) c = some_member (n.choices g k) (some g k r before) in
        let more : h.low (g + 1) (n.next g k one.0) ≤ℤ h.high (g + 1) (n.next g k one.0) = ordered-from m (g + 1) (n.next g k one.0) (omega arith) (reached-next n g k one.0 r before one.1) in
        omega (arith, ints, more, h.low_rises g k one.0 r before one.1, h.high_falls g k one.0 r before one.1)

    pub ordered : (g : ℕ) (k : List ℤ) → IsReached n g k → h.low g k ≤ℤ h.high g k
    ordered zero k r = ordered-from n.count zero k (omega arith) r
    ordered (suc g) k r = ordered-from (n.count - suc g) (suc g) k (omega (arith, r.3)) r

    -- so rules that fit both ends of the first key's interval fit those of every reached key
    pub fits-low : JudgeFits judge (h.low 0 n.first) → JudgeFits judge (h.high 0 n.first) → (t : Tail) (g : ℕ) (k : List ℤ) → IsReached n g k → RuleFits (rule_in judge t) (h.low g k)
    fits-low a b t g k r =
        fits-between (rule_in judge t) (h.low 0 n.first) (h.low g k) (h.high 0 n.first) (narrowed g k r).0
        (let l : h.low g k ≤ℤ h.high g k = ordered g k r in omega (arith, ints, l, (narrowed g k r).1)) (a.fits t) (b.fits t)

    pub fits-high : JudgeFits judge (h.low 0 n.first) → JudgeFits judge (h.high 0 n.first) → (t : Tail) (g : ℕ) (k : List ℤ) → IsReached n g k → RuleFits (rule_in judge t) (h.high g k)
    fits-high a b t g k r =
        fits-between (rule_in judge t) (h.low 0 n.first) (h.high g k) (h.high 0 n.first)
        (let l : h.low g k ≤ℤ h.high g k = ordered g k r in omega (arith, ints, l, (narrowed g k r).0)) (narrowed g k r).1 (a.fits t) (b.fits t)
