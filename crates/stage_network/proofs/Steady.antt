-- A walk through the keys that are open for some tail meets the same open keys of a steady tail as a walk through its own. A tail alone is steady, and so is one judged by intervals.
use Rattle.std.proofs.Common.{◌≡◌, ◌≢◌, ℕ, zero, suc, ◌+◌, ◌<◌, ◌≤◌, List, [], ◌∷◌, ◌++◌, map, Bool, true, false, cond, ◌||◌, inl, inr, refl, sym, ◌∙◌, ap, subst, arith, add-one}
use Rattle.std.specs.Prelude.{ℤ, ◌≤ℤ◌}
use Rattle.std.specs.List.{flat_map, filter, AllByRecursion, Contains}
use Rattle.std.specs.Set.{distinct_count}
use Rattle.std.proofs.lemmas.Int.{ints}
use Rattle.std.proofs.lemmas.List.Elements.{recursion_from_All, All-contains_itself}
use Rattle.weights.specs.declared.tails.Tail.{Tail}
use Rattle.weights.specs.declared.tails.Tail.TheVariants.{Less, Greater, Two}
use Rattle.weights.specs.declared.tails.Tails.{Tails}
use Rattle.weights.specs.declared.rules.Rule.{Rule}
use Rattle.weights.specs.declared.rules.Rule.TheVariants.{AtMost, AtLeast, Far}
use Rattle.weights.proofs.Filters.{all_map, all_weaker, all_filter}
use Rattle.node_pool.specs.Nodes.{key_eq}
use Rattle.networks.specs.declared.stages.Verdict.{Verdict}
use Rattle.networks.specs.declared.stages.Verdict.TheVariants.{Outside}
use Rattle.networks.specs.declared.verdicts.Judge.{Judge}
use Rattle.networks.specs.Network.{Network, IsReached}
use Rattle.networks.specs.Opened.{is_undecided, is_open, reached_openly, opened_below, is_open_for_some, reached_by_some, opened_by_some}
use Rattle.networks.specs.Judged.{offset, far_verdict, rule_in, verdict_of, HasIntervals, IsJudged}
use Rattle.networks.specs.Asked.{asked, asks}
use Rattle.stage_network.proofs.Asked.{asked-below, asked-else, asked-own}
use Rattle.networks.proofs.Steps.{filter_none, filter-map, filter-flat_map, reached-next, all_flat_map}
use Rattle.networks.proofs.Judging.{offset-≤, same_tail}
use Rattle.stage_network.proofs.NodeSums.{open-for}

-- lists

-- a stricter filter, where what it leaves out leads nowhere
flat_map-stricter : {X Y : Type 0} (P : X → Type 0) (h : X → List Y) (p q : X → Bool) → ((x : X) → q x ≡ true → p x ≡ true) → ((x : X) → P x → p x ≡ true → q x ≡ false → h x ≡ []) → (xs : List X) → AllByRecursion P xs → flat_map h (filter p xs) ≡ flat_map h (filter q xs)
flat_map-stricter P h p q more none [] a = refl
flat_map-stricter P h p q more none (x ∷ xs) a = by (p x) (q x) refl refl (flat_map-stricter P h p q more none xs a.1)
  where
    by : (b c : Bool) → p x ≡ b → q x ≡ c → flat_map h (filter p xs) ≡ flat_map h (filter q xs) → flat_map h (cond b (x ∷ filter p xs) (filter p xs)) ≡ flat_map h (cond c (x ∷ filter q xs) (filter q xs))
    by true true e f r = ap (λ ys. h x ++ ys) r
    by true false e f r = ap (λ ys. ys ++ flat_map h (filter p xs)) (none x a.0 e f) ∙ r
    by false true e f r = (let passes : p x ≡ true = more x f in cc)
    by false false e f r = r

not_true : (b : Bool) → b ≢ true → b ≡ false
not_true true h = absurd (h refl)
not_true false h = refl

-- what is open for some is open for a tail

some-open : (n : Network) (g : ℕ) (k : List ℤ) → is_open_for_some n g k ≡ true → (t : Tail) × (is_open n t g k ≡ true)
some-open n g k h = by (is_open n Less g k) (is_open n Greater g k) refl refl h
  where
    by : (a b : Bool) → is_open n Less g k ≡ a → is_open n Greater g k ≡ b → (a || (b || is_open n Two g k)) ≡ true → (t : Tail) × (is_open n t g k ≡ true)
    by true b e f h = (Less, e)
    by false true e f h = (Greater, f)
    by false false e f h = (Two, h)

-- what is reached through such keys is reached
some_reached : (n : Network) (g : ℕ) → g ≤ n.count → AllByRecursion (IsReached n g) (reached_by_some n g)
some_reached n zero l = (refl, tt)
some_reached n (suc g) l =
    all_flat_map (IsReached n (suc g)) (λ k. map (n.next g k) (n.choices g k)) (filter (is_open_for_some n g) (reached_by_some n g))
    (all_weaker (IsReached n g) (λ k. AllByRecursion (IsReached n (suc g)) (map (n.next g k) (n.choices g k)))
    (λ k r. all_map (IsReached n (suc g)) (n.next g k) (n.choices g k)
    (all_weaker (Contains (n.choices g k)) (λ c. IsReached n (suc g) (n.next g k c)) (λ c allowed. (k, c, r, omega (arith, l), allowed, refl)) (n.choices g k)
    (recursion_from_All _ _ (All-contains_itself (n.choices g k)))))
    (filter (is_open_for_some n g) (reached_by_some n g))
    (all_filter (IsReached n g) (is_open_for_some n g) (reached_by_some n g) (some_reached n g (omega (arith, l)))))

-- where an arc leads from a key that is open for some tail to one that is open for t, the first is open for t too
abbrev pub IsSteady : Network → Tail → Type 0
IsSteady n t =
    (g : ℕ) (k : List ℤ) (c : List ℕ) → IsReached n g k → g < n.count → Contains (n.choices g k) c → is_open_for_some n g k ≡ true
    → is_open n t (g + 1) (n.next g k c) ≡ true → is_open n t g k ≡ true

module _ (n : Network) (t : Tail) (steady : IsSteady n t) where
  -- a key that is shut for the tail leads to no key that is open for it
  shut-leads : (g : ℕ) (k : List ℤ) → g < n.count → IsReached n g k → is_open_for_some n g k ≡ true → is_open n t g k ≡ false → filter (is_open n t (suc g)) (map (n.next g k) (n.choices g k)) ≡ []
  shut-leads g k below r some shut =
      filter-map (is_open n t (suc g)) (n.next g k) (n.choices g k)
      ∙ ap (map (n.next g k)) (filter_none (λ c. is_open n t (suc g) (n.next g k c)) (n.choices g k)
      (all_weaker (Contains (n.choices g k)) (λ c. is_open n t (suc g) (n.next g k c) ≡ false)
      (λ c allowed. not_true (is_open n t (suc g) (n.next g k c)) (λ e. (let free : is_open n t g k ≡ true = steady g k c r below allowed some (rw add-one e) in cc))) (n.choices g k)
      (recursion_from_All _ _ (All-contains_itself (n.choices g k)))))

  -- so the open keys are the same
  same_open : (g : ℕ) → g ≤ n.count → filter (is_open n t g) (reached_by_some n g) ≡ filter (is_open n t g) (reached_openly n t g)
  same_open zero l = refl
  same_open (suc g) l =
      let arcs = λ (k : List ℤ). map (n.next g k) (n.choices g k) in
      let kept = λ (k : List ℤ). filter (is_open n t (suc g)) (map (n.next g k) (n.choices g k)) in
      filter-flat_map (is_open n t (suc g)) arcs (filter (is_open_for_some n g) (reached_by_some n g))
      ∙ flat_map-stricter (IsReached n g) kept (is_open_for_some n g) (is_open n t g) (open-for n t g) (λ k r some shut. shut-leads g k (omega (arith, l)) r some shut) (reached_by_some n g) (some_reached n g (omega (arith, l)))
      ∙ ap (flat_map kept) (same_open g (omega (arith, l)))
      ∙ sym (filter-flat_map (is_open n t (suc g)) arcs (filter (is_open n t g) (reached_openly n t g)))

  pub opened-steady : (g : ℕ) → g ≤ n.count → opened_by_some n t g ≡ opened_below n t g
  opened-steady zero l = refl
  opened-steady (suc g) l = cc (opened-steady g (omega (arith, l)), ap (distinct_count key_eq) (same_open g (omega (arith, l))))

-- one tail alone

pub steady-alone : (n : Network) (t : Tail) → ((s : Tail) (g : ℕ) (k : List ℤ) → s ≢ t → n.verdict s g k ≡ Outside) → IsSteady n t
steady-alone n t others g k c r below allowed some opened =
    let one : (s : Tail) × (is_open n s g k ≡ true) = some-open n g k some in
    elim (same_tail one.0 t) [
      | inl same ↦ subst (λ s. is_open n s g k ≡ true) same one.1
      | inr other ↦ (let shut : is_open n one.0 g k ≡ false = ap is_undecided (others one.0 g k other) in let free : is_open n one.0 g k ≡ true = one.1 in cc)
    ]

-- what is undecided over an interval is undecided over a wider one

far-narrows : (d : ℕ) (a b x y : ℤ) → a ≤ℤ x → y ≤ℤ b → is_undecided (far_verdict d x y) ≡ true → is_undecided (far_verdict d a b) ≡ true
far-narrows d a b x y l h e = grind (arith, ints)

pub verdict-narrows : (rule : Rule) (low high low' high' : ℤ) → low ≤ℤ low' → high' ≤ℤ high → is_undecided (verdict_of rule low' high') ≡ true → is_undecided (verdict_of rule low high) ≡ true
verdict-narrows (AtMost t) low high low' high' l h e = grind (arith, ints)
verdict-narrows (AtLeast t) low high low' high' l h e = grind (arith, ints)
verdict-narrows (Far q c d) low high low' high' l h e = far-narrows d (offset q c low) (offset q c high) (offset q c low') (offset q c high') (offset-≤ q c low low' l) (offset-≤ q c high' high h) e

-- so a key that is open for the rule's tail is reached through keys that are open for it

pub open-narrows : (n : Network) (judge : Judge) → HasIntervals n judge → (t : Tail) (g : ℕ) (k : List ℤ) (c : List ℕ) → IsReached n g k → g < n.count → Contains (n.choices g k) c → is_open n t (g + 1) (n.next g k c) ≡ true → is_open n t g k ≡ true
open-narrows n judge i t g k c r below allowed opened =
    ap is_undecided (i.verdicts t g k r)
    ∙ verdict-narrows (rule_in judge t) (i.low g k) (i.high g k) (i.low (g + 1) (n.next g k c)) (i.high (g + 1) (n.next g k c)) (i.low_rises g k c r below allowed) (i.high_falls g k c r below allowed)
    (sym (ap is_undecided (i.verdicts t (g + 1) (n.next g k c) (reached-next n g k c r below allowed))) ∙ opened)

-- so the open keys of the asked tails, whatever the others'

pub steady-asked : (tails : Tails) (n : Network) → IsJudged n → (t : Tail) → asks tails t ≡ true → IsSteady (asked tails n) t
steady-asked tails n j t a g k c r below allowed some opened =
    ap (λ (v : ℕ → List ℤ → Verdict). is_undecided (v g k)) (asked-own tails n t a)
    ∙ open-narrows n j.judge j.intervals t g k c r below allowed (sym (ap (λ (v : ℕ → List ℤ → Verdict). is_undecided (v (g + 1) (n.next g k c))) (asked-own tails n t a)) ∙ opened)

pub opened-asked : (tails : Tails) (n : Network) → IsJudged n → (t : Tail) → asks tails t ≡ true → opened_by_some (asked tails n) t n.count ≡ opened_below n t n.count
opened-asked tails n j t a = opened-steady (asked tails n) t (steady-asked tails n j t a) n.count (omega arith) ∙ asked-below tails n t a n.count

pub opened-alone : (tails : Tails) (n : Network) (t : Tail) → asks tails t ≡ true → ((s : Tail) → asks tails s ≡ true → s ≡ t) → opened_by_some (asked tails n) t n.count ≡ opened_below n t n.count
opened-alone tails n t a alone =
    opened-steady (asked tails n) t (steady-alone (asked tails n) t (λ s g k ne. asked-else tails n s (not_true (asks tails s) (λ e. ne (alone s e))) g k)) n.count (omega arith)
    ∙ asked-below tails n t a n.count
