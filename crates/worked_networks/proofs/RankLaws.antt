-- Why a network of ranks is lawful.
use Rattle.std.proofs.Common.{◌≡◌, ◌≢◌, ℕ, zero, suc, ◌+◌, ◌-◌, ◌*◌, ◌^◌, ◌<◌, ◌≤◌, List, [], ◌∷◌, length, set, AllPairs, Bool, true, false, cond, eqb, ltb, refl, ◌∙◌, sym, ap, subst, arith, add-one}
use Rattle.std.specs.Prelude.{ℤ, pos, ◌+ℤ◌, ◌-ℤ◌, int_lt, int_le, slice_index}
use Rattle.std.specs.List.{sum_by, Contains, AllByRecursion}
use Rattle.std.proofs.lemmas.Bool.{lt-ltb, le-ltb}
use Rattle.std.proofs.lemmas.Bool.Decides.{nat_tests}
use Rattle.std.proofs.lemmas.Int.{ints}
use Rattle.std.proofs.Math.Nat.{pow-suc, mul-le-mul_left}
use Rattle.std.proofs.Math.Pow.{pow_mono}
use Rattle.networks.specs.declared.stages.Verdict.{Verdict}
use Rattle.networks.specs.declared.stages.Verdict.TheVariants.{Inside, Outside, Undecided}
use Rattle.networks.specs.Network.{IsReached}
use Rattle.networks.specs.Completions.{total_weight}
use Rattle.networks.specs.Laws.{IsLawful}
use Rattle.weights.specs.declared.tails.Tail.TheVariants.{Less}
use Rattle.networks.proofs.Apart.{none_apart, one_apart, two_apart}
use Rattle.networks.proofs.Steps.{all_paths, all-step, IsKept, inside_from_arcs, outside_from_arcs}
use Rattle.weights.specs.Numbers.{binomial}
use Rattle.weights.proofs.Binomials.{binomial-zero, binomial-pascal, binomial-all}
use Rattle.worked_networks.specs.SampleRanks.{at, both_choices, sum_verdict, rank_network}

pub three_items : {X : Type 0} (xs : List X) (a b c : X) → length xs ≡ 3 → set (set (set xs 0 a) 1 b) 2 c ≡ a ∷ b ∷ c ∷ []
three_items [] a b c e = absurd (omega arith)
three_items (x ∷ []) a b c e = absurd (omega arith)
three_items (x ∷ y ∷ []) a b c e = absurd (omega arith)
three_items (x ∷ y ∷ z ∷ []) a b c e = refl
three_items (x ∷ y ∷ z ∷ w ∷ ws) a b c e = absurd (omega arith)

-- in how many ways a and b are put in order
abbrev pub ways : ℕ → ℕ → ℕ
ways zero b = 1
ways (suc a) zero = 1
ways (suc a) (suc b) = ways a (suc b) + ways (suc a) b

pub ways-binomial : (a b : ℕ) → ways a b ≡ binomial (a + b) b
ways-binomial zero b = let e : 0 + b ≡ b = omega arith in rw e (sym (binomial-all b))
ways-binomial (suc a) zero = sym (binomial-zero (suc a + 0))
ways-binomial (suc a) (suc b) =
    let e : suc a + suc b ≡ suc (a + suc b) = omega arith in
    let f : suc a + b ≡ a + suc b = omega arith in
    let rest : ways (suc a) b ≡ binomial (a + suc b) b = ways-binomial (suc a) b ∙ ap (λ x. binomial x b) f in
    rw e (omega (arith, binomial-pascal (a + suc b) b, ways-binomial a (suc b), rest))

-- what a choice needs
abbrev IsOpen : ℕ → ℕ → List ℕ → Type 0
IsOpen a b c = (slice_index c 0 ≡ 0 → 0 < a) × (slice_index c 0 ≢ 0 → 0 < b)

above : (b : ℕ) → ltb 0 (suc b) ≡ true
above b = let some : 0 < suc b = omega arith in lt-ltb 0 (suc b) some

pub choices-both : (a b s : ℕ) → both_choices (pos (suc a) ∷ pos (suc b) ∷ pos s ∷ []) ≡ (0 ∷ []) ∷ (1 ∷ []) ∷ []
choices-both a b s = rw (above a, above b) refl

pub choices-first : (a s : ℕ) → both_choices (pos (suc a) ∷ pos zero ∷ pos s ∷ []) ≡ (0 ∷ []) ∷ []
choices-first a s = rw (above a) refl

pub choices-second : (b s : ℕ) → both_choices (pos zero ∷ pos (suc b) ∷ pos s ∷ []) ≡ (1 ∷ []) ∷ []
choices-second b s = rw (above b) refl

both-open : (a b s : ℕ) → AllByRecursion (IsOpen a b) (both_choices (pos a ∷ pos b ∷ pos s ∷ []))
both-open zero zero s = tt
both-open zero (suc b) s = rw (choices-second b s) ((λ e. absurd (omega arith), λ ne. omega arith), tt)
both-open (suc a) zero s = rw (choices-first a s) ((λ e. omega arith, λ ne. absurd (ne refl)), tt)
both-open (suc a) (suc b) s = rw (choices-both a b s) ((λ e. omega arith, λ ne. absurd (ne refl)), ((λ e. absurd (omega arith), λ ne. omega arith), tt))

not_nil : {X : Type 0} (x : X) (xs : List X) → x ∷ xs ≡ [] → ⊥
not_nil x xs e = (let no : length (x ∷ xs) ≡ zero = ap length e in omega arith)

all-at : {X : Type 0} (P : X → Type 0) (xs : List X) (x : X) → AllByRecursion P xs → Contains xs x → P x
all-at P [] x a c = absurd (omega (arith, c.1))
all-at P (y ∷ xs) x a (zero, low, is) = subst P is a.0
all-at P (y ∷ xs) x a (suc i, low, is) = all-at P xs x a.1 (i, omega (arith, low), is)

small_sum : (q g s : ℕ) → s ≤ 512 * q * g → q ≤ 126 → g ≤ q → s ≤ 9000000
small_sum q g s h a b =
    let one : g * q ≤ g * 126 = mul-le-mul_left g a in
    let two : 512 * q * g ≡ 512 * (g * q) = omega arith in
    omega (arith, one, two, h, a, b)

module _ (m n : ℕ) (t : ℤ) where
  choices-before : (g : ℕ) (k : List ℤ) → g < m + n → (rank_network m n t).choices g k ≡ both_choices k
  choices-before g k h = rw (lt-ltb g (m + n) h) refl

  choices-past : (g : ℕ) (k : List ℤ) → m + n ≤ g → (rank_network m n t).choices g k ≡ []
  choices-past g k h = rw (le-ltb g (m + n) h) refl

  abbrev pub Ranked : ℕ → List ℤ → Type 0
  Ranked g k = (a : ℕ) × (b : ℕ) × (s : ℕ) × (k ≡ pos a ∷ pos b ∷ pos s ∷ []) × (a + b + g ≡ m + n) × (s ≤ 512 * (m + n) * g)

  step-ranked : (g a b s : ℕ) (c : List ℕ) (e : ℕ) → slice_index c 0 ≡ e → g < m + n → IsOpen a b c → a + b + g ≡ m + n → s ≤ 512 * (m + n) * g → Ranked (g + 1) ((rank_network m n t).next g (pos a ∷ pos b ∷ pos s ∷ []) c)
  step-ranked g a b s c zero is h o all small =
      let some : 0 < a = o.0 is in
      rw is (a - 1, b, s, ap (λ z. z ∷ pos b ∷ pos s ∷ []) (omega (arith, ints)), omega arith, grown (m + n) g s small)
    where
      grown : (q g s : ℕ) → s ≤ 512 * q * g → s ≤ 512 * q * (g + 1)
      grown q g s h = grind arith
  step-ranked g a b s c (suc e) is h o all small =
      let some : 0 < b = o.1 (λ z. omega (arith, is, z)) in
      let other : eqb (suc e) 0 ≡ false = grind (arith, nat_tests) in
      rw (is, other) (a, b - 1, s + 2 * (g + 1), ap (λ z. pos a ∷ z ∷ pos (s + 2 * (g + 1)) ∷ []) (omega (arith, ints)), omega arith, grown (m + n) g s small h)
    where
      grown : (q g s : ℕ) → s ≤ 512 * q * g → g < q → s + 2 * (g + 1) ≤ 512 * q * (g + 1)
      grown q g s h l = grind arith

  pub ranked : (g : ℕ) (k : List ℤ) → IsReached (rank_network m n t) g k → Ranked g k
  ranked zero k r = (m, n, 0, r, omega arith, omega arith)
  ranked (suc g) k (j, c, r, before, allowed, e) =
      let past : Ranked g j = ranked g j r in
      let there : Contains (both_choices (pos past.0 ∷ pos past.1 ∷ pos past.2 ∷ [])) c = subst (λ k. Contains (both_choices k) c) past.3 (subst (λ cs. Contains cs c) (choices-before g j before) allowed) in
      let o : IsOpen past.0 past.1 c = all-at (IsOpen past.0 past.1) _ c (both-open past.0 past.1 past.2) there in
      let next : Ranked (g + 1) ((rank_network m n t).next g (pos past.0 ∷ pos past.1 ∷ pos past.2 ∷ []) c) = step-ranked g past.0 past.1 past.2 c (slice_index c 0) refl before o past.4 past.5 in
      rw (← add-one) (subst (Ranked (g + 1)) (sym (e ∙ ap (λ j. (rank_network m n t).next g j c) past.3)) next)

  -- what a reached key has, number by number
  pub record RankedKey (g : ℕ) (k : List ℤ) : Type 0 where
    pub first : ℕ
    pub second : ℕ
    pub sum : ℕ
    pub is : k ≡ pos first ∷ pos second ∷ pos sum ∷ []
    pub first_is : at k 0 ≡ pos first
    pub second_is : at k 1 ≡ pos second
    pub sum_is : at k 2 ≡ pos sum
    pub left : first + second + g ≡ m + n
    pub small : sum ≤ 9000000

  pub ranked_key : m + n ≤ 126 → (g : ℕ) (k : List ℤ) → IsReached (rank_network m n t) g k → RankedKey g k
  ranked_key few g k r =
      let here : Ranked g k = ranked g k r in
      record {
        first = here.0;
        second = here.1;
        sum = here.2;
        is = here.3;
        first_is = ap (λ k. at k 0) here.3;
        second_is = ap (λ k. at k 1) here.3;
        sum_is = ap (λ k. at k 2) here.3;
        left = here.4;
        small = small_sum (m + n) g here.2 here.5 few (omega (arith, here.4));
      }

  next-first : (g a b s : ℕ) → (rank_network m n t).next g (pos (suc a) ∷ pos b ∷ pos s ∷ []) (0 ∷ []) ≡ pos a ∷ pos b ∷ pos s ∷ []
  next-first g a b s = ap (λ z. z ∷ pos b ∷ pos s ∷ []) (omega (arith, ints))

  next-second : (g a b s : ℕ) → (rank_network m n t).next g (pos a ∷ pos (suc b) ∷ pos s ∷ []) (1 ∷ []) ≡ pos a ∷ pos b ∷ pos (s + 2 * (g + 1)) ∷ []
  next-second g a b s = ap (λ z. pos a ∷ z ∷ pos (s + 2 * (g + 1)) ∷ []) (omega (arith, ints))

  abbrev rest_of : ℕ → ℕ → List ℤ → ℕ
  rest_of l g k = all_paths (rank_network m n t) l g k

  abbrev arc_sum : ℕ → ℕ → List ℤ → List (List ℕ) → ℕ
  arc_sum l g k cs = sum_by (λ c. 1 * rest_of l (g + 1) ((rank_network m n t).next g k c)) cs

  -- as many completions as ways
  pub paths-ways : (l g a b s : ℕ) → a + b ≡ l → g + l ≡ m + n → all_paths (rank_network m n t) l g (pos a ∷ pos b ∷ pos s ∷ []) ≡ ways a b
  paths-ways zero g zero zero s e f = refl
  paths-ways zero g zero (suc b) s e f = absurd (omega arith)
  paths-ways zero g (suc a) b s e f = absurd (omega arith)
  paths-ways (suc l) g zero zero s e f = absurd (omega arith)
  paths-ways (suc l) g zero (suc b) s e f =
      let k : List ℤ = pos zero ∷ pos (suc b) ∷ pos s ∷ [] in
      let rest : rest_of l (g + 1) ((rank_network m n t).next g k (1 ∷ [])) ≡ ways zero b = ap (rest_of l (g + 1)) (next-second g zero b s) ∙ paths-ways l (g + 1) zero b (s + 2 * (g + 1)) (omega arith) (omega arith) in
      all-step (rank_network m n t) l g k ∙ ap (arc_sum l g k) (choices-before g k (omega arith) ∙ choices-second b s) ∙ omega (arith, rest)
  paths-ways (suc l) g (suc a) zero s e f =
      let k : List ℤ = pos (suc a) ∷ pos zero ∷ pos s ∷ [] in
      let rest : rest_of l (g + 1) ((rank_network m n t).next g k (0 ∷ [])) ≡ ways a zero = ap (rest_of l (g + 1)) (next-first g a zero s) ∙ paths-ways l (g + 1) a zero s (omega arith) (omega arith) in
      all-step (rank_network m n t) l g k ∙ ap (arc_sum l g k) (choices-before g k (omega arith) ∙ choices-first a s) ∙ omega (arith, rest, ways-none a)
    where
      ways-none : (a : ℕ) → ways a zero ≡ 1
      ways-none zero = refl
      ways-none (suc a) = refl
  paths-ways (suc l) g (suc a) (suc b) s e f =
      let k : List ℤ = pos (suc a) ∷ pos (suc b) ∷ pos s ∷ [] in
      let rest : rest_of l (g + 1) ((rank_network m n t).next g k (0 ∷ [])) ≡ ways a (suc b) = ap (rest_of l (g + 1)) (next-first g a (suc b) s) ∙ paths-ways l (g + 1) a (suc b) s (omega arith) (omega arith) in
      let rest' : rest_of l (g + 1) ((rank_network m n t).next g k (1 ∷ [])) ≡ ways (suc a) b = ap (rest_of l (g + 1)) (next-second g (suc a) b s) ∙ paths-ways l (g + 1) (suc a) b (s + 2 * (g + 1)) (omega arith) (omega arith) in
      all-step (rank_network m n t) l g k ∙ ap (arc_sum l g k) (choices-before g k (omega arith) ∙ choices-both a b s) ∙ omega (arith, rest, rest')

  pub rank_total : (g a b s : ℕ) → a + b + g ≡ m + n → total_weight (rank_network m n t) g (pos a ∷ pos b ∷ pos s ∷ []) ≡ ways a b
  unfolding total_weight
  rank_total g a b s e = paths-ways ((m + n) - g) g a b s (omega arith) (omega arith)

  some-way : (a b s : ℕ) → 0 < a + b → both_choices (pos a ∷ pos b ∷ pos s ∷ []) ≢ []
  some-way zero zero s h e = omega arith
  some-way zero (suc b) s h e = (let one : both_choices (pos zero ∷ pos (suc b) ∷ pos s ∷ []) ≡ (1 ∷ []) ∷ [] = choices-second b s in absurd (not_nil _ _ (sym one ∙ e)))
  some-way (suc a) zero s h e = (let one : both_choices (pos (suc a) ∷ pos zero ∷ pos s ∷ []) ≡ (0 ∷ []) ∷ [] = choices-first a s in absurd (not_nil _ _ (sym one ∙ e)))
  some-way (suc a) (suc b) s h e = (let one : both_choices (pos (suc a) ∷ pos (suc b) ∷ pos s ∷ []) ≡ (0 ∷ []) ∷ (1 ∷ []) ∷ [] = choices-both a b s in absurd (not_nil _ _ (sym one ∙ e)))

  pub ways-few : (l a b : ℕ) → a + b ≡ l → ways a b ≤ 2 ^ l
  ways-few l zero b e = pow-least l
    where
      pow-least : (l : ℕ) → 1 ≤ 2 ^ l
      pow-least l = pow_mono {i = 0} {j = l} (omega arith)
  ways-few l (suc a) zero e = pow_mono {i = 0} {j = l} (omega arith)
  ways-few zero (suc a) (suc b) e = absurd (omega arith)
  ways-few (suc l) (suc a) (suc b) e = omega (arith, pow-suc 2 l, ways-few l a (suc b) (omega arith), ways-few l (suc a) b (omega arith))

  pub ways-fit : (a b : ℕ) → a + b ≤ 126 → ways a b ≤ 2 ^ 126
  ways-fit a b h = let most : 2 ^ (a + b) ≤ 2 ^ 126 = pow_mono {i = a + b} {j = 126} h in omega (arith, most, ways-few (a + b) a b refl)

  -- a verdict lasts along each arc
  abbrev Fixed : Verdict → Type 0
  Fixed v = IsKept (rank_network m n t) (λ g k. (rank_network m n t).verdict Less g k ≡ v)

  outside-last : (g a b s : ℕ) (c : List ℕ) → sum_verdict t (pos b) (pos s) ≡ Outside → (rank_network m n t).verdict Less (g + 1) ((rank_network m n t).next g (pos a ∷ pos b ∷ pos s ∷ []) c) ≡ Outside
  outside-last g a b s c v =
      let low : int_lt t (pos s) ≡ true = is-outside (int_lt t (pos s)) (int_le (pos b) (pos 0)) v in
      by (eqb (slice_index c 0) 0) low
    where
      is-outside : (x y : Bool) → cond x Outside (cond y Inside Undecided) ≡ Outside → x ≡ true
      is-outside true y e = refl
      is-outside false true e = cc
      is-outside false false e = cc

      more : (s : ℕ) → int_lt t (pos s) ≡ true → int_lt t (pos s +ℤ pos (2 * (g + 1))) ≡ true
      more s e = grind (arith, ints)

      by : (x : Bool) → int_lt t (pos s) ≡ true → (rank_network m n t).verdict Less (g + 1) (cond x ((pos a -ℤ pos 1) ∷ pos b ∷ pos s ∷ []) (pos a ∷ (pos b -ℤ pos 1) ∷ (pos s +ℤ pos (2 * (g + 1))) ∷ [])) ≡ Outside
      by true low = rw low refl
      by false low = rw (more s low) refl

  inside-last : (g a b s : ℕ) (c : List ℕ) → IsOpen a b c → sum_verdict t (pos b) (pos s) ≡ Inside → (rank_network m n t).verdict Less (g + 1) ((rank_network m n t).next g (pos a ∷ pos b ∷ pos s ∷ []) c) ≡ Inside
  inside-last g a b s c o v = by (eqb (slice_index c 0) 0) refl
    where
      placed : (x y : Bool) → cond x Outside (cond y Inside Undecided) ≡ Inside → y ≡ true
      placed true y e = cc
      placed false true e = refl
      placed false false e = cc

      none : b ≡ 0
      none = zero_of b (placed (int_lt t (pos s)) (int_le (pos b) (pos 0)) v)
        where
          zero_of : (b : ℕ) → int_le (pos b) (pos 0) ≡ true → b ≡ 0
          zero_of b e = grind (arith, ints)

      first : eqb (slice_index c 0) 0 ≡ false → slice_index c 0 ≢ 0
      first e z = (let yes : eqb (slice_index c 0) 0 ≡ true = rw z refl in cc)

      by : (x : Bool) → eqb (slice_index c 0) 0 ≡ x → (rank_network m n t).verdict Less (g + 1) (cond x ((pos a -ℤ pos 1) ∷ pos b ∷ pos s ∷ []) (pos a ∷ (pos b -ℤ pos 1) ∷ (pos s +ℤ pos (2 * (g + 1))) ∷ [])) ≡ Inside
      by true e = v
      by false e = absurd (omega (arith, o.1 (first e), none))

  open-there : (g : ℕ) (k : List ℤ) (c : List ℕ) (h : Ranked g k) → g < m + n → Contains ((rank_network m n t).choices g k) c → IsOpen h.0 h.1 c
  open-there g k c h before allowed =
      all-at (IsOpen h.0 h.1) _ c (both-open h.0 h.1 h.2) (subst (λ k. Contains (both_choices k) c) h.3 (subst (λ cs. Contains cs c) (choices-before g k before) allowed))

  outside-kept : Fixed Outside
  outside-kept g k c r before allowed v =
      let h : Ranked g k = ranked g k r in
      subst (λ j. (rank_network m n t).verdict Less (g + 1) ((rank_network m n t).next g j c) ≡ Outside) (sym h.3) (outside-last g h.0 h.1 h.2 c (ap (λ j. (rank_network m n t).verdict Less g j) (sym h.3) ∙ v))

  inside-kept : Fixed Inside
  inside-kept g k c r before allowed v =
      let h : Ranked g k = ranked g k r in
      subst (λ j. (rank_network m n t).verdict Less (g + 1) ((rank_network m n t).next g j c) ≡ Inside) (sym h.3) (inside-last g h.0 h.1 h.2 c (open-there g k c h before allowed) (ap (λ j. (rank_network m n t).verdict Less g j) (sym h.3) ∙ v))

  settled : (k : List ℤ) → IsReached (rank_network m n t) (m + n) k → (rank_network m n t).verdict Less (m + n) k ≢ Undecided
  settled k r v =
      let h : Ranked (m + n) k = ranked (m + n) k r in
      let none : h.1 ≡ 0 = omega (arith, h.4) in
      let here : sum_verdict t (pos 0) (pos h.2) ≡ Undecided = ap (λ b. sum_verdict t (pos b) (pos h.2)) (sym none) ∙ ap (λ j. (rank_network m n t).verdict Less (m + n) j) (sym h.3) ∙ v in
      not_both (int_lt t (pos h.2)) here
    where
      not_both : (x : Bool) → cond x Outside Inside ≡ Undecided → ⊥
      not_both true e = (let no : zero ≡ 1 = cc in omega arith)
      not_both false e = (let no : zero ≡ 1 = cc in omega arith)

  -- the two choices differ
  apart : (x y : Bool) → AllPairs {X = List ℕ} ◌≢◌ (cond x ((0 ∷ []) ∷ cond y ((1 ∷ []) ∷ []) []) (cond y ((1 ∷ []) ∷ []) []))
  apart true true = two_apart (0 ∷ []) (1 ∷ []) (λ e. (let sign : 0 ≡ 1 = ap (λ c. slice_index c 0) e in omega (arith, sign)))
  apart true false = one_apart (0 ∷ [])
  apart false true = one_apart (1 ∷ [])
  apart false false = none_apart

  different : (x : Bool) (k : List ℤ) → AllPairs {X = List ℕ} ◌≢◌ (cond x (both_choices k) [])
  different true k = apart (int_lt (pos 0) (at k 0)) (int_lt (pos 0) (at k 1))
  different false k = none_apart

  pub rank_lawful : m + n ≤ 126 → IsLawful (rank_network m n t)
  rank_lawful few = record {
    width_least = omega arith;
    width_most = omega arith;
    some_choice = λ g k r before e.
        (let here : Ranked g k = ranked g k r in
        some-way here.0 here.1 here.2 (omega (arith, here.4, before)) (ap both_choices (sym here.3) ∙ sym (choices-before g k before) ∙ e));
    weighty = λ g k c r allowed. omega arith;
    different = λ g k r. different (ltb g (m + n)) k;
    ends = λ k r. choices-past (m + n) k (omega arith);
    fits = omega (arith, rank_total 0 m n 0 (omega arith), ways-fit m n few);
    long = λ g k r. (let h : Ranked g k = ranked g k r in ap length h.3);
    inside = λ tail g k r h v. inside_from_arcs (rank_network m n t) Less inside-kept g k r h v;
    outside = λ tail g k r h v. outside_from_arcs (rank_network m n t) Less outside-kept g k r h v;
    decided = λ tail k r v. absurd (settled k r v);
  }

pub three_same : {X : Type 0} (a a' b b' c c' : X) → a ≡ a' → b ≡ b' → c ≡ c' → a ∷ b ∷ c ∷ [] ≡ a' ∷ b' ∷ c' ∷ []
three_same a a' b b' c c' e f g = rw (e, f, g) refl
