-- The interval of the number of runs narrows along every choice.
use Rattle.std.proofs.Common.{◌≡◌, ℕ, zero, suc, ◌+◌, ◌-◌, ◌<◌, ◌≤◌, List, [], ◌∷◌, length, get_or, Bool, true, false, cond, refl, sym, ◌∙◌, ap, subst, arith, nat_eq, nat_le}
use Rattle.std.specs.Prelude.{ℤ, pos, nat_abs, replicate, slice_index}
use Rattle.std.specs.List.{sum}
use Rattle.std.proofs.Math.Seq.{drop-length}
use Rattle.std.proofs.lemmas.Int.{ints, clamps}
use Rattle.std.proofs.lemmas.List.{get_or-replicate, length-replicate}
use Rattle.std.proofs.lemmas.List.Folds.{sum_by-replicate}
use Rattle.networks.specs.declared.verdicts.Judge.{Judge}
use Rattle.weights.specs.Grouped.{fits, minus}
use Rattle.weights.proofs.ChoiceLists.{IsChoice}
use Rattle.weights.proofs.Sized.{first_and, length-minus}
use Rattle.weights.proofs.CellSums.{sum-two}
use Rattle.label_network.specs.Meanings.{AreReached, IsMeasure, Meaning}
use Rattle.label_network.proofs.Narrowing.{IsLeft, IsNarrowing, measured, reached-kept, reached-left}
use Rattle.runs_test.specs.RunNetwork.{begins_run, firsts_in, chosen_label, last_in, least_to_come, most_to_come, runs_meaning, runs_so_far, seconds_in}

pub sum-ones : (n : ℕ) → sum (replicate n 1) ≡ n
sum-ones n = omega (arith, sum_by-replicate (λ v. v) n 1)

pub two-of : (r : List ℕ) → length r ≡ 2 → r ≡ firsts_in r ∷ seconds_in r ∷ []
two-of [] e = absurd (omega (arith, e))
two-of (x ∷ []) e = absurd (omega (arith, e))
two-of (x ∷ y ∷ []) e = refl
two-of (x ∷ y ∷ z ∷ r) e = absurd (omega (arith, e))

-- ---- a row that gets the first label, or the second

low-first : (last a b : ℕ) → 1 ≤ a → least_to_come last a b ≤ begins_run last 0 + least_to_come 0 (a - 1) b
low-first zero a b h = grind arith
low-first (suc zero) a b h = grind arith
low-first (suc (suc n)) a b h = grind arith

low-second : (last a b : ℕ) → 1 ≤ b → least_to_come last a b ≤ begins_run last 1 + least_to_come 1 a (b - 1)
low-second zero a b h = grind arith
low-second (suc zero) a b h = grind arith
low-second (suc (suc n)) a b h = grind arith

high-first : (last a b : ℕ) → 1 ≤ a → begins_run last 0 + most_to_come 0 (a - 1) b ≤ most_to_come last a b
high-first zero a b h = grind arith
high-first (suc zero) a b h = grind arith
high-first (suc (suc n)) a b h = grind (arith, clamps)

high-second : (last a b : ℕ) → 1 ≤ b → begins_run last 1 + most_to_come 1 a (b - 1) ≤ most_to_come last a b
high-second zero a b h = grind arith
high-second (suc zero) a b h = grind arith
high-second (suc (suc n)) a b h = grind (arith, clamps)

-- a choice for one row of two labels
pub data IsOne (a b : ℕ) (c : List ℕ) : Type 0 where
  one_first : 1 ≤ a → c ≡ 1 ∷ 0 ∷ [] → IsOne a b c
  one_second : 1 ≤ b → c ≡ 0 ∷ 1 ∷ [] → IsOne a b c

one_of : (a b : ℕ) (c : List ℕ) → IsChoice 1 (a ∷ b ∷ []) c → IsOne a b c
one_of a b [] o = absurd (omega (arith, o.long))
one_of a b (x ∷ []) o = absurd (omega (arith, o.long))
one_of a b (x ∷ y ∷ z ∷ c) o = absurd (omega (arith, o.long))
one_of a b (zero ∷ y ∷ []) o =
    let one : y ≡ 1 = omega (arith, o.whole, sum-two 0 y) in
    second y one o.fitting
  where
    second : (y : ℕ) → y ≡ 1 → fits (0 ∷ y ∷ []) (a ∷ b ∷ []) ≡ true → IsOne a b (0 ∷ y ∷ [])
    second zero e f = absurd (omega (arith, e))
    second (suc zero) e f = one_second (some b f) refl
      where
        some : (b : ℕ) → fits (0 ∷ 1 ∷ []) (a ∷ b ∷ []) ≡ true → 1 ≤ b
        some zero f = (let none = (first_and (nat_le 0 a) (fits (1 ∷ []) (0 ∷ [])) f).1 in absurd (cc none))
        some (suc b) f = omega arith
    second (suc (suc n)) e f = absurd (omega (arith, e))
one_of a b (suc zero ∷ y ∷ []) o =
    let none : y ≡ 0 = omega (arith, o.whole, sum-two 1 y) in
    one_first (some a o.fitting) (ap (λ n. 1 ∷ n ∷ []) none)
  where
    some : (a : ℕ) → fits (1 ∷ y ∷ []) (a ∷ b ∷ []) ≡ true → 1 ≤ a
    some zero f = absurd (cc f)
    some (suc a) f = omega arith
one_of a b (suc (suc x) ∷ y ∷ []) o = absurd (omega (arith, o.whole, sum-two (suc (suc x)) y))

-- from sizes and a choice to the next
low-step : (last a b : ℕ) (c : List ℕ) → IsOne a b c → least_to_come last a b ≤ begins_run last (chosen_label c) + least_to_come (chosen_label c) (firsts_in (minus (a ∷ b ∷ []) c)) (seconds_in (minus (a ∷ b ∷ []) c))
low-step last a b c (one_first h e) = let all : b - 0 ≡ b = omega arith in rw (e, all) (low-first last a b h)
low-step last a b c (one_second h e) = let all : a - 0 ≡ a = omega arith in rw (e, all) (low-second last a b h)

high-step : (last a b : ℕ) (c : List ℕ) → IsOne a b c → begins_run last (chosen_label c) + most_to_come (chosen_label c) (firsts_in (minus (a ∷ b ∷ []) c)) (seconds_in (minus (a ∷ b ∷ []) c)) ≤ most_to_come last a b
high-step last a b c (one_first h e) = let all : b - 0 ≡ b = omega arith in rw (e, all) (high-first last a b h)
high-step last a b c (one_second h e) = let all : a - 0 ≡ a = omega arith in rw (e, all) (high-second last a b h)

label-few : (a b : ℕ) (c : List ℕ) → IsOne a b c → chosen_label c ≤ 1
label-few a b c (one_first h e) = rw e (omega arith)
label-few a b c (one_second h e) = rw e (omega arith)

none-least : (last : ℕ) → least_to_come last 0 0 ≡ 0
none-least zero = refl
none-least (suc zero) = refl
none-least (suc (suc n)) = refl

none-most : (last : ℕ) → most_to_come last 0 0 ≡ 0
none-most zero = refl
none-most (suc zero) = refl
none-most (suc (suc n)) = refl

pub begins-few : (last x : ℕ) → begins_run last x ≤ 1
begins-few last x = by (nat_eq last x)
  where
    by : (b : Bool) → cond b 0 1 ≤ 1
    by true = omega arith
    by false = omega arith

-- a partial has a label, or 2, and no more runs than rows
pub record IsPartial (g : ℕ) (r : List ℕ) (p : List ℤ) : Type 0 where
  pub sizes : length r ≡ 2
  pub two : length p ≡ 2
  pub last : get_or p 0 (pos 0) ≡ pos (last_in p)
  pub label : last_in p ≤ 2
  pub runs : runs_so_far p ≡ pos (nat_abs (runs_so_far p))
  pub few : nat_abs (runs_so_far p) ≤ g

module _ (a b : ℕ) (judge : Judge) where
  abbrev m : Meaning
  m = runs_meaning a b judge

  pub one-each : (g : ℕ) → g < length m.columns → slice_index m.columns g ≡ 1
  one-each g h =
      let long : length m.columns ≡ a + b = length-replicate (a + b) 1 in
      get_or-replicate (a + b) g 1 0 (omega (arith, h, long))

  pub here : (g : ℕ) (r c : List ℕ) → g < length m.columns → IsChoice (slice_index m.columns g) r c → length r ≡ 2 → IsOne (firsts_in r) (seconds_in r) c
  here g r c h o e = one_of (firsts_in r) (seconds_in r) c (subst (λ s. IsChoice 1 s c) (two-of r e) (rw (one-each g h) at o))

  lows : (last : ℕ) (r c : List ℕ) → length r ≡ 2 → IsOne (firsts_in r) (seconds_in r) c → least_to_come last (firsts_in r) (seconds_in r) ≤ begins_run last (chosen_label c) + least_to_come (chosen_label c) (firsts_in (minus r c)) (seconds_in (minus r c))
  lows last r c e o = subst (λ s. least_to_come last (firsts_in r) (seconds_in r) ≤ begins_run last (chosen_label c) + least_to_come (chosen_label c) (firsts_in (minus s c)) (seconds_in (minus s c))) (sym (two-of r e)) (low-step last (firsts_in r) (seconds_in r) c o)

  highs : (last : ℕ) (r c : List ℕ) → length r ≡ 2 → IsOne (firsts_in r) (seconds_in r) c → begins_run last (chosen_label c) + most_to_come (chosen_label c) (firsts_in (minus r c)) (seconds_in (minus r c)) ≤ most_to_come last (firsts_in r) (seconds_in r)
  highs last r c e o = subst (λ s. begins_run last (chosen_label c) + most_to_come (chosen_label c) (firsts_in (minus s c)) (seconds_in (minus s c)) ≤ most_to_come last (firsts_in r) (seconds_in r)) (sym (two-of r e)) (high-step last (firsts_in r) (seconds_in r) c o)

  at_end : (r : List ℕ) → length r ≡ 2 → IsLeft m (length m.columns) r → (f : ℕ → ℕ → ℕ) → f 0 0 ≡ 0 → f (firsts_in r) (seconds_in r) ≡ 0
  at_end r e l f n =
      let none : firsts_in r + seconds_in r ≡ 0 = sym (sum-two (firsts_in r) (seconds_in r)) ∙ ap sum (sym (two-of r e)) ∙ sym l.whole ∙ ap sum (drop-length m.columns) in
      let one : firsts_in r ≡ 0 = omega (arith, none) in
      let two : seconds_in r ≡ 0 = omega (arith, none) in
      rw (one, two) n

  runs_narrowing : IsNarrowing m IsPartial
  runs_narrowing = record {
    keeps = λ g r c p before l o k.
        let one = here g r c before o k.sizes in
        record {
          sizes = length-minus r c ∙ k.sizes;
          two = refl;
          last = refl;
          label = omega (arith, label-few (firsts_in r) (seconds_in r) c one);
          runs = omega (arith, ints, k.runs);
          few = omega (arith, ints, k.runs, begins-few (last_in p) (chosen_label c), k.few);
        };
    rises = λ g r c p before l o k. omega (arith, ints, lows (last_in p) r c k.sizes (here g r c before o k.sizes));
    falls = λ g r c p before l o k. omega (arith, ints, highs (last_in p) r c k.sizes (here g r c before o k.sizes));
    low_end = λ r p l k. omega (arith, ints, at_end r k.sizes l (least_to_come (last_in p)) (none-least (last_in p)));
    high_end = λ r p l k. omega (arith, ints, at_end r k.sizes l (most_to_come (last_in p)) (none-most (last_in p)));
  }

  first-partial : IsPartial 0 (a ∷ b ∷ []) (pos 2 ∷ pos 0 ∷ [])
  first-partial = record { sizes = refl; two = refl; last = refl; label = omega arith; runs = refl; few = omega arith }

  pub level : sum m.columns ≡ sum m.rows
  level = omega (arith, sum-ones (a + b), sum-two a b)

  pub runs_measure : IsMeasure m
  runs_measure = measured m level IsPartial runs_narrowing first-partial (λ g r p k. k.two)

  pub reached_partial : (g : ℕ) (r : List ℕ) (p : List ℤ) → AreReached m g r p → IsPartial g r p
  reached_partial g r p c = reached-kept m level IsPartial runs_narrowing first-partial g r p c

  pub reached_left : (g : ℕ) (r : List ℕ) (p : List ℤ) → AreReached m g r p → IsLeft m g r
  reached_left g r p c = reached-left m level g r p c
