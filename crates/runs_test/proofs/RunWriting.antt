-- What runs for the runs test stands for what is written: how many rows are left to get the second label comes of the stage and of how many are left to get the first.
use Rattle.std.proofs.Common.{◌≡◌, ℕ, zero, suc, ◌+◌, ◌-◌, ◌*◌, ◌<◌, List, [], ◌∷◌, length, inr, refl, sym, ◌∙◌, ap, subst, arith}
use Rattle.std.specs.Prelude.{ℤ, pos, ◌+ℤ◌, ◌<ℤ◌, min, replicate, slice_index}
use Rattle.std.specs.Cmp.{int_ranks, int_cmp_is}
use Rattle.std.specs.List.{Contains, sum_by}
use Rattle.std.specs.Ordering.{MatchOrdering, int_cmp, ordering_then}
use Rattle.std.specs.declared.cmp.Ordering.{Ordering}
use Rattle.std.specs.declared.cmp.Ordering.TheVariants.{Less, Equal, Greater}
use Rattle.std.proofs.lemmas.Bool.{lt-ltb}
use Rattle.std.proofs.lemmas.Int.{ints}
use Rattle.std.proofs.lemmas.List.{length-replicate}
use Rattle.weights.specs.declared.tails.Tail.{Tail}
use Rattle.weights.specs.Grouped.{choices}
use Rattle.weights.specs.Labellings.{number_of_labellings}
use Rattle.weights.proofs.FirstLabel.{number_of_labellings-positive}
use Rattle.sample_reader.specs.Sequences.{SequenceData}
use Rattle.networks.specs.declared.verdicts.Judge.{Judge}
use Rattle.networks.specs.Completions.{over_arcs}
use Rattle.networks.specs.Judged.{judge_of}
use Rattle.networks.specs.Network.{Network, IsReached}
use Rattle.networks.specs.Written.{RunsFor, StandsFor}
use Rattle.networks.proofs.Lumping.{lumped-by}
use Rattle.label_network.specs.LabelNetwork.{label_network}
use Rattle.label_network.proofs.Narrowing.{chosen}
use Rattle.runs_test.specs.RunNetwork.{begins_run, labels_for, runs_meaning, sequence_meaning, written_network, written_runs}
use Rattle.runs_test.specs.Runs.{rows_with, runs_test}
use Rattle.runs_test.proofs.RunNarrows.{IsOne, here, one-each, one_first, one_second}

-- ---- the choices for one row

-- as counts of each label
pairs_for : ℕ → ℕ → List (List ℕ)
pairs_for zero zero = []
pairs_for zero (suc b) = (0 ∷ 1 ∷ []) ∷ []
pairs_for (suc a) zero = (1 ∷ 0 ∷ []) ∷ []
pairs_for (suc a) (suc b) = (0 ∷ 1 ∷ []) ∷ (1 ∷ 0 ∷ []) ∷ []

one-row : (a b : ℕ) → choices 1 (a ∷ b ∷ []) ≡ pairs_for a b
unfolding pairs_for
one-row zero zero = refl
one-row zero (suc b) =
    let one : min 1 (suc b) + 1 ≡ 2 = omega arith in
    rw one refl
one-row (suc a) zero =
    let one : min 1 (suc a) + 1 ≡ 2 = omega arith in
    rw one refl
one-row (suc a) (suc b) =
    let one : min 1 (suc a) + 1 ≡ 2 = omega arith in
    let two : min 1 (suc b) + 1 ≡ 2 = omega arith in
    let none : min 0 (suc b) + 1 ≡ 1 = omega arith in
    rw (one, two, none) refl

-- the sums over both kinds of choices
both-ways : (w F : List ℕ → ℕ) (G : List ℕ → ℕ) → w (1 ∷ 0 ∷ []) ≡ 1 → w (0 ∷ 1 ∷ []) ≡ 1 → G (0 ∷ []) ≡ F (1 ∷ 0 ∷ []) → G (1 ∷ []) ≡ F (0 ∷ 1 ∷ [])
    → (a b : ℕ) → sum_by (λ c. 1 * G c) (labels_for a b) ≡ sum_by (λ c. w c * F c) (pairs_for a b)
unfolding pairs_for
both-ways w F G u v first second zero zero = refl
both-ways w F G u v first second zero (suc b) = rw (v, second) refl
both-ways w F G u v first second (suc a) zero = rw (u, first) refl
both-ways w F G u v first second (suc a) (suc b) = rw (u, v, first, second) (omega arith)

-- ---- keys in order

same-then : (a b c d : ℕ) (rest : Ordering) → a + c ≡ b + d → ordering_then (int_cmp (pos a) (pos b)) rest ≡ ordering_then (int_cmp (pos a) (pos b)) (ordering_then (int_cmp (pos c) (pos d)) rest)
same-then a b c d rest e = by (int_cmp (pos a) (pos b)) (int_ranks (pos a) (pos b))
  where
    by : (o : Ordering) → MatchOrdering o (pos a <ℤ pos b) (pos a ≡ pos b) (pos b <ℤ pos a) → ordering_then o rest ≡ ordering_then o (ordering_then (int_cmp (pos c) (pos d)) rest)
    by Less m = refl
    by Greater m = refl
    by Equal m =
        let same : pos c ≡ pos d = omega (arith, ints, m, e) in
        let tied : Equal ≡ int_cmp (pos c) (pos d) = int_cmp_is (pos c) (pos d) Equal same in
        rw (← tied) refl

-- ---- the two networks

without_second : List ℤ → List ℤ
without_second [] = []
without_second (x ∷ []) = x ∷ []
without_second (x ∷ y ∷ rest) = x ∷ rest

module _ (a b : ℕ) (judge : Judge) where
  abbrev n : Network
  n = label_network (runs_meaning a b judge)

  abbrev q : Network
  q = written_runs a b judge

  -- a running key
  record IsRunKey (g : ℕ) (k : List ℤ) : Type 0 where
    firsts : ℕ
    seconds : ℕ
    last : ℕ
    runs : ℤ
    is : k ≡ pos firsts ∷ pos seconds ∷ pos last ∷ runs ∷ []
    left : g + (firsts + seconds) ≡ a + b

  all-rows : length {A = ℕ} (replicate (a + b) 1) ≡ a + b
  all-rows = length-replicate (a + b) 1

  -- its choices
  row-choices : (g x y l : ℕ) (s : ℤ) → g < a + b → n.choices g (pos x ∷ pos y ∷ pos l ∷ s ∷ []) ≡ choices 1 (x ∷ y ∷ [])
  row-choices g x y l s before =
      let inner : g < length {A = ℕ} (replicate (a + b) 1) = omega (arith, before, all-rows) in
      rw (lt-ltb g (length {A = ℕ} (replicate (a + b) 1)) inner, one-each a b judge g inner) refl

  one-label : (g x y l : ℕ) (s : ℤ) (c : List ℕ) → g < a + b → Contains (n.choices g (pos x ∷ pos y ∷ pos l ∷ s ∷ [])) c → IsOne x y c
  one-label g x y l s c before m =
      let inner : g < length {A = ℕ} (replicate (a + b) 1) = omega (arith, before, all-rows) in
      here a b judge g (x ∷ y ∷ []) c inner (chosen (slice_index (replicate (a + b) 1) g) (x ∷ y ∷ []) c (subst (λ cs. Contains cs c) (row-choices g x y l s before ∙ ap (λ one. choices one (x ∷ y ∷ [])) (sym (one-each a b judge g inner))) m)) refl

  next-key : (g x y l : ℕ) (s : ℤ) (c : List ℕ) → g + (x + y) ≡ a + b → IsOne x y c → IsRunKey (suc g) (n.next g (pos x ∷ pos y ∷ pos l ∷ s ∷ []) c)
  next-key g x y l s c left (one_first some e) =
      let all : y - 0 ≡ y = omega arith in
      record { firsts = x - 1; seconds = y; last = 0; runs = s +ℤ pos (begins_run l 0); is = rw (e, all) refl; left = omega (arith, left, some) }
  next-key g x y l s c left (one_second some e) =
      let all : x - 0 ≡ x = omega arith in
      record { firsts = x; seconds = y - 1; last = 1; runs = s +ℤ pos (begins_run l 1); is = rw (e, all) refl; left = omega (arith, left, some) }

  run-key : (g : ℕ) (k : List ℤ) → IsReached n g k → IsRunKey g k
  run-key zero k r = record { firsts = a; seconds = b; last = 2; runs = pos 0; is = r; left = omega arith }
  run-key (suc g) k (j, c, r, before, allowed, e) =
      let past : IsRunKey g j = run-key g j r in
      let rows : g < a + b = omega (arith, before, all-rows) in
      let one : IsOne past.firsts past.seconds c = one-label g past.firsts past.seconds past.last past.runs c rows (subst (λ i. Contains (n.choices g i) c) past.is allowed) in
      subst (IsRunKey (suc g)) (sym (e ∙ ap (λ i. n.next g i c) past.is)) (next-key g past.firsts past.seconds past.last past.runs c past.left one)

  -- its arcs and those of the written key
  row-arcs : (f : List ℤ → ℕ) (g x y l : ℕ) (s : ℤ) → g + (x + y) ≡ a + b → g < a + b → over_arcs q f g (pos x ∷ pos l ∷ s ∷ []) ≡ over_arcs n (λ j. f (without_second j)) g (pos x ∷ pos y ∷ pos l ∷ s ∷ [])
  unfolding without_second
  row-arcs f g x y l s left before =
      let rest : (a + b) - g - x ≡ y = omega (arith, left) in
      let all : x - 0 ≡ x = omega arith in
      let F : List ℕ → ℕ = λ c. f (without_second (n.next g (pos x ∷ pos y ∷ pos l ∷ s ∷ []) c)) in
      let G : List ℕ → ℕ = λ c. f (q.next g (pos x ∷ pos l ∷ s ∷ []) c) in
      ap (λ m. sum_by (λ c. 1 * G c) (labels_for x m)) rest
      ∙ both-ways number_of_labellings F G refl refl refl (ap (λ m. f (pos m ∷ pos 1 ∷ (s +ℤ pos (begins_run l 1)) ∷ [])) (sym all)) x y
      ∙ sym (ap (sum_by (λ c. number_of_labellings c * F c)) (row-choices g x y l s before ∙ one-row x y))

  runs-writes : (t : Tail) → StandsFor n q t
  unfolding without_second
  runs-writes t = record {
    written = without_second;
    lumped = lumped-by without_second n q all-rows refl (λ f g k r before.
        let key : IsRunKey g k = run-key g k r in
        rw key.is (row-arcs f g key.firsts key.seconds key.last key.runs key.left (omega (arith, before, all-rows))));
    order = λ g i j r s.
        let one : IsRunKey g i = run-key g i r in
        let two : IsRunKey g j = run-key g j s in
        let level : one.firsts + one.seconds ≡ two.firsts + two.seconds = omega (arith, one.left, two.left) in
        rw (one.is, two.is) (same-then one.firsts two.firsts one.seconds two.seconds _ level);
    verdict = λ g k r.
        let key : IsRunKey g k = run-key g k r in
        let rest : (a + b) - g - key.firsts ≡ key.seconds = omega (arith, key.left) in
        rw (key.is, rest) refl;
    weighty = λ g k c r before m. number_of_labellings-positive c;
    weighty_written = λ g k c r before m. omega arith;
  }

-- the keys of the network that runs stand for those of the one that is written
pub written : (sequence : SequenceData) (tail : Tail) → RunsFor (label_network (sequence_meaning sequence)) (written_network sequence) tail
written sequence tail = inr (runs-writes (rows_with sequence 0) (rows_with sequence 1) (judge_of (runs_test sequence)) tail)
