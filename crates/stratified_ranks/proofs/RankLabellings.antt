-- The rooms of the stratified rank sum test give the labellings of the strata.
use Rattle.std.proofs.Common.{◌≡◌, ℕ, suc, ◌+◌, ◌-◌, ◌*◌, ◌<◌, ◌≤◌, min, List, [], ◌∷◌, ◌++◌, map, take, drop, length, get_or, Bool, true, false, cond, nat_eq, inl, inr, refl, sym, ◌∙◌, ap, arith, add-one, drop-cons}
use Rattle.std.specs.Prelude.{pos}
use Rattle.std.specs.List.{range_with_len, sum, sum_by}
use Rattle.std.proofs.lemmas.Bool.{lt-ltb}
use Rattle.std.proofs.lemmas.Bool.Decides.{eqb_tells}
use Rattle.std.proofs.lemmas.List.{take-append-le, drop-append-le}
use Rattle.std.proofs.lemmas.List.Sums.{sum_by-cons}
use Rattle.weights.specs.Labellings.{labellings, number_of_labellings}
use Rattle.weights.proofs.CellSums.{same-within}
use Rattle.weights.proofs.FirstLabel.{two-none}
use Rattle.weights.proofs.Sums.{sum_by-map, sum_by-one, sum_by-same, sum_by-same_where, sum_by-times}
use Rattle.enumerate.specs.Joined.{joined_labellings}
use Rattle.enumerate.proofs.JoinedMembers.{each-long, over_joined}
use Rattle.room_network.specs.Plans.{Plan, alone}
use Rattle.count_rooms.proofs.WaySums.{gather, gather-none, gather-step}
use Rattle.stratified_ranks.specs.RankRooms.{column_at, left, rank_plan, remaining_after, second_of, ways_of}
use Rattle.stratified_ranks.specs.RankSteps.{AreColumns, IsColumn, later_ways}
use Rattle.stratified_ranks.specs.declared.rank_columns.Column.{Column}
use Rattle.stratified_ranks.proofs.RankSums.{remaining-within}
use Rattle.stratified_ranks.proofs.TwoParts.{halves, ones, two-parts}

-- ---- labellings of one stratum after another

-- a stratum of no subject adds nothing
pub none-behind : (ss : List (List ℕ)) (f : List ℕ → ℕ) → sum_by f (joined_labellings (ss ++ (0 ∷ 0 ∷ []) ∷ [])) ≡ sum_by f (joined_labellings ss)
none-behind [] f = refl
none-behind (s ∷ ss) f =
    over_joined s (ss ++ (0 ∷ 0 ∷ []) ∷ []) f
    ∙ sum_by-same _ _ (λ xs. none-behind ss (λ us. f (xs ++ us))) (labellings s)
    ∙ sym (over_joined s ss f)

abbrev pub number_joined : List (List ℕ) → ℕ
number_joined ss = sum_by (λ xs. 1) (joined_labellings ss)

pub number-more : (s : List ℕ) (ss : List (List ℕ)) → number_joined (s ∷ ss) ≡ number_of_labellings s * number_joined ss
number-more s ss =
    over_joined s ss (λ xs. 1)
    ∙ sum_by-same (λ xs. number_joined ss) (λ xs. 1 * number_joined ss) (λ xs. omega arith) (labellings s)
    ∙ sum_by-times (number_joined ss) (λ xs. 1) (labellings s)
    ∙ ap (λ n. n * number_joined ss) (sum_by-one (labellings s))

-- the sizes of the strata behind that of the first column; one of no subject comes last
abbrev pub later_sizes : List Column → List (List ℕ)
later_sizes [] = []
later_sizes (c ∷ columns) = cond (nat_eq c.later 0) (halves (left columns) (second_of columns) ∷ later_sizes columns) (later_sizes columns)

pub later-ways : (columns : List Column) → number_joined (later_sizes columns) ≡ later_ways columns
later-ways [] = refl
later-ways (c ∷ columns) = by (nat_eq c.later 0) (later-ways columns)
  where
    by : (b : Bool) → number_joined (later_sizes columns) ≡ later_ways columns → number_joined (cond b (halves (left columns) (second_of columns) ∷ later_sizes columns) (later_sizes columns)) ≡ cond b (ways_of (left columns) (second_of columns)) 1 * later_ways columns
    by true h = number-more (halves (left columns) (second_of columns)) (later_sizes columns) ∙ ap (λ n. ways_of (left columns) (second_of columns) * n) h
    by false h = omega (arith, h)

-- how many subjects of each column are of the second group
abbrev pub second_counts : List Column → List ℕ → List (List ℕ)
second_counts [] xs = []
second_counts (c ∷ columns) xs = (ones (take c.size xs) ∷ []) ∷ second_counts columns (drop c.size xs)

-- ---- one column

module _ (c : Column) (columns : List Column) (is : IsColumn c columns) (r x : ℕ) (f : List ℕ → ℕ) (least : r ≤ x + c.later) (most : x ≤ r) where
  none-left : c.later ≡ 0 → halves c.later (r - x) ≡ 0 ∷ 0 ∷ []
  none-left e =
      let rest : r - x ≡ 0 = omega (arith, least, most, e) in
      rw (rest, e) refl

  -- what is behind a column: the rest of its stratum, and the next ones
  behind : sum_by f (joined_labellings (halves (left columns) (remaining_after c columns r x) ∷ later_sizes columns)) ≡ sum_by (λ zs. sum_by (λ us. f (zs ++ us)) (joined_labellings (later_sizes (c ∷ columns)))) (labellings (halves c.later (r - x)))
  behind = elim (eqb_tells c.later 0) [
    | inl e ↦ last e.0 e.1
    | inr e ↦ (let on : left columns ≡ c.later = is.on (omega (arith, e.1)) in rw (e.0, on) (over_joined (halves c.later (r - x)) (later_sizes columns) f))
  ]
    where
      last : nat_eq c.later 0 ≡ true → c.later ≡ 0 → sum_by f (joined_labellings (halves (left columns) (remaining_after c columns r x) ∷ later_sizes columns)) ≡ sum_by (λ zs. sum_by (λ us. f (zs ++ us)) (joined_labellings (later_sizes (c ∷ columns)))) (labellings (halves c.later (r - x)))
      last e z =
          let g : List ℕ → ℕ = λ zs. sum_by (λ us. f (zs ++ us)) (joined_labellings (later_sizes (c ∷ columns))) in
          let next : remaining_after c columns r x ≡ (second_of columns) = rw e refl in
          let sizes : later_sizes (c ∷ columns) ≡ halves (left columns) (second_of columns) ∷ later_sizes columns = rw e refl in
          ap (λ n. sum_by f (joined_labellings (halves (left columns) n ∷ later_sizes columns))) next
          ∙ sym (ap (λ ss. sum_by f (joined_labellings ss)) sizes)
          ∙ sym (ap (λ s. sum_by g (labellings s)) (none-left z) ∙ two-none g)

-- the first column's subjects are of the first stratum
cut-first : (c : Column) (columns : List Column) (xs us : List ℕ) → c.size ≤ length xs → second_counts (c ∷ columns) (xs ++ us) ≡ (ones (take c.size xs) ∷ []) ∷ second_counts columns (drop c.size xs ++ us)
cut-first c columns xs us h = rw (take-append-le c.size xs us h, drop-append-le c.size xs us h) refl

pub at-drop : {X : Type 0} (xs : List X) (g : ℕ) (t d : X) (ts : List X) → g < length xs → drop g xs ≡ t ∷ ts → get_or xs g d ≡ t
at-drop xs g t d ts h e = let split : drop g xs ≡ get_or xs g d ∷ drop (suc g) xs = drop-cons xs g d h in cc

pub rest-drop : {X : Type 0} (xs : List X) (g : ℕ) (t d : X) (ts : List X) → g < length xs → drop g xs ≡ t ∷ ts → drop (g + 1) xs ≡ ts
rest-drop xs g t d ts h e = let split : drop g xs ≡ get_or xs g d ∷ drop (suc g) xs = drop-cons xs g d h in rw add-one (cc)

module _ (columns : List Column) where
  abbrev plan : Plan
  plan = rank_plan columns

  step : (t : Column) (ts : List Column) (m g r : ℕ) (f : List (List ℕ) → ℕ) → column_at columns g ≡ t → drop (g + 1) columns ≡ ts → g < length columns
      → gather (alone plan) (suc m) g (pos r ∷ []) f ≡ sum_by (λ x. ways_of t.size x * gather (alone plan) m (g + 1) (pos (remaining_after t ts r x) ∷ []) (λ w. f ((x ∷ []) ∷ w))) (range_with_len (r - t.later) (min t.size r + 1 - (r - t.later)))
  step t ts m g r f e d before =
      let one : List ℕ → ℕ = λ c. plan.weight g (pos r ∷ []) c * gather (alone plan) m (g + 1) (plan.floor.next g (pos r ∷ []) c) (λ w. f (c ∷ w)) in
      let range : List ℕ = range_with_len (r - t.later) (min t.size r + 1 - (r - t.later)) in
      let choices : (alone plan).choices g (pos r ∷ []) ≡ map (λ x. x ∷ []) range = rw (lt-ltb g (length columns) before, e) refl in
      let same : sum_by (λ x. one (x ∷ [])) range ≡ sum_by (λ x. ways_of t.size x * gather (alone plan) m (g + 1) (pos (remaining_after t ts r x) ∷ []) (λ w. f ((x ∷ []) ∷ w))) range = rw (e, d) refl in
      gather-step (alone plan) m g (pos r ∷ []) f ∙ ap (sum_by one) choices ∙ sum_by-map one (λ x. x ∷ []) range ∙ same

  pub ways_give : (ts : List Column) (g r : ℕ) (f : List (List ℕ) → ℕ) → drop g columns ≡ ts → g + length ts ≡ length columns → AreColumns ts → r ≤ left ts
      → gather (alone plan) (length ts) g (pos r ∷ []) f ≡ sum_by (λ xs. f (second_counts ts xs)) (joined_labellings (halves (left ts) r ∷ later_sizes ts))
  ways_give [] g r f d e s h =
      let none : r ≡ 0 = omega (arith, h) in
      rw none (gather-none (alone plan) g (pos 0 ∷ []) f ∙ sym (sum_by-cons (λ xs. f (second_counts [] xs)) [] [] ∙ omega arith))
  ways_give (t ∷ ts) g r f d e s h =
      let before : g < length columns = omega (arith, e) in
      let here : column_at columns g ≡ t = at-drop columns g t _ ts before d in
      let next : drop (g + 1) columns ≡ ts = rest-drop columns g t t ts before d in
      step t ts (length ts) g r f here next before
      ∙ same-within _ (λ x. ways_of t.size x * sum_by (λ zs. sum_by (λ us. f ((x ∷ []) ∷ second_counts ts (zs ++ us))) (joined_labellings (later_sizes (t ∷ ts)))) (labellings (halves t.later (r - x)))) (r - t.later) (min t.size r + 1 - (r - t.later)) (λ x low high.
      ap (λ n. ways_of t.size x * n) (
      ways_give ts (g + 1) (remaining_after t ts r x) (λ w. f ((x ∷ []) ∷ w)) next (omega (arith, e)) s.1 (remaining-within t ts s.0 r x h (omega (arith, low)) (omega (arith, high, low, h)))
      ∙ behind t ts s.0 r x (λ xs. f ((x ∷ []) ∷ second_counts ts xs)) (omega (arith, low)) (omega (arith, high, low, h))))
      ∙ sym (two-parts t.size t.later r (λ x zs. sum_by (λ us. f ((x ∷ []) ∷ second_counts ts (zs ++ us))) (joined_labellings (later_sizes (t ∷ ts)))) h)
      ∙ sum_by-same_where (λ xs. length xs ≡ sum (halves (left (t ∷ ts)) r)) _ (λ xs. sum_by (λ us. f (second_counts (t ∷ ts) (xs ++ us))) (joined_labellings (later_sizes (t ∷ ts)))) (λ xs long. sum_by-same _ _ (λ us. ap f (sym (cut-first t ts xs us (omega (arith, long, h, sum_by-cons (λ v. v) (t.size + t.later - r) (r ∷ []), sum_by-cons (λ v. v) r []))))) (joined_labellings (later_sizes (t ∷ ts)))) (labellings (halves (left (t ∷ ts)) r)) (each-long (halves (left (t ∷ ts)) r))
      ∙ sym (over_joined (halves (left (t ∷ ts)) r) (later_sizes (t ∷ ts)) (λ xs. f (second_counts (t ∷ ts) xs)))
