-- The least and the greatest sum of ranks that can still be added narrow along every choice, and no sum passes that of all ranks.
use Rattle.std.proofs.Common.{◌≡◌, ℕ, zero, suc, ◌+◌, ◌-◌, ◌*◌, ◌<◌, ◌≤◌, add-mul, min, List, [], ◌∷◌, ◌++◌, length, drop, inl, inr, ◌∙◌, ap, arith}
use Rattle.std.specs.Prelude.{replicate}
use Rattle.std.specs.List.{sum}
use Rattle.std.proofs.Math.Nat.{mul-le-mul_left, mul-le-mul_right}
use Rattle.std.proofs.lemmas.Bool.Decides.{eqb_tells}
use Rattle.std.proofs.lemmas.List.Sums.{sum_by-cons}
use Rattle.stratified_ranks.specs.RankRooms.{added_with, column_at, column_ranks, fewest_here, greatest_added, least_added, left, most_here, remaining_after}
use Rattle.stratified_ranks.specs.RankSteps.{AreColumns, AreSound, IsColumn, first_rank}
use Rattle.stratified_ranks.specs.declared.rank_columns.Column.{Column}

-- ---- all ranks

copies : (n v : ℕ) (ys : List ℕ) → sum (replicate n v ++ ys) ≡ n * v + sum ys
copies zero v ys = omega arith
copies (suc n) v ys = omega (arith, sum_by-cons (λ v. v) v (replicate n v ++ ys), copies n v ys)

pub column_total : (c : Column) (columns : List Column) → sum (column_ranks (c ∷ columns)) ≡ c.size * c.rank + sum (column_ranks columns)
column_total c columns = copies c.size c.rank (column_ranks columns)

pub column-within : (c : Column) (columns : List Column) (n : ℕ) → n ≤ c.size → n * c.rank ≤ sum (column_ranks (c ∷ columns))
column-within c columns n h = omega (arith, mul-le-mul_right c.rank h, column_total c columns)

pub ranks-from : (columns : List Column) (g : ℕ) → sum (column_ranks (drop g columns)) ≤ sum (column_ranks columns)
ranks-from columns zero = omega arith
ranks-from [] (suc g) = omega arith
ranks-from (c ∷ columns) (suc g) = omega (arith, ranks-from columns g, column_total c columns)

-- ---- more to be placed

-- no rank that is left in the stratum is below this one
abbrev IsFloor : ℕ → List Column → Type 0
IsFloor rank [] = Unit {0}
IsFloor rank (c ∷ columns) = (rank ≤ c.rank) × (0 < c.later → IsFloor rank columns)

floor-from : (v : ℕ) (columns : List Column) → AreColumns columns → v ≤ first_rank columns → IsFloor v columns
floor-from v [] s h = tt
floor-from v (c ∷ columns) s h = (h, λ later. floor-from v columns s.1 (omega (arith, h, s.0.rises later)))

pub remaining-within : (c : Column) (columns : List Column) → IsColumn c columns → (r x : ℕ) → r ≤ c.size + c.later → r ≤ x + c.later → x ≤ r → remaining_after c columns r x ≤ left columns
remaining-within c columns is r x h low high = elim (eqb_tells c.later 0) [
  | inl e ↦ rw (e.0) (is.ahead e.1)
  | inr e ↦ (let on : left columns ≡ c.later = is.on (omega (arith, e.1)) in rw (e.0) (omega (arith, on, low)))
]

-- how many are placed in a column: of more no fewer, and of all those who are left as many as have no place behind it
record IsPlacing (here : Column → ℕ → ℕ) : Type 0 where
  pub within : (c : Column) (r : ℕ) → here c r ≤ r
  pub enough : (c : Column) (r : ℕ) → r ≤ c.size + c.later → r ≤ here c r + c.later
  pub rises : (c : Column) (r d : ℕ) → here c r ≤ here c (r + d)
  pub slowly : (c : Column) (r d : ℕ) → here c (r + d) ≤ here c r + d

most-placing : IsPlacing most_here
most-placing = record { within = λ c r. omega arith; enough = λ c r h. omega (arith, h); rises = λ c r d. omega arith; slowly = λ c r d. omega arith }

fewest-placing : IsPlacing fewest_here
fewest-placing = record { within = λ c r. omega arith; enough = λ c r h. omega arith; rises = λ c r d. omega arith; slowly = λ c r d. omega arith }

module _ (here : Column → ℕ → ℕ) (p : IsPlacing here) where
  -- d more add at least d times a rank that none is below
  climbs : (v : ℕ) (columns : List Column) (r d : ℕ) → IsFloor v columns → AreColumns columns → r + d ≤ left columns → added_with here columns r + d * v ≤ added_with here columns (r + d)
  climbs v [] r d f s h = let none : d ≡ 0 = omega (arith, h) in rw none (omega arith)
  climbs v (c ∷ columns) r d f s h =
      let x : ℕ = here c r in
      let e : ℕ = here c (r + d) - x in
      let on : here c (r + d) ≡ x + e = omega (arith, p.rises c r d) in
      let more : (x + e) * c.rank ≡ x * c.rank + e * c.rank = add-mul x e c.rank in
      let times : e * v ≤ e * c.rank = mul-le-mul_left e f.0 in
      elim (eqb_tells c.later 0) [
        | inl last ↦
            (let all : e ≡ d = omega (arith, last.1, p.enough c r (omega (arith, h)), p.enough c (r + d) h, p.within c r, p.within c (r + d)) in
            let less : d * v ≤ d * c.rank = mul-le-mul_left d f.0 in
            rw (last.0, on) (omega (arith, more, less, ap (λ n. n * c.rank) all)))
        | inr later ↦
            (let some : 0 < c.later = omega (arith, later.1) in
            let rest : r + d - (x + e) ≡ (r - x) + (d - e) = omega (arith, p.within c r, p.slowly c r d, p.rises c r d) in
            let parts : d * v ≡ e * v + (d - e) * v = ap (λ n. n * v) (let sum : d ≡ e + (d - e) = omega (arith, p.slowly c r d) in sum) ∙ add-mul e (d - e) v in
            let again = climbs v columns (r - x) (d - e) (f.1 some) s.1 (omega (arith, s.0.on some, rest, on, p.enough c (r + d) h)) in
            rw (later.0, on, rest) (omega (arith, more, times, parts, again)))
      ]

  -- the more of a stratum's subjects have the ranks of its first column, the less is added
  module _ (c : Column) (columns : List Column) (s : AreColumns (c ∷ columns)) (r a b : ℕ) (low : r ≤ a + c.later) (less : a ≤ b) (high : b ≤ r) where
    sooner : b * c.rank + added_with here columns (remaining_after c columns r b) ≤ a * c.rank + added_with here columns (remaining_after c columns r a)
    sooner = elim (eqb_tells c.later 0) [
      | inl last ↦ (let same : b ≡ a = omega (arith, low, less, high, last.1) in rw same (omega arith))
      | inr later ↦
          (let some : 0 < c.later = omega (arith, later.1) in
          let rest : r - a ≡ (r - b) + (b - a) = omega (arith, less, high) in
          let parts : b * c.rank ≡ a * c.rank + (b - a) * c.rank = ap (λ n. n * c.rank) (let sum : b ≡ a + (b - a) = omega (arith, less) in sum) ∙ add-mul a (b - a) c.rank in
          let more = climbs c.rank columns (r - b) (b - a) (floor-from c.rank columns s.1 (s.0.rises some)) s.1 (omega (arith, s.0.on some, rest, low)) in
          rw (later.0, rest) (omega (arith, parts, more)))
    ]

-- ---- along a choice

module _ (c : Column) (columns : List Column) (s : AreColumns (c ∷ columns)) (r x : ℕ) (least : r ≤ x + c.later) (here : x ≤ c.size) (most : x ≤ r) where
  pub low-rises : least_added (c ∷ columns) r ≤ x * c.rank + least_added columns (remaining_after c columns r x)
  low-rises = sooner most_here most-placing c columns s r x (min c.size r) least (omega (arith, here, most)) (omega arith)

  pub high-falls : x * c.rank + greatest_added columns (remaining_after c columns r x) ≤ greatest_added (c ∷ columns) r
  high-falls = sooner fewest_here fewest-placing c columns s r (r - c.later) x (omega arith) (omega (arith, least)) most

pub added-meet : (columns : List Column) (r : ℕ) → AreColumns columns → r ≤ left columns → least_added columns r ≤ greatest_added columns r
added-meet [] r s h = omega arith
added-meet (c ∷ columns) r s h =
    let x : ℕ = min c.size r in
    let rest = added-meet columns (remaining_after c columns r x) s.1 (remaining-within c columns s.0 r x h (omega (arith, h)) (omega arith)) in
    omega (arith, rest, high-falls c columns s r x (omega (arith, h)) (omega arith) (omega arith))

pub greatest-within : (columns : List Column) (r : ℕ) → AreColumns columns → r ≤ left columns → greatest_added columns r ≤ sum (column_ranks columns)
greatest-within [] r s h = omega arith
greatest-within (c ∷ columns) r s h =
    let times : (r - c.later) * c.rank ≤ c.size * c.rank = mul-le-mul_right c.rank (omega (arith, h)) in
    omega (arith, times, column_total c columns, greatest-within columns (remaining_after c columns r (r - c.later)) s.1 (remaining-within c columns s.0 r (r - c.later) h (omega arith) (omega arith)))

-- ---- columns stage by stage

pub columns-sound_at : (columns : List Column) → AreSound columns → AreColumns columns
columns-sound_at [] s = tt
columns-sound_at (c ∷ columns) s = (s.each 0 (omega arith), columns-sound_at columns (record { each = λ g h. later g h }))
  where
    later : (g : ℕ) → g < length columns → IsColumn (column_at columns g) (drop (g + 1) columns)
    later g h = let e : suc g + 1 ≡ suc (g + 1) = omega arith in rw e at (s.each (suc g) (omega (arith, h)))

pub sound-columns : (columns : List Column) → AreColumns columns → AreSound columns
sound-columns columns s = record { each = each columns s }
  where
    each : (columns : List Column) → AreColumns columns → (g : ℕ) → g < length columns → IsColumn (column_at columns g) (drop (g + 1) columns)
    each [] s g h = absurd (omega (arith, h))
    each (c ∷ columns) s zero h = s.0
    each (c ∷ columns) s (suc g) h = let e : suc g + 1 ≡ suc (g + 1) = omega arith in rw e (each columns s.1 g (omega (arith, h)))
