-- A measure that waits for the last column is sound.
use Rattle.std.proofs.Common.{◌≡◌, ◌≢◌, ℕ, zero, suc, ◌-◌, List, length, Bool, true, false, refl, sym, ◌∙◌, ap, arith, inl, inr}
use Rattle.std.specs.Prelude.{ℤ, int_le, if◌then◌else◌}
use Rattle.std.specs.List.{AllByRecursion, Contains}
use Rattle.std.proofs.lemmas.Bool.{cases_lt, le-ltb, lt-ltb}
use Rattle.weights.specs.declared.tails.Tail.{Tail}
use Rattle.networks.specs.declared.stages.Verdict.{Verdict}
use Rattle.networks.specs.declared.stages.Verdict.TheVariants.{Inside, Outside, Undecided}
use Rattle.networks.specs.Completions.{completions, ends_inside, is_inside}
use Rattle.networks.specs.Laws.{IsSound}
use Rattle.networks.specs.Network.{Network}
use Rattle.label_network.specs.Meanings.{sizes_in}
use Rattle.label_network.specs.Measures.{AreReached, IsMeasure, Measured, allowed, measured_network, partial_of}
use Rattle.label_network.proofs.Narrowing.{chosen}
use Rattle.label_network.proofs.Rows.{fits-long, length-abs, length-pos}
use Rattle.worked_surface.specs.FirstColumn.{first_column, so_far}

module _ (columns rows : List ℕ) (least : ℤ) where
  abbrev m : Measured
  m = first_column columns rows least

  abbrev n : Network
  n = measured_network m

  pub one_number : (g : ℕ) (r p : List ℤ) → AreReached m g r p → length p ≡ 1
  one_number zero r p a = ap length a.1
  one_number (suc g) r p (s, q, c, a, before, o, e, f) = ap length f

  -- before the end nothing is known, and at the end nothing is left to choose
  waits : (v : Verdict) (extreme : Bool) → v ≢ Undecided → is_inside v ≡ extreme → IsSound n v extreme
  waits v extreme known is t g k r within e = elim (cases_lt g (length columns)) [
    | inl before ↦ absurd (known (sym e ∙ rw (lt-ltb g (length columns) before) refl))
    | inr past ↦ ended (omega (arith, past, within)) e
  ]
    where
      ended : g ≡ length columns → n.verdict t g k ≡ v → AllByRecursion (λ cs. ends_inside n t g k cs ≡ extreme) (completions n g k)
      ended last e =
          let none : length columns - length columns ≡ 0 = omega arith in
          rw (last, none) (ap is_inside (rw last at e) ∙ is, tt)

  decides : (t : Tail) (k : List ℤ) → n.verdict t (length columns) k ≢ Undecided
  decides t k = rw (le-ltb (length columns) (length columns) (omega arith)) (by (int_le least (so_far (partial_of m k))))
    where
      by : (b : Bool) → (if b then Inside else Outside) ≢ Undecided
      by true e = cc
      by false e = cc

  pub first_column_sound : IsMeasure m
  first_column_sound = record {
    wide = one_number;
    inside = waits Inside true (λ e. cc) refl;
    outside = waits Outside false (λ e. cc) refl;
    decided = λ t k r. decides t k;
  }

  -- a choice for the first column has a count for each row
  pub choice_long : (r p : List ℤ) (c : List ℕ) → AreReached m 0 r p → Contains (allowed m 0 r) c → length c ≡ length rows
  choice_long r p c a o = fits-long c (sizes_in r) (chosen _ (sizes_in r) c o).fitting ∙ length-abs r ∙ ap length a.0 ∙ length-pos rows
