-- What each choice keeps, and what narrows along each choice, makes a measure.
use Rattle.std.proofs.Common.{◌≡◌, ℕ, zero, suc, ◌+◌, ◌-◌, ◌<◌, List, [], ◌∷◌, length, drop, true, refl, sym, subst, arith, add-one, nat_le}
use Rattle.std.specs.Prelude.{ℤ, ◌≤ℤ◌, slice_index}
use Rattle.std.specs.List.{sum, Contains}
use Rattle.std.proofs.lemmas.Bool.{le-leb, leb-true}
use Rattle.std.proofs.lemmas.List.Elements.{All-contains, All-from_recursion}
use Rattle.std.proofs.lemmas.List.Sums.{sum_by-drop_more}
use Rattle.weights.specs.Grouped.{choices, fits, minus}
use Rattle.weights.proofs.ChoiceLists.{IsChoice, choices-each}
use Rattle.weights.proofs.Sized.{sum-minus, first_and}
use Rattle.later_scores.specs.LaterSums.{later_scores}
use Rattle.later_scores.proofs.Later.{later-length}
use Rattle.label_network.specs.Meanings.{Meaning, AreReached, IsMeasure}

pub chosen : (c : ℕ) (r x : List ℕ) → Contains (choices c r) x → IsChoice c r x
chosen c r x a = All-contains (IsChoice c r) (choices c r) x (All-from_recursion _ _ (choices-each c r)) a

pub minus-within : (r x s : List ℕ) → fits x r ≡ true → fits r s ≡ true → fits (minus r x) s ≡ true
minus-within [] [] s f h = h
minus-within [] (a ∷ x) s f h = absurd (cc f)
minus-within (r ∷ rs) [] s f h = absurd (cc f)
minus-within (r ∷ rs) (a ∷ x) [] f h = absurd (cc h)
minus-within (r ∷ rs) (a ∷ x) (s ∷ ss) f h =
    let two = first_and (nat_le r s) (fits rs ss) h in
    rw (le-leb (r - a) s (omega (arith, (leb-true r s two.0))), minus-within rs x ss (first_and (nat_le a r) (fits x rs) f).1 two.1) refl

pub fits-self : (r : List ℕ) → fits r r ≡ true
fits-self [] = refl
fits-self (r ∷ rs) = rw (le-leb r r (omega arith), fits-self rs) refl

-- the sizes are those of the columns to come, and no more than there were
pub record AreLeft (columns rows : List ℕ) (g : ℕ) (r : List ℕ) : Type 0 where
  pub whole : sum (drop g columns) ≡ sum r
  pub within : fits r rows ≡ true

abbrev pub IsLeft : Meaning → ℕ → List ℕ → Type 0
IsLeft m = AreLeft m.columns m.rows

-- an interval that narrows along each choice and ends at the value; `kept` says what is known of a partial
pub record IsNarrowing (m : Meaning) (kept : ℕ → List ℕ → List ℤ → Type 0) : Type 0 where
  pub keeps : (g : ℕ) (r x : List ℕ) (p : List ℤ) → g < length m.columns → IsLeft m g r → IsChoice (slice_index m.columns g) r x → kept g r p → kept (g + 1) (minus r x) (m.advance g r x p)
  pub rises : (g : ℕ) (r x : List ℕ) (p : List ℤ) → g < length m.columns → IsLeft m g r → IsChoice (slice_index m.columns g) r x → kept g r p → m.low g r p ≤ℤ m.low (g + 1) (minus r x) (m.advance g r x p)
  pub falls : (g : ℕ) (r x : List ℕ) (p : List ℤ) → g < length m.columns → IsLeft m g r → IsChoice (slice_index m.columns g) r x → kept g r p → m.high (g + 1) (minus r x) (m.advance g r x p) ≤ℤ m.high g r p
  pub low_end : (r : List ℕ) (p : List ℤ) → IsLeft m (length m.columns) r → kept (length m.columns) r p → m.low (length m.columns) r p ≡ m.value p
  pub high_end : (r : List ℕ) (p : List ℤ) → IsLeft m (length m.columns) r → kept (length m.columns) r p → m.high (length m.columns) r p ≡ m.value p

module _ (columns rows : List ℕ) (level : sum columns ≡ sum rows) where
  pub left-first : AreLeft columns rows 0 rows
  left-first = record { whole = level; within = fits-self rows }

  pub left-next : (g : ℕ) (r x : List ℕ) → g < length columns → AreLeft columns rows g r → IsChoice (slice_index columns g) r x → AreLeft columns rows (g + 1) (minus r x)
  left-next g r x h l c =
      record {
        whole = omega (arith, (sum_by-drop_more (λ v. v) columns g 0 h), l.whole, c.whole, sum-minus r x c.fitting);
        within = minus-within r x rows c.fitting l.within;
      }

module _ (m : Meaning) (level : sum m.columns ≡ sum m.rows) where
  pub reached-left : (g : ℕ) (r : List ℕ) (p : List ℤ) → AreReached m g r p → IsLeft m g r
  reached-left zero r p a = subst (λ s. IsLeft m 0 s) (sym a.0) (left-first m.columns m.rows level)
  reached-left (suc g) r p (s, q, c, a, before, o, e, f) = rw (e, ← add-one) (left-next m.columns m.rows level g s c before (reached-left g s q a) (chosen (slice_index m.columns g) s c o))

  module _ (kept : ℕ → List ℕ → List ℤ → Type 0) (i : IsNarrowing m kept) (starts : kept 0 m.rows m.first) where
    pub reached-kept : (g : ℕ) (r : List ℕ) (p : List ℤ) → AreReached m g r p → kept g r p
    reached-kept zero r p a = rw (a.0, a.1) starts
    reached-kept (suc g) r p (s, q, c, a, before, o, e, f) = rw (e, f, ← add-one) (i.keeps g s c q before (reached-left g s q a) (chosen (slice_index m.columns g) s c o) (reached-kept g s q a))

    pub measured : ((g : ℕ) (r : List ℕ) (p : List ℤ) → kept g r p → length p ≡ m.slots) → IsMeasure m
    measured wide = record {
      level = level;
      wide = λ g r p a. wide g r p (reached-kept g r p a);
      low_rises = λ g r p c a h o. i.rises g r c p h (reached-left g r p a) (chosen (slice_index m.columns g) r c o) (reached-kept g r p a);
      high_falls = λ g r p c a h o. i.falls g r c p h (reached-left g r p a) (chosen (slice_index m.columns g) r c o) (reached-kept g r p a);
      low_ends = λ r p a. i.low_end r p (reached-left (length m.columns) r p a) (reached-kept (length m.columns) r p a);
      high_ends = λ r p a. i.high_end r p (reached-left (length m.columns) r p a) (reached-kept (length m.columns) r p a);
    }

-- what remains is what the column takes and the later subjects
pub sizes-next : (m : Meaning) (scores : List ℤ) (g : ℕ) (r : List ℕ) → length scores ≡ length m.columns → g < length m.columns → IsLeft m g r → sum r ≡ slice_index m.columns g + length (later_scores scores m.columns (g + 1))
sizes-next m scores g r e h l =
    omega (arith, later-length scores m.columns (g + 1) e, (sum_by-drop_more (λ v. v) m.columns g 0 h), l.whole)
