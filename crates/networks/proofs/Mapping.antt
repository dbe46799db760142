-- A network with its keys written in another way has the same laws, and ends at the same values with the same weights, where what is read of a written key is in its orbit.
use Rattle.std.proofs.Common.{◌≡◌, ℕ, zero, suc, ◌+◌, ◌*◌, ◌<◌, ◌≤◌, List, [], take, length, inl, inr, refl, sym, ◌∙◌, ap, subst, arith}
use Rattle.std.specs.Prelude.{ℤ, Bool, ◌≤ℤ◌}
use Rattle.std.specs.List.{Contains}
use Rattle.std.proofs.lemmas.Bool.{cases_lt}
use Rattle.weights.specs.declared.tails.Tail.{Tail}
use Rattle.weights.specs.declared.TheConstants.{MAX}
use Rattle.weights.specs.Conditional.{ConditionalTest}
use Rattle.networks.specs.declared.verdicts.Judge.{Judge}
use Rattle.networks.specs.Network.{Network, IsReached}
use Rattle.networks.specs.Completions.{over_arcs, total_weight, value_weights}
use Rattle.networks.specs.Follows.{Follows}
use Rattle.networks.specs.Judged.{HasIntervals, judge_of}
use Rattle.networks.specs.Laws.{IsLawful}
use Rattle.networks.specs.Lumped.{Lumped}
use Rattle.networks.specs.Mapped.{mapped}
use Rattle.networks.specs.Rooms.{AreRoommates, IsRoomed}
use Rattle.networks.specs.Symmetries.{IsSymmetry}
use Rattle.networks.proofs.Judging.{intervals-inside, intervals-outside, intervals-decided}
use Rattle.networks.proofs.Lumping.{lumped-total, lumped-values, over_allowed}
use Rattle.networks.proofs.Steps.{reached-next}

-- the keys that moves make of one
pub data InOrbit (moved : List ℤ → List ℤ → Type 0) (k : List ℤ) : List ℤ → Type 0 where
  unmoved : (j : List ℤ) → j ≡ k → InOrbit moved k j
  moved_on : (i j : List ℤ) → InOrbit moved k i → moved i j → InOrbit moved k j

moved-first : {moved : List ℤ → List ℤ → Type 0} (k i j : List ℤ) → moved k i → InOrbit moved i j → InOrbit moved k j
moved-first {moved} k i _ u (unmoved j e) = moved_on k j (unmoved k refl) (subst (λ z. moved k z) (sym e) u)
moved-first {moved} k i _ u (moved_on x j t v) = moved_on x j (moved-first k i x u t) v

-- what is read of a reached key as it is written is in its orbit
pub record IsReadInOrbit (n : Network) (moved : List ℤ → List ℤ → Type 0) (write read : List ℤ → List ℤ) : Type 0 where
  pub symmetry : IsSymmetry n moved
  pub reads : (g : ℕ) (k : List ℤ) → IsReached n g k → InOrbit moved k (read (write k))

pub within : (n : Network) (g : ℕ) (k : List ℤ) → IsReached n g k → g ≤ n.count
within n zero k r = omega arith
within n (suc g) k r = omega (arith, r.3)

-- a key that has a choice is before the last stage
before-last : {n : Network} → IsLawful n → (g : ℕ) (k : List ℤ) (c : List ℕ) → IsReached n g k → Contains (n.choices g k) c → g < n.count
before-last {n} l g k c r o = elim (cases_lt g n.count) [
  | inl before ↦ before
  | inr past ↦ (let last : n.count ≡ g = omega (arith, past, within n g k r) in
      absurd (none (subst (λ cs. Contains cs c) (subst (λ i. IsReached n i k → n.choices i k ≡ []) last (l.ends k) r) o)))
]
  where
    none : Contains [] c → ⊥
    none (i, below, is) = omega (arith, below)

module _ {n : Network} {moved : List ℤ → List ℤ → Type 0} (s : IsSymmetry n moved) where
  orbit-stays : (g : ℕ) (k j : List ℤ) → IsReached n g k → InOrbit moved k j → IsReached n g j
  orbit-stays g k _ r (unmoved j e) = subst (IsReached n g) (sym e) r
  orbit-stays g k _ r (moved_on i j t u) = s.stays g i j (orbit-stays g k i r t) u

  -- what no exchange changes of reached keys, symmetry do not change
  pub orbit-keeps : {X : Type 0} (f : List ℤ → X) (g : ℕ) → ((k j : List ℤ) → IsReached n g k → moved k j → f j ≡ f k) → (k j : List ℤ) → IsReached n g k → InOrbit moved k j → f j ≡ f k
  orbit-keeps f g e k _ r (unmoved j is) = ap f is
  orbit-keeps f g e k _ r (moved_on i j t u) = e i j (orbit-stays g k i r t) u ∙ orbit-keeps f g e k i r t

module _ {n : Network} {moved : List ℤ → List ℤ → Type 0} {write read : List ℤ → List ℤ} (m : IsReadInOrbit n moved write read) where
  pub read-back : (g : ℕ) (k : List ℤ) → IsReached n g k → IsReached n g (read (write k))
  read-back g k r = orbit-stays m.symmetry g k (read (write k)) r (m.reads g k r)

  module _ (width : ℕ) where
    abbrev q : Network
    q = mapped width write read n

    -- a reached key is read as one that n reaches, and is written of one
    pub mapped-reached : (g : ℕ) (j : List ℤ) → IsReached q g j → IsReached n g (read j)
    mapped-reached zero j e = subst (λ z. IsReached n 0 (read z)) (sym e) (read-back 0 n.first refl)
    mapped-reached (suc g) j (i, c, r, before, o, e) =
        subst (λ z. IsReached n (suc g) (read z)) (sym e)
        (read-back (suc g) (n.next g (read i) c) (read i, c, mapped-reached g i r, before, o, refl))

    pub written-of : (g : ℕ) (j : List ℤ) → IsReached q g j → (k : List ℤ) × IsReached n g k × (j ≡ write k)
    written-of zero j e = (n.first, refl, e)
    written-of (suc g) j (i, c, r, before, o, e) = (n.next g (read i) c, (read i, c, mapped-reached g i r, before, o, refl), e)

    -- so each key goes on as those do that are read as symmetry of it
    abbrev pub alike : ℕ → List ℤ → List ℤ → Type 0
    alike g k j = IsReached n g k × InOrbit moved k (read j)

    same-moved : (f h : List ℤ → ℕ) (g : ℕ) → ((k j : List ℤ) → alike g k j → f k ≡ h j) → (k j : List ℤ) → IsReached n g k → moved k j → f j ≡ f k
    same-moved f h g same k j r u =
        let there : IsReached n g j = m.symmetry.stays g k j r u in
        same j (write j) (there, m.reads g j there)
        ∙ sym (same k (write j) (r, moved-first k j (read (write j)) u (m.reads g j there)))

    pub mapped-lumped : Lumped n q alike
    mapped-lumped = record {
      count = refl;
      first = (refl, m.reads 0 n.first refl);
      arcs = λ f h g k j before a same.
          sym (orbit-keeps m.symmetry (over_arcs n f g) g (λ x y r u. m.symmetry.arcs f g x y (same-moved f h (g + 1) same) r u before) k (read j) a.0 a.1)
          ∙ over_allowed (n.choices g (read j)) (λ c. n.weight g (read j) c * f (n.next g (read j) c)) (λ c. n.weight g (read j) c * h (write (n.next g (read j) c))) (λ c o.
          let next : List ℤ = n.next g (read j) c in
          let there : IsReached n (g + 1) next = reached-next n g (read j) c (orbit-stays m.symmetry g k (read j) a.0 a.1) before o in
          ap (λ v. n.weight g (read j) c * v) (same next (write next) (there, m.reads (g + 1) next there)));
    }

    -- as much weight ends at values that pass, and the completions of a key weigh as much
    pub mapped-values : (p : ℤ → Bool) → value_weights q p ≡ value_weights n p
    mapped-values p = sym (lumped-values mapped-lumped (λ k j a. sym (orbit-keeps m.symmetry n.value n.count m.symmetry.ends k (read j) a.0 a.1)) p)

    pub mapped-total : (g : ℕ) (j : List ℤ) → IsReached n g (read j) → total_weight q g j ≡ total_weight n g (read j)
    mapped-total g j r = sym (lumped-total mapped-lumped g (read j) j (within n g (read j) r) (r, unmoved (read j) refl))

    -- where no exchange changes the interval of a key
    module _ (judge : Judge) (h : HasIntervals n judge) (low : (g : ℕ) (k j : List ℤ) → IsReached n g k → moved k j → h.low g j ≡ h.low g k) (high : (g : ℕ) (k j : List ℤ) → IsReached n g k → moved k j → h.high g j ≡ h.high g k) where
      even : (f : List ℤ → ℤ) (g : ℕ) → ((k j : List ℤ) → IsReached n g k → moved k j → f j ≡ f k) → (k : List ℤ) → IsReached n g k → f k ≡ f (read (write k))
      even f g e k r = sym (orbit-keeps m.symmetry f g e k (read (write k)) r (m.reads g k r))

      mapped-intervals : HasIntervals q judge
      mapped-intervals = record {
        low = λ g k. h.low g (read k);
        high = λ g k. h.high g (read k);
        verdicts = λ t g k r. h.verdicts t g (read k) (mapped-reached g k r);
        low_rises = λ g k c r before o. (let here : IsReached n g (read k) = mapped-reached g k r in
            subst (λ z. h.low g (read k) ≤ℤ z) (even (h.low (g + 1)) (g + 1) (low (g + 1)) (n.next g (read k) c) (reached-next n g (read k) c here before o)) (h.low_rises g (read k) c here before o));
        high_falls = λ g k c r before o. (let here : IsReached n g (read k) = mapped-reached g k r in
            subst (λ z. z ≤ℤ h.high g (read k)) (even (h.high (g + 1)) (g + 1) (high (g + 1)) (n.next g (read k) c) (reached-next n g (read k) c here before o)) (h.high_falls g (read k) c here before o));
        low_ends = λ k r. h.low_ends (read k) (mapped-reached n.count k r);
        high_ends = λ k r. h.high_ends (read k) (mapped-reached n.count k r);
      }

      pub mapped-lawful : 1 ≤ width → width ≤ 16 → ((g : ℕ) (k : List ℤ) → IsReached n g k → length (write k) ≡ width) → IsLawful n → IsLawful q
      mapped-lawful least most long l = record {
        width_least = least;
        width_most = most;
        long = λ g k r. (let of = written-of g k r in ap length of.2 ∙ long g of.0 of.1);
        some_choice = λ g k r before. l.some_choice g (read k) (mapped-reached g k r) before;
        weighty = λ g k c r o. l.weighty g (read k) c (mapped-reached g k r) o;
        different = λ g k r. l.different g (read k) (mapped-reached g k r);
        ends = λ k r. l.ends (read k) (mapped-reached n.count k r);
        fits = subst (λ w. w ≤ MAX) (lumped-total mapped-lumped 0 n.first (write n.first) (omega arith) mapped-lumped.first) l.fits;
        inside = intervals-inside q judge mapped-intervals;
        outside = intervals-outside q judge mapped-intervals;
        decided = intervals-decided q judge mapped-intervals;
      }

      pub mapped-follows : (test : ConditionalTest) (tail : Tail) → judge ≡ judge_of test → Follows test tail n → Follows test tail q
      mapped-follows test tail e f = record { intervals = subst (HasIntervals q) e mapped-intervals; ends = λ p. mapped-values p ∙ f.ends p }

    -- where keys of one room are written and read as keys of one room
    pub mapped-roomed : IsLawful n → (w : ℕ) → w ≤ width → IsRoomed n w
        → ((g : ℕ) (j k : List ℤ) → IsReached n g j → IsReached n g k → take w j ≡ take w k → take w (write j) ≡ take w (write k))
        → ((g : ℕ) (j k : List ℤ) → IsReached q g j → IsReached q g k → take w j ≡ take w k → take w (read j) ≡ take w (read k))
        → IsRoomed q w
    mapped-roomed l w fits h by_write by_read = record {
      within = fits;
      choices = λ g j k a. h.choices g (read j) (read k) (mates g j k a);
      weight = λ g j k c a o. h.weight g (read j) (read k) c (mates g j k a) o;
      next = λ g j k c a o.
          let both : AreRoommates n w g (read j) (read k) = mates g j k a in
          let before : g < n.count = before-last l g (read k) c both.second o in
          by_write (g + 1) (n.next g (read j) c) (n.next g (read k) c)
          (reached-next n g (read j) c both.first before (subst (λ cs. Contains cs c) (sym (h.choices g (read j) (read k) both)) o))
          (reached-next n g (read k) c both.second before o)
          (h.next g (read j) (read k) c both o);
    }
      where
        mates : (g : ℕ) (j k : List ℤ) → AreRoommates q w g j k → AreRoommates n w g (read j) (read k)
        mates g j k a = record { first = mapped-reached g j a.first; second = mapped-reached g k a.second; same = by_read g j k a.first a.second a.same }

-- what is written may be read back as it was: then no exchange is needed
abbrev pub itself : List ℤ → List ℤ → Type 0
itself k j = j ≡ k

pub reads-back : (n : Network) (write read : List ℤ → List ℤ) → ((g : ℕ) (k : List ℤ) → IsReached n g k → read (write k) ≡ k) → IsReadInOrbit n itself write read
reads-back n write read back = record {
  symmetry = record {
    stays = λ g k j r e. subst (IsReached n g) (sym e) r;
    arcs = λ f g k j even r e before. ap (over_arcs n f g) e;
    ends = λ k j r e. ap n.value e;
  };
  reads = λ g k r. unmoved (read (write k)) (back g k r);
}
