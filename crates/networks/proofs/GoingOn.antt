-- A network goes on for another one where its keys are that one's, written in another way that tells no moved keys apart; where it judges otherwise on the way; and where it goes on for one that does.
use Rattle.std.proofs.Common.{◌≡◌, ℕ, zero, suc, ◌+◌, ◌*◌, ◌≤◌, List, refl, sym, ◌∙◌, ap, arith}
use Rattle.std.specs.Prelude.{ℤ}
use Rattle.weights.specs.declared.tails.Tail.{Tail}
use Rattle.node_pool.specs.Nodes.{key_eq}
use Rattle.networks.specs.declared.stages.Verdict.{Verdict}
use Rattle.networks.specs.declared.verdicts.Judge.{Judge}
use Rattle.networks.specs.Completions.{over_arcs}
use Rattle.networks.specs.Judged.{HasIntervals, rule_in, verdict_of}
use Rattle.networks.specs.Laws.{IsLawful}
use Rattle.networks.specs.Lumped.{IsImage, Lumped}
use Rattle.networks.specs.Mapped.{mapped}
use Rattle.networks.specs.Network.{Network, IsReached}
use Rattle.networks.specs.Symmetries.{IsSymmetry}
use Rattle.networks.proofs.Elements.{term-le-sum_by}
use Rattle.networks.proofs.Lumping.{lumped-by, lumped-extreme, lumped-total}
use Rattle.networks.proofs.Mapping.{IsReadInOrbit, mapped-lumped, orbit-keeps}
use Rattle.networks.proofs.Writing.{led, leads, one_where, some_term}
use Rattle.networks.specs.GoesOn.{GoesOn, GoesOnAlike}

-- ---- keys written in another way

module _ {n : Network} {moved : List ℤ → List ℤ → Type 0} {write read : List ℤ → List ℤ} (m : IsReadInOrbit n moved write read) (width : ℕ) where
  abbrev q : Network
  q = mapped width write read n

  -- where moved keys are written alike, what is written of a reached key is reached
  module _ (l : IsLawful n) (even : (g : ℕ) (k j : List ℤ) → IsReached n g k → moved k j → write j ≡ write k) where
    pub written-reached : (g : ℕ) (k : List ℤ) → IsReached n g k → IsReached q g (write k)
    written-reached zero k e = ap write e
    written-reached (suc g) k (j, c, r, before, o, e) =
        let at : List ℤ = read (write j) in
        let to : List ℤ → ℕ = λ i. one_where (key_eq (write i) (write k)) in
        let one : 1 ≤ n.weight g j c * to (n.next g j c) = leads (n.weight g j c) (write (n.next g j c)) (write k) (l.weighty g j c r o) (ap write (sym e)) in
        let among : n.weight g j c * to (n.next g j c) ≤ over_arcs n to g j = term-le-sum_by (λ d. n.weight g j d * to (n.next g j d)) (n.choices g j) c o in
        let same : over_arcs n to g at ≡ over_arcs n to g j =
        orbit-keeps m.symmetry (over_arcs n to g) g (λ x y s u. m.symmetry.arcs to g x y (λ a b v w. ap (λ z. one_where (key_eq z (write k))) (even (g + 1) a b v w)) s u before) j at r (m.reads g j r) in
        let found = some_term (λ d. n.weight g at d * to (n.next g at d)) (n.choices g at) (omega (arith, one, among, same)) in
        (write j, found.0, written-reached g j r, before, found.1, sym (led (n.weight g at found.0) (write (n.next g at found.0)) (write k) found.2))

    -- so the network goes on for that one, where moved keys of the last stage are judged alike
    pub written-goes_on : ((t : Tail) (k j : List ℤ) → IsReached n n.count k → moved k j → n.verdict t n.count j ≡ n.verdict t n.count k) → (g : ℕ) → g ≤ n.count → GoesOn n q g g write
    written-goes_on judged g h = record {
      within = h;
      reached = written-reached g;
      total = λ k r. sym (lumped-total (mapped-lumped m width) g k (write k) h (r, m.reads g k r));
      extreme = λ t k r. sym (lumped-extreme (mapped-lumped m width) t
          (λ i j a. sym (orbit-keeps m.symmetry (n.verdict t n.count) n.count (judged t) i (read j) a.0 a.1))
          g k (write k) h (r, m.reads g k r));
    }

-- moved keys are judged alike at the last stage where intervals judge, and moves keep the value
pub ends-alike : {n : Network} {moved : List ℤ → List ℤ → Type 0} → IsSymmetry n moved → (judge : Judge) → HasIntervals n judge
    → (t : Tail) (k j : List ℤ) → IsReached n n.count k → moved k j → n.verdict t n.count j ≡ n.verdict t n.count k
ends-alike {n} s judge h t k j r u =
    let there : IsReached n n.count j = s.stays n.count k j r u in
    let value = s.ends k j r u in
    h.verdicts t n.count j there
    ∙ ap (λ z. verdict_of (rule_in judge t) z (h.high n.count j)) (h.low_ends j there ∙ value ∙ sym (h.low_ends k r))
    ∙ ap (verdict_of (rule_in judge t) (h.low n.count k)) (h.high_ends j there ∙ value ∙ sym (h.high_ends k r))
    ∙ sym (h.verdicts t n.count k r)

-- ---- keys judged otherwise on the way

module _ (n : Network) (verdict : Tail → ℕ → List ℤ → Verdict) where
  abbrev pub judged_by : Network
  judged_by = record n { verdict = verdict }

  pub judged-reached : (g : ℕ) (k : List ℤ) → IsReached n g k → IsReached judged_by g k
  judged-reached zero k e = e
  judged-reached (suc g) k (j, c, r, before, o, e) = (j, c, judged-reached g j r, before, o, e)

  judged-lumped : Lumped n judged_by (IsImage (λ k. k) n)
  judged-lumped = lumped-by (λ k. k) n judged_by refl refl (λ f g k r before. refl)

  pub judged-goes_on : (judge : Judge) → HasIntervals n judge → HasIntervals judged_by judge → (g : ℕ) → g ≤ n.count → GoesOn n judged_by g g (λ k. k)
  judged-goes_on judge one other g h = record {
    within = h;
    reached = judged-reached g;
    total = λ k r. sym (lumped-total judged-lumped g k k h (r, refl));
    extreme = λ t k r. sym (lumped-extreme judged-lumped t (λ i j a.
        let same : i ≡ j = sym a.1 in
        let there : IsReached judged_by n.count i = judged-reached n.count i a.0 in
        one.verdicts t n.count i a.0
        ∙ ap (λ z. verdict_of (rule_in judge t) z (one.high n.count i)) (one.low_ends i a.0 ∙ sym (other.low_ends i there))
        ∙ ap (verdict_of (rule_in judge t) (other.low n.count i)) (one.high_ends i a.0 ∙ sym (other.high_ends i there))
        ∙ sym (other.verdicts t n.count i there)
        ∙ ap (verdict t n.count) same)
        g k k h (r, refl));
  }

  pub judged-alike : (judge : Judge) → HasIntervals n judge → HasIntervals judged_by judge → GoesOnAlike n judged_by
  judged-alike judge one other = record { wide = refl; goes_on = judged-goes_on judge one other }

-- ---- one after another

pub goes_on-then : {n q r : Network} {g h i : ℕ} {first second : List ℤ → List ℤ} → GoesOn n q g h first → GoesOn q r h i second → GoesOn n r g i (λ k. second (first k))
goes_on-then {first = first} one other = record {
  within = other.within;
  reached = λ k r. other.reached (first k) (one.reached k r);
  total = λ k r. other.total (first k) (one.reached k r) ∙ one.total k r;
  extreme = λ t k r. other.extreme t (first k) (one.reached k r) ∙ one.extreme t k r;
}

-- a network goes on for itself
pub itself-goes_on : (n : Network) (g : ℕ) → g ≤ n.count → GoesOn n n g g (λ k. k)
itself-goes_on n g h = record { within = h; reached = λ k r. r; total = λ k r. refl; extreme = λ t k r. refl }
