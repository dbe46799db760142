-- The network of a measure over rooms has intervals, and is lawful.
use Rattle.std.proofs.Common.{◌≡◌, ◌≢◌, ℕ, zero, suc, ◌+◌, ◌<◌, ◌≤◌, List, [], length, AllPairs, refl, sym, ◌∙◌, ap, subst, arith, length-append, inl, inr}
use Rattle.std.specs.Prelude.{ℤ, ◌≤ℤ◌}
use Rattle.std.specs.List.{Contains}
use Rattle.std.proofs.lemmas.Bool.{cases_lt}
use Rattle.networks.specs.Network.{IsReached}
use Rattle.networks.specs.Laws.{IsLawful}
use Rattle.networks.specs.Judged.{HasIntervals}
use Rattle.networks.proofs.Judging.{intervals-inside, intervals-outside, intervals-decided}
use Rattle.room_network.specs.Meanings.{Meaning, IsMeasure}
use Rattle.room_network.specs.Plans.{Plan, IsPlan, Weights}
use Rattle.room_network.specs.RoomNetworks.{IsHoused, room_network, room_of, partial_of}
use Rattle.room_network.proofs.RoomKeys.{IsKey, KeepsWidth, choices_before, choices_past, first_total, is_allowed, is_key, own_plan, partial-next, plan_widths, room-next, weighed}

no_choice : {c : List ℕ} → Contains [] c → ⊥
no_choice (i, below, is) = omega (arith, below)

none_differ : AllPairs {X = List ℕ} ◌≢◌ []
none_differ i j d below within = absurd (omega (arith, within))

module _ (m : Meaning) (weight : Weights) (s : KeepsWidth m.floor) (t : IsMeasure m) where
  rises : (g : ℕ) (k : List ℤ) (c : List ℕ) → IsReached (room_network m weight) g k → g < m.floor.count → Contains ((room_network m weight).choices g k) c → m.low g (room_of m k) (partial_of m k) ≤ℤ m.low (g + 1) (room_of m ((room_network m weight).next g k c)) (partial_of m ((room_network m weight).next g k c))
  rises g k c r before o =
      let h : IsKey m weight s g k = is_key m weight s g k r in
      rw (room-next m weight s g k c h.long, partial-next m weight s g k c h.long) (t.low_rises g (room_of m k) (partial_of m k) c h.reached before (is_allowed (weighed m weight) g (room_of m k) c before o))

  falls : (g : ℕ) (k : List ℤ) (c : List ℕ) → IsReached (room_network m weight) g k → g < m.floor.count → Contains ((room_network m weight).choices g k) c → m.high (g + 1) (room_of m ((room_network m weight).next g k c)) (partial_of m ((room_network m weight).next g k c)) ≤ℤ m.high g (room_of m k) (partial_of m k)
  falls g k c r before o =
      let h : IsKey m weight s g k = is_key m weight s g k r in
      rw (room-next m weight s g k c h.long, partial-next m weight s g k c h.long) (t.high_falls g (room_of m k) (partial_of m k) c h.reached before (is_allowed (weighed m weight) g (room_of m k) c before o))

  pub room_intervals : HasIntervals (room_network m weight) m.judge
  room_intervals = record {
    low = λ g k. m.low g (room_of m k) (partial_of m k);
    high = λ g k. m.high g (room_of m k) (partial_of m k);
    verdicts = λ u g k r. refl;
    low_rises = rises;
    high_falls = falls;
    low_ends = λ k r. t.low_ends (room_of m k) (partial_of m k) (is_key m weight s m.floor.count k r).reached;
    high_ends = λ k r. t.high_ends (room_of m k) (partial_of m k) (is_key m weight s m.floor.count k r).reached;
  }

  pub key_long : (g : ℕ) (k : List ℤ) → IsReached (room_network m weight) g k → length k ≡ m.floor.width + m.slots
  key_long zero k r = ap length r ∙ omega (arith, length-append m.floor.first m.first, s.first_long, t.wide 0 m.floor.first m.first (refl, refl))
  key_long (suc g) k (j, c, r, before, o, e) =
      let h : IsKey m weight s g j = is_key m weight s g j r in
      let wide : length (m.advance g (room_of m j) c (partial_of m j)) ≡ m.slots = t.wide (suc g) (m.floor.next g (room_of m j) c) (m.advance g (room_of m j) c (partial_of m j)) (room_of m j, partial_of m j, c, h.reached, before, is_allowed (weighed m weight) g (room_of m j) c before o, refl, refl) in
      ap length e ∙ omega (arith, length-append (m.floor.next g (room_of m j) c) (m.advance g (room_of m j) c (partial_of m j)), s.next_long g (room_of m j) c h.long, wide)

module _ (m : Meaning) (weight : Weights) (p : IsPlan (weighed m weight)) where
  widths : KeepsWidth m.floor
  widths = plan_widths (weighed m weight) p

  some_way : (g : ℕ) (k : List ℤ) → IsReached (room_network m weight) g k → g < m.floor.count → (room_network m weight).choices g k ≢ []
  some_way g k r before e = p.some_choice g (room_of m k) (is_key m weight widths g k r).room before (sym (choices_before (weighed m weight) g (room_of m k) before) ∙ e)

  heavy : (g : ℕ) (k : List ℤ) (c : List ℕ) → IsReached (room_network m weight) g k → Contains ((room_network m weight).choices g k) c → 1 ≤ weight g (room_of m k) c
  heavy g k c r o = elim (cases_lt g m.floor.count) [
    | inl before ↦ p.weighty g (room_of m k) c (is_key m weight widths g k r).room before (is_allowed (weighed m weight) g (room_of m k) c before o)
    | inr past ↦ absurd (no_choice (subst (λ cs. Contains cs c) (choices_past (weighed m weight) g (room_of m k) (omega (arith, past))) o))
  ]

  differing : (g : ℕ) (k : List ℤ) → IsReached (room_network m weight) g k → AllPairs ◌≢◌ ((room_network m weight).choices g k)
  differing g k r = elim (cases_lt g m.floor.count) [
    | inl before ↦ subst (AllPairs ◌≢◌) (sym (choices_before (weighed m weight) g (room_of m k) before)) (p.different g (room_of m k) (is_key m weight widths g k r).room before)
    | inr past ↦ subst (AllPairs ◌≢◌) (sym (choices_past (weighed m weight) g (room_of m k) (omega (arith, past)))) none_differ
  ]

  own_lawful : IsMeasure m → 1 ≤ m.floor.width + m.slots → m.floor.width + m.slots ≤ 16 → IsLawful (room_network m weight)
  own_lawful t some few = record {
    width_least = some;
    width_most = few;
    long = key_long m weight widths t;
    some_choice = some_way;
    weighty = heavy;
    different = differing;
    ends = λ k r. choices_past (weighed m weight) m.floor.count (room_of m k) (omega arith);
    fits = rw (first_total m weight widths) p.fits;
    inside = intervals-inside (room_network m weight) m.judge (room_intervals m weight widths t);
    outside = intervals-outside (room_network m weight) m.judge (room_intervals m weight widths t);
    decided = intervals-decided (room_network m weight) m.judge (room_intervals m weight widths t);
  }

-- so for a plan of the measure's rooms
module _ (plan : Plan) (m : Meaning) (s : IsPlan plan) (h : IsHoused plan m) where
  pub room_lawful : IsMeasure m → IsLawful (room_network m plan.weight)
  room_lawful t = own_lawful m plan.weight (subst IsPlan (sym (own_plan plan m h)) s) t h.some h.few

  pub widths_kept : KeepsWidth m.floor
  widths_kept = subst KeepsWidth h.floor_is (plan_widths plan s)
