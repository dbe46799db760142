-- A measure by intervals is a measure: its verdicts are sound.
use Rattle.std.proofs.Common.{◌≡◌, ℕ, zero, suc, ◌<◌, List, length, sym, ap, subst}
use Rattle.std.specs.Prelude.{ℤ}
use Rattle.std.specs.List.{Contains}
use Rattle.networks.specs.Judged.{HasIntervals}
use Rattle.networks.proofs.Judging.{intervals-decided, intervals-inside, intervals-outside}
use Rattle.room_network.specs.Meanings.{IsEnd, IsMove, Meaning}
use Rattle.room_network.specs.Meanings.{AreReached as AreReachedRooms, IsMeasure as IsRoomMeasure}
use Rattle.room_network.specs.Plans.{Floor}
use Rattle.room_network.specs.RoomNetworks.{room_network}
use Rattle.room_network.proofs.RoomLaws.{room_intervals}
use Rattle.label_network.specs.LabelRooms.{label_floor, label_weight}
use Rattle.label_network.specs.Measures.{AreReached, IsMeasure, Measured, allowed, by_intervals}
use Rattle.label_network.specs.Measures.{IsEnd as IsLabelEnd}
use Rattle.label_network.proofs.LabelPlans.{label_width}

module _ (columns rows : List ℕ) (m : Meaning) where
  -- the measure of just these rooms
  abbrev over : Floor → Meaning
  over floor = record {
    floor = floor;
    slots = m.slots;
    step_width = m.step_width;
    outlook_width = m.outlook_width;
    first = m.first;
    step = m.step;
    advance = m.advance;
    outlook = m.outlook;
    value = m.value;
    low = m.low;
    high = m.high;
    judge = m.judge;
  }

  abbrev own : Meaning
  own = over (label_floor columns rows)

  abbrev labels : Measured
  labels = by_intervals columns rows m

  own_reached : (g : ℕ) (r p : List ℤ) → AreReached labels g r p → AreReachedRooms own g r p
  own_reached zero r p a = a
  own_reached (suc g) r p (s, q, c, a, before, o, e, f) = (s, q, c, own_reached g s q a, before, o, e, f)

  own_measure : IsRoomMeasure own → IsMeasure labels
  own_measure s =
      let h : HasIntervals (room_network own label_weight) m.judge = room_intervals own label_weight (label_width columns rows) s in
      record {
        wide = λ g r p a. s.wide g r p (own_reached g r p a);
        inside = intervals-inside (room_network own label_weight) m.judge h;
        outside = intervals-outside (room_network own label_weight) m.judge h;
        decided = intervals-decided (room_network own label_weight) m.judge h;
      }

  module _ (e : label_floor columns rows ≡ m.floor) where
    own_is : own ≡ m
    own_is = ap over e

    pub interval_measure : IsRoomMeasure m → IsMeasure labels
    interval_measure s = own_measure (subst IsRoomMeasure (sym own_is) s)

    pub room_reached : (g : ℕ) (r p : List ℤ) → AreReached labels g r p → AreReachedRooms m g r p
    room_reached g r p a = subst (λ n. AreReachedRooms n g r p) own_is (own_reached g r p a)

    pub room_move : (g : ℕ) (r p : List ℤ) (c : List ℕ) → g < length columns → AreReached labels g r p → Contains (allowed labels g r) c → IsMove m g r c p
    room_move g r p c before a o = subst (λ n. IsMove n g r c p) own_is (record { before = before; reached = own_reached g r p a; allowed = o })

    pub room_end : (p : List ℤ) → IsLabelEnd labels p → IsEnd m p
    room_end p h = subst (λ n. IsEnd n p) own_is (record { room = h.remaining; reached = own_reached (length columns) h.remaining p h.reached })
