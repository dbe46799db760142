-- A measure of labels over their rooms: it narrows there too, and measures the same of a table.
use Rattle.std.proofs.Common.{◌≡◌, ℕ, zero, suc, ◌+◌, ◌<◌, List, [], ◌∷◌, map, length, refl, sym, ◌∙◌, ap, subst}
use Rattle.std.specs.Prelude.{ℤ, pos, ◌≤ℤ◌}
use Rattle.std.specs.List.{Contains}
use Rattle.weights.specs.Grouped.{minus}
use Rattle.room_network.specs.Meanings.{Meaning as RoomMeaning}
use Rattle.room_network.specs.Meanings.{AreReached, IsMeasure, IsMove, partial_after, way_value}
use Rattle.room_network.specs.Numbers.{Fits, IsScalar, IsOutcome, Numbers, so_far}
use Rattle.label_network.proofs.Endings.{table_value}
use Rattle.label_network.proofs.Endings.{partial_after as label_after}
use Rattle.label_network.specs.LabelNetwork.{over_rooms, over_sizes}
use Rattle.label_network.specs.LabelRooms.{label_floor}
use Rattle.label_network.specs.Meanings.{Meaning, IsPlace, number_over_columns, sizes_in}
use Rattle.label_network.specs.Meanings.{AreReached as LabelReached, IsMeasure as IsLabelMeasure}
use Rattle.label_network.proofs.LabelPlans.{sizes-back}

module _ (m : Meaning) where
  pub over_reached : (g : ℕ) (room p : List ℤ) → AreReached (over_rooms m) g room p → LabelReached m g (sizes_in room) p
  over_reached zero room p r = (ap sizes_in r.0 ∙ sizes-back m.rows, r.1)
  over_reached (suc g) room p (s, q, c, r, before, o, e, f) = (sizes_in s, q, c, over_reached g s q r, before, o, ap sizes_in e ∙ sizes-back (minus (sizes_in s) c), f)

  whole : (g : ℕ) (room p : List ℤ) → AreReached (over_rooms m) g room p → room ≡ map pos (sizes_in room)
  whole zero room p r = r.0 ∙ ap (map pos) (sym (ap sizes_in r.0 ∙ sizes-back m.rows))
  whole (suc g) room p (s, q, c, r, before, o, e, f) = e ∙ ap (map pos) (sym (ap sizes_in e ∙ sizes-back (minus (sizes_in s) c)))

  pub over_place : (g : ℕ) (room p : List ℤ) → AreReached (over_rooms m) g room p → IsPlace m g room p
  over_place g room p r = record { whole = whole g room p r; reached = over_reached g room p r }

  -- and back
  under_reached : (g : ℕ) (r : List ℕ) (p : List ℤ) → LabelReached m g r p → AreReached (over_rooms m) g (map pos r) p
  under_reached zero r p a = (ap (map pos) a.0, a.1)
  under_reached (suc g) r p (s, q, c, a, before, o, e, f) =
      (map pos s, q, c, under_reached g s q a, before, rw (sizes-back s) o, rw (sizes-back s) (ap (map pos) e), rw (sizes-back s) f)

  pub under_place : (g : ℕ) (room p : List ℤ) → IsPlace m g room p → AreReached (over_rooms m) g room p
  under_place g room p a = subst (λ f. AreReached (over_rooms m) g f p) (sym a.whole) (under_reached g (sizes_in room) p a.reached)

  rises : IsLabelMeasure m → (g : ℕ) (room p : List ℤ) (c : List ℕ) → AreReached (over_rooms m) g room p → g < length m.columns → Contains ((label_floor m.columns m.rows).choices g room) c → m.low g (sizes_in room) p ≤ℤ m.low (g + 1) (sizes_in (map pos (minus (sizes_in room) c))) (m.advance g (sizes_in room) c p)
  rises s g room p c r before o = rw (sizes-back (minus (sizes_in room) c)) (s.low_rises g (sizes_in room) p c (over_reached g room p r) before o)

  falls : IsLabelMeasure m → (g : ℕ) (room p : List ℤ) (c : List ℕ) → AreReached (over_rooms m) g room p → g < length m.columns → Contains ((label_floor m.columns m.rows).choices g room) c → m.high (g + 1) (sizes_in (map pos (minus (sizes_in room) c))) (m.advance g (sizes_in room) c p) ≤ℤ m.high g (sizes_in room) p
  falls s g room p c r before o = rw (sizes-back (minus (sizes_in room) c)) (s.high_falls g (sizes_in room) p c (over_reached g room p r) before o)

  pub over_measure : IsLabelMeasure m → IsMeasure (over_rooms m)
  over_measure s = record {
    wide = λ g room p r. s.wide g (sizes_in room) p (over_reached g room p r);
    low_rises = rises s;
    high_falls = falls s;
    low_ends = λ room p r. s.low_ends (sizes_in room) p (over_reached (length m.columns) room p r);
    high_ends = λ room p r. s.high_ends (sizes_in room) p (over_reached (length m.columns) room p r);
  }

  over_after : (g : ℕ) (r : List ℕ) (p : List ℤ) (w : List (List ℕ)) → partial_after (over_rooms m) g (map pos r) p w ≡ label_after m g r p w
  over_after g r p [] = refl
  over_after g r p (c ∷ w) = rw (sizes-back r) (over_after (g + 1) (minus r c) (m.advance g r c p) w)

  pub over_value : (w : List (List ℕ)) → way_value (over_rooms m) w ≡ table_value m w
  over_value w = ap m.value (over_after 0 m.rows m.first w)

-- a measure of one number, over sizes
module _ (columns rows : List ℕ) (n : Numbers (List ℕ)) where
  abbrev over : RoomMeaning
  over = over_rooms (number_over_columns columns rows n)

  pub over_number : IsLabelMeasure (number_over_columns columns rows n)
      → ((g : ℕ) (room : List ℤ) (c : List ℕ) (p : List ℤ) → IsMove over g room c p → Fits n.operation (so_far p) (n.step g (sizes_in room) c))
      → ((g : ℕ) (room p : List ℤ) → AreReached over g room p → IsOutcome n.operation n.judge (so_far p) (n.least g (sizes_in room)))
      → ((g : ℕ) (room p : List ℤ) → AreReached over g room p → IsOutcome n.operation n.judge (so_far p) (n.greatest g (sizes_in room)))
      → IsScalar (label_floor columns rows) (over_sizes n)
  over_number narrows steps lows highs = record {
    narrows = over_measure (number_over_columns columns rows n) narrows;
    steps = steps;
    lows = lows;
    highs = highs;
  }
