-- What the bodies of a network in order read of its keys.
use Rattle.std.proofs.Common.{◌≡◌, ℕ, ◌<◌, ◌≤◌, List, ◌++◌, length, take, drop, sym, ◌∙◌, ap, subst, arith, length-append}
use Rattle.std.specs.Prelude.{ℤ}
use Rattle.std.specs.List.{Contains}
use Rattle.networks.specs.Network.{Network, IsReached}
use Rattle.networks.specs.Rooms.{IsArc, IsPlace}
use Rattle.room_network.specs.Meanings.{Meaning}
use Rattle.room_network.specs.Plans.{Floor, Plan, alone}
use Rattle.room_network.specs.RoomNetworks.{room_network, room_of}
use Rattle.room_network.proofs.RoomKeys.{KeepsWidth, back_is, front_is, is_allowed, is_key, own_plan, weighed}
use Rattle.room_network.proofs.RoomLaws.{widths_kept}
use Rattle.symmetry_reduction.specs.ReducedNetworks.{reduced_network}
use Rattle.symmetry_reduction.specs.OrderSteps.{IsReduced}
use Rattle.symmetry_reduction.specs.declared.orders.Order.{Order}

module _ {rooms plan : Plan} {m : Meaning} {sizes : List ℕ} {order : Order} (i : IsReduced rooms plan m sizes order) where
  abbrev n : Network
  n = room_network m plan.weight

  kept : KeepsWidth m.floor
  kept = widths_kept rooms m i.sound i.its_rooms.housed

  pub in-arc : (g : ℕ) (room : List ℤ) (c : List ℕ) → IsArc (reduced_network order sizes n) m.floor.width g room c → IsArc n m.floor.width g room c
  in-arc g room c v = record { partial = v.partial; wide = v.wide; reached = i.ordered.reached g (room ++ v.partial) v.reached; allowed = v.allowed }

  pub in-place : (g : ℕ) (room : List ℤ) → IsPlace (reduced_network order sizes n) m.floor.width g room → IsPlace n m.floor.width g room
  in-place g room v = record { partial = v.partial; wide = v.wide; reached = i.ordered.reached g (room ++ v.partial) v.reached }

  -- a room is one of the rooms beside the network
  pub in-room : (g : ℕ) (room partial : List ℤ) → length room ≡ m.floor.width → IsReached n g (room ++ partial) → IsReached (alone rooms) g room
  in-room g room partial l r =
      let own : IsReached (room_network m rooms.weight) g (room ++ partial) = subst (λ w. IsReached (room_network m w) g (room ++ partial)) (sym i.its_rooms.weights) r in
      let alone_reached : IsReached (alone (weighed m rooms.weight)) g (take m.floor.width (room ++ partial)) = (is_key m rooms.weight kept g (room ++ partial) own).room in
      subst (λ p. IsReached (alone p) g room) (own_plan rooms m i.its_rooms.housed)
      (subst (IsReached (alone (weighed m rooms.weight)) g) (front_is m.floor.width room partial l) alone_reached)

  pub in-allowed : (g : ℕ) (room partial : List ℤ) (c : List ℕ) → length room ≡ m.floor.width → g < m.floor.count → Contains (n.choices g (room ++ partial)) c → Contains (rooms.floor.choices g room) c
  in-allowed g room partial c l before o =
      subst (λ (f : Floor). Contains (f.choices g room) c) (sym i.its_rooms.housed.floor_is)
      (subst (λ r. Contains (m.floor.choices g r) c) (front_is m.floor.width room partial l) (is_allowed (weighed m plan.weight) g (room_of m (room ++ partial)) c before o))

  -- a step has a room in front
  pub step-long : (g : ℕ) (room : List ℤ) (c : List ℕ) (step : List ℤ) → length room ≡ m.floor.width → step ≡ m.floor.next g room c ++ m.step g room c → length room ≤ length step
  step-long g room c step l e = omega (arith, ap length e, length-append (m.floor.next g room c) (m.step g room c), kept.next_long g room c l, l)

  -- the two parts of a step
  pub step-front : (g : ℕ) (room : List ℤ) (c : List ℕ) → length room ≡ m.floor.width → take (length room) (m.floor.next g room c ++ m.step g room c) ≡ m.floor.next g room c
  step-front g room c l = front_is (length room) (m.floor.next g room c) (m.step g room c) (kept.next_long g room c l ∙ sym l)

  pub step-back : (g : ℕ) (room : List ℤ) (c : List ℕ) → length room ≡ m.floor.width → drop (length room) (m.floor.next g room c ++ m.step g room c) ≡ m.step g room c
  step-back g room c l = back_is (length room) (m.floor.next g room c) (m.step g room c) (kept.next_long g room c l ∙ sym l)

  -- the key that a choice leads to, before its groups are put in order
  pub in-next : (g : ℕ) (room partial : List ℤ) (c : List ℕ) → length room ≡ m.floor.width → m.floor.next g room c ++ drop m.floor.width (n.next g (room ++ partial) c) ≡ n.next g (room ++ partial) c
  in-next g room partial c l =
      let here : List ℤ = take m.floor.width (room ++ partial) in
      let after : List ℤ = m.advance g (take m.floor.width (room ++ partial)) c (drop m.floor.width (room ++ partial)) in
      let same : take m.floor.width (room ++ partial) ≡ room = front_is m.floor.width room partial l in
      ap (λ q. m.floor.next g room c ++ q) (back_is m.floor.width (m.floor.next g here c) after (kept.next_long g here c (ap length same ∙ l)))
      ∙ ap (λ r. m.floor.next g r c ++ after) (sym same)
