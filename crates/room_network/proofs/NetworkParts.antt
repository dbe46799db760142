-- The two parts of a reached key, as the bodies read them.
use Rattle.std.proofs.Common.{◌≡◌, ℕ, ◌+◌, ◌<◌, ◌≤◌, List, [], ◌∷◌, ◌++◌, get_or, take, drop, length, refl, sym, ◌∙◌, ap, subst, arith}
use Rattle.std.specs.Prelude.{ℤ, pos, ◌+ℤ◌}
use Rattle.std.specs.List.{Contains}
use Rattle.weights.specs.declared.tails.Tail.{Tail}
use Rattle.networks.specs.Completions.{total_weight}
use Rattle.networks.specs.Network.{IsReached}
use Rattle.networks.specs.Shifts.{IsShifting}
use Rattle.room_network.specs.Meanings.{AreReached, IsMove, IsShift, Meaning, verdict_at}
use Rattle.room_network.specs.Plans.{Floor, Plan, Weights, alone}
use Rattle.room_network.specs.RoomNetworks.{room_network, room_of}
use Rattle.room_network.specs.RoomSteps.{IsFounded}
use Rattle.room_network.proofs.RoomKeys.{IsKey, KeepsWidth, back_is, front_is, is_allowed, is_key, own_plan, room_total, weighed}
use Rattle.room_network.proofs.RoomLaws.{key_long, widths_kept}

-- of a key of stage g, and the width n of its room
pub record Parts (plan : Plan) (m : Meaning) (g n : ℕ) (k : List ℤ) : Type 0 where
  pub short : n ≤ length k
  pub room : IsReached (alone plan) g (take n k)
  pub reached : AreReached m g (take n k) (drop n k)
  pub total : total_weight (alone plan) g (take n k) ≡ total_weight (room_network m plan.weight) g k

module _ (plan : Plan) (m : Meaning) (f : IsFounded plan m) where
  kept : KeepsWidth m.floor
  kept = widths_kept plan m f.plan_sound f.housed

  parts_of : (g : ℕ) (k : List ℤ) → IsReached (room_network m plan.weight) g k → Parts (weighed m plan.weight) m g m.floor.width k
  parts_of g k r =
      let key : IsKey m plan.weight kept g k = is_key m plan.weight kept g k r in
      record {
        short = omega (arith, key_long m plan.weight kept f.measure_sound g k r);
        room = key.room;
        reached = key.reached;
        total = sym (room_total m plan.weight kept g k key.long);
      }

  pub parts : (g : ℕ) (k : List ℤ) → IsReached (room_network m plan.weight) g k → (n : ℕ) → n ≡ plan.floor.width → Parts plan m g n k
  parts g k r n e =
      let width : n ≡ m.floor.width = e ∙ ap (λ (x : Floor). x.width) f.housed.floor_is in
      subst (λ p. Parts p m g n k) (own_plan plan m f.housed) (subst (λ i. Parts (weighed m plan.weight) m g i k) (sym width) (parts_of g k r))

  -- a key put together of a room and a partial
  module _ (g : ℕ) (room partial : List ℤ) (long : length room ≡ m.floor.width) (r : IsReached (room_network m plan.weight) g (room ++ partial)) where
    pub room_reached : AreReached m g room partial
    room_reached = rw (front_is m.floor.width room partial long, back_is m.floor.width room partial long) at (is_key m plan.weight kept g (room ++ partial) r).reached

    pub room_move : g < m.floor.count → (c : List ℕ) → Contains ((room_network m plan.weight).choices g (room ++ partial)) c → IsMove m g room c partial
    room_move before c o = record {
      before = before;
      reached = room_reached;
      allowed = rw (front_is m.floor.width room partial long) at (is_allowed (weighed m plan.weight) g (room_of m (room ++ partial)) c before o);
    }

  -- where the measure's steps shift, the network's do
  pub room_shifting : IsShift m → IsShifting (room_network m plan.weight) m.floor.width m.step_width m.step
  room_shifting h = record {
    one = ap (λ n. m.floor.width + n) h.one;
    step = h.step;
    moves = λ g room p c long r before o. shifted g room p c long (h.moves g room p c (room_move g room (p ∷ []) long r before c o));
  }
    where
      shifted : (g : ℕ) (room : List ℤ) (p : ℤ) (c : List ℕ) → length room ≡ m.floor.width → m.advance g room c (p ∷ []) ≡ (p +ℤ get_or (m.step g room c) 0 (pos 0)) ∷ [] → drop m.floor.width ((room_network m plan.weight).next g (room ++ p ∷ []) c) ≡ (p +ℤ get_or (m.step g room c) 0 (pos 0)) ∷ []
      shifted g room p c long e =
          rw (front_is m.floor.width room (p ∷ []) long, back_is m.floor.width room (p ∷ []) long)
          (back_is m.floor.width (m.floor.next g room c) (m.advance g room c (p ∷ [])) (kept.next_long g room c long) ∙ e)

-- the verdict of a key put together of a room and a partial
pub room_verdict : (m : Meaning) (weight : Weights) (t : Tail) (g : ℕ) (room partial : List ℤ) → length room ≡ m.floor.width → (room_network m weight).verdict t g (room ++ partial) ≡ verdict_at m t g room partial
room_verdict m weight t g room partial long = rw (front_is m.floor.width room partial long, back_is m.floor.width room partial long) refl
