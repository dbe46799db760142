-- What a reached key of a network of rooms has, and its completions: the ways of its room.
use Rattle.std.proofs.Common.{◌≡◌, ℕ, zero, suc, ◌+◌, ◌-◌, ◌*◌, ◌<◌, ◌≤◌, List, [], ◌∷◌, ◌++◌, map, take, drop, length, Bool, refl, sym, ◌∙◌, ap, subst}
use Rattle.std.specs.Prelude.{ℤ}
use Rattle.std.specs.List.{sum_by, filter, Contains}
use Rattle.std.proofs.lemmas.Bool.{lt-ltb, le-ltb}
use Rattle.std.proofs.Math.Seq.{take-append_seam, drop-append_seam}
use Rattle.networks.specs.Network.{IsReached}
use Rattle.networks.specs.Completions.{paths, completions, path_weight, path_end, total_weight, ending_weight, value_weights}
use Rattle.weights.proofs.Chosen.{one_if}
use Rattle.weights.proofs.Filters.{flat_map-same, filter-same}
use Rattle.weights.proofs.GroupingLaw.{one-times}
use Rattle.weights.proofs.Sums.{sum_by-same, sum_by-filter}
use Rattle.room_network.specs.Meanings.{Meaning, AreReached, partial_after, way_value}
use Rattle.room_network.specs.Plans.{Floor, Plan, IsPlan, Weights, alone, ways, way_weight}
use Rattle.room_network.specs.RoomNetworks.{IsHoused, room_network, room_of, partial_of}

pub front_is : (n : ℕ) (room ys : List ℤ) → length room ≡ n → take n (room ++ ys) ≡ room
front_is n room ys e = rw (← e) (take-append_seam room ys)

pub back_is : (n : ℕ) (room ys : List ℤ) → length room ≡ n → drop n (room ++ ys) ≡ ys
back_is n room ys e = rw (← e) (drop-append_seam room ys)

pub choices_before : (p : Plan) (g : ℕ) (room : List ℤ) → g < p.floor.count → (alone p).choices g room ≡ p.floor.choices g room
choices_before p g room h = rw (lt-ltb g p.floor.count h) refl

pub choices_past : (p : Plan) (g : ℕ) (room : List ℤ) → p.floor.count ≤ g → (alone p).choices g room ≡ []
choices_past p g room h = rw (le-ltb g p.floor.count h) refl

pub is_allowed : (p : Plan) (g : ℕ) (room : List ℤ) (c : List ℕ) → g < p.floor.count → Contains ((alone p).choices g room) c → Contains (p.floor.choices g room) c
is_allowed p g room c h a = subst (λ cs. Contains cs c) (choices_before p g room h) a

-- the plan of a measure's own rooms
abbrev pub weighed : Meaning → Weights → Plan
weighed m weight = record { floor = m.floor; weight = weight }

pub own_plan : (plan : Plan) (m : Meaning) → IsHoused plan m → weighed m plan.weight ≡ plan
own_plan plan m h = ap (λ floor. record { floor = floor; weight = plan.weight }) (sym h.floor_is)

-- all rooms have as many numbers
pub record KeepsWidth (floor : Floor) : Type 0 where
  pub first_long : length floor.first ≡ floor.width
  pub next_long : (g : ℕ) (room : List ℤ) (c : List ℕ) → length room ≡ floor.width → length (floor.next g room c) ≡ floor.width

pub plan_widths : (p : Plan) → IsPlan p → KeepsWidth p.floor
plan_widths p s = record { first_long = s.first_long; next_long = s.next_long }

module _ (m : Meaning) (weight : Weights) (s : KeepsWidth m.floor) where
  pub room-first : room_of m (room_network m weight).first ≡ m.floor.first
  room-first = front_is m.floor.width m.floor.first m.first s.first_long

  pub partial-first : partial_of m (room_network m weight).first ≡ m.first
  partial-first = back_is m.floor.width m.floor.first m.first s.first_long

  pub room-next : (g : ℕ) (k : List ℤ) (c : List ℕ) → length (room_of m k) ≡ m.floor.width → room_of m ((room_network m weight).next g k c) ≡ m.floor.next g (room_of m k) c
  room-next g k c e = front_is m.floor.width (m.floor.next g (room_of m k) c) (m.advance g (room_of m k) c (partial_of m k)) (s.next_long g (room_of m k) c e)

  pub partial-next : (g : ℕ) (k : List ℤ) (c : List ℕ) → length (room_of m k) ≡ m.floor.width → partial_of m ((room_network m weight).next g k c) ≡ m.advance g (room_of m k) c (partial_of m k)
  partial-next g k c e = back_is m.floor.width (m.floor.next g (room_of m k) c) (m.advance g (room_of m k) c (partial_of m k)) (s.next_long g (room_of m k) c e)

  next-long : (g : ℕ) (k : List ℤ) (c : List ℕ) → length (room_of m k) ≡ m.floor.width → length (room_of m ((room_network m weight).next g k c)) ≡ m.floor.width
  next-long g k c e = ap length (room-next g k c e) ∙ s.next_long g (room_of m k) c e

  first-long : length (room_of m (room_network m weight).first) ≡ m.floor.width
  first-long = ap length room-first ∙ s.first_long

  -- what every reached key has
  pub record IsKey (g : ℕ) (k : List ℤ) : Type 0 where
    pub long : length (room_of m k) ≡ m.floor.width
    pub room : IsReached (alone (weighed m weight)) g (room_of m k)
    pub reached : AreReached m g (room_of m k) (partial_of m k)

  pub is_key : (g : ℕ) (k : List ℤ) → IsReached (room_network m weight) g k → IsKey g k
  is_key zero k r = rw r (record { long = first-long; room = room-first; reached = (room-first, partial-first) })
  is_key (suc g) k (j, c, r, before, o, e) =
      let past : IsKey g j = is_key g j r in
      let room : room_of m k ≡ m.floor.next g (room_of m j) c = ap (room_of m) e ∙ room-next g j c past.long in
      let partial : partial_of m k ≡ m.advance g (room_of m j) c (partial_of m j) = ap (partial_of m) e ∙ partial-next g j c past.long in
      record {
        long = ap length room ∙ s.next_long g (room_of m j) c past.long;
        room = (room_of m j, c, past.room, before, o, room);
        reached = (room_of m j, partial_of m j, c, past.reached, before, is_allowed (weighed m weight) g (room_of m j) c before o, room, partial);
      }

  -- the completions of a key are the ways of its room
  paths_are : (n g : ℕ) (k : List ℤ) → length (room_of m k) ≡ m.floor.width → paths (room_network m weight) n g k ≡ paths (alone (weighed m weight)) n g (room_of m k)
  paths_are zero g k l = refl
  paths_are (suc n) g k l =
      flat_map-same (λ c. map (λ cs. c ∷ cs) (paths (room_network m weight) n (g + 1) ((room_network m weight).next g k c))) (λ c. map (λ cs. c ∷ cs) (paths (alone (weighed m weight)) n (g + 1) (m.floor.next g (room_of m k) c)))
      (λ c. ap (map (λ cs. c ∷ cs)) (paths_are n (g + 1) ((room_network m weight).next g k c) (next-long g k c l) ∙ ap (paths (alone (weighed m weight)) n (g + 1)) (room-next g k c l)))
      ((alone (weighed m weight)).choices g (room_of m k))

  path_weight_is : (g : ℕ) (k : List ℤ) (w : List (List ℕ)) → length (room_of m k) ≡ m.floor.width → path_weight (room_network m weight) g k w ≡ path_weight (alone (weighed m weight)) g (room_of m k) w
  path_weight_is g k [] l = refl
  path_weight_is g k (c ∷ w) l =
      ap (λ n. weight g (room_of m k) c * n)
      (path_weight_is (g + 1) ((room_network m weight).next g k c) w (next-long g k c l) ∙ ap (λ r. path_weight (alone (weighed m weight)) (g + 1) r w) (room-next g k c l))

  path_end_is : (g : ℕ) (k : List ℤ) (w : List (List ℕ)) → length (room_of m k) ≡ m.floor.width → partial_of m (path_end (room_network m weight) g k w) ≡ partial_after m g (room_of m k) (partial_of m k) w
  path_end_is g k [] l = refl
  path_end_is g k (c ∷ w) l =
      path_end_is (g + 1) ((room_network m weight).next g k c) w (next-long g k c l)
      ∙ rw (room-next g k c l, partial-next g k c l) refl

  -- so what remains of a key weighs what remains of its room
  pub room_total : (g : ℕ) (k : List ℤ) → length (room_of m k) ≡ m.floor.width → total_weight (room_network m weight) g k ≡ total_weight (alone (weighed m weight)) g (room_of m k)
  unfolding total_weight
  room_total g k l =
      ap (sum_by (path_weight (room_network m weight) g k)) (paths_are (m.floor.count - g) g k l)
      ∙ sum_by-same (path_weight (room_network m weight) g k) (path_weight (alone (weighed m weight)) g (room_of m k)) (λ w. path_weight_is g k w l) (completions (alone (weighed m weight)) g (room_of m k))

  pub first_total : total_weight (room_network m weight) 0 (room_network m weight).first ≡ total_weight (alone (weighed m weight)) 0 m.floor.first
  first_total = room_total 0 (room_network m weight).first first-long ∙ ap (total_weight (alone (weighed m weight)) 0) room-first

  -- as much weight ends at values that pass as ways have a value that does
  pub room_ending : (p : ℤ → Bool) → value_weights (room_network m weight) p ≡ sum_by (λ w. way_weight (weighed m weight) w * one_if (p (way_value m w))) (ways (weighed m weight))
  unfolding ending_weight
  room_ending p =
      let n = room_network m weight in
      let all : List (List (List ℕ)) = ways (weighed m weight) in
      ap (λ us. sum_by (path_weight n 0 n.first) (filter (λ w. p (n.value (path_end n 0 n.first w))) us)) (paths_are (m.floor.count - 0) 0 n.first first-long ∙ ap (paths (alone (weighed m weight)) (m.floor.count - 0) 0) room-first)
      ∙ ap (sum_by (path_weight n 0 n.first)) (filter-same (λ w. p (n.value (path_end n 0 n.first w))) (λ w. p (way_value m w)) (λ w. ap p (ap m.value (path_end_is 0 n.first w first-long ∙ rw (room-first, partial-first) refl))) all)
      ∙ sum_by-filter (path_weight n 0 n.first) (λ w. p (way_value m w)) all
      ∙ sum_by-same _ _ (λ w. sym (one-times (path_weight n 0 n.first w) (p (way_value m w))) ∙ ap (λ a. a * one_if (p (way_value m w))) (path_weight_is 0 n.first w first-long ∙ ap (λ r. path_weight (alone (weighed m weight)) 0 r w) room-first)) all
