-- What the bodies of a network of packed groups read of its keys, and where a choice that leaves the groups in order leads.
use Rattle.std.proofs.Common.{◌≡◌, ℕ, ◌+◌, ◌-◌, ◌^◌, ◌<◌, ◌≤◌, List, [], ◌∷◌, ◌++◌, drop, get_or, length, map, take, true, false, Bool, refl, sym, ◌∙◌, ap, subst, arith, length-append}
use Rattle.std.specs.Prelude.{ℤ, pos, ◌+ℤ◌, nat_abs, unsigned_abs}
use Rattle.std.specs.List.{AllByRecursion, Contains}
use Rattle.weights.specs.declared.TheConstants.{MAX}
use Rattle.networks.specs.Network.{Network, IsReached}
use Rattle.networks.specs.Rooms.{IsArc}
use Rattle.networks.proofs.Steps.{reached-next}
use Rattle.room_network.specs.Meanings.{AreReached, IsMove, Meaning}
use Rattle.room_network.specs.Plans.{Plan}
use Rattle.room_network.specs.RoomNetworks.{room_network}
use Rattle.room_network.proofs.RoomKeys.{KeepsWidth, back_is, front_is, is_allowed, is_key, weighed}
use Rattle.room_network.proofs.RoomLaws.{widths_kept}
use Rattle.networks.specs.PartialSums.{plus}
use Rattle.symmetry_reduction.specs.OrderedGroups.{groups_in_order, stay}
use Rattle.symmetry_reduction.specs.declared.orders.Order.{Order}
use Rattle.symmetry_reduction.specs.ReducedNetworks.{reduced_network}
use Rattle.symmetry_reduction.proofs.PlaceOrder.{order-is}
use Rattle.packed_keys.specs.PackedGroups.{shift, shifting_step}
use Rattle.packed_keys.specs.PackedKeys.{IsDigit, numeral, packed_network, unpacked}
use Rattle.packed_keys.specs.PackedSteps.{AreDigits, IsPacked, IsPackedGroups}
use Rattle.packed_keys.proofs.AddedDigits.{added-digits, numeral-plus}
use Rattle.packed_keys.proofs.DigitLists.{number-small}
use Rattle.packed_keys.proofs.PackedParts.{in-arc, is-packed, next-digits, next-packed, parts-reached, read-parts}

-- ---- the numbers in front of a step

pub shift-back : (base : ℕ) (stays : Bool) (added rest : List ℤ) → drop 2 (shift base stays added ++ rest) ≡ rest
shift-back base true added rest = refl
shift-back base false added rest = refl

shift-long : (base : ℕ) (stays : Bool) (added rest : List ℤ) → 2 ≤ length (shift base stays added ++ rest)
shift-long base true added rest = omega arith
shift-long base false added rest = omega arith

pub step-long : (order : Order) (bits : ℕ) (left added step : List ℤ) → step ≡ shifting_step order bits left added → 2 ≤ length step
step-long order bits left added step e = subst (λ z. 2 ≤ length z) (sym e) (shift-long (2 ^ bits) (stay order left) added (left ++ added))

pub step-behind : (order : Order) (bits : ℕ) (left added step : List ℤ) → step ≡ shifting_step order bits left added → drop 2 step ≡ left ++ added
step-behind order bits left added step e = ap (drop 2) e ∙ shift-back (2 ^ bits) (stay order left) added (left ++ added)

shift-stays : (base : ℕ) (stays : Bool) (added rest : List ℤ) → get_or (shift base stays added ++ rest) 0 (pos 0) ≡ pos 1
    → (stays ≡ true) × (get_or (shift base stays added ++ rest) 1 (pos 0) ≡ pos (numeral base (map nat_abs added)))
shift-stays base true added rest e = (refl, refl)
shift-stays base false added rest e = absurd (none (ap nat_abs e))
  where
    none : ◌≡◌ {A = ℕ} 0 1 → ⊥
    none h = omega (arith, h)

module _ {plan : Plan} {m : Meaning} {sizes : List ℕ} {order : Order} {bits : ℕ} (i : IsPackedGroups plan m sizes order bits) where
  abbrev o : Network
  o = reduced_network order sizes (room_network m plan.weight)

  abbrev w : ℕ
  w = m.floor.width

  abbrev k : ℕ
  k = (m.floor.width + m.slots) - m.floor.width

  pub packed-of : IsPacked m.floor.width bits k (reduced_network order sizes (room_network m plan.weight))
  packed-of = record { slots_are = refl; may = i.may; long = i.ordered.ordered.lawful.long }

  kept : KeepsWidth m.floor
  kept = widths_kept i.rooms m i.ordered.sound i.ordered.its_rooms.housed

  is-move : (g : ℕ) (room partial : List ℤ) (c : List ℕ) → length room ≡ w → IsReached o g (room ++ partial) → g < m.floor.count → Contains (o.choices g (room ++ partial)) c → IsMove m g room c partial
  is-move g room partial c l r before h =
      let key : List ℤ = room ++ partial in
      let front : take w key ≡ room = front_is w room partial l in
      let back : drop w key ≡ partial = back_is w room partial l in
      record {
        before = before;
        reached =
            subst (λ p. AreReached m g room p) back
            (subst (λ q. AreReached m g q (drop w key)) front
            (is_key m plan.weight kept g key (i.ordered.ordered.reached g key r)).reached);
        allowed =
            subst (λ q. Contains (m.floor.choices g q) c) front
            (is_allowed (weighed m plan.weight) g (take w key) c before h);
      }

  -- what a choice that leaves the groups in order adds
  module _ (g : ℕ) (room partial : List ℤ) (c : List ℕ) (l : length room ≡ m.floor.width) (r : IsReached (reduced_network order sizes (room_network m plan.weight)) g (room ++ partial)) (before : g < m.floor.count) (h : Contains ((reduced_network order sizes (room_network m plan.weight)).choices g (room ++ partial)) c) (stays : stay order (m.floor.next g room c) ≡ true) where
    abbrev key : List ℤ
    key = room ++ partial

    abbrev added : List ℤ
    added = m.step g room c

    move : IsMove m g room c partial
    move = is-move g room partial c l r before h

    partial-long : length partial ≡ m.slots
    partial-long = omega (arith, i.ordered.ordered.lawful.long g key r, length-append room partial, l)

    added-long : length added ≡ length partial
    added-long = i.adds.wide g room c partial move ∙ i.adds.steps ∙ sym partial-long

    pub next-plus : drop w (o.next g key c) ≡ plus partial added
    next-plus =
        let left : List ℤ = m.floor.next g room c in
        let left_long : length left ≡ w = kept.next_long g room c l in
        let sum : List ℤ = plus partial added in
        ap (λ q. drop w (groups_in_order order sizes (m.floor.next g q c ++ m.advance g q c (drop w key)))) (front_is w room partial l)
        ∙ ap (λ p. drop w (groups_in_order order sizes (left ++ m.advance g room c p))) (back_is w room partial l)
        ∙ ap (λ p. drop w (groups_in_order order sizes (left ++ p))) (i.adds.moves g room c partial move stays)
        ∙ ap (drop w) (order-is order sizes left sum (left_long ∙ i.ordered.its_rooms.width) true stays)
        ∙ back_is w left sum left_long

    each : AllByRecursion (IsDigit (2 ^ bits)) partial
    each = subst (AllByRecursion (IsDigit (2 ^ bits))) (back_is w room partial l) (i.may.each g key r)

    next-each : AllByRecursion (IsDigit (2 ^ bits)) (plus partial added)
    next-each = subst (AllByRecursion (IsDigit (2 ^ bits))) next-plus (i.may.each (g + 1) (o.next g key c) (reached-next o g key c r before h))

    pub step-digits : AreDigits bits added
    step-digits = record {
      each = added-digits (2 ^ bits) partial added added-long each (i.adds.held g room c partial move) next-each;
      fits = subst (λ j. (2 ^ bits) ^ j ≤ MAX + 1) (sym (omega (arith, added-long, partial-long))) i.may.fits;
      narrow = i.may.narrow;
    }

    pub numbers-plus : numeral (2 ^ bits) (map nat_abs (drop w (o.next g key c))) ≡ numeral (2 ^ bits) (map nat_abs partial) + numeral (2 ^ bits) (map nat_abs added)
    numbers-plus = ap (λ p. numeral (2 ^ bits) (map nat_abs p)) next-plus ∙ numeral-plus (2 ^ bits) partial added added-long each (i.adds.held g room c partial move)

    pub numbers-fit : numeral (2 ^ bits) (map nat_abs partial) + numeral (2 ^ bits) (map nat_abs added) ≤ MAX
    numbers-fit = subst (λ s. s ≤ MAX) numbers-plus (number-small bits (drop w (o.next g key c)) (next-digits packed-of g key c r before h))

  abbrev packed_groups : Network
  packed_groups = packed_network m.floor.width bits (reduced_network order sizes (room_network m plan.weight))

  pub in-digits : (g : ℕ) (room : List ℤ) (c : List ℕ) → IsArc packed_groups w g room c → g < m.floor.count → stay order (m.floor.next g room c) ≡ true → AreDigits bits (m.step g room c)
  in-digits g room c v before stays =
      let there : IsArc o w g room c = in-arc packed-of g room c v in
      step-digits g room there.partial c there.wide there.reached before there.allowed stays

  -- a step whose first number is 1 has a second one, which leads a partial on
  pub added-next : (g : ℕ) (room partial : List ℤ) (c : List ℕ) (step : List ℤ) → length room ≡ w → IsReached packed_groups g (room ++ partial) → g < m.floor.count → Contains (packed_groups.choices g (room ++ partial)) c
      → step ≡ shifting_step order bits (m.floor.next g room c) (m.step g room c) → get_or step 0 (pos 0) ≡ pos 1
      → (unsigned_abs (get_or partial 0 (pos 0)) + unsigned_abs (get_or step 1 (pos 0)) ≤ MAX) × ((get_or partial 0 (pos 0) +ℤ get_or step 1 (pos 0)) ∷ [] ≡ drop w (packed_groups.next g (room ++ partial) c))
  added-next g room partial c step l r before h e one =
      let numbers : List ℤ = unpacked (2 ^ bits) k partial in
      let left : List ℤ = m.floor.next g room c in
      let added : List ℤ = m.step g room c in
      let here : IsReached o g (room ++ numbers) = parts-reached packed-of g room partial l r in
      let allowed : Contains (o.choices g (room ++ numbers)) c = subst (λ key. Contains (o.choices g key) c) (read-parts packed-of room partial l) h in
      let both = shift-stays (2 ^ bits) (stay order left) added (left ++ added) (ap (λ s. get_or s 0 (pos 0)) (sym e) ∙ one) in
      let first : get_or partial 0 (pos 0) ≡ pos (numeral (2 ^ bits) (map nat_abs numbers)) = ap (λ p. get_or p 0 (pos 0)) (sym (is-packed packed-of g room partial l r)) in
      let second : get_or step 1 (pos 0) ≡ pos (numeral (2 ^ bits) (map nat_abs added)) = ap (λ s. get_or s 1 (pos 0)) e ∙ both.1 in (
        rw (first, second) (numbers-fit g room numbers c l here before allowed both.0),
        rw (first, second) (ap (λ n. pos n ∷ []) (sym (numbers-plus g room numbers c l here before allowed both.0)) ∙ sym (next-packed packed-of g room partial c l r before allowed)),
      )
