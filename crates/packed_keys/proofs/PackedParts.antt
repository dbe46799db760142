-- What the bodies of a packed network read of its keys, and what follows from its partials being digits.
use Rattle.std.proofs.Common.{◌≡◌, ℕ, ◌+◌, ◌-◌, ◌^◌, ◌<◌, ◌≤◌, List, ◌++◌, drop, length, take, refl, sym, ◌∙◌, ap, subst, arith, length-append, length-drop}
use Rattle.std.specs.Prelude.{ℤ, Bool}
use Rattle.std.specs.List.{Contains}
use Rattle.std.proofs.lemmas.List.{length-take, take-append-drop}
use Rattle.weights.specs.Conditional.{ConditionalTest}
use Rattle.weights.specs.declared.TheConstants.{MAX}
use Rattle.weights.specs.declared.tails.Tail.{Tail}
use Rattle.networks.specs.Completions.{total_weight, value_weights}
use Rattle.networks.specs.Follows.{Follows}
use Rattle.networks.specs.Judged.{judge_of}
use Rattle.networks.specs.Laws.{IsLawful}
use Rattle.networks.specs.Network.{Network, IsReached}
use Rattle.networks.specs.Rooms.{IsArc, IsPlace, IsRoomed}
use Rattle.networks.proofs.Mapping.{IsReadInOrbit, itself, mapped-follows, mapped-lawful, mapped-reached, mapped-roomed, mapped-total, mapped-values, reads-back, written-of}
use Rattle.networks.proofs.Steps.{reached-next}
use Rattle.room_network.proofs.RoomKeys.{back_is, front_is}
use Rattle.networks.specs.GoesOn.{GoesOn}
use Rattle.networks.proofs.GoingOn.{written-goes_on}
use Rattle.packed_keys.specs.PackedKeys.{packed, packed_key, packed_network, unpacked, unpacked_key}
use Rattle.packed_keys.specs.PackedSteps.{AreDigits, IsPacked}
use Rattle.packed_keys.proofs.DigitLists.{unpacked-packed}

module _ {w bits slots : ℕ} {n : Network} (i : IsPacked w bits slots n) where
  abbrev k : ℕ
  k = n.width - w

  abbrev write : List ℤ → List ℤ
  write = packed_key w (2 ^ bits)

  abbrev read : List ℤ → List ℤ
  read = unpacked_key w (2 ^ bits) k

  room-long : (g : ℕ) (key : List ℤ) → IsReached n g key → length (take w key) ≡ w
  room-long g key r = length-take w key ∙ omega (arith, i.long g key r, i.may.within)

  partial-long : (g : ℕ) (key : List ℤ) → IsReached n g key → length (drop w key) ≡ k
  partial-long g key r = length-drop w key ∙ ap (λ j. j - w) (i.long g key r)

  back : (g : ℕ) (key : List ℤ) → IsReached n g key → read (write key) ≡ key
  back g key r =
      let long : length (take w key) ≡ w = room-long g key r in
      let part : List ℤ = packed (2 ^ bits) (drop w key) in
      ap (λ room. room ++ unpacked (2 ^ bits) k (drop w (write key))) (front_is w (take w key) part long)
      ∙ ap (λ p. take w key ++ unpacked (2 ^ bits) k p) (back_is w (take w key) part long)
      ∙ ap (λ p. take w key ++ p) (unpacked-packed (2 ^ bits) k (drop w key) (partial-long g key r) (i.may.each g key r))
      ∙ take-append-drop w key

  long : (g : ℕ) (key : List ℤ) → IsReached n g key → length (write key) ≡ w + 1
  long g key r = length-append (take w key) (packed (2 ^ bits) (drop w key)) ∙ omega (arith, room-long g key r)

  kept : (g : ℕ) (key : List ℤ) → IsReached n g key → take w (write key) ≡ take w key
  kept g key r = front_is w (take w key) (packed (2 ^ bits) (drop w key)) (room-long g key r)

  -- what is packed is read back, without symmetry
  unmoved : IsReadInOrbit n itself write read
  unmoved = reads-back n write read back

  pub read-reached : (g : ℕ) (key : List ℤ) → IsReached (packed_network w bits n) g key → IsReached n g (read key)
  read-reached = mapped-reached unmoved (w + 1)

  written-back : (g : ℕ) (key : List ℤ) → IsReached (packed_network w bits n) g key → write (read key) ≡ key
  written-back g key r =
      let of = written-of unmoved (w + 1) g key r in
      ap (λ j. write (read j)) of.2 ∙ ap write (back g of.0 of.1) ∙ sym of.2

  pub packed-long : (g : ℕ) (key : List ℤ) → IsReached (packed_network w bits n) g key → length key ≡ w + 1
  packed-long g key r = ap length (sym (written-back g key r)) ∙ long g (read key) (read-reached g key r)

  room-read : (g : ℕ) (key : List ℤ) → IsReached (packed_network w bits n) g key → take w (read key) ≡ take w key
  room-read g key r = sym (kept g (read key) (read-reached g key r)) ∙ ap (take w) (written-back g key r)

  pub packed-lawful : IsLawful n → IsLawful (packed_network w bits n)
  packed-lawful =
      let h = i.may.judged.intervals in
      mapped-lawful unmoved (w + 1) i.may.judged.judge h (λ g k j r e. ap (h.low g) e) (λ g k j r e. ap (h.high g) e) (omega arith) (omega (arith, i.may.room)) long

  pub packed-roomed : IsLawful n → IsRoomed n w → IsRoomed (packed_network w bits n) w
  packed-roomed l h =
      mapped-roomed unmoved (w + 1) l w (omega arith) h
      (λ g j k a b e. kept g j a ∙ e ∙ sym (kept g k b))
      (λ g j k a b e. room-read g j a ∙ e ∙ sym (room-read g k b))

  pub packed-total : (g : ℕ) (key : List ℤ) → IsReached (packed_network w bits n) g key → total_weight (packed_network w bits n) g key ≡ total_weight n g (read key)
  packed-total g key r = mapped-total unmoved (w + 1) g key (read-reached g key r)

  pub packed-values : (p : ℤ → Bool) → value_weights (packed_network w bits n) p ≡ value_weights n p
  packed-values = mapped-values unmoved (w + 1)

  pub packed-follows : (test : ConditionalTest) (tail : Tail) → Follows test tail n → Follows test tail (packed_network w bits n)
  packed-follows test tail f = mapped-follows unmoved (w + 1) (judge_of test) f.intervals (λ g k j r e. ap (f.intervals.low g) e) (λ g k j r e. ap (f.intervals.high g) e) test tail refl f

  -- a key of a room and a partial
  pub one-number : (g : ℕ) (room partial : List ℤ) → length room ≡ w → IsReached (packed_network w bits n) g (room ++ partial) → length partial ≡ 1
  one-number g room partial l r = omega (arith, packed-long g (room ++ partial) r, length-append room partial, l)

  pub read-parts : (room partial : List ℤ) → length room ≡ w → read (room ++ partial) ≡ room ++ unpacked (2 ^ bits) k partial
  read-parts room partial l =
      ap (λ q. q ++ unpacked (2 ^ bits) k (drop w (room ++ partial))) (front_is w room partial l)
      ∙ ap (λ p. room ++ unpacked (2 ^ bits) k p) (back_is w room partial l)

  pub parts-reached : (g : ℕ) (room partial : List ℤ) → length room ≡ w → IsReached (packed_network w bits n) g (room ++ partial) → IsReached n g (room ++ unpacked (2 ^ bits) k partial)
  parts-reached g room partial l r = subst (IsReached n g) (read-parts room partial l) (read-reached g (room ++ partial) r)

  -- the one number of a reached partial
  pub is-packed : (g : ℕ) (room partial : List ℤ) → length room ≡ w → IsReached (packed_network w bits n) g (room ++ partial) → packed (2 ^ bits) (unpacked (2 ^ bits) k partial) ≡ partial
  is-packed g room partial l r =
      let key : List ℤ = room ++ partial in
      ap (packed (2 ^ bits)) (sym (back_is w room (unpacked (2 ^ bits) k partial) l) ∙ ap (drop w) (sym (read-parts room partial l)))
      ∙ sym (back_is w (take w (read key)) (packed (2 ^ bits) (drop w (read key))) (room-long g (read key) (read-reached g key r)))
      ∙ ap (drop w) (written-back g key r)
      ∙ back_is w room partial l

  pub in-place : (g : ℕ) (room : List ℤ) → IsPlace (packed_network w bits n) w g room → IsPlace n w g room
  in-place g room p = record { partial = unpacked (2 ^ bits) k p.partial; wide = p.wide; reached = parts-reached g room p.partial p.wide p.reached }

  pub in-arc : (g : ℕ) (room : List ℤ) (c : List ℕ) → IsArc (packed_network w bits n) w g room c → IsArc n w g room c
  in-arc g room c a = record {
    partial = unpacked (2 ^ bits) k a.partial;
    wide = a.wide;
    reached = parts-reached g room a.partial a.wide a.reached;
    allowed = subst (λ key. Contains (n.choices g key) c) (read-parts room a.partial a.wide) a.allowed;
  }

  -- the partial that a choice leads to has digits
  pub next-digits : (g : ℕ) (key : List ℤ) (c : List ℕ) → IsReached n g key → g < n.count → Contains (n.choices g key) c → AreDigits bits (drop w (n.next g key c))
  next-digits g key c r before o =
      let there : IsReached n (g + 1) (n.next g key c) = reached-next n g key c r before o in
      record {
        each = i.may.each (g + 1) (n.next g key c) there;
        fits = subst (λ j. (2 ^ bits) ^ j ≤ MAX + 1) (sym (partial-long (g + 1) (n.next g key c) there)) i.may.fits;
        narrow = i.may.narrow;
      }

  -- and is packed
  pub next-packed : (g : ℕ) (room partial : List ℤ) (c : List ℕ) → length room ≡ w → IsReached (packed_network w bits n) g (room ++ partial) → g < n.count → Contains (n.choices g (room ++ unpacked (2 ^ bits) k partial)) c
      → drop w ((packed_network w bits n).next g (room ++ partial) c) ≡ packed (2 ^ bits) (drop w (n.next g (room ++ unpacked (2 ^ bits) k partial) c))
  next-packed g room partial c l r before o =
      let here : IsReached n g (room ++ unpacked (2 ^ bits) k partial) = parts-reached g room partial l r in
      let next : List ℤ = n.next g (room ++ unpacked (2 ^ bits) k partial) c in
      ap (λ key. drop w (write (n.next g key c))) (read-parts room partial l)
      ∙ back_is w (take w next) (packed (2 ^ bits) (drop w next)) (room-long (g + 1) next (reached-next n g (room ++ unpacked (2 ^ bits) k partial) c here before o))

  pub first-digits : AreDigits bits (drop w n.first)
  first-digits = record {
    each = i.may.each 0 n.first refl;
    fits = subst (λ j. (2 ^ bits) ^ j ≤ MAX + 1) (sym (partial-long 0 n.first refl)) i.may.fits;
    narrow = i.may.narrow;
  }

  -- a reached key has digits
  pub key-digits : (g : ℕ) (key : List ℤ) → IsReached n g key → AreDigits bits (drop w key)
  key-digits g key r = record {
    each = i.may.each g key r;
    fits = subst (λ j. (2 ^ bits) ^ j ≤ MAX + 1) (sym (partial-long g key r)) i.may.fits;
    narrow = i.may.narrow;
  }

  -- the packed network goes on for the one whose keys it packs
  pub packed-goes_on : IsLawful n → (g : ℕ) → g ≤ n.count → GoesOn n (packed_network w bits n) g g write
  packed-goes_on l = written-goes_on unmoved (w + 1) l (λ g key j r e. ap write e) (λ t key j r e. ap (n.verdict t n.count) e)
