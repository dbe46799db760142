-- Where symmetry of groups of equal size keep what is asked of a network, its keys may be put in order.
use Rattle.std.proofs.Common.{◌≡◌, ℕ, zero, suc, ◌+◌, ◌*◌, ◌≤◌, List, length, take, drop, true, false, cond, refl, sym, ◌∙◌, ap, subst, arith, length-drop}
use Rattle.std.specs.Prelude.{ℤ, Bool}
use Rattle.std.proofs.lemmas.List.{length-map, length-take}
use Rattle.weights.specs.Conditional.{ConditionalTest}
use Rattle.weights.specs.InOrder.{in_order}
use Rattle.weights.specs.declared.tails.Tail.{Tail}
use Rattle.weights.proofs.OneOrder.{length-in_order}
use Rattle.networks.specs.Completions.{over_arcs, value_weights}
use Rattle.networks.specs.Follows.{Follows}
use Rattle.networks.specs.Judged.{judge_of}
use Rattle.networks.specs.Laws.{IsLawful}
use Rattle.networks.specs.Network.{Network, IsReached}
use Rattle.networks.specs.Rooms.{IsRoomed}
use Rattle.networks.specs.declared.verdicts.Judge.{Judge}
use Rattle.networks.proofs.Mapping.{IsReadInOrbit, InOrbit, mapped-follows, mapped-lawful, mapped-lumped, mapped-reached, mapped-roomed, mapped-total, mapped-values, orbit-keeps, read-back, moved_on, unmoved}
use Rattle.networks.specs.GoesOn.{GoesOn}
use Rattle.networks.proofs.Elements.{term-le-sum_by}
use Rattle.networks.proofs.GoingOn.{ends-alike}
use Rattle.networks.proofs.Lumping.{lumped-extreme, lumped-total}
use Rattle.networks.proofs.Writing.{led, leads, one_where, some_term}
use Rattle.node_pool.specs.Nodes.{key_eq}
use Rattle.symmetry_reduction.specs.OrderedGroups.{IsExchange, groups_in_order, lefts, may_precede, places_of, sorted_groups, stay, sums}
use Rattle.symmetry_reduction.specs.ReducedNetworks.{MayBeReduced, reduced_network}
use Rattle.symmetry_reduction.specs.OrderSteps.{StaysLawful}
use Rattle.symmetry_reduction.specs.declared.orders.Order.{Order}
use Rattle.symmetry_reduction.specs.declared.orders.Order.TheVariants.{Sums}
use Rattle.symmetry_reduction.specs.declared.places.Place.{Place}
use Rattle.symmetry_reduction.proofs.EvenOrder.{sorted-even}
use Rattle.symmetry_reduction.proofs.PlaceOrder.{front-key, length-places, order-folds, order-room, room_in_order}

module _ (order : Order) {sizes : List ℕ} {n : Network} {judge : Judge} (a : MayBeReduced sizes n judge) (l : IsLawful n) where
  -- a key is put in order within its orbit, and read as it stands
  by-symmetry : IsReadInOrbit n (IsExchange sizes) (groups_in_order order sizes) (λ k. k)
  by-symmetry = record {
    symmetry = a.symmetry;
    reads = λ g k r.
        order-folds order sizes (InOrbit (IsExchange sizes) k) (λ i j t u. moved_on i j t u) k
        (length-take (length sizes) k ∙ omega (arith, l.long g k r, a.wide))
        (length-drop (length sizes) k ∙ omega (arith, l.long g k r, a.wide))
        (unmoved k refl);
  }

  -- the room of a key in order, which the room decides
  abbrev room_of : List ℤ → List ℤ
  room_of room = cond (stay order room) room (room_in_order sizes room)

  room-sorted : (g : ℕ) (k : List ℤ) → IsReached n g k → take (length sizes) (groups_in_order order sizes k) ≡ room_of (take (length sizes) k)
  room-sorted g k r = by (stay order (take (length sizes) k))
    where
      by : (b : Bool) → take (length sizes) (cond b k (sorted_groups sizes k)) ≡ cond b (take (length sizes) k) (room_in_order sizes (take (length sizes) k))
      by true = refl
      by false =
          let room : List ℤ = take (length sizes) k in
          let partial : List ℤ = drop (length sizes) k in
          let ps : List Place = in_order may_precede (places_of sizes room partial) in
          let room_long : length room ≡ length sizes = length-take (length sizes) k ∙ omega (arith, l.long g k r, a.wide) in
          let partial_long : length partial ≡ length sizes = length-drop (length sizes) k ∙ omega (arith, l.long g k r, a.wide) in
          let long : length (lefts ps) ≡ length sizes = length-map ps (λ (p : Place). p.left) ∙ length-in_order may_precede (places_of sizes room partial) ∙ length-places sizes room partial room_long partial_long in
          front-key (length sizes) (lefts ps) (sums ps) long ∙ order-room sizes room partial partial_long

  pub stays-lawful : IsRoomed n (length sizes) → StaysLawful order sizes n
  stays-lawful rooms = record {
    few = a.few;
    wide = a.wide;
    lawful = mapped-lawful by-symmetry n.width judge a.intervals a.low a.high l.width_least l.width_most (λ g k r. l.long g (groups_in_order order sizes k) (read-back by-symmetry g k r)) l;
    roomed =
        mapped-roomed by-symmetry n.width l (length sizes) rooms.within rooms
        (λ g j k x y e. room-sorted g j x ∙ ap room_of e ∙ sym (room-sorted g k y))
        (λ g j k x y e. e);
    reached = mapped-reached by-symmetry n.width;
    total = mapped-total by-symmetry n.width;
  }

  pub reduced-reached : (g : ℕ) (k : List ℤ) → IsReached (reduced_network order sizes n) g k → IsReached n g k
  reduced-reached = mapped-reached by-symmetry n.width

  pub reduced-values : (p : ℤ → Bool) → value_weights (reduced_network order sizes n) p ≡ value_weights n p
  reduced-values = mapped-values by-symmetry n.width

  pub reduced-follows : (test : ConditionalTest) (tail : Tail) → judge ≡ judge_of test → Follows test tail n → Follows test tail (reduced_network order sizes n)
  reduced-follows = mapped-follows by-symmetry n.width judge a.intervals a.low a.high

-- ---- in order, the network goes on for the one that is not

module _ (order : Order) {sizes : List ℕ} {n : Network} {judge : Judge} (a : MayBeReduced sizes n judge) (l : IsLawful n) where
  abbrev q : Network
  q = reduced_network order sizes n

  abbrev sorted : List ℤ → List ℤ
  sorted k = groups_in_order Sums sizes k

  sorted-alike : (g : ℕ) (k j : List ℤ) → IsReached n g k → IsExchange sizes k j → sorted j ≡ sorted k
  sorted-alike g k j r u = sorted-even sizes k j (l.long g k r ∙ a.wide) u

  -- Each key that is reached has one in order that is reached, of one that is sorted as it is.
  record IsFound (g : ℕ) (k : List ℤ) : Type 0 where
    of : List ℤ
    reached : IsReached n g of
    same : sorted of ≡ sorted k
    there : IsReached q g (groups_in_order order sizes of)

  found : (g : ℕ) (k : List ℤ) → IsReached n g k → IsFound g k
  found zero k e = record { of = k; reached = e; same = refl; there = ap (groups_in_order order sizes) e }
  found (suc g) k (j, c, r, before, o, e) =
      let past : IsFound g j = found g j r in
      let at : List ℤ = groups_in_order order sizes past.of in
      let to : List ℤ → ℕ = λ i. one_where (key_eq (sorted i) (sorted k)) in
      let one : 1 ≤ n.weight g j c * to (n.next g j c) = leads (n.weight g j c) (sorted (n.next g j c)) (sorted k) (l.weighty g j c r o) (ap sorted (sym e)) in
      let among : n.weight g j c * to (n.next g j c) ≤ over_arcs n to g j = term-le-sum_by (λ d. n.weight g j d * to (n.next g j d)) (n.choices g j) c o in
      let arcs : (o : Order) (i : List ℤ) → IsReached n g i → over_arcs n to g (groups_in_order o sizes i) ≡ over_arcs n to g i = λ o i s.
      orbit-keeps a.symmetry (over_arcs n to g) g (λ x y v u. a.symmetry.arcs to g x y (λ b d w z. ap (λ v. one_where (key_eq v (sorted k))) (sorted-alike (g + 1) b d w z)) v u before) i (groups_in_order o sizes i) s ((by-symmetry o a l).reads g i s) in
      let same : over_arcs n to g at ≡ over_arcs n to g j = arcs order past.of past.reached ∙ sym (arcs Sums past.of past.reached) ∙ ap (over_arcs n to g) past.same ∙ arcs Sums j r in
      let next = some_term (λ d. n.weight g at d * to (n.next g at d)) (n.choices g at) (omega (arith, one, among, same)) in
      record {
        of = n.next g at next.0;
        reached = (at, next.0, read-back (by-symmetry order a l) g past.of past.reached, before, next.1, refl);
        same = led (n.weight g at next.0) (sorted (n.next g at next.0)) (sorted k) next.2;
        there = (at, next.0, past.there, before, next.1, refl);
      }

  -- from a stage where no groups stay as they stand
  pub reduced-goes_on : (g : ℕ) → g ≤ n.count → ((k : List ℤ) → IsReached n g k → stay order (take (length sizes) k) ≡ false) → GoesOn n q g g (groups_in_order order sizes)
  reduced-goes_on g h moved = record {
    within = h;
    reached = λ k r.
        let here : IsFound g k = found g k r in
        let all : (i : List ℤ) → IsReached n g i → groups_in_order order sizes i ≡ sorted i = λ i s. ap (λ b. cond b i (sorted_groups sizes i)) (moved i s) in
        subst (IsReached q g) (all here.of here.reached ∙ here.same ∙ sym (all k r)) here.there;
    total = λ k r. sym (lumped-total (mapped-lumped (by-symmetry order a l) n.width) g k (groups_in_order order sizes k) h (r, (by-symmetry order a l).reads g k r));
    extreme = λ t k r. sym (lumped-extreme (mapped-lumped (by-symmetry order a l) n.width) t
        (λ i j b. sym (orbit-keeps a.symmetry (n.verdict t n.count) n.count (ends-alike a.symmetry judge a.intervals t) i j b.0 b.1))
        g k (groups_in_order order sizes k) h (r, (by-symmetry order a l).reads g k r));
  }
