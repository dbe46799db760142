-- The measure of the worked labels narrows along every choice, and passes no limit.
use Rattle.std.proofs.Common.{◌≡◌, ℕ, zero, suc, ◌+◌, ◌-◌, ◌*◌, ◌<◌, ◌≤◌, List, [], ◌∷◌, length, nat_le, refl, sym, ◌∙◌, ap, subst, arith, lit≤}
use Rattle.std.specs.Prelude.{ℤ, pos, ◌+ℤ◌, ◌≤ℤ◌, slice_index}
use Rattle.std.specs.List.{sum}
use Rattle.std.proofs.lemmas.Bool.{leb-true}
use Rattle.std.proofs.lemmas.Int.{ints}
use Rattle.std.proofs.lemmas.List.{get_or-replicate}
use Rattle.weights.specs.declared.TheConstants.{MAX}
use Rattle.weights.specs.declared.tails.Tail.{Tail}
use Rattle.weights.specs.declared.tails.Tail.TheVariants.{Less, Greater, Two}
use Rattle.weights.specs.Grouped.{fits, minus}
use Rattle.weights.specs.Rules.{RuleFits, rule_of}
use Rattle.weights.proofs.ChoiceLists.{IsChoice}
use Rattle.weights.proofs.Sized.{first_and}
use Rattle.weights.proofs.CellSums.{sum-two}
use Rattle.networks.specs.declared.verdicts.Judge.{Judge}
use Rattle.networks.specs.Judged.{JudgeFits, judge_of}
use Rattle.networks.proofs.Following.{judge-fits}
use Rattle.networks.proofs.Judging.{fits-between}
use Rattle.room_network.specs.Meanings.{AreReached, IsMove}
use Rattle.room_network.specs.Numbers.{Fits, IsScalar, IsOutcome, so_far}
use Rattle.room_network.specs.declared.numbers.Operation.TheVariants.{Sum}
use Rattle.label_network.specs.LabelNetwork.{over_rooms, over_sizes}
use Rattle.label_network.specs.LabelRooms.{label_floor}
use Rattle.label_network.specs.LabelSteps.{AreSizes}
use Rattle.label_network.specs.Meanings.{Meaning, number_over_columns, sizes_in}
use Rattle.label_network.proofs.Narrowing.{IsNarrowing, chosen, measured, reached-kept}
use Rattle.label_network.proofs.OverRooms.{over_number, over_place, over_reached}
use Rattle.label_network.proofs.Rows.{length-abs}
use Rattle.label_network.proofs.Sizes.{sizes-of_pos}
use Rattle.worked_networks.specs.LabelRanks.{first_ranks, last_ranks, rank_numbers, rank_test, samples, six}

-- a choice gives one subject to the first sample or to the second
record IsPut (x y : ℕ) (c : List ℕ) : Type 0 where
  first : ℕ
  second : ℕ
  counts : c ≡ first ∷ second ∷ []
  one : first + second ≡ 1
  first_left : first ≤ x
  second_left : second ≤ y

put-is : (x y : ℕ) (c : List ℕ) → IsChoice 1 (x ∷ y ∷ []) c → IsPut x y c
put-is x y [] o = absurd (omega (arith, o.long))
put-is x y (a ∷ []) o = absurd (omega (arith, o.long))
put-is x y (a ∷ b ∷ []) o =
    let one = first_and (nat_le a x) (fits (b ∷ []) (y ∷ [])) o.fitting in
    let two = first_and (nat_le b y) (fits [] []) one.1 in
    record { first = a; second = b; counts = refl; one = omega (arith, o.whole, sum-two a b); first_left = leb-true a x one.0; second_left = leb-true b y two.0 }
put-is x y (a ∷ b ∷ d ∷ c) o = absurd (omega (arith, o.long))

-- the sizes that remain, and the sum so far
record IsSeat (g : ℕ) (r : List ℕ) (p : List ℤ) : Type 0 where
  first : ℕ
  second : ℕ
  so : ℕ
  sizes : r ≡ first ∷ second ∷ []
  left : g + first + second ≡ 6
  few : second ≤ 3
  partial : p ≡ pos so ∷ []
  small : so ≤ 12 * g

-- what is to come, before and after a choice

low-step : (g y b : ℕ) → b ≤ y → b ≤ 1 → y ≤ 3 → first_ranks g y ≤ 2 * (g + 1) * b + first_ranks (g + 1) (y - b)
low-step g zero zero h o f = omega arith
low-step g zero (suc b) h o f = absurd (omega (arith, h))
low-step g (suc zero) zero h o f = omega arith
low-step g (suc (suc zero)) zero h o f = omega arith
low-step g (suc (suc (suc zero))) zero h o f = omega arith
low-step g (suc zero) (suc zero) h o f = omega arith
low-step g (suc (suc zero)) (suc zero) h o f = omega arith
low-step g (suc (suc (suc zero))) (suc zero) h o f = omega arith
low-step g (suc (suc (suc (suc y)))) b h o f = absurd (omega (arith, f))
low-step g (suc y) (suc (suc b)) h o f = absurd (omega (arith, o))

high-step : (g y b : ℕ) → b ≤ y → b ≤ 1 → y ≤ 3 → g + y ≤ 6 → 2 * (g + 1) * b + last_ranks (y - b) ≤ last_ranks y
high-step g zero zero h o f l = omega arith
high-step g zero (suc b) h o f l = absurd (omega (arith, h))
high-step g (suc zero) zero h o f l = omega arith
high-step g (suc (suc zero)) zero h o f l = omega arith
high-step g (suc (suc (suc zero))) zero h o f l = omega arith
high-step g (suc zero) (suc zero) h o f l = omega (arith, l)
high-step g (suc (suc zero)) (suc zero) h o f l = omega (arith, l)
high-step g (suc (suc (suc zero))) (suc zero) h o f l = omega (arith, l)
high-step g (suc (suc (suc (suc y)))) b h o f l = absurd (omega (arith, f))
high-step g (suc y) (suc (suc b)) h o f l = absurd (omega (arith, o))

pub least-small : (g y : ℕ) → y ≤ 3 → g ≤ 6 → first_ranks g y ≤ 48
least-small g zero f l = omega arith
least-small g (suc zero) f l = omega (arith, l)
least-small g (suc (suc zero)) f l = omega (arith, l)
least-small g (suc (suc (suc zero))) f l = omega (arith, l)
least-small g (suc (suc (suc (suc y)))) f l = absurd (omega (arith, f))

pub most-small : (y : ℕ) → y ≤ 3 → last_ranks y ≤ 30
most-small zero f = omega arith
most-small (suc zero) f = omega arith
most-small (suc (suc zero)) f = omega arith
most-small (suc (suc (suc zero))) f = omega arith
most-small (suc (suc (suc (suc y)))) f = absurd (omega (arith, f))

added-small : (g b : ℕ) → g < 6 → b ≤ 1 → 2 * (g + 1) * b ≤ 12
added-small g zero h o = omega arith
added-small g (suc zero) h o = omega (arith, h)
added-small g (suc (suc b)) h o = absurd (omega (arith, o))

risen : (t m n k : ℕ) → m ≤ n + k → (pos t +ℤ pos m) ≤ℤ ((pos t +ℤ pos n) +ℤ pos k)
risen t m n k h = omega (arith, ints, h)

fallen : (t m n k : ℕ) → n + k ≤ m → ((pos t +ℤ pos n) +ℤ pos k) ≤ℤ (pos t +ℤ pos m)
fallen t m n k h = omega (arith, ints, h)

ended : (t n : ℕ) → n ≡ 0 → pos t +ℤ pos n ≡ pos t
ended t n e = omega (arith, ints, e)

one-each : (g : ℕ) → g < length six → slice_index six g ≡ 1
one-each g h = get_or-replicate 6 g 1 0 h

put-at : (g : ℕ) (r c : List ℕ) (p : List ℤ) (s : IsSeat g r p) → g < length six → IsChoice (slice_index six g) r c → IsPut s.first s.second c
put-at g r c p s h o = put-is s.first s.second c (rw (one-each g h, s.sizes) at o)

-- the rules can be asked of all numbers that come up
from-none : (t : Tail) → RuleFits (rule_of rank_test t) (pos 0)
from-none Less = record { least_factor = lit≤ tt; observed = lit≤ tt; times = lit≤ tt; apart = lit≤ tt }
from-none Greater = record { least_factor = lit≤ tt; observed = lit≤ tt; times = lit≤ tt; apart = lit≤ tt }
from-none Two = record { least_factor = lit≤ tt; observed = lit≤ tt; times = lit≤ tt; apart = lit≤ tt }

to-many : (t : Tail) → RuleFits (rule_of rank_test t) (pos 200)
to-many Less = record { least_factor = lit≤ tt; observed = lit≤ tt; times = lit≤ tt; apart = lit≤ tt }
to-many Greater = record { least_factor = lit≤ tt; observed = lit≤ tt; times = lit≤ tt; apart = lit≤ tt }
to-many Two = record { least_factor = lit≤ tt; observed = lit≤ tt; times = lit≤ tt; apart = lit≤ tt }

ruled : (n : ℕ) → n ≤ 200 → JudgeFits (judge_of rank_test) (pos n)
ruled n h = judge-fits rank_test (judge_of rank_test) refl (pos n) (λ t. fits-between (rule_of rank_test t) (pos 0) (pos n) (pos 200) (omega (arith, ints)) (omega (arith, ints, h)) (from-none t) (to-many t))

outcome : (t n : ℕ) → t + n ≤ 200 → IsOutcome Sum (judge_of rank_test) (pos t) (pos n)
outcome t n h =
    let most : 200 ≤ MAX = lit≤ tt in
    record { fits = omega (arith, h, most); ruled = ruled (t + n) h }

starts : IsSeat 0 samples (pos 0 ∷ [])
starts = record { first = 3; second = 3; so = 0; sizes = refl; left = refl; few = omega arith; partial = refl; small = omega arith }

one-number : (g : ℕ) (r : List ℕ) (p : List ℤ) → IsSeat g r p → length p ≡ 1
one-number g r p s = ap length s.partial

module _ (judge : Judge) where
  abbrev m : Meaning
  m = number_over_columns six samples (rank_numbers judge)

  narrowing : IsNarrowing m IsSeat
  narrowing = record {
    keeps = λ g r c p before l o s.
        let put = put-at g r c p s before o in
        record {
          first = s.first - put.first;
          second = s.second - put.second;
          so = s.so + 2 * (g + 1) * put.second;
          sizes = ap (λ x. minus x c) s.sizes ∙ ap (minus (s.first ∷ s.second ∷ [])) put.counts;
          left = omega (arith, s.left, put.one, put.first_left, put.second_left);
          few = omega (arith, s.few);
          partial = ap (λ q. m.advance g r c q) s.partial ∙ ap (λ x. m.advance g r x (pos s.so ∷ [])) put.counts;
          small = omega (arith, s.small, added-small g put.second before (omega (arith, put.one)));
        };
    rises = λ g r c p before l o s.
        let put = put-at g r c p s before o in
        rw (s.sizes, s.partial, put.counts) (risen s.so (first_ranks g s.second) (2 * (g + 1) * put.second) (first_ranks (g + 1) (s.second - put.second)) (low-step g s.second put.second put.second_left (omega (arith, put.one)) s.few));
    falls = λ g r c p before l o s.
        let put = put-at g r c p s before o in
        rw (s.sizes, s.partial, put.counts) (fallen s.so (last_ranks s.second) (2 * (g + 1) * put.second) (last_ranks (s.second - put.second)) (high-step g s.second put.second put.second_left (omega (arith, put.one)) s.few (omega (arith, s.left))));
    low_end = λ r p l s. let none : s.second ≡ 0 = omega (arith, s.left) in rw (s.sizes, s.partial, none) (ended s.so 0 refl);
    high_end = λ r p l s. let none : s.second ≡ 0 = omega (arith, s.left) in rw (s.sizes, s.partial, none) (ended s.so 0 refl);
  }

  module _ (g : ℕ) (room p : List ℤ) (r : AreReached (over_rooms m) g room p) where
    seat : IsSeat g (sizes_in room) p
    seat = reached-kept m refl IsSeat narrowing starts g (sizes_in room) p (over_reached m g room p r)

    -- what the bodies read of a room
    pub two-sizes : 2 ≡ length room
    two-sizes = sym (ap length seat.sizes) ∙ length-abs room

    pub sizes-held : AreSizes room
    sizes-held = sizes-of_pos (sizes_in room) (rw seat.sizes (omega (arith, seat.left, sum-two seat.first seat.second))) room (over_place m g room p r).whole

    pub second-few : slice_index (sizes_in room) 1 ≤ 3
    second-few = rw seat.sizes seat.few

    outcome-of : judge ≡ judge_of rank_test → (n : List ℕ → ℕ) → n (seat.first ∷ seat.second ∷ []) ≤ 100 → IsOutcome Sum judge (so_far p) (pos (n (sizes_in room)))
    outcome-of e n few =
        subst (λ j. IsOutcome Sum j (so_far p) (pos (n (sizes_in room)))) (sym e)
        (subst (λ q. IsOutcome Sum (judge_of rank_test) (so_far q) (pos (n (sizes_in room)))) (sym seat.partial)
        (subst (λ x. IsOutcome Sum (judge_of rank_test) (pos seat.so) (pos (n x))) (sym seat.sizes) (outcome seat.so (n (seat.first ∷ seat.second ∷ [])) (omega (arith, few, seat.small, seat.left)))))

    pub least-outcome : judge ≡ judge_of rank_test → IsOutcome Sum judge (so_far p) (pos (first_ranks g (slice_index (sizes_in room) 1)))
    least-outcome e = outcome-of e (λ x. first_ranks g (slice_index x 1)) (omega (arith, least-small g seat.second seat.few (omega (arith, seat.left))))

    pub most-outcome : judge ≡ judge_of rank_test → IsOutcome Sum judge (so_far p) (pos (last_ranks (slice_index (sizes_in room) 1)))
    most-outcome e = outcome-of e (λ x. last_ranks (slice_index x 1)) (omega (arith, most-small seat.second seat.few))

  module _ (g : ℕ) (room : List ℤ) (c : List ℕ) (p : List ℤ) (v : IsMove (over_rooms m) g room c p) where
    put : IsPut (seat g room p v.reached).first (seat g room p v.reached).second c
    put = put-at g (sizes_in room) c p (seat g room p v.reached) v.before (chosen (slice_index six g) (sizes_in room) c v.allowed)

    -- and of a choice
    pub two-counts : length c ≡ 2
    two-counts = ap length put.counts

    pub one-subject : slice_index c 1 < 2
    one-subject = subst (λ x. slice_index x 1 < 2) (sym put.counts) (omega (arith, put.one))

    step-fits : Fits Sum (so_far p) (pos (2 * (g + 1) * slice_index c 1))
    step-fits =
        let s : IsSeat g (sizes_in room) p = seat g room p v.reached in
        let most : 200 ≤ MAX = lit≤ tt in
        let few : s.so + 2 * (g + 1) * slice_index c 1 ≤ MAX = omega (arith, most, s.small, v.before, added-small g (slice_index c 1) v.before (omega (arith, one-subject))) in
        subst (λ q. Fits Sum (so_far q) (pos (2 * (g + 1) * slice_index c 1))) (sym s.partial) few

  pub rank-number : judge ≡ judge_of rank_test → IsScalar (label_floor six samples) (over_sizes (rank_numbers judge))
  rank-number e = over_number six samples (rank_numbers judge)
      (measured m refl IsSeat narrowing starts one-number)
      step-fits
      (λ g room p r. least-outcome g room p r e)
      (λ g room p r. most-outcome g room p r e)
