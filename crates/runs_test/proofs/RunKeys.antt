-- What the measure of runs knows at each of its keys.
use Rattle.std.proofs.Common.{◌≡◌, ℕ, zero, suc, ◌+◌, ◌*◌, ◌≤◌, List, [], ◌∷◌, length, get_or, set, refl, sym, ◌∙◌, ap, arith}
use Rattle.std.specs.Prelude.{ℤ, pos, ◌+ℤ◌, nat_abs}
use Rattle.std.specs.List.{sum}
use Rattle.std.proofs.lemmas.Int.{ints, clamps}
use Rattle.std.proofs.lemmas.List.{length-replicate}
use Rattle.std.proofs.lemmas.List.Sums.{sum_by-take-drop}
use Rattle.weights.proofs.CellSums.{sum-two}
use Rattle.networks.specs.declared.verdicts.Judge.{Judge}
use Rattle.room_network.specs.Meanings.{AreReached, IsMove}
use Rattle.label_network.specs.LabelNetwork.{over_rooms}
use Rattle.label_network.specs.Meanings.{IsPlace, sizes_in}
use Rattle.label_network.proofs.LinearKeys.{reached-stage}
use Rattle.label_network.proofs.OverRooms.{over_place}
use Rattle.label_network.proofs.Narrowing.{IsLeft, chosen}
use Rattle.label_network.proofs.Rows.{length-abs}
use Rattle.label_network.proofs.Sizes.{sizes-of_pos}
use Rattle.runs_test.specs.RunNetwork.{firsts_in, last_in, least_to_come, most_to_come, runs_meaning, runs_outlook, runs_so_far, seconds_in}
use Rattle.runs_test.specs.RunSteps.{RunSeat, least_left, most_left, AreRunNumbers, AreTwoSizes, IsRunning}
use Rattle.runs_test.proofs.RunNarrows.{IsPartial, reached_left, reached_partial, sum-ones, two-of}

-- the least and the greatest are few
least-few : (last a b : ℕ) → least_to_come last a b ≤ 2
least-few zero a b = grind arith
least-few (suc zero) a b = grind arith
least-few (suc (suc n)) a b = grind arith

most-few : (last a b : ℕ) → most_to_come last a b ≤ 2 * (a + b) + 1
most-few zero a b = grind arith
most-few (suc zero) a b = grind arith
most-few (suc (suc n)) a b = grind (arith, clamps)

pub most-at : (last a b : ℕ) → last ≤ 2 → get_or (runs_outlook a b) (2 * last + 1) (pos 0) ≡ pos (most_to_come last a b)
most-at zero a b h = refl
most-at (suc zero) a b h = refl
most-at (suc (suc zero)) a b h = refl
most-at (suc (suc (suc n))) a b h = absurd (omega (arith, h))

pub six_items : {X : Type 0} (xs : List X) (a b c d e f : X) → length xs ≡ 6 → set (set (set (set (set (set xs 0 a) 1 b) 2 c) 3 d) 4 e) 5 f ≡ a ∷ b ∷ c ∷ d ∷ e ∷ f ∷ []
six_items (u ∷ v ∷ w ∷ x ∷ y ∷ z ∷ []) a b c d e f h = refl
six_items [] a b c d e f h = absurd (omega (arith, h))
six_items (u ∷ []) a b c d e f h = absurd (omega (arith, h))
six_items (u ∷ v ∷ []) a b c d e f h = absurd (omega (arith, h))
six_items (u ∷ v ∷ w ∷ []) a b c d e f h = absurd (omega (arith, h))
six_items (u ∷ v ∷ w ∷ x ∷ []) a b c d e f h = absurd (omega (arith, h))
six_items (u ∷ v ∷ w ∷ x ∷ y ∷ []) a b c d e f h = absurd (omega (arith, h))
six_items (u ∷ v ∷ w ∷ x ∷ y ∷ z ∷ s ∷ xs) a b c d e f h = absurd (omega (arith, h))

whole-sum : (s : ℤ) (n : ℕ) → s ≡ pos (nat_abs s) → s +ℤ pos n ≡ pos (nat_abs s + n)
whole-sum s n e = omega (arith, ints, e)

module _ (a b : ℕ) (judge : Judge) (h : IsRunning a b judge) where
  module _ (g : ℕ) (f p : List ℤ) (reached : AreReached (over_rooms (runs_meaning a b judge)) g f p) where
    place : IsPlace (runs_meaning a b judge) g f p
    place = over_place (runs_meaning a b judge) g f p reached

    partial_is : IsPartial g (sizes_in f) p
    partial_is = reached_partial a b judge g (sizes_in f) p place.reached

    left : IsLeft (runs_meaning a b judge) g (sizes_in f)
    left = reached_left a b judge g (sizes_in f) p place.reached

    stage-few : g ≤ 10000
    stage-few = omega (arith, reached-stage (runs_meaning a b judge) g (sizes_in f) p place.reached, length-replicate {A = ℕ} (a + b) 1, h.few)

    pub numbers : AreRunNumbers p
    numbers = record {
      two = partial_is.two;
      last = partial_is.last;
      label = partial_is.label;
      runs = partial_is.runs;
      few = omega (arith, partial_is.few, stage-few);
    }

    sizes-few : sum (sizes_in f) ≤ 10000
    sizes-few = omega (arith, left.whole, sum-ones (a + b), h.few, sum_by-take-drop (λ v. v) (runs_meaning a b judge).columns g)

    pub two_sizes : AreTwoSizes f
    two_sizes = record {
      two = sym (length-abs f) ∙ partial_is.sizes;
      sizes = sizes-of_pos (sizes_in f) (omega (arith, sizes-few)) f place.whole;
      few = omega (arith, sizes-few, ap sum (two-of (sizes_in f) partial_is.sizes), sum-two (firsts_in (sizes_in f)) (seconds_in (sizes_in f)));
    }

    pub run_seat : RunSeat judge f p
    run_seat =
        let low : nat_abs (runs_so_far p) + least_left f p ≤ 40000 = omega (arith, numbers.few, least-few (last_in p) (firsts_in (sizes_in f)) (seconds_in (sizes_in f))) in
        let high : nat_abs (runs_so_far p) + most_left f p ≤ 40000 = omega (arith, numbers.few, two_sizes.few, most-few (last_in p) (firsts_in (sizes_in f)) (seconds_in (sizes_in f))) in
        record {
          numbers = numbers;
          sizes = two_sizes;
          low_fits = low;
          high_fits = high;
          low = rw (whole-sum (runs_so_far p) (least_left f p) partial_is.runs) (h.rules_fit _ low);
          high = rw (whole-sum (runs_so_far p) (most_left f p) partial_is.runs) (h.rules_fit _ high);
        }

  pub choice-long : (g : ℕ) (f : List ℤ) (c : List ℕ) (p : List ℤ) → IsMove (over_rooms (runs_meaning a b judge)) g f c p → length c ≡ 2
  choice-long g f c p v =
      let k : IsPartial g (sizes_in f) p = partial_is g f p v.reached in
      (chosen _ (sizes_in f) c v.allowed).long ∙ k.sizes
