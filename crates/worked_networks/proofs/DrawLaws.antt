-- The rooms of the draws are sound, and the number of white balls is a measure of them.
use Rattle.std.proofs.Common.{◌≡◌, ◌≢◌, ℕ, zero, suc, ◌+◌, ◌-◌, ◌<◌, ◌≤◌, List, [], ◌∷◌, length, Bool, true, false, cond, refl, sym, ◌∙◌, ap, subst, arith, lit≤, nat_eq, nat_lt, get_or, set}
use Rattle.std.specs.Prelude.{ℤ, pos, ◌+ℤ◌, ◌-ℤ◌, ◌≤ℤ◌, AllPairs, nat_abs, slice_index}
use Rattle.std.specs.List.{AllByRecursion, Contains}
use Rattle.std.proofs.lemmas.Int.{ints}
use Rattle.std.proofs.lemmas.List.Elements.{All-contains, All-from_recursion}
use Rattle.networks.specs.Network.{IsReached}
use Rattle.networks.specs.Completions.{total_weight}
use Rattle.weights.specs.declared.TheConstants.{MAX}
use Rattle.weights.specs.declared.tails.Tail.{Tail}
use Rattle.weights.specs.declared.tails.Tail.TheVariants.{Less, Greater, Two}
use Rattle.weights.specs.Rules.{RuleFits}
use Rattle.networks.specs.Judged.{rule_in}
use Rattle.networks.specs.declared.verdicts.Judge.{Judge}
use Rattle.networks.proofs.Apart.{one_apart, two_apart}
use Rattle.networks.proofs.Judging.{fits-between}
use Rattle.room_network.specs.Meanings.{AreReached, IsMeasure, IsMove, Meaning}
use Rattle.room_network.specs.Numbers.{Fits, IsScalar, IsOutcome, scalar_meaning, so_far}
use Rattle.room_network.specs.Plans.{IsPlan, alone}
use Rattle.room_network.specs.declared.numbers.Operation.TheVariants.{Sum}
use Rattle.weights.proofs.Items.{one_item}
use mir.Syntax.{w128}
use mir.Val.{to_z, of_z}
use Rattle.worked_networks.specs.Draws.{after_draw, balls, box, colours, first_colour, some_white, white_choice, white_numbers}

drawn-long : (room : List ℤ) (c : List ℕ) → length (after_draw room c) ≡ 2
drawn-long room c = by (nat_eq (slice_index c 0) 0)
  where
    by : (b : Bool) → length (cond b (pos (balls room 0 - 1) ∷ pos (balls room 1) ∷ []) (pos (balls room 0) ∷ pos (balls room 1 - 1) ∷ [])) ≡ 2
    by true = refl
    by false = refl

-- the rooms that are reached
pub data IsFound (g : ℕ) (room : List ℤ) : Type 0 where
  at_first : g ≡ 0 → room ≡ pos 2 ∷ pos 1 ∷ [] → IsFound g room
  black_gone : g ≡ 1 → room ≡ pos 1 ∷ pos 1 ∷ [] → IsFound g room
  white_gone : g ≡ 1 → room ≡ pos 2 ∷ pos 0 ∷ [] → IsFound g room
  white_left : g ≡ 2 → room ≡ pos 0 ∷ pos 1 ∷ [] → IsFound g room
  black_left : g ≡ 2 → room ≡ pos 1 ∷ pos 0 ∷ [] → IsFound g room

-- where the choices of a room lead
leads : (g : ℕ) (room : List ℤ) → IsFound g room → g < 2 → AllByRecursion (λ c. IsFound (suc g) (after_draw room c)) (colours room)
leads g room (at_first e r) h = rw (e, r) (black_gone refl refl, (white_gone refl refl, tt))
leads g room (black_gone e r) h = rw (e, r) (white_left refl refl, (black_left refl refl, tt))
leads g room (white_gone e r) h = rw (e, r) (black_left refl refl, tt)
leads g room (white_left e r) h = absurd (omega (arith, h, e))
leads g room (black_left e r) h = absurd (omega (arith, h, e))

before-last : (g : ℕ) (room : List ℤ) → g < 2 → (alone box).choices g room ≡ colours room
before-last zero room h = refl
before-last (suc zero) room h = refl
before-last (suc (suc g)) room h = absurd (omega (arith, h))

pub found : (g : ℕ) (room : List ℤ) → IsReached (alone box) g room → IsFound g room
found zero room r = at_first refl r
found (suc g) room (j, c, r, before, o, e) =
    subst (IsFound (suc g)) (sym e) (All-contains (λ d. IsFound (suc g) (after_draw j d)) (colours j) c (All-from_recursion _ _ (leads g j (found g j r) before)) (subst (λ cs. Contains cs c) (before-last g j before) o))

-- and what is drawn there
pub data IsDraw (g : ℕ) (room : List ℤ) (c : List ℕ) : Type 0 where
  first_black : g ≡ 0 → room ≡ pos 2 ∷ pos 1 ∷ [] → c ≡ 0 ∷ [] → IsDraw g room c
  first_white : g ≡ 0 → room ≡ pos 2 ∷ pos 1 ∷ [] → c ≡ 1 ∷ [] → IsDraw g room c
  then_black : g ≡ 1 → room ≡ pos 1 ∷ pos 1 ∷ [] → c ≡ 0 ∷ [] → IsDraw g room c
  then_white : g ≡ 1 → room ≡ pos 1 ∷ pos 1 ∷ [] → c ≡ 1 ∷ [] → IsDraw g room c
  only_black : g ≡ 1 → room ≡ pos 2 ∷ pos 0 ∷ [] → c ≡ 0 ∷ [] → IsDraw g room c

drawn : (g : ℕ) (room : List ℤ) → IsFound g room → g < 2 → AllByRecursion (IsDraw g room) (colours room)
drawn g room (at_first e r) h = rw (e, r) (first_black refl refl refl, (first_white refl refl refl, tt))
drawn g room (black_gone e r) h = rw (e, r) (then_black refl refl refl, (then_white refl refl refl, tt))
drawn g room (white_gone e r) h = rw (e, r) (only_black refl refl refl, tt)
drawn g room (white_left e r) h = absurd (omega (arith, h, e))
drawn g room (black_left e r) h = absurd (omega (arith, h, e))

draw-of : (g : ℕ) (room : List ℤ) (c : List ℕ) → IsFound g room → g < 2 → Contains (colours room) c → IsDraw g room c
draw-of g room c f h o = All-contains (IsDraw g room) (colours room) c (All-from_recursion _ _ (drawn g room f h)) o

pub draw : (g : ℕ) (room : List ℤ) (c : List ℕ) → IsReached (alone box) g room → g < 2 → Contains (colours room) c → IsDraw g room c
draw g room c r h o = draw-of g room c (found g room r) h o

some-colour : (g : ℕ) (room : List ℤ) → IsFound g room → colours room ≢ []
some-colour g room (at_first e r) n = (let none = ap colours (sym r) ∙ n in cc none)
some-colour g room (black_gone e r) n = (let none = ap colours (sym r) ∙ n in cc none)
some-colour g room (white_gone e r) n = (let none = ap colours (sym r) ∙ n in cc none)
some-colour g room (white_left e r) n = (let none = ap colours (sym r) ∙ n in cc none)
some-colour g room (black_left e r) n = (let none = ap colours (sym r) ∙ n in cc none)

weighs : (g : ℕ) (room : List ℤ) (c : List ℕ) → IsDraw g room c → 1 ≤ balls room (slice_index c 0)
weighs g room c (first_black e r f) = rw (r, f) (omega arith)
weighs g room c (first_white e r f) = rw (r, f) (omega arith)
weighs g room c (then_black e r f) = rw (r, f) (omega arith)
weighs g room c (then_white e r f) = rw (r, f) (omega arith)
weighs g room c (only_black e r f) = rw (r, f) (omega arith)

both-apart : AllPairs {X = List ℕ} ◌≢◌ ((0 ∷ []) ∷ (1 ∷ []) ∷ [])
both-apart = two_apart (0 ∷ []) (1 ∷ []) (λ e. (let sign : 0 ≡ 1 = ap (λ c. slice_index c 0) e in omega (arith, sign)))

apart : (g : ℕ) (room : List ℤ) → IsFound g room → AllPairs ◌≢◌ (colours room)
apart g room (at_first e r) = rw r both-apart
apart g room (black_gone e r) = rw r both-apart
apart g room (white_gone e r) = rw r (one_apart (0 ∷ []))
apart g room (white_left e r) = rw r (one_apart (1 ∷ []))
apart g room (black_left e r) = rw r (one_apart (0 ∷ []))

-- what remains of a room weighs 6 before the first draw, 2 before the second, and then 1

pub first-total : (g : ℕ) (room : List ℤ) → IsFound g room → g ≡ 0 → 6 ≡ total_weight (alone box) g room
unfolding total_weight
first-total g room (at_first e r) z = rw (e, r) refl
first-total g room (black_gone e r) z = absurd (omega (arith, e, z))
first-total g room (white_gone e r) z = absurd (omega (arith, e, z))
first-total g room (white_left e r) z = absurd (omega (arith, e, z))
first-total g room (black_left e r) z = absurd (omega (arith, e, z))

pub then-total : (g : ℕ) (room : List ℤ) → IsFound g room → g ≡ 1 → 2 ≡ total_weight (alone box) g room
unfolding total_weight
then-total g room (at_first e r) z = absurd (omega (arith, e, z))
then-total g room (black_gone e r) z = rw (e, r) refl
then-total g room (white_gone e r) z = rw (e, r) refl
then-total g room (white_left e r) z = absurd (omega (arith, e, z))
then-total g room (black_left e r) z = absurd (omega (arith, e, z))

pub last-total : (g : ℕ) (room : List ℤ) → IsFound g room → 2 ≤ g → 1 ≡ total_weight (alone box) g room
unfolding total_weight
last-total g room (at_first e r) z = absurd (omega (arith, e, z))
last-total g room (black_gone e r) z = absurd (omega (arith, e, z))
last-total g room (white_gone e r) z = absurd (omega (arith, e, z))
last-total g room (white_left e r) z = rw e refl
last-total g room (black_left e r) z = rw e refl

pub box_sound : IsPlan box
box_sound = record {
  first_long = refl;
  next_long = λ g room c l. drawn-long room c;
  some_choice = λ g room r h. some-colour g room (found g room r);
  different = λ g room r h. apart g room (found g room r);
  weighty = λ g room c r h o. weighs g room c (draw g room c r h o);
  fits = subst (λ n. n ≤ MAX) (first-total 0 box.floor.first (at_first refl refl) refl) (lit≤ tt);
}

-- what the bodies write

abbrev held : ℤ → ℤ
held z = to_z w128 (of_z w128 z)

pub first-written : (g : ℕ) (room : List ℤ) (choice : List ℕ) (x : ℕ) → IsFound g room → length choice ≡ 1 → x ≡ first_colour (held (get_or room 0 (pos 0))) → colours room ≡ set choice 0 x ∷ cond (nat_eq (slice_index (set choice 0 x) 0) 0) (white_choice room) []
first-written g room choice x (at_first e r) l f = rw (one_item choice x l, f, r) refl
first-written g room choice x (black_gone e r) l f = rw (one_item choice x l, f, r) refl
first-written g room choice x (white_gone e r) l f = rw (one_item choice x l, f, r) refl
first-written g room choice x (white_left e r) l f = rw (one_item choice x l, f, r) refl
first-written g room choice x (black_left e r) l f = rw (one_item choice x l, f, r) refl

pub black-written : (g : ℕ) (room : List ℤ) (c : List ℕ) → IsDraw g room c → slice_index c 0 ≡ 0 → held (held (get_or room 0 (pos 0)) -ℤ pos 1) ∷ held (get_or room 1 (pos 0)) ∷ [] ≡ after_draw room c
black-written g room c (first_black e r f) z = rw (r, f) refl
black-written g room c (first_white e r f) z = (let no : 1 ≡ 0 = sym (ap (λ x. slice_index x 0) f) ∙ z in absurd (omega (arith, no)))
black-written g room c (then_black e r f) z = rw (r, f) refl
black-written g room c (then_white e r f) z = (let no : 1 ≡ 0 = sym (ap (λ x. slice_index x 0) f) ∙ z in absurd (omega (arith, no)))
black-written g room c (only_black e r f) z = rw (r, f) refl

pub white-written : (g : ℕ) (room : List ℤ) (c : List ℕ) → IsDraw g room c → slice_index c 0 ≢ 0 → held (get_or room 0 (pos 0)) ∷ held (held (get_or room 1 (pos 0)) -ℤ pos 1) ∷ [] ≡ after_draw room c
white-written g room c (first_black e r f) z = absurd (z (ap (λ x. slice_index x 0) f))
white-written g room c (first_white e r f) z = rw (r, f) refl
white-written g room c (then_black e r f) z = absurd (z (ap (λ x. slice_index x 0) f))
white-written g room c (then_white e r f) z = rw (r, f) refl
white-written g room c (only_black e r f) z = absurd (z (ap (λ x. slice_index x 0) f))

-- what a draw weighs: the balls of its colour that are left

pub black-weighed : (g : ℕ) (room : List ℤ) (c : List ℕ) → IsDraw g room c → slice_index c 0 ≡ 0 → nat_abs (held (get_or room 0 (pos 0))) ≡ balls room (slice_index c 0)
black-weighed g room c (first_black e r f) z = rw (r, f) refl
black-weighed g room c (first_white e r f) z = (let no : 1 ≡ 0 = sym (ap (λ x. slice_index x 0) f) ∙ z in absurd (omega (arith, no)))
black-weighed g room c (then_black e r f) z = rw (r, f) refl
black-weighed g room c (then_white e r f) z = (let no : 1 ≡ 0 = sym (ap (λ x. slice_index x 0) f) ∙ z in absurd (omega (arith, no)))
black-weighed g room c (only_black e r f) z = rw (r, f) refl

pub white-weighed : (g : ℕ) (room : List ℤ) (c : List ℕ) → IsDraw g room c → slice_index c 0 ≢ 0 → nat_abs (held (get_or room 1 (pos 0))) ≡ balls room (slice_index c 0)
white-weighed g room c (first_black e r f) z = absurd (z (ap (λ x. slice_index x 0) f))
white-weighed g room c (first_white e r f) z = rw (r, f) refl
white-weighed g room c (then_black e r f) z = absurd (z (ap (λ x. slice_index x 0) f))
white-weighed g room c (then_white e r f) z = rw (r, f) refl
white-weighed g room c (only_black e r f) z = absurd (z (ap (λ x. slice_index x 0) f))

pub blacks-few : (g : ℕ) (room : List ℤ) → IsFound g room → (pos 0 ≤ℤ get_or room 0 (pos 0)) × (get_or room 0 (pos 0) ≤ℤ pos 2)
blacks-few g room (at_first e r) = rw r (omega (arith, ints), omega (arith, ints))
blacks-few g room (black_gone e r) = rw r (omega (arith, ints), omega (arith, ints))
blacks-few g room (white_gone e r) = rw r (omega (arith, ints), omega (arith, ints))
blacks-few g room (white_left e r) = rw r (omega (arith, ints), omega (arith, ints))
blacks-few g room (black_left e r) = rw r (omega (arith, ints), omega (arith, ints))

pub whites-few : (g : ℕ) (room : List ℤ) → IsFound g room → (pos 0 ≤ℤ get_or room 1 (pos 0)) × (get_or room 1 (pos 0) ≤ℤ pos 1)
whites-few g room (at_first e r) = rw r (omega (arith, ints), omega (arith, ints))
whites-few g room (black_gone e r) = rw r (omega (arith, ints), omega (arith, ints))
whites-few g room (white_gone e r) = rw r (omega (arith, ints), omega (arith, ints))
whites-few g room (white_left e r) = rw r (omega (arith, ints), omega (arith, ints))
whites-few g room (black_left e r) = rw r (omega (arith, ints), omega (arith, ints))

-- the measure

from-none : (t : Tail) → RuleFits (rule_in some_white t) (pos 0)
from-none Less = record { least_factor = lit≤ tt; observed = lit≤ tt; times = lit≤ tt; apart = lit≤ tt }
from-none Greater = record { least_factor = lit≤ tt; observed = lit≤ tt; times = lit≤ tt; apart = lit≤ tt }
from-none Two = record { least_factor = lit≤ tt; observed = lit≤ tt; times = lit≤ tt; apart = lit≤ tt }

to-many : (t : Tail) → RuleFits (rule_in some_white t) (pos 9)
to-many Less = record { least_factor = lit≤ tt; observed = lit≤ tt; times = lit≤ tt; apart = lit≤ tt }
to-many Greater = record { least_factor = lit≤ tt; observed = lit≤ tt; times = lit≤ tt; apart = lit≤ tt }
to-many Two = record { least_factor = lit≤ tt; observed = lit≤ tt; times = lit≤ tt; apart = lit≤ tt }

outcome : (t n : ℕ) → t + n ≤ 9 → IsOutcome Sum some_white (pos t) (pos n)
outcome t n h =
    let most : 9 ≤ MAX = lit≤ tt in
    record {
      fits = omega (arith, h, most);
      ruled = record { fits = λ u. fits-between (rule_in some_white u) (pos 0) (pos (t + n)) (pos 9) (omega (arith, ints)) (omega (arith, ints, h)) (from-none u) (to-many u) };
    }

abbrev to_come : ℕ → List ℤ → ℕ
to_come g room = cond (nat_lt g 2) (balls room 1) 0

come-few : (g : ℕ) (room : List ℤ) → IsFound g room → to_come g room ≤ 1
come-few g room (at_first e r) = rw (e, r) (omega arith)
come-few g room (black_gone e r) = rw (e, r) (omega arith)
come-few g room (white_gone e r) = rw (e, r) (omega arith)
come-few g room (white_left e r) = rw e (omega arith)
come-few g room (black_left e r) = rw e (omega arith)

come-falls : (g : ℕ) (room : List ℤ) (c : List ℕ) → IsDraw g room c → slice_index c 0 + to_come (g + 1) (after_draw room c) ≤ to_come g room
come-falls g room c (first_black e r f) = rw (e, r, f) (omega arith)
come-falls g room c (first_white e r f) = rw (e, r, f) (omega arith)
come-falls g room c (then_black e r f) = rw (e, r, f) (omega arith)
come-falls g room c (then_white e r f) = rw (e, r, f) (omega arith)
come-falls g room c (only_black e r f) = rw (e, r, f) (omega arith)

draw-few : (g : ℕ) (room : List ℤ) (c : List ℕ) → IsDraw g room c → slice_index c 0 ≤ 1
draw-few g room c (first_black e r f) = rw f (omega arith)
draw-few g room c (first_white e r f) = rw f (omega arith)
draw-few g room c (then_black e r f) = rw f (omega arith)
draw-few g room c (then_white e r f) = rw f (omega arith)
draw-few g room c (only_black e r f) = rw f (omega arith)

high-is : (b : Bool) (n : ℕ) → cond b (pos n) (pos 0) ≡ pos (cond b n 0)
high-is true n = refl
high-is false n = refl

fallen : (t x n k : ℕ) → x + n ≤ k → ((pos t +ℤ pos x) +ℤ pos n) ≤ℤ (pos t +ℤ pos k)
fallen t x n k h = omega (arith, ints, h)

record IsHeld (g : ℕ) (room p : List ℤ) : Type 0 where
  found_there : IsFound g room
  so : ℕ
  partial : p ≡ pos so ∷ []
  few : so ≤ g

module _ (judge : Judge) where
  abbrev m : Meaning
  m = scalar_meaning box.floor (white_numbers judge)

  held-there : (g : ℕ) (room p : List ℤ) → AreReached m g room p → IsHeld g room p
  held-there zero room p r = record { found_there = at_first refl r.0; so = 0; partial = r.1; few = omega arith }
  held-there (suc g) room p (s, q, c, a, before, o, e, f) =
      let past : IsHeld g s q = held-there g s q a in
      let here : IsDraw g s c = draw-of g s c past.found_there before o in
      record {
        found_there = subst (IsFound (suc g)) (sym e) (All-contains (λ d. IsFound (suc g) (after_draw s d)) (colours s) c (All-from_recursion _ _ (leads g s past.found_there before)) o);
        so = past.so + slice_index c 0;
        partial = f ∙ ap (λ x. m.advance g s c x) past.partial;
        few = omega (arith, past.few, draw-few g s c here);
      }

  rises : (g : ℕ) (room p : List ℤ) (c : List ℕ) → AreReached m g room p → g < 2 → Contains (colours room) c → m.low g room p ≤ℤ m.low (g + 1) (after_draw room c) (m.advance g room c p)
  rises g room p c r h o = omega (arith, ints)

  falls : (g : ℕ) (room p : List ℤ) (c : List ℕ) → AreReached m g room p → g < 2 → Contains (colours room) c → m.high (g + 1) (after_draw room c) (m.advance g room c p) ≤ℤ m.high g room p
  falls g room p c r h o =
      let here : IsHeld g room p = held-there g room p r in
      rw (high-is (nat_lt (g + 1) 2) (balls (after_draw room c) 1), high-is (nat_lt g 2) (balls room 1), here.partial) (fallen here.so (slice_index c 0) (to_come (g + 1) (after_draw room c)) (to_come g room) (come-falls g room c (draw-of g room c here.found_there h o)))

  white_measure : IsMeasure m
  white_measure = record {
    wide = λ g room p r. ap length (held-there g room p r).partial;
    low_rises = rises;
    high_falls = falls;
    low_ends = λ room p r. omega (arith, ints);
    high_ends = λ room p r. omega (arith, ints);
  }

  step-fits : (g : ℕ) (room : List ℤ) (c : List ℕ) (p : List ℤ) → IsMove m g room c p → Fits Sum (so_far p) (pos (slice_index c 0))
  step-fits g room c p v =
      let here : IsHeld g room p = held-there g room p v.reached in
      let most : 9 ≤ MAX = lit≤ tt in
      let few : here.so + slice_index c 0 ≤ MAX = omega (arith, most, here.few, v.before, draw-few g room c (draw-of g room c here.found_there v.before v.allowed)) in
      subst (λ q. Fits Sum (so_far q) (pos (slice_index c 0))) (sym here.partial) few

  stage-few : (g : ℕ) (room : List ℤ) → IsFound g room → g ≤ 2
  stage-few g room (at_first e r) = omega (arith, e)
  stage-few g room (black_gone e r) = omega (arith, e)
  stage-few g room (white_gone e r) = omega (arith, e)
  stage-few g room (white_left e r) = omega (arith, e)
  stage-few g room (black_left e r) = omega (arith, e)

  outcome-of : judge ≡ some_white → (n g : ℕ) (room p : List ℤ) → AreReached m g room p → n ≤ 1 → IsOutcome Sum judge (so_far p) (pos n)
  outcome-of e n g room p r few =
      let here : IsHeld g room p = held-there g room p r in
      subst (λ j. IsOutcome Sum j (so_far p) (pos n)) (sym e)
      (subst (λ q. IsOutcome Sum some_white (so_far q) (pos n)) (sym here.partial) (outcome here.so n (omega (arith, few, here.few, stage-few g room here.found_there))))

  pub white-number : judge ≡ some_white → IsScalar box.floor (white_numbers judge)
  white-number e = record {
    narrows = white_measure;
    steps = step-fits;
    lows = λ g room p r. outcome-of e 0 g room p r (omega arith);
    highs = λ g room p r. subst (IsOutcome Sum judge (so_far p)) (sym (high-is (nat_lt g 2) (balls room 1))) (outcome-of e (to_come g room) g room p r (come-few g room (held-there g room p r).found_there));
  }
