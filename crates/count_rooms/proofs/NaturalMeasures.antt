-- A measure of one number that is never negative, by bounds of what is put to it from a reached room on: its intervals narrow, and no number passes the greatest of the first room.
use Rattle.std.proofs.Common.{◌≡◌, ℕ, zero, suc, ◌+◌, ◌*◌, ◌<◌, ◌≤◌, List, length, refl, sym, ◌∙◌, ap, subst, arith, add-one, zero-add, mul-one, one-mul, mul_assoc}
use Rattle.std.specs.Prelude.{ℤ, pos, ◌≤ℤ◌, Contains}
use Rattle.std.proofs.Math.Nat.{mul-le-mul_left}
use Rattle.std.proofs.lemmas.Int.{ints}
use Rattle.weights.specs.declared.TheConstants.{MAX}
use Rattle.networks.specs.Judged.{JudgeFits}
use Rattle.networks.specs.Network.{IsReached}
use Rattle.networks.specs.declared.verdicts.Judge.{Judge}
use Rattle.room_network.specs.Meanings.{AreReached, IsMeasure, Meaning}
use Rattle.room_network.specs.Numbers.{Fits, IsScalar, IsOutcome, Numbers, scalar_meaning, put, so_far, start}
use Rattle.room_network.specs.Plans.{Plan, alone}
use Rattle.room_network.specs.declared.numbers.Operation.{Operation}
use Rattle.room_network.specs.declared.numbers.Operation.TheVariants.{Sum, Product}
use Rattle.room_network.proofs.RoomKeys.{choices_before}

-- ---- two numbers put together

abbrev pub nothing : Operation → ℕ
nothing Sum = 0
nothing Product = 1

abbrev pub put_by : Operation → ℕ → ℕ → ℕ
put_by Sum a b = a + b
put_by Product a b = a * b

start-is : (op : Operation) → start op ≡ pos (nothing op)
start-is Sum = refl
start-is Product = refl

put-is : (op : Operation) (z : ℤ) (a b : ℕ) → z ≡ pos a → put op z (pos b) ≡ pos (put_by op a b)
put-is Sum z a b e = rw e refl
put-is Product z a b e = rw e refl

put-first : (op : Operation) (b : ℕ) → put_by op (nothing op) b ≡ b
put-first Sum b = zero-add b
put-first Product b = one-mul b

put-none : (op : Operation) (a : ℕ) → put_by op a (nothing op) ≡ a
put-none Sum a = omega arith
put-none Product a = mul-one a

put-both : (op : Operation) (a b c : ℕ) → put_by op (put_by op a b) c ≡ put_by op a (put_by op b c)
put-both Sum a b c = omega arith
put-both Product a b c = mul_assoc a b c

put-within : (op : Operation) (a b c : ℕ) → b ≤ c → put_by op a b ≤ put_by op a c
put-within Sum a b c h = omega (arith, h)
put-within Product a b c h = mul-le-mul_left a h

put-fits : (op : Operation) (z : ℤ) (a b : ℕ) → z ≡ pos a → put_by op a b ≤ MAX → Fits op z (pos b)
put-fits Sum z a b e h = rw e h
put-fits Product z a b e h = rw e (record { first = refl; second = refl; fits = h })

risen : (a b : ℕ) → a ≤ b → pos a ≤ℤ pos b
risen a b h = omega (arith, ints, h)

-- ---- what is put to a number from a room on, at least and at most

abbrev pub EachChoice : Plan → (ℕ → List ℤ → List ℕ → Type 0) → Type 0
EachChoice plan P = (g : ℕ) (room : List ℤ) (c : List ℕ) → IsReached (alone plan) g room → g < plan.floor.count → Contains (plan.floor.choices g room) c → P g room c

pub record AreBounds (plan : Plan) (op : Operation) (step : ℕ → List ℤ → List ℕ → ℕ) (least greatest : ℕ → List ℤ → ℕ) : Type 0 where
  pub low : EachChoice plan (λ g room c. least g room ≤ put_by op (step g room c) (least (g + 1) (plan.floor.next g room c)))
  pub high : EachChoice plan (λ g room c. put_by op (step g room c) (greatest (g + 1) (plan.floor.next g room c)) ≤ greatest g room)
  pub steps : EachChoice plan (λ g room c. step g room c ≤ greatest g room)
  pub meet : (g : ℕ) (room : List ℤ) → IsReached (alone plan) g room → least g room ≤ greatest g room
  pub low_ends : (room : List ℤ) → IsReached (alone plan) plan.floor.count room → least plan.floor.count room ≡ nothing op
  pub high_ends : (room : List ℤ) → IsReached (alone plan) plan.floor.count room → greatest plan.floor.count room ≡ nothing op

-- a room that is reached with a partial is reached
pub reached-room : (plan : Plan) (m : Meaning) → m.floor ≡ plan.floor → (g : ℕ) (r p : List ℤ) → AreReached m g r p → IsReached (alone plan) g r
reached-room plan m same zero r p a = rw (← same) a.0
reached-room plan m same (suc g) r p (s, q, c, a, before, o, e, f) =
    let within : g < plan.floor.count = rw same at before in
    (s, c, reached-room plan m same g s q a, within, subst (λ cs. Contains cs c) (sym (choices_before plan g s within)) (rw same at o), rw same at e)

module _ (plan : Plan) (op : Operation) (step : ℕ → List ℤ → List ℕ → ℕ) (least greatest : ℕ → List ℤ → ℕ) (b : AreBounds plan op step least greatest) (judge : Judge) where
  abbrev numbers : Numbers (List ℤ)
  numbers = record { operation = op; step = λ g room c. pos (step g room c); least = λ g room. pos (least g room); greatest = λ g room. pos (greatest g room); judge = judge }

  abbrev m : Meaning
  m = scalar_meaning plan.floor numbers

  record IsPlace (g : ℕ) (r p : List ℤ) : Type 0 where
    pub room : IsReached (alone plan) g r
    pub number : ℕ
    pub is : so_far p ≡ pos number
    pub long : length p ≡ 1
    pub within : put_by op number (greatest g r) ≤ greatest 0 plan.floor.first

  place : (g : ℕ) (r p : List ℤ) → AreReached m g r p → IsPlace g r p
  place zero r p a = record {
    room = a.0;
    number = nothing op;
    is = ap so_far a.1 ∙ start-is op;
    long = ap length a.1;
    within = rw (a.0, put-first op (greatest 0 plan.floor.first)) (omega arith);
  }
  place (suc g) r p (s, q, c, a, before, o, e, f) =
      let past = place g s q a in
      let rest : ℕ = greatest (g + 1) (plan.floor.next g s c) in
      record {
        room = reached-room plan m refl (suc g) r p (s, q, c, a, before, o, e, f);
        number = put_by op past.number (step g s c);
        is = ap so_far f ∙ put-is op (so_far q) past.number (step g s c) past.is;
        long = ap length f;
        within = rw (e, ← add-one g) (omega (arith, put-both op past.number (step g s c) rest, put-within op past.number _ _ (b.high g s c past.room before o), past.within));
      }

  module _ (g : ℕ) (r p : List ℤ) (a : AreReached m g r p) where
    abbrev here : IsPlace g r p
    here = place g r p a

    now : (n : ℕ) → put op (so_far p) (pos n) ≡ pos (put_by op here.number n)
    now n = put-is op (so_far p) here.number n here.is

    next : (c : List ℕ) (n : ℕ) → put op (put op (so_far p) (pos (step g r c))) (pos n) ≡ pos (put_by op here.number (put_by op (step g r c) n))
    next c n = put-is op _ _ n (now (step g r c)) ∙ ap pos (put-both op here.number (step g r c) n)

    ends : (n : ℕ) → n ≡ nothing op → put op (so_far p) (pos n) ≡ so_far p
    ends n e = now n ∙ ap pos (ap (put_by op here.number) e ∙ put-none op here.number) ∙ sym here.is

    all : (n : ℕ) → n ≤ greatest g r → put_by op here.number n ≤ greatest 0 plan.floor.first
    all n h = omega (arith, put-within op here.number n (greatest g r) h, here.within)

  pub natural_measure : IsMeasure m
  natural_measure = record {
    wide = λ g r p a. (place g r p a).long;
    low_rises = λ g r p c a before o. rw (now g r p a (least g r), next g r p a c (least (g + 1) (plan.floor.next g r c))) (risen _ _ (put-within op (here g r p a).number _ _ (b.low g r c (here g r p a).room before o)));
    high_falls = λ g r p c a before o. rw (now g r p a (greatest g r), next g r p a c (greatest (g + 1) (plan.floor.next g r c))) (risen _ _ (put-within op (here g r p a).number _ _ (b.high g r c (here g r p a).room before o)));
    low_ends = λ r p a. ends plan.floor.count r p a _ (b.low_ends r (here plan.floor.count r p a).room);
    high_ends = λ r p a. ends plan.floor.count r p a _ (b.high_ends r (here plan.floor.count r p a).room);
  }

  module _ (fits : greatest 0 plan.floor.first ≤ MAX) (ruled : (n : ℕ) → n ≤ greatest 0 plan.floor.first → JudgeFits judge (pos n)) where
    put-here : (g : ℕ) (r p : List ℤ) (a : AreReached m g r p) (n : ℕ) → n ≤ greatest g r → Fits op (so_far p) (pos n)
    put-here g r p a n h = put-fits op (so_far p) (here g r p a).number n (here g r p a).is (omega (arith, all g r p a n h, fits))

    outcome : (g : ℕ) (r p : List ℤ) (a : AreReached m g r p) (n : ℕ) → n ≤ greatest g r → IsOutcome op judge (so_far p) (pos n)
    outcome g r p a n h = record { fits = put-here g r p a n h; ruled = subst (JudgeFits judge) (sym (now g r p a n)) (ruled _ (all g r p a n h)) }

    pub natural_number : IsScalar plan.floor numbers
    natural_number = record {
      narrows = natural_measure;
      steps = λ g r c p v. put-here g r p v.reached _ (b.steps g r c (here g r p v.reached).room v.before v.allowed);
      lows = λ g r p a. outcome g r p a _ (b.meet g r (here g r p a).room);
      highs = λ g r p a. outcome g r p a _ (let h : greatest g r ≤ greatest g r = omega arith in h);
    }
