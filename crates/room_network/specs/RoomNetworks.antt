-- The network of a measure: a key has a room, and then the measure's partial.
use Rattle.std.specs.Prelude.{◌≡◌, ◌+◌, ◌≤◌, ℕ, ℤ, Bool, List, [], ◌++◌, take, drop, filter, nat_lt, if◌then◌else◌}
use Rattle.std.specs.List.{sum_by}
use Rattle.weights.specs.declared.tails.Tail.{Tail}
use Rattle.weights.specs.Rules.{passes}
use Rattle.networks.specs.Completions.{extreme_weight, value_weights}
use Rattle.networks.specs.Network.{Network}
use Rattle.networks.specs.Judged.{rule_in, verdict_of}
use Rattle.room_network.specs.Meanings.{Meaning, way_value}
use Rattle.room_network.specs.Plans.{Gives, Plan, Weights}

abbrev pub room_of : Meaning → List ℤ → List ℤ
room_of m k = take m.floor.width k

abbrev pub partial_of : Meaning → List ℤ → List ℤ
partial_of m k = drop m.floor.width k

-- the network of a measure over rooms whose choices weigh so much
abbrev pub room_network : Meaning → Weights → Network
room_network m weight = record {
  count = m.floor.count;
  width = m.floor.width + m.slots;
  choice_width = m.floor.choice_width;
  first = m.floor.first ++ m.first;
  choices = λ g k. if nat_lt g m.floor.count then m.floor.choices g (room_of m k) else [];
  later = λ g k c. m.floor.later g (room_of m k) c;
  weight = λ g k c. weight g (room_of m k) c;
  next = λ g k c.
      m.floor.next g (room_of m k) c ++ m.advance g (room_of m k) c (partial_of m k);
  verdict = λ t g k. verdict_of (rule_in m.judge t)
      (m.low g (room_of m k) (partial_of m k)) (m.high g (room_of m k) (partial_of m k));
  value = λ k. m.value (partial_of m k);
}

-- rooms and a measure of them, whose keys have 1 to 16 numbers
pub record IsHoused (plan : Plan) (m : Meaning) : Type 0 where
  pub floor_is : plan.floor ≡ m.floor
  pub some : 1 ≤ m.floor.width + m.slots
  pub few : m.floor.width + m.slots ≤ 16

-- the summed weight of the members of a list whose value passes, where a member is cut into choices
abbrev pub member_weights : Meaning → List (List ℕ) → (List ℕ → ℕ) → (List ℕ → List (List ℕ))
    → (ℤ → Bool) → ℕ
member_weights m reference weight cut p =
    sum_by weight (filter (λ xs. p (way_value m (cut xs))) reference)

-- Whatever list the rooms give, with its weights: as much weight ends at values that pass as the
-- members have whose value does, and as much is extreme for a tail as those have whose value passes
-- the tail's rule.
pub record EndsAtMembers (plan : Plan) (m : Meaning) : Type 0 where
  pub values : (reference : List (List ℕ)) (weight : List ℕ → ℕ) (cut : List ℕ → List (List ℕ))
      → Gives plan reference weight cut → (p : ℤ → Bool)
      → value_weights (room_network m plan.weight) p ≡ member_weights m reference weight cut p
  pub tails : (reference : List (List ℕ)) (weight : List ℕ → ℕ) (cut : List ℕ → List (List ℕ))
      → Gives plan reference weight cut → (t : Tail) → let n = room_network m plan.weight in
      extreme_weight n t 0 n.first
      ≡ member_weights m reference weight cut (passes (rule_in m.judge t))
