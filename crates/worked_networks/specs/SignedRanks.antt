-- A worked example: the signed rank test of three differences of distinct sizes, of which the least
-- and the greatest are positive. Ranks are doubled.
use Rattle.std.specs.Prelude.{ℕ, ◌+◌, ◌*◌, pos, List, [], ◌∷◌, false, nat_eq, slice_index, if◌then◌else◌}
use Rattle.weights.specs.declared.tails.Tail.{Tail}
use Rattle.weights.specs.Conditional.{ConditionalTest, by_distance, every_tail, unit_weight}
use Rattle.weights.specs.Labellings.{sign_lists}
use Rattle.networks.specs.declared.additive.SumValue.TheVariants.{First}
use Rattle.networks.specs.declared.verdicts.Judge.{Judge}
use Rattle.networks.specs.Judged.{judge_of}
use Rattle.networks.specs.Network.{Network}
use Rattle.networks.specs.Addends.{Addends, additive_network}

-- the doubled ranks of the positive differences
abbrev pub rank_sum : List ℕ → ℕ
rank_sum signs = 2 * slice_index signs 0 + 4 * slice_index signs 1 + 6 * slice_index signs 2

abbrev pub worked_test : ConditionalTest
worked_test = record {
  reference = sign_lists 3;
  statistic = λ signs. pos (rank_sum signs);
  observed = 1 ∷ 0 ∷ 1 ∷ [];
  weight = unit_weight;
  has_tail = every_tail;
  two_sided = by_distance 2 (pos 12);
  scale = 2;
  bound = 24;
}

-- a stage is a difference, ascending, and a choice its sign
abbrev pub worked_addends : Judge → Addends
worked_addends judge = record {
  count = 3;
  slots = 1;
  choice_width = 1;
  choices = λ g. (0 ∷ []) ∷ (1 ∷ []) ∷ [];
  later = λ g c. if nat_eq (slice_index c 0) 0 then (1 ∷ []) ∷ [] else [];
  weight = λ g c. 1;
  adds = λ g c. pos (2 * (g + 1) * slice_index c 0) ∷ [];
  least = λ g. pos 0;
  most = λ g. pos (2 * (g + 1));
  sorted = false;
  value = First;
  judge = judge;
}

-- one network for all tails
abbrev pub worked_network : Tail → Network
worked_network tail = additive_network (worked_addends (judge_of worked_test))
