-- The lists of two signs, each with the number of its plus signs.
use Rattle.std.specs.Prelude.{ℕ, pos, List, [], ◌∷◌, nat_eq}
use Rattle.std.specs.List.{count_by}
use Rattle.weights.specs.Conditional.{ConditionalTest, by_distance, every_tail, unit_weight}
use Rattle.weights.specs.Labellings.{sign_lists}

abbrev pub plus_signs : List ℕ → ℕ
plus_signs signs = count_by (λ sign. nat_eq sign 1) signs

-- two plus signs were observed, and the mean is 1
abbrev pub two_signs : ConditionalTest
two_signs = record {
  reference = sign_lists 2;
  statistic = λ signs. pos (plus_signs signs);
  observed = 1 ∷ 1 ∷ [];
  weight = unit_weight;
  has_tail = every_tail;
  two_sided = by_distance 1 (pos 1);
  scale = 1;
  bound = 2;
}
