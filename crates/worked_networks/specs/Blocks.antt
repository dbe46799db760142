-- A worked example: two blocks of two treatments without ties. The sums of a treatment's doubled
-- ranks are kept ascending, and their squares are added.
use Rattle.std.specs.Prelude.{ℕ, ◌+◌, ◌*◌, pos, List, [], ◌∷◌, true, nat_eq, slice_index, if◌then◌else◌}
use Rattle.weights.specs.declared.rules.Rule.TheVariants.{AtMost, AtLeast, Far}
use Rattle.networks.specs.declared.additive.SumValue.TheVariants.{Squares}
use Rattle.networks.specs.Addends.{Addends, from_zero}

-- a choice gives each treatment its rank less 1
abbrev pub block_choices : List (List ℕ)
block_choices = (0 ∷ 1 ∷ []) ∷ (1 ∷ 0 ∷ []) ∷ []

-- the sums are 6 and 6 in all, or 4 and 8
abbrev pub worked_blocks : Addends
worked_blocks = record {
  count = 2;
  slots = 2;
  choice_width = 2;
  choices = λ g. block_choices;
  later = λ g c. if nat_eq (slice_index c 0) 0 then (1 ∷ 0 ∷ []) ∷ [] else [];
  weight = λ g c. 1;
  adds = λ g c. pos (2 * slice_index c 0 + 2) ∷ pos (2 * slice_index c 1 + 2) ∷ [];
  least = λ g. pos 2;
  most = λ g. pos 4;
  sorted = true;
  value = Squares (from_zero 144);
  judge = record { less = AtMost (pos 80); greater = AtLeast (pos 80); two = Far 1 (pos 76) 4 };
}
