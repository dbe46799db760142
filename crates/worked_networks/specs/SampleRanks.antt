-- The network of the tests: two samples without ties, subject by subject, by how many of each
-- sample are left and the sum of the second sample's doubled ranks.
use Rattle.std.specs.Prelude.{ℕ, ℤ, pos, ◌+ℤ◌, ◌-ℤ◌, ◌+◌, ◌*◌, List, [], ◌∷◌, nat_lt, ◌==◌, int_le, int_lt, slice_index, slice_index_or, if◌then◌else◌}
use Rattle.networks.specs.declared.stages.Verdict.{Verdict}
use Rattle.networks.specs.declared.stages.Verdict.TheVariants.{Inside, Outside, Undecided}
use Rattle.networks.specs.Network.{Network}

abbrev pub at : List ℤ → ℕ → ℤ
at k i = slice_index_or k i (pos 0)

abbrev pub second_choice : List ℤ → List (List ℕ)
second_choice k = if int_lt (pos 0) (at k 1) then (1 ∷ []) ∷ [] else []

abbrev pub both_choices : List ℤ → List (List ℕ)
both_choices k = if int_lt (pos 0) (at k 0) then (0 ∷ []) ∷ second_choice k else second_choice k

-- sums only grow, and stay where the second sample is placed
abbrev pub sum_verdict : ℤ → ℤ → ℤ → Verdict
sum_verdict t left sum =
    if int_lt t sum then Outside else (if int_le left (pos 0) then Inside else Undecided)

abbrev pub rank_network : ℕ → ℕ → ℤ → Network
rank_network m n t = record {
  count = m + n;
  width = 3;
  choice_width = 1;
  first = pos m ∷ pos n ∷ pos 0 ∷ [];
  choices = λ g k. if nat_lt g (m + n) then both_choices k else [];
  later = λ g k c. if slice_index c 0 == 0 then second_choice k else [];
  weight = λ g k c. 1;
  next = λ g k c. if slice_index c 0 == 0 then (at k 0 -ℤ pos 1) ∷ at k 1 ∷ at k 2 ∷ []
      else at k 0 ∷ (at k 1 -ℤ pos 1) ∷ (at k 2 +ℤ pos (2 * (g + 1))) ∷ [];
  verdict = λ tail g k. sum_verdict t (at k 1) (at k 2);
  value = λ k. at k 2;
}

-- what a choice adds to the sum
abbrev pub rank_step : ℕ → List ℕ → List ℤ
rank_step g c = if slice_index c 0 == 0 then pos 0 ∷ [] else pos (2 * (g + 1)) ∷ []
