-- A stranger's network: one toss of a coin, whose value is 1 for heads.
use Rattle.std.specs.Prelude.{ℕ, zero, suc, ℤ, pos, List, [], ◌∷◌, slice_index, slice_index_or, int_le, if◌then◌else◌}
use Rattle.networks.specs.declared.stages.Verdict.{Verdict}
use Rattle.networks.specs.declared.stages.Verdict.TheVariants.{Inside, Outside, Undecided}
use Rattle.networks.specs.Network.{Network}

-- tails and heads, before the toss
abbrev pub both_sides : ℕ → List ℤ → List (List ℕ)
both_sides zero k = (0 ∷ []) ∷ (1 ∷ []) ∷ []
both_sides (suc g) k = []

abbrev pub those_after : List (List ℕ) → List ℕ → List (List ℕ)
those_after sides (zero ∷ c) = (1 ∷ []) ∷ []
those_after sides c = []

-- heads is extreme, for each tail; nothing is known before the toss
abbrev pub seen : ℕ → List ℤ → Verdict
seen zero k = Undecided
seen (suc g) k = if int_le (pos 1) (slice_index_or k 0 (pos 0)) then Inside else Outside

abbrev pub one_toss : Network
one_toss = record {
  count = 1;
  width = 1;
  choice_width = 1;
  first = pos 0 ∷ [];
  choices = both_sides;
  later = λ g k c. those_after (both_sides g k) c;
  weight = λ g k c. 1;
  next = λ g k c. pos (slice_index c 0) ∷ [];
  verdict = λ t g k. seen g k;
  value = λ k. slice_index_or k 0 (pos 0);
}
