-- A stranger's measure of labellings: how many subjects of the first column get the second label.
use Rattle.std.specs.Prelude.{ℕ, ℤ, pos, List, [], ◌∷◌, length, nat_eq, nat_lt, int_le, slice_index, slice_index_or, if◌then◌else◌}
use Rattle.networks.specs.declared.stages.Verdict.{Verdict}
use Rattle.networks.specs.declared.stages.Verdict.TheVariants.{Inside, Outside, Undecided}
use Rattle.label_network.specs.Measures.{Measured}

abbrev pub so_far : List ℤ → ℤ
so_far partial = slice_index_or partial 0 (pos 0)

-- extreme is what comes to at least so many, for each tail; nothing is known before the end
abbrev pub at_the_end : ℕ → ℤ → ℕ → List ℤ → Verdict
at_the_end stages least g partial =
    if nat_lt g stages then Undecided
    else (if int_le least (so_far partial) then Inside else Outside)

-- how many of the first column are known to get the second label, after a choice
abbrev pub count_after : ℕ → List ℕ → List ℤ → ℤ
count_after g c p = if nat_eq g 0 then pos (slice_index c 1) else so_far p

abbrev pub first_column : List ℕ → List ℕ → ℤ → Measured
first_column columns rows least = record {
  columns = columns;
  rows = rows;
  slots = 1;
  first = pos 0 ∷ [];
  advance = λ g r c p. count_after g c p ∷ [];
  verdict = λ t g r p. at_the_end (length columns) least g p;
  value = so_far;
}
