-- Sums that are reflected: each becomes what it lacks to a number.
use Rattle.std.specs.Prelude.{ℕ, ◌-◌, ◌*◌, List, map, get_or, Bool, ◌&&◌, nat_eq, nat_lt, if◌then◌else◌}
use Rattle.std.specs.List.{sum_by}

abbrev pub reflected : ℕ → List ℕ → List ℕ
reflected c sums = map (λ s. c - s) sums

abbrev pub cubed : ℕ → ℕ
cubed n = n * (n * n)

-- None is more than the number, and their cubes add to more than those of what they lack to it. Of
-- sums and their reflection one alone leans, or neither.
abbrev pub lean : ℕ → List ℕ → Bool
lean c sums =
    nat_eq (sum_by (λ s. s - c) sums) 0
    && nat_lt (sum_by (λ s. cubed (c - s)) sums) (sum_by cubed sums)

-- sums that lean are reflected, where there is a number for it
abbrev pub upright : ℕ → List ℕ → List ℕ
upright c sums = if nat_lt 0 c && lean c sums then reflected c sums else sums

-- the number for a stage, or 0
abbrev pub reflection_at : List ℕ → ℕ → ℕ
reflection_at reflections g = get_or reflections g 0
