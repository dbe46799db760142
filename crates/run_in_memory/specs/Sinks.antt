-- The faults of a sink that grows.
use Rattle.std.specs.Prelude.{ℕ, Bool, if◌then◌else◌}
use Rattle.outside.specs.Faults.{last_count}

-- the count of faults stands at its last value once memory ran out
abbrev pub fault_count : Bool → ℕ
fault_count is_cut = if is_cut then last_count else 0
