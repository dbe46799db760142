-- Results with another value or another fault.
use Rattle.std.specs.Prelude.{Result, Ok, Err}
use Rattle.std.specs.Result.{result_map_both}

-- a result that goes on with a value, and keeps a fault
abbrev pub and_then : {S T F : Type 0} → (S → Result T F) → Result S F → Result T F
and_then next (Ok value) = next value
and_then next (Err fault) = Err fault

-- a result with another value, and the same fault
abbrev pub with_value : {S T F : Type 0} → (S → T) → Result S F → Result T F
with_value change = result_map_both change (λ fault. fault)

-- a result with the same value, and another fault
abbrev pub with_fault : {S F G : Type 0} → (F → G) → Result S F → Result S G
with_fault change = result_map_both (λ value. value) change
