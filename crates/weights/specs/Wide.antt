-- What of a test passes the greatest weight, and what a call that prepares a problem answers.
use Rattle.std.specs.Prelude.{◌≡◌, ⊤, Option, Some, None, Result, Ok, Err, nat_lt, if◌then◌else◌}
use Rattle.weights.specs.Conditional.{ConditionalTest, is_total_too_wide}
use Rattle.weights.specs.declared.TheConstants.{MAX}
use Rattle.weights.specs.declared.wide.WideOf.{WideOf}
use Rattle.weights.specs.declared.wide.WideOf.TheVariants.{Total, Statistic}
use Rattle.weights.specs.declared.wide.PrepareFault.{PrepareFault}
use Rattle.weights.specs.declared.wide.PrepareFault.TheVariants.{TooWide, NoMemory}

-- what of a test is too wide, where something is: its total, else its bound
abbrev pub too_wide : ConditionalTest → Option WideOf
too_wide test =
    if is_total_too_wide test then Some Total
    else (if nat_lt MAX test.bound then Some Statistic else None)

-- a problem is prepared exactly where nothing of its test is too wide, but for want of memory
abbrev pub Prepares : {V : Type 0} → (V → ConditionalTest) → V → Result V PrepareFault → Type 0
Prepares test_of value (Ok problem) = (problem ≡ value) × (too_wide (test_of value) ≡ None)
Prepares test_of value (Err (TooWide what)) = too_wide (test_of value) ≡ Some what
Prepares test_of value (Err NoMemory) = ⊤
