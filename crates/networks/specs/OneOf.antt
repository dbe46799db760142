-- A value of one kind or of another.
use Rattle.networks.specs.declared.one_of.OneOf.{OneOf}
use Rattle.networks.specs.declared.one_of.OneOf.TheVariants.{First, Second}

-- what is said of the one that it is
abbrev pub of_either : {A B X : Type 0} → (A → X) → (B → X) → OneOf A B → X
of_either f s (First a) = f a
of_either f s (Second b) = s b
