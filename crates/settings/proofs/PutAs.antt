-- The value of an option, which is put into its place in the settings.
use Rattle.std.specs.Bool.{⊤}
use Rattle.std.proofs.Common.{◌≡◌, ◌∙◌, refl, Option, Some, None, Result, Ok, Err, option_map}
use Rattle.std.specs.Option.{ok_or}
use Rattle.settings.specs.Faults.{IsCauseOf, Meets, MeetsAs}
use Rattle.settings.specs.declared.names.OptionName.{OptionName}
use Rattle.settings.specs.declared.names.UsageFault.{UsageFault}
use Rattle.settings.specs.declared.names.UsageFault.TheVariants.{Form, Value, Pairing, NoMemory}

-- where no value is found none is made of it, and the fault is the same
pub of_map : {X Y : Type 0} (f : X → Y) (name : OptionName) (found : Option X) (fault : UsageFault) → IsCauseOf (ok_or found (Value name)) fault → IsCauseOf (ok_or (option_map f found) (Value name)) fault
of_map f name found NoMemory cause = tt
of_map f name None Form cause = absurd cc
of_map f name None (Pairing other test) cause = absurd cc
of_map f name None (Value other) cause =
    let same : name ≡ other = cc in
    rw same refl
of_map f name (Some found) Form cause = absurd cc
of_map f name (Some found) (Value other) cause = absurd cc
of_map f name (Some found) (Pairing other test) cause = absurd cc

-- what is made of a value that is found
pub ok_map : {X Y : Type 0} (f : X → Y) (fault : UsageFault) (found : Option X) (x : X) → ok_or found fault ≡ Ok x → ok_or (option_map f found) fault ≡ Ok (f x)
ok_map f fault (Some y) x same =
    let one : y ≡ x = cc in
    rw one refl
ok_map f fault None x same = absurd cc

-- both, for an answer that tells no more than that the value is put there
put_into : {X Y : Type 0} (f : X → Y) (name : OptionName) (found : Option X) (x : X) (result : Result ⊤ UsageFault) → MeetsAs (λ unit. x) (ok_or found (Value name)) result → MeetsAs (λ unit. f x) (ok_or (option_map f found) (Value name)) result
put_into f name found x (Ok unit) met = ok_map f (Value name) found x met
put_into f name found x (Err fault) met = of_map f name found fault met

-- the value that is found for an option is put into its place
pub put_found : {X Y : Type 0} (f : X → Y) (name : OptionName) (wanted : Option Y) (meant found : Option X) (x : X) (result : Result ⊤ UsageFault) → wanted ≡ option_map f meant → found ≡ meant
    → MeetsAs (λ unit. x) (ok_or found (Value name)) result → MeetsAs (λ unit. f x) (ok_or wanted (Value name)) result
put_found f name wanted meant found x result set same met = rw set (put_into f name meant x result (rw same at met))

-- an answer that stands for another one meets what that one meets
met_by : {X : Type 0} (wanted answer : Result X UsageFault) (x : X) (result : Result ⊤ UsageFault) → Meets wanted answer → MeetsAs (λ unit. x) answer result → MeetsAs (λ unit. x) wanted result
met_by wanted (Ok y) x (Ok unit) meets met = meets ∙ met
met_by wanted (Err fault) x (Ok unit) meets met = absurd cc
met_by wanted answer x (Err NoMemory) meets met = tt
met_by wanted (Ok y) x (Err Form) meets met = absurd cc
met_by wanted (Ok y) x (Err (Value other)) meets met = absurd cc
met_by wanted (Ok y) x (Err (Pairing other test)) meets met = absurd cc
met_by wanted (Err fault) x (Err Form) meets met = let same : fault ≡ Form = cc in rw same at meets
met_by wanted (Err fault) x (Err (Value other)) meets met = let same : fault ≡ Value other = cc in rw same at meets
met_by wanted (Err fault) x (Err (Pairing other test)) meets met = let same : fault ≡ Pairing other test = cc in rw same at meets

-- the value that is read for an option is put into its place
pub put_read : {X Y : Type 0} (f : X → Y) (name : OptionName) (wanted : Option Y) (meant : Option X) (answer : Result X UsageFault) (x : X) (result : Result ⊤ UsageFault) → wanted ≡ option_map f meant → Meets (ok_or meant (Value name)) answer
    → MeetsAs (λ unit. x) answer result → MeetsAs (λ unit. f x) (ok_or wanted (Value name)) result
put_read f name wanted meant answer x result set meets met = rw set (put_into f name meant x result (met_by (ok_or meant (Value name)) answer x result meets met))
