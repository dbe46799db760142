-- Lists of lines by strictly ascending value.
use Rattle.std.specs.Prelude.{◌≡◌, ℕ, suc, ◌+◌, ◌≤◌, ℤ, ◌<ℤ◌, List, [], ◌∷◌, Bool, true, cond, int_lt, nat_eq, if◌then◌else◌, ⊤, All}
use Rattle.std.specs.List.{sum_by, AllByRecursion}
use Rattle.std.specs.Ordering.{int_eq}
use Rattle.weights.specs.declared.lines.Line.{Line}
use Rattle.weights.specs.declared.rules.Rule.{Rule}
use Rattle.weights.specs.declared.tails.Tail.{Tail}
use Rattle.weights.specs.declared.TheConstants.{MAX}
use Rattle.weights.specs.Conditional.{ConditionalTest}
use Rattle.weights.specs.Rules.{RuleFits, rule_of}

-- the values ascend, each above the one before
abbrev pub IsAscending : List Line → Type 0
IsAscending [] = ⊤
IsAscending (l ∷ ls) = AllByRecursion (λ m. l.value <ℤ m.value) ls × IsAscending ls

-- a value is above the last line's
abbrev pub IsAboveLast : ℤ → List Line → Type 0
IsAboveLast v [] = ⊤
IsAboveLast v (l ∷ []) = l.value <ℤ v
IsAboveLast v (l ∷ m ∷ ls) = IsAboveLast v (m ∷ ls)

-- how many lines have lesser values, where they ascend
abbrev pub place_of : ℤ → List Line → ℕ
place_of v [] = 0
place_of v (l ∷ ls) = if int_lt l.value v then suc (place_of v ls) else 0

-- the lines with a weight added to that of a value
abbrev pub add_line : ℤ → ℕ → List Line → List Line
add_line v w [] = record { value = v; weight = w } ∷ []
add_line v w (l ∷ ls) =
    if int_lt l.value v then l ∷ add_line v w ls else
    (if int_eq l.value v then record { value = v; weight = l.weight + w } ∷ ls
    else record { value = v; weight = w } ∷ l ∷ ls)

-- the same, where a weight of 0 adds nothing
abbrev pub with_weight : ℤ → ℕ → List Line → List Line
with_weight v w lines = if nat_eq w 0 then lines else add_line v w lines

-- the weight of the lines whose values pass
abbrev pub line_sum : (ℤ → Bool) → List Line → ℕ
line_sum p lines = sum_by (λ l. cond (p l.value) l.weight 0) lines

abbrev pub every : ℤ → Bool
every v = true

-- the weights of the lines sum to at most MAX
abbrev pub WeightsFit : List Line → Type 0
WeightsFit lines = line_sum every lines ≤ MAX

-- a rule computes no number of a line's value that passes a limit
abbrev pub RuleFitsLines : Rule → List Line → Type 0
RuleFitsLines rule lines = All (λ line. RuleFits rule line.value) lines

-- the rule of no tail of a test does
abbrev pub TailsFit : ConditionalTest → List Line → Type 0
TailsFit test lines = (tail : Tail) → RuleFitsLines (rule_of test tail) lines

-- the lines have strictly ascending values, weights of at least 1, and these sums: for each test of
-- values, the weight of the lines that pass
pub record IsSpreadOf (sums : (ℤ → Bool) → ℕ) (lines : List Line) : Type 0 where
  pub ascending : IsAscending lines
  pub positive : AllByRecursion (λ l. 1 ≤ l.weight) lines
  pub told : (p : ℤ → Bool) → line_sum p lines ≡ sums p
