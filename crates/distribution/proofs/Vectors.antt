-- Four lines whose tails are known by hand.
use Rattle.std.proofs.Common.{◌≡◌, List, [], ◌∷◌, refl}
use Rattle.std.specs.Prelude.{pos, negsuc, int_le, nat_le}
use Rattle.weights.specs.declared.lines.Line.{Line}
use Rattle.weights.specs.Conditional.{distance}
use Rattle.networks.specs.Lines.{line_sum}

-- -4 1, -2 2, 2 2 and 4 1
abbrev four_lines : List Line
four_lines =
    record { value = negsuc 3; weight = 1 } ∷ record { value = negsuc 1; weight = 2 }
    ∷ record { value = pos 2; weight = 2 } ∷ record { value = pos 4; weight = 1 } ∷ []

below-two : line_sum (λ v. int_le v (pos 2)) four_lines ≡ 5
below-two = refl

above-two : line_sum (λ v. int_le (pos 2) v) four_lines ≡ 3
above-two = refl

far-from_none : line_sum (λ v. nat_le 16 (distance 4 (pos 0) v)) four_lines ≡ 2
far-from_none = refl
