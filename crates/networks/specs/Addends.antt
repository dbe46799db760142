-- Networks whose choices do not depend on the key: each choice adds numbers to the sums of the
-- key, of which the first, or the sum of all squares, is the value. The intervals of the squares
-- are those of boxes: each sum ends between two numbers, and so does its distance from a centre.
use Rattle.std.specs.Prelude.{ℕ, zero, suc, ◌+◌, ◌-◌, ◌*◌, ◌/◌, min, max, ℤ, pos, ◌+ℤ◌, nat_abs, List, [], ◌∷◌, Bool, true, false, replicate, nat_lt, slice_index_or, if◌then◌else◌}
use Rattle.std.specs.List.{sum_by}
use Rattle.networks.specs.declared.additive.CentredSquares.{CentredSquares}
use Rattle.networks.specs.declared.additive.SumValue.{SumValue}
use Rattle.networks.specs.declared.additive.SumValue.TheVariants.{First, Squares}
use Rattle.networks.specs.declared.verdicts.Judge.{Judge}
use Rattle.networks.specs.Network.{Network}
use Rattle.networks.specs.Judged.{rule_in, verdict_of}
use Rattle.networks.specs.Distances.{correction, far_square, near_square}
use Rattle.networks.specs.PartialSums.{plus, kept}

pub record Addends : Type 0 where
  -- how many stages there are, how many sums, and how many numbers a choice has
  pub count : ℕ
  pub slots : ℕ
  pub choice_width : ℕ
  -- the choices of a stage in the order of the visit, and those after a choice
  pub choices : ℕ → List (List ℕ)
  pub later : ℕ → List ℕ → List (List ℕ)
  -- the weight of a choice, and what it adds to each sum
  pub weight : ℕ → List ℕ → ℕ
  pub adds : ℕ → List ℕ → List ℤ
  -- the least and the greatest that a choice of a stage adds to a sum
  pub least : ℕ → ℤ
  pub most : ℕ → ℤ
  -- whether the sums are kept ascending, and what is measured of the last ones
  pub sorted : Bool
  pub value : SumValue
  -- the rules that the verdicts go by
  pub judge : Judge

-- the sum over m stages from g on
abbrev pub over_stages : (ℕ → ℤ) → ℕ → ℕ → ℤ
over_stages f zero g = pos 0
over_stages f (suc m) g = f g +ℤ over_stages f m (g + 1)

-- what the stages from g on add to a sum, at least and at most
abbrev pub least_sum_to_come : Addends → ℕ → ℤ
least_sum_to_come a g = over_stages a.least (a.count - g) g

abbrev pub most_sum_to_come : Addends → ℕ → ℤ
most_sum_to_come a g = over_stages a.most (a.count - g) g

abbrev pub first_sum : List ℤ → ℤ
first_sum k = slice_index_or k 0 (pos 0)

abbrev pub square : ℤ → ℕ
square z = nat_abs z * nat_abs z

-- squares told by distances from 0, and from the mean, rounded down, of sums with a total
abbrev pub from_zero : ℕ → CentredSquares
from_zero bound = record { centre = 0; beside = 0; bound = bound }

abbrev pub from_mean : ℕ → ℕ → ℕ → CentredSquares
from_mean sums total bound =
    record { centre = total / sums; beside = correction sums (total / sums) total; bound = bound }

-- what is said of the two numbers between which each sum ends, added: it is still raised by l at
-- least, and by h at most
abbrev pub summed_ends : (ℕ → ℕ → ℕ) → ℤ → ℤ → List ℤ → ℕ
summed_ends f l h k = sum_by (λ z. f (nat_abs (z +ℤ l)) (nat_abs (z +ℤ h))) k

-- what is measured of the last sums
abbrev pub sum_value_of : SumValue → List ℤ → ℤ
sum_value_of First k = first_sum k
sum_value_of (Squares s) k = pos (sum_by square k)

-- the least value that such sums end at
abbrev pub low_end : SumValue → ℤ → ℤ → List ℤ → ℤ
low_end First l h k = first_sum k +ℤ l
low_end (Squares s) l h k = pos (s.beside + summed_ends (near_square s.centre) l h k)

-- and the greatest
abbrev pub high_end : SumValue → ℤ → ℤ → List ℤ → ℤ
high_end First l h k = first_sum k +ℤ h
high_end (Squares s) l h k =
    pos (min s.bound (s.beside + summed_ends (far_square s.centre) l h k))

abbrev pub low : Addends → ℕ → List ℤ → ℤ
low a g k = low_end a.value (least_sum_to_come a g) (most_sum_to_come a g) k

abbrev pub high : Addends → ℕ → List ℤ → ℤ
high a g k = high_end a.value (least_sum_to_come a g) (most_sum_to_come a g) k

abbrev pub zeros : Addends → List ℤ
zeros a = replicate a.slots (pos 0)

abbrev pub additive_network : Addends → Network
additive_network a = record {
  count = a.count;
  width = a.slots;
  choice_width = a.choice_width;
  first = zeros a;
  choices = λ g k. if nat_lt g a.count then a.choices g else [];
  later = λ g k c. a.later g c;
  weight = λ g k c. a.weight g c;
  next = λ g k c. kept a.sorted (plus k (a.adds g c));
  verdict = λ t g k. verdict_of (rule_in a.judge t) (low a g k) (high a g k);
  value = sum_value_of a.value;
}

-- the choices that are still to come at a stage: from c on, or none
abbrev pub choices_left : Addends → ℕ → Bool → List ℕ → List (List ℕ)
choices_left a g true c = c ∷ a.later g c
choices_left a g false c = []

-- the summed weight of a stage's choices, and its product over m stages from g on
abbrev pub stage_total : Addends → ℕ → ℕ
stage_total a g = sum_by (a.weight g) (a.choices g)

abbrev pub totals : Addends → ℕ → ℕ → ℕ
totals a zero g = 1
totals a (suc m) g = stage_total a g * totals a m (g + 1)

-- the sum over the stages before g
abbrev pub over_earlier : (ℕ → ℕ) → ℕ → ℕ
over_earlier f zero = 0
over_earlier f (suc g) = over_earlier f g + f g

-- how far a stage moves a sum at most, and how far all of them do
abbrev pub stride : Addends → ℕ → ℕ
stride a g = max (nat_abs (a.least g)) (nat_abs (a.most g))

abbrev pub reach : Addends → ℕ
reach a = over_earlier (stride a) a.count
