-- A worked example: two draws from a box of two black balls and a white one, none put back, and how
-- many white balls are drawn. A room has how many balls of either colour are left; a choice is a
-- colour, 0 for black, and weighs as many balls as may be drawn.
use Rattle.std.specs.Prelude.{ℕ, ◌-◌, ℤ, pos, nat_abs, int_lt, List, [], ◌∷◌, map, nat_eq, nat_lt, slice_index, slice_index_or, if◌then◌else◌}
use Rattle.std.specs.List.{count_by}
use Rattle.weights.specs.Conditional.{unit_weight}
use Rattle.weights.specs.declared.rules.Rule.TheVariants.{AtMost, AtLeast}
use Rattle.networks.specs.declared.verdicts.Judge.{Judge}
use Rattle.room_network.specs.Numbers.{Numbers}
use Rattle.room_network.specs.Plans.{Gives, Plan}
use Rattle.room_network.specs.declared.numbers.Operation.TheVariants.{Sum}

-- the balls of a colour that are left
abbrev pub balls : List ℤ → ℕ → ℕ
balls room colour = nat_abs (slice_index_or room colour (pos 0))

abbrev pub white_choice : List ℤ → List (List ℕ)
white_choice room = if nat_lt 0 (balls room 1) then (1 ∷ []) ∷ [] else []

abbrev pub colours : List ℤ → List (List ℕ)
colours room = if nat_lt 0 (balls room 0) then (0 ∷ []) ∷ white_choice room else white_choice room

abbrev pub first_colour : ℤ → ℕ
first_colour black = if int_lt (pos 0) black then 0 else 1

abbrev pub after_draw : List ℤ → List ℕ → List ℤ
after_draw room c = if nat_eq (slice_index c 0) 0
    then pos (balls room 0 - 1) ∷ pos (balls room 1) ∷ []
    else pos (balls room 0) ∷ pos (balls room 1 - 1) ∷ []

abbrev pub box : Plan
box = record {
  floor = record {
    count = 2;
    width = 2;
    choice_width = 1;
    first = pos 2 ∷ pos 1 ∷ [];
    choices = λ g room. colours room;
    later = λ g room c. if nat_eq (slice_index c 0) 0 then white_choice room else [];
    next = λ g room c. after_draw room c;
  };
  weight = λ g room c. balls room (slice_index c 0);
}

-- the white balls so far; of those to come there are none at least, and at most those that are left
abbrev pub white_numbers : Judge → Numbers (List ℤ)
white_numbers judge = record {
  operation = Sum;
  step = λ g room c. pos (slice_index c 0);
  least = λ g room. pos 0;
  greatest = λ g room. if nat_lt g 2 then pos (balls room 1) else pos 0;
  judge = judge;
}

abbrev pub some_white : Judge
some_white = record { less = AtMost (pos 0); greater = AtLeast (pos 1); two = AtLeast (pos 1) }

-- the six ways to draw two of the balls 0, 1 and 2, of which the last is white
abbrev pub draws : List (List ℕ)
draws = (0 ∷ 1 ∷ []) ∷ (0 ∷ 2 ∷ []) ∷ (1 ∷ 0 ∷ []) ∷ (1 ∷ 2 ∷ []) ∷ (2 ∷ 0 ∷ []) ∷ (2 ∷ 1 ∷ []) ∷ []

abbrev pub colour : ℕ → List ℕ
colour ball = if nat_eq ball 2 then 1 ∷ [] else 0 ∷ []

-- the rooms give the six ways
abbrev pub GivesDraws : Type 0
GivesDraws = Gives box draws unit_weight (map colour)

-- the white balls of some
abbrev pub whites : List ℕ → ℤ
whites drawn = pos (count_by (nat_eq 2) drawn)
