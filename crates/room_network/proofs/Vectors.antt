-- Two draws from a box of two black balls and a white one, none put back, and how many white balls
-- are drawn. A room has how many balls of either colour are left, a choice is a colour, 0 for black,
-- and weighs as many balls as may be drawn.
use Rattle.std.proofs.Common.{◌≡◌, ℕ, zero, suc, ◌+◌, ◌-◌, List, [], ◌∷◌, map, refl, arith}
use Rattle.std.specs.Prelude.{ℤ, pos, min}
use Rattle.weights.specs.declared.tails.Tail.TheVariants.{Less, Greater}
use Rattle.weights.specs.declared.rules.Rule.TheVariants.{AtMost, AtLeast}
use Rattle.networks.specs.Completions.{completions, path_end, path_weight}
use Rattle.networks.specs.declared.stages.Verdict.TheVariants.{Inside, Outside, Undecided}
use Rattle.networks.specs.Network.{Network}
use Rattle.room_network.specs.Meanings.{Meaning, way_value}
use Rattle.room_network.specs.Plans.{Gives, Plan, ways, way_weight}
use Rattle.room_network.specs.RoomNetworks.{room_network}

abbrev black : List ℕ
black = 0 ∷ []

abbrev white : List ℕ
white = 1 ∷ []

abbrev colours : List ℤ → List (List ℕ)
colours (pos (suc b) ∷ pos (suc w) ∷ []) = black ∷ white ∷ []
colours (pos (suc b) ∷ pos zero ∷ []) = black ∷ []
colours (pos zero ∷ pos (suc w) ∷ []) = white ∷ []
colours _ = []

abbrev after : List ℤ → List ℕ → List (List ℕ)
after (pos b ∷ pos (suc w) ∷ []) (zero ∷ []) = white ∷ []
after _ _ = []

abbrev balls : List ℤ → List ℕ → ℕ
balls (pos b ∷ pos w ∷ []) (zero ∷ []) = b
balls (pos b ∷ pos w ∷ []) (suc zero ∷ []) = w
balls _ _ = 0

abbrev left : List ℤ → List ℕ → List ℤ
left (pos b ∷ pos w ∷ []) (zero ∷ []) = pos (b - 1) ∷ pos w ∷ []
left (pos b ∷ pos w ∷ []) (suc zero ∷ []) = pos b ∷ pos (w - 1) ∷ []
left room _ = room

abbrev box : Plan
box = record {
  floor = record {
    count = 2;
    width = 2;
    choice_width = 1;
    first = pos 2 ∷ pos 1 ∷ [];
    choices = λ g room. colours room;
    later = λ g room c. after room c;
    next = λ g room c. left room c;
  };
  weight = λ g room c. balls room c;
}

abbrev drawn : List ℤ → List ℕ → List ℤ
drawn (pos t ∷ []) (c ∷ []) = pos (t + c) ∷ []
drawn partial _ = partial

abbrev count_of : List ℤ → ℤ
count_of (t ∷ []) = t
count_of _ = pos 0

-- all that is drawn from now on may be white, as far as white balls are left
abbrev most : ℕ → List ℤ → List ℤ → ℤ
most g (pos b ∷ pos w ∷ []) (pos t ∷ []) = pos (t + min w (2 - g))
most g _ _ = pos 0

abbrev whites : Meaning
whites = record {
  floor = box.floor;
  slots = 1;
  step_width = 0;
  outlook_width = 0;
  first = pos 0 ∷ [];
  step = λ g room c. [];
  advance = λ g room c partial. drawn partial c;
  outlook = λ g room. [];
  value = count_of;
  low = λ g room partial. count_of partial;
  high = most;
  judge = record { less = AtMost (pos 0); greater = AtLeast (pos 1); two = AtLeast (pos 0) };
}

ways-are : ways box ≡ (black ∷ black ∷ []) ∷ (black ∷ white ∷ []) ∷ (white ∷ black ∷ []) ∷ []
ways-are = refl

weights-are : map (way_weight box) (ways box) ≡ 2 ∷ 2 ∷ 2 ∷ []
weights-are = refl

values-are : map (way_value whites) (ways box) ≡ pos 0 ∷ pos 1 ∷ pos 1 ∷ []
values-are = refl

-- the six ways to draw two of the balls 0, 1 and 2, of which the last is white
abbrev draws : List (List ℕ)
draws = (0 ∷ 1 ∷ []) ∷ (0 ∷ 2 ∷ []) ∷ (1 ∷ 0 ∷ []) ∷ (1 ∷ 2 ∷ []) ∷ (2 ∷ 0 ∷ []) ∷ (2 ∷ 1 ∷ []) ∷ []

abbrev colour : ℕ → List ℕ
colour (suc (suc c)) = white
colour _ = black

box-gives : Gives box draws (λ xs. 1) (map colour)
box-gives = record { law = λ f. omega arith }

abbrev n : Network
n = room_network whites box.weight

completions-are : completions n 0 n.first ≡ ways box
completions-are = refl

end-is : path_end n 0 n.first (black ∷ white ∷ []) ≡ pos 1 ∷ pos 0 ∷ pos 1 ∷ []
end-is = refl

weight-is : path_weight n 0 n.first (black ∷ white ∷ []) ≡ 2
weight-is = refl

verdicts-are : map (n.verdict Greater 1) (map (n.next 0 n.first) (n.choices 0 n.first)) ≡ Undecided ∷ Inside ∷ []
verdicts-are = refl

-- of another tail, by its own rule
other-verdicts : map (n.verdict Less 1) (map (n.next 0 n.first) (n.choices 0 n.first)) ≡ Undecided ∷ Outside ∷ []
other-verdicts = refl

last-verdict : n.verdict Greater 2 (path_end n 0 n.first (black ∷ black ∷ [])) ≡ Outside
last-verdict = refl
