-- The network of Zelen's test: a stage is a stratum, in the order of the file, and its choice is
-- the first cell. A room has what is left of the sum of the first cells.
use Rattle.std.specs.Prelude.{ℕ, ◌+◌, ◌-◌, ◌*◌, ℤ, pos, List, [], ◌∷◌, length, drop, max, min}
use Rattle.std.specs.List.{count_by, sum_by}
use Rattle.weights.specs.declared.tails.Tail.{Tail}
use Rattle.networks.specs.Judged.{judge_of}
use Rattle.networks.specs.Network.{Network}
use Rattle.networks.specs.declared.verdicts.Judge.{Judge}
use Rattle.room_network.specs.Meanings.{Meaning}
use Rattle.room_network.specs.Numbers.{Numbers, scalar_meaning}
use Rattle.room_network.specs.Plans.{Floor, Plan, Weights}
use Rattle.room_network.specs.RoomNetworks.{room_network}
use Rattle.room_network.specs.declared.numbers.Operation.TheVariants.{Product}
use Rattle.strata_cells.specs.declared.stratum.Stratum.{Stratum}
use Rattle.strata_cells.specs.Strata.{cell_weight, greatest_cell, least_cell, stratum_at, strata_labellings, strata_of}
use Rattle.count_rooms.specs.OneCount.{choices_between, chosen, remaining}
use Rattle.zelen_test.specs.Zelen.{has_sum, observed_sum_test}

-- the sum of the first cells as they are, and the least and the greatest that labels can give
abbrev pub own_sum : List Stratum → ℕ
own_sum strata = sum_by (λ s. s.a) strata

abbrev pub least_first_cells : List Stratum → ℕ
least_first_cells strata = sum_by least_cell strata

abbrev pub greatest_first_cells : List Stratum → ℕ
greatest_first_cells strata = sum_by greatest_cell strata

-- the first cells of a stratum after which the later ones can have the rest of a sum
abbrev pub least_choice : Stratum → List Stratum → ℕ → ℕ
least_choice s later sum = max (least_cell s) (sum - greatest_first_cells later)

abbrev pub greatest_choice : Stratum → List Stratum → ℕ → ℕ
greatest_choice s later sum = min (greatest_cell s) (sum - least_first_cells later)

abbrev pub zelen_floor : List Stratum → ℕ → Floor
zelen_floor strata sum = record {
  count = length strata;
  width = 1;
  choice_width = 1;
  first = pos sum ∷ [];
  choices = λ g room. let s = stratum_at strata g in let later = drop (g + 1) strata in
      choices_between (least_choice s later (remaining room))
      (greatest_choice s later (remaining room));
  later = λ g room c. let s = stratum_at strata g in let later = drop (g + 1) strata in
      choices_between (chosen c + 1) (greatest_choice s later (remaining room));
  next = λ g room c. pos (remaining room - chosen c) ∷ [];
}

-- a first cell weighs as many labellings as give it
abbrev pub zelen_weights : List Stratum → Weights
zelen_weights strata g room c = cell_weight (stratum_at strata g) (chosen c)

abbrev pub zelen_plan : List Stratum → ℕ → Plan
zelen_plan strata sum = record { floor = zelen_floor strata sum; weight = zelen_weights strata }

-- the lesser of what the least and the greatest first cell weigh; and the product over strata
abbrev pub lesser_weight : Stratum → ℕ
lesser_weight s = min (cell_weight s (least_cell s)) (cell_weight s (greatest_cell s))

abbrev pub lesser_weights : List Stratum → ℕ
lesser_weights [] = 1
lesser_weights (s ∷ strata) = lesser_weight s * lesser_weights strata

-- how many labellings of strata have a sum of their first cells
abbrev pub number_with : List Stratum → ℕ → ℕ
number_with strata sum = count_by (has_sum strata sum) (strata_labellings strata)

-- What is measured is the product of the weights. The later strata multiply it at least by their
-- lesser weights, and at most by the number of their labellings that have the sum that is left.
abbrev pub zelen_numbers : List Stratum → Judge → Numbers (List ℤ)
zelen_numbers strata judge = record {
  operation = Product;
  step = λ g room c. pos (zelen_weights strata g room c);
  least = λ g room. pos (lesser_weights (drop g strata));
  greatest = λ g room. pos (number_with (drop g strata) (remaining room));
  judge = judge;
}

abbrev pub zelen_meaning : List Stratum → ℕ → Judge → Meaning
zelen_meaning strata sum judge =
    scalar_meaning (zelen_floor strata sum) (zelen_numbers strata judge)

abbrev pub observed_sum_network : List Stratum → Network
observed_sum_network strata =
    room_network (zelen_meaning strata (own_sum strata) (judge_of (observed_sum_test strata)))
    (zelen_weights strata)

abbrev pub zelen_network : List ℕ → Tail → Network
zelen_network cells tail = observed_sum_network (strata_of cells)
