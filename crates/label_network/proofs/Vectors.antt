-- The rank sums of two samples of three without ties, key by key; and those of three samples with ties.
use Rattle.std.proofs.Common.{◌≡◌, ℕ, List, [], ◌∷◌, map, refl}
use Rattle.std.specs.Prelude.{ℤ, pos, negsuc}
use Rattle.weights.specs.declared.rules.Rule.TheVariants.{AtMost, AtLeast, Far}
use Rattle.weights.specs.declared.tails.Tail.TheVariants.{Greater, Two}
use Rattle.networks.specs.declared.stages.Verdict.{Verdict}
use Rattle.networks.specs.declared.stages.Verdict.TheVariants.{Inside, Outside, Undecided}
use Rattle.networks.specs.Opened.{opened_below}
use Rattle.room_network.specs.Meanings.{Meaning as RoomMeaning}
use Rattle.room_network.specs.RoomNetworks.{partial_of, room_of}
use Rattle.label_network.specs.LabelNetwork.{label_network, over_rooms}
use Rattle.label_network.specs.Linear.{linear_meaning}
use Rattle.label_network.specs.Meanings.{Meaning}

abbrev ranks : List ℤ
ranks = pos 2 ∷ pos 4 ∷ pos 6 ∷ pos 8 ∷ pos 10 ∷ pos 12 ∷ []

abbrev single : List ℕ
single = 1 ∷ 1 ∷ 1 ∷ 1 ∷ 1 ∷ 1 ∷ []

abbrev sums : Meaning
sums = linear_meaning (pos 0 ∷ pos 1 ∷ []) (3 ∷ 3 ∷ []) ranks single (record { less = AtMost (pos 30); greater = AtLeast (pos 30); two = Far 6 (pos 126) 54 })

-- the sizes that remain and the sum so far
abbrev key : ℕ → ℕ → ℕ → List ℤ
key x y t = pos x ∷ pos y ∷ pos t ∷ []

-- what is known of a key for the greater tail, and where its choices lead
record Known : Type 0 where
  low : ℤ
  high : ℤ
  verdict : Verdict
  next : List (List ℤ)

abbrev known : Meaning → ℕ → List ℤ → Known
known m g k = let r : RoomMeaning = over_rooms m in record {
  low = r.low g (room_of r k) (partial_of r k);
  high = r.high g (room_of r k) (partial_of r k);
  verdict = (label_network m).verdict Greater g k;
  next = map ((label_network m).next g k) ((label_network m).choices g k);
}

stage_0 : known sums 0 (label_network sums).first ≡ record { low = pos 12; high = pos 30; verdict = Undecided; next = key 3 2 2 ∷ key 2 3 0 ∷ [] }
stage_0 = refl

stage_1_open : known sums 1 (key 2 3 0) ≡ record { low = pos 18; high = pos 30; verdict = Undecided; next = key 2 2 4 ∷ key 1 3 0 ∷ [] }
stage_1_open = refl

stage_1_outside : known sums 1 (key 3 2 2) ≡ record { low = pos 12; high = pos 24; verdict = Outside; next = key 3 1 6 ∷ key 2 2 2 ∷ [] }
stage_1_outside = refl

stage_2_open : known sums 2 (key 1 3 0) ≡ record { low = pos 24; high = pos 30; verdict = Undecided; next = key 1 2 6 ∷ key 0 3 0 ∷ [] }
stage_2_open = refl

stage_2_outside : known sums 2 (key 2 2 4) ≡ record { low = pos 18; high = pos 26; verdict = Outside; next = key 2 1 10 ∷ key 1 2 4 ∷ [] }
stage_2_outside = refl

stage_3_inside : known sums 3 (key 0 3 0) ≡ record { low = pos 30; high = pos 30; verdict = Inside; next = key 0 2 8 ∷ [] }
stage_3_inside = refl

stage_3_outside : known sums 3 (key 1 2 6) ≡ record { low = pos 24; high = pos 28; verdict = Outside; next = key 1 1 14 ∷ key 0 2 6 ∷ [] }
stage_3_outside = refl

open_greater : opened_below (label_network sums) Greater 6 ≡ 3
open_greater = refl

open_two : opened_below (label_network sums) Two 6 ≡ 5
open_two = refl

-- rows whose scores do not ascend, and tied subjects
abbrev three : Meaning
three = linear_meaning (pos 3 ∷ pos 0 ∷ pos 1 ∷ []) (2 ∷ 1 ∷ 3 ∷ []) (negsuc 0 ∷ pos 2 ∷ pos 3 ∷ pos 7 ∷ []) (2 ∷ 1 ∷ 2 ∷ 1 ∷ []) (record { less = AtMost (pos 20); greater = AtLeast (pos 20); two = AtLeast (pos 20) })

three_0 : known three 0 (label_network three).first ≡ record { low = pos 2; high = pos 34; verdict = Undecided; next = (pos 2 ∷ pos 1 ∷ pos 1 ∷ negsuc 1 ∷ []) ∷ (pos 2 ∷ pos 0 ∷ pos 2 ∷ negsuc 0 ∷ []) ∷ (pos 1 ∷ pos 1 ∷ pos 2 ∷ negsuc 3 ∷ []) ∷ (pos 1 ∷ pos 0 ∷ pos 3 ∷ negsuc 2 ∷ []) ∷ (pos 0 ∷ pos 1 ∷ pos 3 ∷ negsuc 5 ∷ []) ∷ [] }
three_0 = refl
