use Rattle.std.proofs.Common.{◌≡◌, ◌-◌, ◌<◌, ◌≤◌, ℕ, take, drop, get_or, length}
use Rattle.score_convolution.specs.Places.{AllEnough, IsUpper, enough, spots_sum}
use Rattle.score_convolution.specs.declared.lists.Spot.{Spot}
use Rattle.score_convolution.proofs.lists.pairs_from.Given as goal

-- the pairs of the spots before this one; all upper spots are enough for each later one
abbrev pub invariant-loop-i : goal.invariant-loop-i
invariant-loop-i g l = record {
  upper : IsUpper l.others l.upper;
  above : (j : ℕ) (d : Spot) → l.i ≤ j → j < length l.ones → AllEnough (l.fn.place - (get_or l.ones j d).place) (drop l.upper.index l.others);
  pairs : l.pairs ≡ spots_sum (λ p. spots_sum (enough (l.fn.place - p)) l.others) (take l.i l.ones);
}
