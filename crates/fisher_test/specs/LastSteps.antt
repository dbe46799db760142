-- What the bodies keep that take the last two columns of a table together, and words for them.
use Rattle.std.specs.Prelude.{◌≡◌, ℕ, ℤ, ◌+◌, ◌*◌, ◌≤◌, pos, nat_abs, List, length, Bool, cond}
use Rattle.std.specs.List.{sum_by}
use Rattle.weights.specs.declared.lines.Line.{Line}
use Rattle.weights.specs.declared.rules.Rule.{Rule}
use Rattle.weights.specs.declared.rules.Rule.TheVariants.{AtMost, AtLeast, Far}
use Rattle.weights.specs.declared.tails.Tail.{Tail}
use Rattle.weights.specs.declared.TheConstants.{MAX}
use Rattle.node_pool.specs.Nodes.{weighted}
use Rattle.networks.specs.declared.tail_sums.TailSums.{TailSums}
use Rattle.networks.specs.declared.verdicts.Judge.{Judge}
use Rattle.networks.specs.Network.{Network}
use Rattle.networks.specs.Completions.{total_weight}
use Rattle.networks.specs.EachTail.{sum_for}
use Rattle.stage_network.specs.NodeSteps.{AllHeavy, AllReached}
use Rattle.stage_network.specs.StageSteps.{Housed}
use Rattle.stage_network.specs.SweepSteps.{IsShaped, IsWithin}
use Rattle.room_network.specs.RoomNetworks.{room_network}
use Rattle.sorted_tables.specs.SortedRooms.{sorted_weight}
use Rattle.fisher_test.specs.SortedWeighing.{sorted_meaning}
use Rattle.fisher_test.specs.WeightSteps.{AreOrdered, IsWeighing}

-- the network of the weight of tables with these rows, the greatest first, and columns, the least
-- first
abbrev pub weight_network : List ℕ → List ℕ → Judge → Network
weight_network rows columns judge = room_network (sorted_meaning rows columns judge) sorted_weight

-- the weights of lines, each times what f says of its value
abbrev pub valued : (ℤ → ℕ) → List Line → ℕ
valued f lines = sum_by (λ l. l.weight * f l.value) lines

-- the summed weight of lines
abbrev pub weight_of : List Line → ℕ
weight_of lines = valued (λ v. 1) lines

-- 1 for a value that passes
abbrev pub once : (ℤ → Bool) → ℤ → ℕ
once p v = cond (p v) 1 0

-- nodes of stage g, up to which a network is swept
pub record AreMeeting (n : Network) (width limit g : ℕ) (nodes : Housed) : Type 0 where
  pub shape : IsShaped n width nodes
  pub within : g ≤ n.count
  pub reached : AllReached n g nodes.nodes
  pub heavy : AllHeavy nodes.nodes
  pub light : IsWithin limit (weighted (total_weight n g) nodes.nodes)

-- and what was closed on the way there
pub record IsFirstHalf (n : Network) (width limit g : ℕ) (nodes : Housed)
    (closed : TailSums) : Type 0 where
  pub meeting : AreMeeting n width limit g nodes
  pub fits : (t : Tail) → (sum_for closed t).sum + weighted (total_weight n g) nodes.nodes ≤ MAX

-- up to which number values pass
abbrev pub most_in : Rule → ℕ
most_in (AtMost most) = nat_abs most
most_in (AtLeast least) = 0
most_in (Far factor centre distance) = 0

-- two columns and more, and tables that are extreme where they weigh no more than a number
pub record AreLast (rows columns : List ℕ) (judge : Judge) : Type 0 where
  pub weighing : IsWeighing rows columns judge
  pub ordered : AreOrdered rows columns
  pub two : 2 ≤ length columns
  pub rule : judge.two ≡ AtMost (pos (most_in judge.two))
  pub few : most_in judge.two ≤ MAX

-- nodes before the last two columns
pub record AreBeforeLast (rows columns : List ℕ) (judge : Judge) (limit g : ℕ)
    (nodes : Housed) : Type 0 where
  pub meeting : AreMeeting (weight_network rows columns judge) (length rows) limit g nodes
  pub left : g + 2 ≡ length columns

-- with what was closed on the way there
pub record IsHalfBeforeLast (rows columns : List ℕ) (judge : Judge) (limit g : ℕ)
    (nodes : Housed) (closed : TailSums) : Type 0 where
  pub half : IsFirstHalf (weight_network rows columns judge) (length rows) limit g nodes closed
  pub left : g + 2 ≡ length columns
