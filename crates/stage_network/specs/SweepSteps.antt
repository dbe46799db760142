-- A sweep through the stages for the asked tails at once: of the keys those stay that are open for
-- some of these, or every key does.
use Rattle.std.specs.Prelude.{◌≡◌, ℕ, zero, suc, ℤ, ◌+◌, ◌*◌, ◌≤◌, ◌^◌, List, [], ◌∷◌, length, take, Bool, true, cond}
use Rattle.std.specs.List.{filter, IsDistinct}
use Rattle.std.specs.Set.{distinct_count}
use Rattle.weights.specs.declared.tails.Tail.{Tail}
use Rattle.weights.specs.declared.TheConstants.{MAX}
use Rattle.node_pool.specs.Nodes.{Node, NodeRow, key_eq, keys, node, weighted}
use Rattle.networks.specs.declared.tail_sums.TailSums.{TailSums}
use Rattle.networks.specs.declared.tail_sums.Kept.{Kept}
use Rattle.networks.specs.declared.tail_sums.Kept.TheVariants.{Open, All}
use Rattle.stage_network.specs.declared.stage_arcs.StageArcs.{StageArcs}
use Rattle.stage_network.specs.declared.rooms.RoomPool.{RoomPool}
use Rattle.stage_network.specs.declared.sweep.Sweep.{Sweep}
use Rattle.networks.specs.Network.{Network}
use Rattle.networks.specs.Completions.{total_weight, extreme_weight, ending_weight}
use Rattle.networks.specs.Laws.{IsLawful}
use Rattle.networks.specs.Asked.{asked}
use Rattle.networks.specs.Opened.{is_open, is_open_for_some, opened_by_some}
use Rattle.networks.specs.EachTail.{sum_for}
use Rattle.networks.specs.Rooms.{IsRoomed}
use Rattle.stage_network.specs.NodeSteps.{AllHeavy, AllReached, AreNodes, all_successors, closes_inside, opened_in}
use Rattle.stage_network.specs.StageSteps.{Housed}
use Rattle.stage_network.specs.ArcSteps.{AreArcs, lift, spread_out}

-- whether a key of stage g stays
abbrev pub stays : Network → Kept → ℕ → List ℤ → Bool
stays n (Open tails) g k = is_open_for_some (asked tails n) g k
stays n All g k = true

-- the nodes that stay
abbrev pub staying : Network → Kept → ℕ → List Node → List Node
staying n kept g nodes = filter (λ a. stays n kept g a.key) nodes

-- the weight that is closed at a key for a tail: that of its completions, where all are extreme
abbrev pub closed_at : Network → Kept → Tail → ℕ → List ℤ → ℕ
closed_at n (Open tails) t g k = cond (closes_inside (asked tails n) t g k) (total_weight n g k) 0
closed_at n All t g k = 0

-- how many nodes are counted as open for a tail
abbrev pub counted : Network → Kept → Tail → ℕ → List Node → ℕ
counted n (Open tails) t g nodes = opened_in (asked tails n) t g nodes
counted n All t g nodes = 0

-- the same of their keys, each distinct one once
abbrev pub counted_keys : Network → Kept → Tail → ℕ → List Node → ℕ
counted_keys n (Open tails) t g nodes =
    distinct_count key_eq (filter (is_open (asked tails n) t g) (keys nodes))
counted_keys n All t g nodes = 0

-- where a sweep starts, with weighted keys of a stage, and which keys it keeps
pub record Course : Type 0 where
  pub keep : Kept
  pub stage : ℕ
  pub nodes : List Node

-- from the first key
abbrev pub first_course : Network → Kept → Course
first_course n keep = record { keep = keep; stage = 0; nodes = node n.first 1 ∷ [] }

-- the nodes that it comes to m stages on, once for each way there through keys that stay
abbrev pub arriving : Network → Course → ℕ → List Node
arriving n course zero = course.nodes
arriving n course (suc m) =
    let g = course.stage + m in all_successors n g (staying n course.keep g (arriving n course m))

-- what a number of a stage and the nodes there comes to over these m stages and the first
abbrev pub on_the_way : (ℕ → List Node → ℕ) → Network → Course → ℕ → ℕ
on_the_way f n course zero = f course.stage course.nodes
on_the_way f n course (suc m) =
    on_the_way f n course m + f (course.stage + suc m) (arriving n course (suc m))

-- m stages on: the nodes are those that stay, merged, as every sum over them tells; of each tail
-- the weight that was closed on the way, and how many keys were open
pub record HasSwept (n : Network) (course : Course) (m : ℕ) (sums : TailSums)
    (nodes : List Node) : Type 0 where
  pub told : (f : List ℤ → ℕ)
      → weighted f nodes
      ≡ weighted f (staying n course.keep (course.stage + m) (arriving n course m))
  pub sum : (t : Tail)
      → (sum_for sums t).sum
      ≡ on_the_way (λ g all. weighted (closed_at n course.keep t g) all) n course m
  pub opened : (t : Tail)
      → (sum_for sums t).opened ≡ on_the_way (counted_keys n course.keep t) n course m
  pub distinct : IsDistinct key_eq (keys nodes)
  pub heavy : AllHeavy nodes

-- a weight that a count within this limit can have, and a number of 128 bits
pub record IsWithin (most weight : ℕ) : Type 0 where
  pub limit : weight ≤ most
  pub fits : weight ≤ MAX

-- a sweep can start so: its completions weigh no more than a count can
pub record IsCourse (n : Network) (limit : ℕ) (course : Course) : Type 0 where
  pub within : course.stage ≤ n.count
  pub reached : AllReached n course.stage course.nodes
  pub heavy : AllHeavy course.nodes
  pub light : IsWithin limit (weighted (total_weight n course.stage) course.nodes)

-- nodes for keys with rooms of this width
pub record IsShaped (n : Network) (width : ℕ) (nodes : Housed) : Type 0 where
  pub room_width : nodes.room_width ≡ width
  pub wide : nodes.width ≡ n.width

-- arcs for choices and rooms of these widths, and buffers of them
pub record HasBuffers (n : Network) (width : ℕ) (all : StageArcs) : Type 0 where
  pub arcs : all.arcs.width ≡ n.choice_width
  pub rooms : all.rooms.width ≡ width
  pub key : length all.key.items ≡ n.width
  pub choice : length all.choice.items ≡ n.choice_width
  pub target_room : length all.target_room.items ≡ width

-- a pool for partials behind rooms of this width, and buffers for a step and a partial
pub record IsFitted {C : Type 0} (n : Network) (width step_width : ℕ)
    (pool : RoomPool C) : Type 0 where
  pub wide : width + pool.partials.width ≡ n.width
  pub step : length pool.step.items ≡ step_width
  pub next : length pool.next.items ≡ pool.partials.width

-- the stores of a sweep serve the network
pub record HasStores {C : Type 0} (n : Network) (width step_width : ℕ)
    (sweep : Sweep C) : Type 0 where
  pub roomed : IsRoomed n width
  pub nodes : IsShaped n width sweep.nodes
  pub ahead : IsShaped n width sweep.ahead
  pub arcs : HasBuffers n width sweep.arcs
  pub pool : IsFitted n width step_width sweep.pool

-- a sweep of this course stands at a stage; no more keys were open than each stage can have
pub record IsSweeping {C : Type 0} (n : Network) (width step_width limit : ℕ) (course : Course)
    (sweep : Sweep C) : Type 0 where
  pub lawful : IsLawful n
  pub starts : IsCourse n limit course
  pub stores : HasStores n width step_width sweep
  pub keeps : sweep.keep ≡ course.keep
  pub gone : ℕ
  pub stands : sweep.stage ≡ course.stage + gone
  pub within : sweep.stage ≤ n.count
  pub swept : HasSwept n course gone sweep.sums sweep.nodes.nodes
  pub few : (t : Tail) → (sum_for sweep.sums t).opened ≤ (sweep.stage + 1) * 18446744073709551615

-- nodes of a stage before the last, in rooms of this width
pub record AreHere (n : Network) (width g : ℕ) (here : Housed) : Type 0 where
  pub nodes : AreNodes n g here.nodes
  pub roomed : IsRoomed n width
  pub shape : IsShaped n width here

-- the arcs of the nodes before a place are listed
pub record AreListed (n : Network) (width g : ℕ) (nodes : List Node) (place : ℕ)
    (all : StageArcs) : Type 0 where
  pub fitted : HasBuffers n width all
  pub light : weighted (λ k. 1) all.rooms.nodes ≡ 0
  pub arcs : AreArcs n g width nodes all.rooms.nodes all.arcs
  pub told : (f : List ℤ → ℕ)
      → weighted f (spread_out n g nodes all.arcs.arcs)
      ≡ weighted f (all_successors n g (take place nodes))

-- the partials of a room of stage g, whose completions weigh no more than what each sum leaves; and
-- nodes to keep them with
pub record IsRoomful (n : Network) (width g : ℕ) (sums : TailSums) (room : List ℤ)
    (partials : NodeRow) (kept : Housed) : Type 0 where
  pub lawful : IsLawful n
  pub within : g ≤ n.count
  pub reached : AllReached n g (lift room partials.nodes)
  pub fits : (t : Tail)
      → (sum_for sums t).sum + weighted (total_weight n g) (lift room partials.nodes) ≤ MAX
  pub few : (t : Tail) → (sum_for sums t).opened + 2 ^ 64 ≤ 2 ^ 128 + length kept.nodes
  pub room_is : length room ≡ width
  pub long : length room + partials.width ≡ n.width
  pub here : kept.room_width ≡ length room
  pub wide : kept.width ≡ n.width

-- what a sweep from the first key to the last stage comes to: of each asked tail the weight of the
-- extreme completions, and how many keys were open for it; or nodes at whose keys all completions
-- end
abbrev pub IsSwept : Network → Kept → TailSums → List Node → Type 0
IsSwept n (Open tails) sums nodes = (t : Tail)
    → ((sum_for sums t).sum ≡ extreme_weight (asked tails n) t 0 n.first)
    × ((sum_for sums t).opened ≡ opened_by_some (asked tails n) t n.count)
IsSwept n All sums nodes =
    (p : List ℤ → Bool) → weighted (λ k. cond (p k) 1 0) nodes ≡ ending_weight n p
