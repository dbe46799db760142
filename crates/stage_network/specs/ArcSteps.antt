-- The arcs of a stage, from room to room, and how they are kept: in the order of their arrival,
-- those to one room linked from the last to the first.
use Rattle.std.specs.Prelude.{◌≡◌, ℕ, suc, ℤ, ◌≤◌, ◌<◌, ◌-◌, ◌*◌, List, [], ◌∷◌, ◌++◌, length, take, drop, get_or, map, filter, nat_eq, nat_lt}
use Rattle.std.specs.List.{Contains, flat_map, AllByRecursion}
use Rattle.node_pool.specs.Nodes.{Node, node}
use Rattle.stage_network.specs.declared.links.Link.{Link}
use Rattle.networks.specs.Network.{Network}
use Rattle.stage_network.specs.NodeSteps.{successor}

-- an arc from the nodes of one room, from a place to before another, to one room of the next stage
pub record Arc : Type 0 where
  pub start : ℕ
  pub end : ℕ
  pub choice : List ℕ
  pub weight : ℕ
  pub target : ℕ

abbrev pub segment : ℕ → ℕ → List Node → List Node
segment start end nodes = take (end - start) (drop start nodes)

-- the nodes that an arc leads to
abbrev pub chosen : Network → ℕ → List ℕ → List Node → List Node
chosen n g c nodes = map (λ b. successor n g b c) nodes

abbrev pub arc_nodes : Network → ℕ → List Node → Arc → List Node
arc_nodes n g nodes a = chosen n g a.choice (segment a.start a.end nodes)

abbrev pub spread_out : Network → ℕ → List Node → List Arc → List Node
spread_out n g nodes arcs = flat_map (arc_nodes n g nodes) arcs

-- the arcs to one room
abbrev pub bucket : ℕ → List Arc → List Arc
bucket t arcs = filter (λ a. nat_eq a.target t) arcs

-- the arcs to the rooms below one
abbrev pub firsts : ℕ → List Arc → List Arc
firsts t arcs = filter (λ a. nat_lt a.target t) arcs

-- the nodes from a place to before another are of one room
abbrev pub IsRun : ℕ → List Node → ℕ → ℕ → Type 0
IsRun width nodes start end = (i : ℕ) (d : Node) → start ≤ i → i < end
    → take width (get_or nodes i d).key ≡ take width (get_or nodes start d).key

-- a choice is allowed at each of these nodes, with this weight
pub record IsChoiceOf (n : Network) (g : ℕ) (nodes : List Node) (start end : ℕ)
    (c : List ℕ) (weight : ℕ) : Type 0 where
  pub order : start < end
  pub last : end ≤ length nodes
  pub allowed : (i : ℕ) (d : Node) → start ≤ i → i < end
      → Contains (n.choices g (get_or nodes i d).key) c
  pub weighs : (i : ℕ) (d : Node) → start ≤ i → i < end
      → n.weight g (get_or nodes i d).key c ≡ weight

-- an arc is one of the network's, from each of its nodes, to its room
pub record IsFine (n : Network) (g width : ℕ) (nodes rooms : List Node) (a : Arc) : Type 0 where
  pub chosen : IsChoiceOf n g nodes a.start a.end a.choice a.weight
  pub run : IsRun width nodes a.start a.end
  pub target : a.target < length rooms
  pub room : (i : ℕ) (d e : Node) → a.start ≤ i → i < a.end
      → take width (n.next g (get_or nodes i d).key a.choice) ≡ (get_or rooms a.target e).key

abbrev pub AllFine : Network → ℕ → ℕ → List Node → List Node → List Arc → Type 0
AllFine n g width nodes rooms arcs = AllByRecursion (IsFine n g width nodes rooms) arcs

-- the width of a choice, the arcs, and how many rooms they lead to
pub record ArcList : Type 0 where
  pub width : ℕ
  pub arcs : List Arc
  pub rooms : ℕ

-- the arcs from these nodes, to these rooms
pub record AreArcs (n : Network) (g width : ℕ)
    (nodes rooms : List Node) (all : ArcList) : Type 0 where
  pub wide : all.width ≡ n.choice_width
  pub count : all.rooms ≡ length rooms
  pub fine : AllFine n g width nodes rooms all.arcs

-- nodes of one room, given by their partials
abbrev pub lift : List ℤ → List Node → List Node
lift room nodes = map (λ (a : Node). node (room ++ a.key) a.weight) nodes

abbrev pub arcs_of : ℕ → List ℕ → List Link → List Arc
arcs_of width choices [] = []
arcs_of width choices (a ∷ links) =
    let arc : Arc = record {
      start = a.start;
      end = a.end;
      choice = take width choices;
      weight = a.weight;
      target = a.target;
    } in
    arc ∷ arcs_of width (drop width choices) links

-- behind a place stands the last arc to a room among the first m, or nothing where there is none
pub record IsPlace (arcs : List Arc) (t m place : ℕ) : Type 0 where
  pub low : place ≤ m
  pub all : bucket t (take place arcs) ≡ bucket t (take m arcs)
  pub here : (i : ℕ) (d : Arc) → place ≡ suc i → (get_or arcs i d).target ≡ t

pub record IsLinked (arcs : List Arc) (nexts heads : List ℕ) : Type 0 where
  pub targets : AllByRecursion (λ (a : Arc). a.target < length heads) arcs
  pub firsts : (t : ℕ) → t < length heads → IsPlace arcs t (length arcs) (get_or heads t 0)
  pub others : (i : ℕ) (d : Arc) → i < length arcs
      → IsPlace arcs (get_or arcs i d).target i (get_or nexts i 0)

pub record IsArcs (width : ℕ) (choices : List ℕ) (links : List Link) (heads : List ℕ) : Type 0 where
  pub long : length choices ≡ length links * width
  pub linked : IsLinked (arcs_of width choices links) (map (λ (a : Link). a.next) links) heads
