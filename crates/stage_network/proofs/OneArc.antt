-- One arc: what is known of it by its own numbers, and of each node that it starts from.
use Rattle.std.proofs.Common.{◌≡◌, ◌≢◌, ℕ, zero, suc, ◌+◌, ◌-◌, ◌*◌, ◌<◌, ◌≤◌, List, [], ◌++◌, length, get_or, take, drop, ap, arith, refl, sym, ◌∙◌, subst}
use Rattle.std.specs.Prelude.{ℤ}
use Rattle.std.specs.List.{Contains}
use Rattle.node_pool.specs.Nodes.{Node, node, weighted}
use Rattle.networks.specs.Network.{Network, IsReached}
use Rattle.stage_network.specs.NodeSteps.{AllReached, AreNodes}
use Rattle.networks.specs.Rooms.{IsArc}
use Rattle.stage_network.specs.ArcSteps.{Arc, AllFine, IsChoiceOf, IsFine, IsRun, chosen, segment, arc_nodes}
use Rattle.stage_network.proofs.Roomwise.{all_at, heavy_at, pour-fits, pour-more, whole-key}
use Rattle.stage_network.proofs.Stepping.{reached_at}
use Rattle.weights.proofs.Products.{product-some}

-- an arc of a list, by what was read of it
pub arc_is : (arcs : List Arc) (i start end weight : ℕ) (choice : List ℕ) → ((d : Arc) → start ≡ (get_or arcs i d).start) → ((d : Arc) → end ≡ (get_or arcs i d).end) → ((d : Arc) → weight ≡ (get_or arcs i d).weight) → ((d : Arc) → choice ≡ (get_or arcs i d).choice) → (d : Arc) → get_or arcs i d ≡ record { start = start; end = end; choice = choice; weight = weight; target = (get_or arcs i d).target }
arc_is arcs i start end weight choice s e w c d = rw (s d, e d, w d, c d) refl

abbrev pub no_arc : Arc
no_arc = record { start = 0; end = 0; choice = []; weight = 0; target = 0 }

-- behind a place that is not 0 stands an arc
pub place_below : (place most : ℕ) → place ≢ 0 → place ≤ most → place - 1 < most
place_below zero most h low = absurd (h refl)
place_below (suc i) most h low = omega (arith, low)

pub place_is : (place : ℕ) → place ≢ 0 → place ≡ suc (place - 1)
place_is place h = omega (arith, h)

pub fine_is : (n : Network) (g width : ℕ) (nodes rooms : List Node) (arcs : List Arc) → AllFine n g width nodes rooms arcs → (i start end weight : ℕ) (choice : List ℕ) → i < length arcs → ((d : Arc) → start ≡ (get_or arcs i d).start) → ((d : Arc) → end ≡ (get_or arcs i d).end) → ((d : Arc) → weight ≡ (get_or arcs i d).weight) → ((d : Arc) → choice ≡ (get_or arcs i d).choice) → IsFine n g width nodes rooms (record { start = start; end = end; choice = choice; weight = weight; target = (get_or arcs i no_arc).target })
fine_is n g width nodes rooms arcs fine i start end weight choice low s e w c =
    subst (IsFine n g width nodes rooms) (arc_is arcs i start end weight choice s e w c no_arc) (all_at (IsFine n g width nodes rooms) arcs i no_arc fine low)

-- its nodes
pub nodes_are : (n : Network) (g : ℕ) (nodes : List Node) (arcs : List Arc) (i start end weight : ℕ) (choice : List ℕ) → ((d : Arc) → start ≡ (get_or arcs i d).start) → ((d : Arc) → end ≡ (get_or arcs i d).end) → ((d : Arc) → weight ≡ (get_or arcs i d).weight) → ((d : Arc) → choice ≡ (get_or arcs i d).choice) → (f : List ℤ → ℕ) → weighted f (arc_nodes n g nodes (get_or arcs i no_arc)) ≡ weighted f (chosen n g choice (segment start end nodes))
nodes_are n g nodes arcs i start end weight choice s e w c f = ap (λ a. weighted f (arc_nodes n g nodes a)) (arc_is arcs i start end weight choice s e w c no_arc)

-- by its room, as it was read of the first of its nodes
module _ (n : Network) (g width h : ℕ) (e : h ≡ width) (nodes : List Node) (are : AreNodes n g nodes) (start end weight : ℕ) (choice : List ℕ) (fine : IsChoiceOf n g nodes start end choice weight) (run : IsRun width nodes start end) (room : List ℤ) (front : (d : Node) → room ≡ take h (get_or nodes start d).key) where
  here : (d : Node) → room ≡ take width (get_or nodes start d).key
  here d = front d ∙ ap (λ m. take m (get_or nodes start d).key) e

  pub start-arc : length room ≡ h → IsArc n width g room choice
  start-arc wide =
      let d = node [] 0 in
      let k : List ℤ = (get_or nodes start d).key in
      let key : room ++ drop width k ≡ k = whole-key width room (drop width k) k (here d) refl in
      record {
        partial = drop width k;
        wide = wide ∙ e;
        reached = subst (IsReached n g) (sym key) (reached_at n g nodes start d are.reached (omega (arith, fine.order, fine.last)));
        allowed = subst (λ j. Contains (n.choices g j) choice) (sym key) (fine.allowed start d (omega arith) fine.order);
      }

  -- one of its nodes, by its partial and its weight
  module _ (i : ℕ) (from : start ≤ i) (below : i < end) (partial : List ℤ) (rest : (d : Node) → partial ≡ drop h (get_or nodes i d).key) where
    key : (d : Node) → room ++ partial ≡ (get_or nodes i d).key
    key d = whole-key width room partial (get_or nodes i d).key (here d ∙ sym (run i d from below)) (rest d ∙ ap (λ m. drop m (get_or nodes i d).key) e)

    low : i < length nodes
    low = omega (arith, below, fine.last)

    pub start-reached : IsReached n g (room ++ partial)
    start-reached = let d : Node = node [] 0 in subst (IsReached n g) (sym (key d)) (reached_at n g nodes i d are.reached low)

    pub start-allowed : Contains (n.choices g (room ++ partial)) choice
    start-allowed = let d : Node = node [] 0 in subst (λ k. Contains (n.choices g k) choice) (sym (key d)) (fine.allowed i d from below)

    module _ (count : ℕ) (weighs : (d : Node) → count ≡ (get_or nodes i d).weight) (f : List ℤ → ℕ) where
      arc-value : (d : Node) → ((get_or nodes i d).weight * n.weight g (get_or nodes i d).key choice) * f (n.next g (get_or nodes i d).key choice) ≡ (count * weight) * f (n.next g (room ++ partial) choice)
      arc-value d = rw (← weighs d, fine.weighs i d from below, ← key d) refl

      pub start-more : weighted f (chosen n g choice (take ((i + 1) - start) (segment start end nodes))) ≡ weighted f (chosen n g choice (take (i - start) (segment start end nodes))) + (count * weight) * f (n.next g (room ++ partial) choice)
      start-more = let d : Node = node [] 0 in pour-more n g choice f nodes start end i d from below fine.last ∙ ap (λ m. weighted f (chosen n g choice (take (i - start) (segment start end nodes))) + m) (arc-value d)

      pub start-fits : weighted f (chosen n g choice (take (i - start) (segment start end nodes))) + (count * weight) * f (n.next g (room ++ partial) choice) ≤ weighted f (chosen n g choice (segment start end nodes))
      start-fits = let d : Node = node [] 0 in omega (arith, pour-fits n g choice f nodes start end i d from below fine.last, arc-value d)

    pub start-heavy : (count : ℕ) → ((d : Node) → count ≡ (get_or nodes i d).weight) → 1 ≤ count * weight
    start-heavy count weighs =
        let d = node [] 0 in
        product-some count weight (rw (weighs d) (heavy_at nodes i d are.heavy low))
        (rw (← fine.weighs i d from below) (are.lawful.weighty g (get_or nodes i d).key choice (reached_at n g nodes i d are.reached low) (fine.allowed i d from below)))

-- a key that was written from a node's room and partial
pub key_is : (nodes : List Node) (i width : ℕ) (k r p : List ℤ) → k ≡ r ++ p → ((d : Node) → r ≡ take width (get_or nodes i d).key) → ((d : Node) → p ≡ drop width (get_or nodes i d).key) → (d : Node) → k ≡ (get_or nodes i d).key
key_is nodes i width k r p e room partial d = e ∙ whole-key width r p (get_or nodes i d).key (room d) (partial d)

pub reached-key : (n : Network) (g : ℕ) (nodes : List Node) (i width : ℕ) (k r p : List ℤ) → AllReached n g nodes → i < length nodes → k ≡ r ++ p → ((d : Node) → r ≡ take width (get_or nodes i d).key) → ((d : Node) → p ≡ drop width (get_or nodes i d).key) → IsReached n g k
reached-key n g nodes i width k r p reached low e room partial =
    let d = node [] 0 in
    subst (IsReached n g) (sym (key_is nodes i width k r p e room partial d)) (reached_at n g nodes i d reached low)
