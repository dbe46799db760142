-- An arc that is listed among those of a stage.
use Rattle.std.specs.Prelude.{◌≡◌, ℕ, ◌+◌, [], ◌∷◌, ◌++◌, take, if◌then◌else◌, ◌==◌}
use Rattle.node_pool.specs.Nodes.{weighted}
use Rattle.node_pool.specs.Pool.{IsPlaced}
use Rattle.stage_network.specs.declared.stage_arcs.StageArcs.{StageArcs}
use Rattle.networks.specs.Network.{Network}
use Rattle.stage_network.specs.ArcSteps.{Arc}
use Rattle.stage_network.specs.SweepSteps.{HasBuffers}

-- the arc of the key and the choice that are written has been listed, to the room at a place
pub record HasArc (n : Network) (width g start end target : ℕ) (old new : StageArcs)
    : Type 0 where
  pub fitted : HasBuffers n width new
  pub light : weighted (λ k. 1) new.rooms.nodes ≡ 0
  pub key : new.key.items ≡ old.key.items
  pub choice : new.choice.items ≡ old.choice.items
  pub placed : let room = take width (n.next g old.key.items old.choice.items) in
      IsPlaced old.rooms.nodes room new.rooms.nodes target
  pub width_is : new.arcs.width ≡ old.arcs.width
  pub arcs : let choice = old.choice.items in
      let arc : Arc = record {
        start = start;
        end = end;
        choice = choice;
        weight = n.weight g old.key.items choice;
        target = target;
      } in
      new.arcs.arcs ≡ old.arcs.arcs ++ arc ∷ []
  pub rooms : let rooms = old.arcs.rooms in
      new.arcs.rooms ≡ (if target == rooms then rooms + 1 else rooms)
