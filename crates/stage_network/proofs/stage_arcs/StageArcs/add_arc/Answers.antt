use Rattle.std.proofs.Common.{◌≡◌, ◌++◌, ◌∷◌, [], take, ℕ, List, length, ap, sym, subst, refl, ◌∙◌}
use Rattle.std.specs.Prelude.{ℤ}
use Rattle.std.proofs.lemmas.List.{with_items_is}
use Rattle.node_pool.specs.Pool.{IsPlaced}
use Rattle.stage_network.specs.ArcSteps.{Arc}
use Rattle.stage_network.proofs.Listing.{buffers-same}
use Rattle.stage_network.proofs.stage_arcs.StageArcs.add_arc.Goals as goal

pub returns : goal.returns
returns g c =
    let n = g.S.Stages.network c.args.stages.now in
    let s = c.args.stage in
    let was = c.args.self.now in
    let r = c.requires in
    let width = g.S.Roomed.room_width c.args.stages.now in
    let k = was.key.items in
    let here = was.choice.items in
    let crossed = with_items_is was.target_room c.cross-weight.new.room (c.cross-weight.auto.room ∙ ap length c.deref_mut.ensures.value ∙ sym was.target_room.ok.0) in
    let weighs : c.cross-weight.result ≡ n.weight s k here = c.cross-weight.ensures.weight ∙ ap (λ j. n.weight s j c.deref-2.result.now) c.deref.ensures.value ∙ ap (n.weight s k) c.deref-2.ensures.value in
    let there : c.deref-3.result.now ≡ take width (n.next s k here) = c.deref-3.ensures.value ∙ crossed ∙ c.cross-weight.ensures.room ∙ ap (λ j. take width (n.next s j c.deref-2.result.now)) c.deref.ensures.value ∙ ap (λ j. take width (n.next s k j)) c.deref-2.ensures.value in
    let arc : List ℕ → ℕ → Arc = λ choice weight. record { start = c.args.start; end = c.args.end; choice = choice; weight = weight; target = c.in_ok-target.target } in
    record {
      added = record {
        fitted = buffers-same _ _ _ _ r.fitted c.in_ok-push.ensures.width c.in_ok-target.ensures.width refl refl (ap length crossed ∙ c.cross-weight.auto.room ∙ ap length c.deref_mut.ensures.value);
        light = c.in_ok-target.ensures.light;
        key = refl {A = List ℤ};
        choice = refl {A = List ℕ};
        placed = subst (λ room. IsPlaced was.rooms.nodes room c.place.new.rooms.nodes c.in_ok-target.target) there c.in_ok-target.ensures.placed;
        width_is = c.in_ok-push.ensures.width;
        arcs = c.in_ok-push.ensures.arcs ∙ ap (λ choice. was.arcs.arcs ++ arc choice c.cross-weight.result ∷ []) c.deref-4.ensures.value ∙ ap (λ weight. was.arcs.arcs ++ arc here weight ∷ []) weighs;
        rooms = c.in_ok-push.ensures.rooms;
      };
    }
