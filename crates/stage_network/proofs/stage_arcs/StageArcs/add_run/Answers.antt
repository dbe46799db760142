use Rattle.std.proofs.Common.{◌≡◌, length, get_or, refl, ap, sym, subst, ◌∙◌}
use Rattle.std.proofs.lemmas.List.{with_items_is}
use Rattle.node_pool.specs.Nodes.{Node}
use Rattle.networks.specs.Network.{IsReached, pending}
use Rattle.stage_network.proofs.OneArc.{key_is}
use Rattle.stage_network.proofs.Listing.{buffers-same, listing-reached, listing-first, listing-next, listing-done}
use Rattle.stage_network.proofs.stage_arcs.StageArcs.add_run.Goals as goal

pub first_choice-more-requires-clause-reached : goal.first_choice-more-requires-clause-reached
first_choice-more-requires-clause-reached g c =
    let n = g.S.Stages.network c.args.stages.now in
    let r = c.requires in
    subst (IsReached n c.args.stage) (sym (c.deref.ensures.value ∙ with_items_is c.args.self.now.key c.write_key.new.key (c.write_key.auto.key ∙ ap length c.deref_mut.ensures.value ∙ sym c.args.self.now.key.ok.0)))
    (listing-reached n c.args.stage (g.S.Roomed.room_width c.args.stages.now) c.args.nodes.now.nodes c.args.start c.args.end r.here.nodes r.here.roomed r.some r.within r.run c.write_key.new.key (key_is c.args.nodes.now.nodes c.args.start _ _ _ _ c.write_key.ensures c.room.ensures.room c.partial.ensures.partial))

pub loop-more-init : goal.loop-more-init
loop-more-init g c =
    let n = g.S.Stages.network c.args.stages.now in
    let s = c.args.stage in
    let k = c.write_key.new.key in
    let r = c.requires in
    let was = c.args.self.now in
    let written = with_items_is was.key k (c.write_key.auto.key ∙ ap length c.deref_mut.ensures.value ∙ sym was.key.ok.0) in
    let chosen = with_items_is was.choice c.first_choice-more.new.choice (c.first_choice-more.auto.choice ∙ ap length c.deref_mut-2.ensures.value ∙ sym was.choice.ok.0) in
    let key : (d : Node) → k ≡ (get_or c.args.nodes.now.nodes c.args.start d).key = key_is c.args.nodes.now.nodes c.args.start _ _ _ _ c.write_key.ensures c.room.ensures.room c.partial.ensures.partial in
    let first = subst (λ j. n.choices s j ≡ pending n s j c.first_choice-more.result c.first_choice-more.new.choice) c.deref.ensures.value c.first_choice-more.ensures in
    record {
      listing = listing-first n s (g.S.Roomed.room_width c.args.stages.now) c.args.nodes.now.nodes c.args.start c.args.end r.here.nodes r.here.roomed r.some r.within r.run c.first_choice-more.result was _ (λ d. written ∙ key d) (rw chosen first) r.listed refl refl (buffers-same _ _ _ _ r.listed.fitted refl refl (ap length written ∙ c.write_key.auto.key ∙ ap length c.deref_mut.ensures.value) (ap length chosen ∙ c.first_choice-more.auto.choice ∙ ap length c.deref_mut-2.ensures.value) refl);
    }

pub add_arc-requires : goal.add_arc-requires
add_arc-requires g c =
    let r = c.requires in
    let l = c.loop-more.invariant.listing in
    record {
      before = r.here.nodes.before;
      reached = listing-reached _ _ _ _ _ _ r.here.nodes r.here.roomed r.some r.within r.run c.loop-more.self.key.items l.key;
      allowed = (rw c.loop-more-test.true at l.allowed).0;
      fitted = l.fitted;
      light = l.light;
      count = l.arcs.count;
    }

pub loop-more-preserved : goal.loop-more-preserved
loop-more-preserved g c =
    let n = g.S.Stages.network c.args.stages.now in
    let s = c.args.stage in
    let was = c.loop-more.self in
    let mid = c.add_arc.new.self in
    let r = c.requires in
    let added = c.in_ok-add_arc.ensures.added in
    let chosen = with_items_is mid.choice c.next_choice-more.new.choice (c.next_choice-more.auto.choice ∙ ap length c.deref_mut-in-loop-more.ensures.value ∙ sym mid.choice.ok.0) in
    let key : c.deref-in-loop-more.result.now ≡ was.key.items = c.deref-in-loop-more.ensures.value ∙ added.key in
    let choice : c.deref_mut-in-loop-more.result.now ≡ was.choice.items = c.deref_mut-in-loop-more.ensures.value ∙ added.choice in
    let later = subst (λ j. n.later s j was.choice.items ≡ pending n s j c.next_choice-more.result c.next_choice-more.new.choice) key (subst (λ choice. n.later s c.deref-in-loop-more.result.now choice ≡ pending n s c.deref-in-loop-more.result.now c.next_choice-more.result c.next_choice-more.new.choice) choice c.next_choice-more.ensures) in
    record {
      listing = listing-next n s (g.S.Roomed.room_width c.args.stages.now) c.args.nodes.now.nodes c.args.start c.args.end r.here.nodes r.here.roomed r.some r.within r.run c.next_choice-more.result was mid _ _ (rw c.loop-more-test.true at c.loop-more.invariant.listing) added refl refl refl (buffers-same _ _ _ _ added.fitted refl refl refl (ap length chosen ∙ c.next_choice-more.auto.choice ∙ ap length c.deref_mut-in-loop-more.ensures.value) refl) (rw chosen later);
    }

pub next_choice-more-requires-clause-reached : goal.next_choice-more-requires-clause-reached
next_choice-more-requires-clause-reached g c =
    let r = c.requires in
    subst (IsReached (g.S.Stages.network c.args.stages.now) c.args.stage) (sym (c.deref-in-loop-more.ensures.value ∙ c.in_ok-add_arc.ensures.added.key))
    (listing-reached _ _ _ _ _ _ r.here.nodes r.here.roomed r.some r.within r.run c.loop-more.self.key.items c.loop-more.invariant.listing.key)

pub returns : goal.returns
returns g c =
    let r = c.requires in
    record {
      listed = listing-done _ c.args.stage _ c.args.nodes.now.nodes c.args.start c.args.end r.here.nodes r.here.roomed r.some r.within r.run c.loop-more.self (rw c.loop-more-test.false at c.loop-more.invariant.listing);
    }
