use Rattle.std.proofs.Common.{◌≡◌, length, get_or, ap, sym, subst, refl, rules, ◌∙◌, FitsSigned}
use Rattle.std.specs.Prelude.{pos}
use Rattle.std.specs.Vec.{with_items}
use Rattle.std.proofs.lemmas.Int.{to_z-of_z}
use Rattle.std.proofs.lemmas.List.{with_items_is}
use mir.Syntax.{w128}
use Rattle.networks.specs.Network.{IsReached, pending}
use Rattle.networks.specs.Rooms.{IsArc}
use Rattle.stage_network.proofs.Listing.{buffers-same, listing-reached, listing-first, listing-next, listing-done}
use Rattle.stage_network.specs.RowSteps.{all_nodes}
use Rattle.stage_network.proofs.Spans.{row-arc, row-shift, shifts-push}
use Rattle.stage_network.proofs.row_arcs.RowArcs.add_arcs.Goals as goal

pub first_choice-more-requires-clause-reached : goal.first_choice-more-requires-clause-reached
first_choice-more-requires-clause-reached g c =
    let r = c.requires in
    subst (IsReached (g.S.Stages.network c.args.stages.now) c.args.stage) (sym c.deref.ensures.value)
    (listing-reached _ _ _ _ _ _ r.here.nodes r.here.roomed r.span.order r.span.last r.span.run c.args.self.now.listed.key.items r.key)

pub loop-more-init : goal.loop-more-init
loop-more-init g c =
    let n = g.S.Stages.network c.args.stages.now in
    let s = c.args.stage in
    let r = c.requires in
    let was = c.args.self.now.listed in
    let chosen = with_items_is was.choice c.first_choice-more.new.choice (c.first_choice-more.auto.choice ∙ ap length c.deref_mut.ensures.value ∙ sym was.choice.ok.0) in
    let first = subst (λ j. n.choices s j ≡ pending n s j c.first_choice-more.result c.first_choice-more.new.choice) c.deref.ensures.value c.first_choice-more.ensures in
    record {
      listing = listing-first n s (g.S.Roomed.room_width c.args.stages.now) (all_nodes c.args.rows.now.rows) c.args.start c.args.end r.here.nodes r.here.roomed r.span.order r.span.last r.span.run c.first_choice-more.result was _ r.key (rw chosen first) r.listed.listed refl refl (buffers-same _ _ _ _ r.listed.listed.fitted refl refl refl (ap length chosen ∙ c.first_choice-more.auto.choice ∙ ap length c.deref_mut.ensures.value) refl);
      step = r.listed.step;
      shifts = r.listed.shifts;
    }

pub add_arc-requires : goal.add_arc-requires
add_arc-requires g c =
    let r = c.requires in
    let l = c.loop-more.invariant.listing in
    record {
      before = r.here.nodes.before;
      reached = listing-reached _ _ _ _ _ _ r.here.nodes r.here.roomed r.span.order r.span.last r.span.run c.loop-more.self.listed.key.items l.key;
      allowed = (rw c.loop-more-test.true at l.allowed).0;
      fitted = l.fitted;
      light = l.light;
      count = l.arcs.count;
    }

pub step-requires-clause-arc : goal.step-requires-clause-arc
step-requires-clause-arc g c =
    let n = g.S.Stages.network c.args.stages.now in
    let w = g.S.Roomed.room_width c.args.stages.now in
    let r = c.requires in
    let was = c.loop-more.self.listed in
    let listing = c.loop-more.invariant.listing in
    subst (IsArc n w c.args.stage c.room-room.result.now) (sym (c.deref-in-loop-more.ensures.value ∙ c.in_ok-target.ensures.added.choice))
    (row-arc n c.args.stage w c.args.rows.now.rows c.args.row c.args.start c.args.end r.span c.room-room.result.now c.room-room.ensures.room (c.room-room.ensures.wide ∙ r.here.room_width) was.choice.items was.key.items listing.key (listing-reached _ _ _ _ _ _ r.here.nodes r.here.roomed r.span.order r.span.last r.span.run was.key.items listing.key) ((rw c.loop-more-test.true at listing.allowed).0))

pub next_choice-more-requires-clause-reached : goal.next_choice-more-requires-clause-reached
next_choice-more-requires-clause-reached g c =
    let r = c.requires in
    subst (IsReached (g.S.Stages.network c.args.stages.now) c.args.stage) (sym (c.deref-in-loop-more-2.ensures.value ∙ c.in_ok-target.ensures.added.key))
    (listing-reached _ _ _ _ _ _ r.here.nodes r.here.roomed r.span.order r.span.last r.span.run c.loop-more.self.listed.key.items c.loop-more.invariant.listing.key)

pub loop-more-preserved : goal.loop-more-preserved
loop-more-preserved g c =
    let n = g.S.Stages.network c.args.stages.now in
    let s = c.args.stage in
    let w = g.S.Roomed.room_width c.args.stages.now in
    let rows = c.args.rows.now.rows in
    let r = c.requires in
    let i = c.loop-more.invariant in
    let was = c.loop-more.self.listed in
    let buffer = c.loop-more.self.step in
    let mid = c.add_arc.new.self in
    let added = c.in_ok-target.ensures.added in
    let chosen = with_items_is mid.choice c.next_choice-more.new.choice (c.next_choice-more.auto.choice ∙ ap length c.deref_mut-in-loop-more-2.ensures.value ∙ sym mid.choice.ok.0) in
    let stepped = with_items_is buffer c.step.new.step (c.step.auto.step ∙ ap length c.deref_mut-in-loop-more.ensures.value ∙ sym buffer.ok.0) in
    let key : c.deref-in-loop-more-2.result.now ≡ was.key.items = c.deref-in-loop-more-2.ensures.value ∙ added.key in
    let choice : c.deref_mut-in-loop-more-2.result.now ≡ was.choice.items = c.deref_mut-in-loop-more-2.ensures.value ∙ added.choice in
    let z = c.index-step.result.now in
    let fz : FitsSigned w128 z = search rules in
    let at : z ≡ get_or (with_items buffer c.step.new.step).items 0 (pos 0) = search rules in
    let raised : z ≡ get_or (g.S.Roomed.step_of c.args.stages.now s c.room-room.result.now was.choice.items) 0 (pos 0) = at ∙ ap (λ x. get_or x 0 (pos 0)) (stepped ∙ c.step.ensures) ∙ ap (λ choice. get_or (g.S.Roomed.step_of c.args.stages.now s c.room-room.result.now choice) 0 (pos 0)) (c.deref-in-loop-more.ensures.value ∙ added.choice) in
    let later = subst (λ j. n.later s j was.choice.items ≡ pending n s j c.next_choice-more.result c.next_choice-more.new.choice) key (subst (λ choice. n.later s c.deref-in-loop-more-2.result.now choice ≡ pending n s c.deref-in-loop-more-2.result.now c.next_choice-more.result c.next_choice-more.new.choice) choice c.next_choice-more.ensures) in
    record {
      listing = listing-next n s w (all_nodes rows) c.args.start c.args.end r.here.nodes r.here.roomed r.span.order r.span.last r.span.run c.next_choice-more.result was mid _ _ (rw c.loop-more-test.true at i.listing) added refl refl refl (buffers-same _ _ _ _ added.fitted refl refl refl (ap length chosen ∙ c.next_choice-more.auto.choice ∙ ap length c.deref_mut-in-loop-more-2.ensures.value) refl) (rw chosen later);
      step = ap length stepped ∙ c.step.auto.step ∙ ap length c.deref_mut-in-loop-more.ensures.value ∙ i.step;
      shifts = rw (added.arcs, c.in_ok-push_shift.ensures, to_z-of_z w128 z fz) (shifts-push n s w rows was.arcs.arcs c.loop-more.self.shifts.items _ _ i.shifts (row-shift n s w rows c.args.row c.args.start c.args.end r.span c.room-room.result.now c.room-room.ensures.room (c.room-room.ensures.wide ∙ r.here.room_width) was.choice.items _ _ r.here.shifting r.here.nodes.before r.row _ _ z raised));
    }

pub returns : goal.returns
returns g c =
    let r = c.requires in
    let i = c.loop-more.invariant in
    record {
      listed = record {
        listed = listing-done _ c.args.stage _ (all_nodes c.args.rows.now.rows) c.args.start c.args.end r.here.nodes r.here.roomed r.span.order r.span.last r.span.run c.loop-more.self.listed (rw c.loop-more-test.false at i.listing);
        step = i.step;
        shifts = i.shifts;
      };
    }
