use Rattle.std.proofs.Common.{◌≡◌, ◌∙◌, ◌<◌, None, SFits, Some, ap, arith, get_or, length, rules, sym, take, tests, to_z-of_z, w64}
use Rattle.std.proofs.lemmas.Grind.{common_steps}
use Rattle.std.proofs.lemmas.Iterator.Consumers.{YieldsList-end, YieldsList-turn}
use Rattle.std.proofs.lemmas.Iterator.Splits.{YieldsList-from_slice_split}
use Rattle.std.proofs.lemmas.List.{length-take-le, take-append-drop, take_all, take_more_set}
use Rattle.std.specs.List.{slice_split}
use Rattle.number_text.specs.ListTexts.{is_comma, item_of}
use Rattle.number_text.proofs.ListItems.{items_of-within, items_of_more, list_of_all, list_of_none, list_of_over}
use Rattle.number_text.proofs.list.read_list.Goals as goal
use Rattle.number_text.proofs.list.read_list.Goals.{In-Some, In-None}

-- this turn's part is the next part of the text
part_at : (c : In-Some) → (c.loop-part.count < length (slice_split is_comma c.args.text.now)) × (c.in-Some.part.now ≡ get_or (slice_split is_comma c.args.text.now) c.loop-part.count c.in-Some.part.now)
part_at c =
    let parts = YieldsList-from_slice_split _ is_comma c.args.text.now (search rules) (search rules) (search rules) (λ x b q k. search (rules, tests)) in
    rw (sym c.loop-part.invariant.counted) at (YieldsList-turn parts c.loop-part.yielded _ c.loop-part.yielded_by _ _ c.in-Some.part c.in-Some.is c.next.ensures.steps)

-- at the end each part had its turn
all_parts : (c : In-None) → c.loop-part.count ≡ length (slice_split is_comma c.args.text.now)
all_parts c =
    let parts = YieldsList-from_slice_split _ is_comma c.args.text.now (search rules) (search rules) (search rules) (λ x b q k. search (rules, tests)) in
    c.loop-part.invariant.counted ∙ (YieldsList-end parts c.loop-part.yielded _ c.loop-part.yielded_by _ _ c.in-None.is c.next.ensures.steps).1

pub returns-in_err-item : goal.returns-in_err-item
returns-in_err-item c =
    let low_fits : SFits w64 c.args.low = search rules in
    let high_fits : SFits w64 c.args.high = search rules in
    let answer = simp to_z-of_z at c.read_item.ensures in
    let no_item : item_of c.args.low c.args.high c.in-Some.part.now ≡ None = sym answer ∙ c.in_err-item.was in
    let part = part_at (goal.at.returns-in_err-item c).In-Some in
    let none = list_of_none c.args.low c.args.high (length c.args.out.now) c.args.text.now c.in-Some.part.now c.loop-part.count part.0 part.1 no_item in
    record {
      listed = rw none c.from_residual.ensures;
      written = rw none tt;
      room = rw c.from_residual.ensures tt;
      within = rw c.from_residual.ensures tt;
    }

pub returns-then-count-out : goal.returns-then-count-out
returns-then-count-out c =
    let part = part_at (goal.at.returns-then-count-out c).In-Some in
    let none = list_of_over c.args.low c.args.high (length c.args.out.now) c.args.text.now (omega (arith, part.0)) in
    record { listed = rw none; written = rw none tt; room = tt; within = tt }

pub loop-part-preserved : goal.loop-part-preserved
loop-part-preserved c =
    let low_fits : SFits w64 c.args.low = search rules in
    let high_fits : SFits w64 c.args.high = search rules in
    let item_fits : SFits w64 c.in_ok-item.item = search rules in
    let answer = simp to_z-of_z at c.read_item.ensures in
    let found : item_of c.args.low c.args.high c.in-Some.part.now ≡ Some c.in_ok-item.item = sym answer ∙ c.in_ok-item.was in
    let before = simp to_z-of_z at c.loop-part.invariant.items in
    let free : c.loop-part.count < length c.loop-part.out = omega arith in
    let part = part_at (goal.at.loop-part-preserved c).In-Some in
    let more = items_of_more c.args.low c.args.high c.in_ok-item.item (slice_split is_comma c.args.text.now) c.loop-part.count c.in-Some.part.now _ part.0 part.1 before found in
    record {
      can_next = search rules;
      is_finite = search rules;
      counted = grind (arith, common_steps);
      room = grind (arith, common_steps);
      items = simp (to_z-of_z, take_more_set) more;
      rest = grind (arith, common_steps);
    }

pub returns : goal.returns
returns c =
    let low_fits : SFits w64 c.args.low = search rules in
    let high_fits : SFits w64 c.args.high = search rules in
    let before = simp to_z-of_z at c.loop-part.invariant.items in
    let long = length-take-le c.loop-part.count c.loop-part.out c.loop-part.invariant.room in
    let rest = rw c.loop-part.invariant.rest at (take-append-drop c.loop-part.count c.loop-part.out) in
    let end = all_parts (goal.at.returns c).In-None in
    let whole = rw (take_all c.loop-part.count (slice_split is_comma c.args.text.now) (omega arith)) at before in
    let all = list_of_all c.args.low c.args.high (length c.args.out.now) c.args.text.now (take c.loop-part.count c.loop-part.out) (omega arith) whole in
    record {
      listed = rw all (ap Some (sym long));
      written = rw (all, long) (sym rest);
      room = omega arith;
      within = items_of-within c.args.low c.args.high (slice_split is_comma c.args.text.now) (take c.loop-part.count c.loop-part.out) whole;
    }
