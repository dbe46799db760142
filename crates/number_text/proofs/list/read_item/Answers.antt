use Rattle.std.proofs.Common.{◌≡◌, ◌∙◌, Some, ap, arith, rules, sym}
use Rattle.std.proofs.lemmas.Int.{ints}
use Rattle.number_text.specs.ListTexts.{item_of, within}
use Rattle.number_text.proofs.ListItems.{item_of_capped, within_above, within_below, within_both}
use Rattle.number_text.proofs.list.read_item.Goals as goal
use Rattle.number_text.proofs.list.read_item.Goals.{After-capped_value-value, then-value-from-via-then-value-from, then-value-from-via-else-value-from+then-from-value}

-- the answer rests on the value that is read, which stops at the cap
item_is : (c : After-capped_value-value) → item_of c.args.low c.args.high c.args.text.now ≡ within c.args.low c.args.high c.capped_value-value.result
item_is c =
    let sign = c.split_sign-item.ensures in
    item_of_capped c.args.low c.args.high c.capped_value-value.result c.args.text.now _ _ _ (search rules) (search rules) c.trim.ensures sign.negative sign.unsigned (search rules) c.capped_value-value.ensures

pub returns-then-value-from : goal.returns-then-value-from
returns-then-value-from c =
    let item = item_is (goal.at.returns-then-value-from c).After-capped_value-value in
    elim c.then-value-from.branch [
      | then-value-from-via-then-value-from w ↦ sym (item ∙ within_below c.args.low c.args.high c.capped_value-value.result (omega (arith, ints)))
      | then-value-from-via-else-value-from+then-from-value w ↦ sym (item ∙ within_above c.args.low c.args.high c.capped_value-value.result (omega (arith, ints)))
    ]

pub returns : goal.returns
returns c =
    let item = item_is (goal.at.returns c).After-capped_value-value in
    let inside = within_both c.args.low c.args.high c.capped_value-value.result (omega (arith, ints)) (omega (arith, ints)) in
    ap Some (omega (arith, ints)) ∙ sym (item ∙ inside)
