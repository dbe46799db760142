use Rattle.std.proofs.Common.{◌≡◌, ◌∙◌, position, rules, sym, tests}
use Rattle.std.proofs.lemmas.Iterator.{YieldsList-from_slice}
use Rattle.std.proofs.lemmas.Iterator.Search.{position_from_yields_List}
use Rattle.std.proofs.lemmas.List.{take_rest}
use Rattle.number_text.specs.NumberTexts.{is_exponent_mark}
use Rattle.number_text.proofs.FirstMarks.{HasNoPlace-from_position, IsFirstPlace-from_position}
use Rattle.number_text.proofs.numeral.split_exponent.Goals as goal
use Rattle.number_text.proofs.numeral.split_exponent.Goals.{After-position}

-- what the call finds is the place of the first mark
place_is : (c : After-position) → position is_exponent_mark c.args.text.now ≡ c.position.result
place_is c =
    sym (position_from_yields_List is_exponent_mark _ _ c.position.result c.position.ensures.ran (YieldsList-from_slice c.args.text.now (search rules)) (λ x b q k. search (rules, tests)))

pub returns-in-Some : goal.returns-in-Some
returns-in-Some c =
    let found = place_is (goal.at.returns-in-Some c).After-position in
    let place = IsFirstPlace-from_position is_exponent_mark c.args.text.now c.in-Some.mark (found ∙ c.in-Some.is) in
    let sign = c.split_sign.ensures in
    record { decimal = place.before; exponent = rw (place.some, sign.negative, sign.unsigned, take_rest c.args.text.now, place.after) }

pub returns-in-None : goal.returns-in-None
returns-in-None c =
    let found = place_is (goal.at.returns-in-None c).After-position in
    let none = HasNoPlace-from_position is_exponent_mark c.args.text.now (found ∙ c.in-None.is) in
    record { decimal = none.before; exponent = rw none.none }
