use Rattle.std.proofs.Common.{◌≡◌, ◌∙◌, Bool, true, false, refl, rules}
use mir.Syntax.{w128}
use Rattle.std.proofs.lemmas.Int.{to_z-of_z}
use Rattle.weights.specs.declared.tails.Tail.TheVariants.{Less, Greater, Two}
use Rattle.networks.specs.declared.answers.Way.TheVariants as way
use Rattle.networks.specs.declared.tail_sums.TailSum.{TailSum}
use Rattle.networks.specs.Follows.{asked_tail, tail_of, uncounted}
use Rattle.stage_network.proofs.quick.quick_answer.Goals as goal

same-asked : (asked : Bool) (x y : TailSum) → (asked ≡ true → x ≡ y) → asked_tail asked x ≡ asked_tail asked y
same-asked true x y e = rw (e refl) refl
same-asked false x y e = refl

pub returns-clause-answer : goal.returns-clause-answer
returns-clause-answer g c =
    let test = g.P.Plain.test c.args.problem.now in
    let less : c.where_asked.result ≡ asked_tail c.args.tails.less (tail_of test uncounted Less way.Plain) = c.where_asked.ensures ∙ same-asked c.args.tails.less c.in_ok-sums.sums.less (tail_of test uncounted Less way.Plain) (c.in_ok-sums.ensures Less) in
    let greater : c.where_asked-2.result ≡ asked_tail c.args.tails.greater (tail_of test uncounted Greater way.Plain) = c.where_asked-2.ensures ∙ same-asked c.args.tails.greater c.in_ok-sums.sums.greater (tail_of test uncounted Greater way.Plain) (c.in_ok-sums.ensures Greater) in
    let two : c.where_asked-3.result ≡ asked_tail c.args.tails.two (tail_of test uncounted Two way.Plain) = c.where_asked-3.ensures ∙ same-asked c.args.tails.two c.in_ok-sums.sums.two (tail_of test uncounted Two way.Plain) (c.in_ok-sums.ensures Two) in
    rw (to_z-of_z w128 c.frame-frame.result.statistic (search rules) ∙ c.frame-frame.ensures.frame.statistic, c.frame-frame.ensures.frame.scale, c.frame-frame.ensures.frame.total, less, greater, two) refl
