use Rattle.std.proofs.Common.{◌<◌, ◌∙◌, get_or, sym, ap, refl, arith}
use Prim.Native.Nat.{◌∣◌}
use Rattle.std.proofs.lemmas.List.{take_all}
use Rattle.std.proofs.lemmas.List.Elements.{All-from_recursion, recursion_from_All}
use Rattle.weights.specs.Numbers.{lcm}
use Rattle.scores.specs.PlaceScores.{common_multiple}
use Rattle.scores.proofs.MultipleLemmas.{common_multiple-all, common_multiple-fits, common_multiple-more}
use Rattle.scores.proofs.multiples.common_multiple.Goals as goal

pub loop-number-init : goal.loop-number-init
unfolding common_multiple
loop-number-init c = record { multiple = refl; fits = omega arith }

pub returns-in_err-multiple-clause-least : goal.returns-in_err-multiple-clause-least
returns-in_err-multiple-clause-least c =
    rw c.from_residual.ensures (λ whole. c.in_err-multiple.ensures (rw c.loop-number.invariant.multiple (common_multiple-fits c.args.numbers.now c.loop-number.number-index _ (recursion_from_All (λ n. 0 < n) c.args.numbers.now c.requires) c.loop-number-test.true whole)))

pub loop-number-preserved : goal.loop-number-preserved
loop-number-preserved c =
    let told = c.in_ok-multiple.ensures in
    record {
      multiple = told.1 ∙ ap (λ m. lcm m (get_or c.args.numbers.now c.loop-number.number-index 0)) c.loop-number.invariant.multiple ∙ sym (common_multiple-more c.args.numbers.now c.loop-number.number-index c.loop-number-test.true);
      fits = rw told.1 told.0;
    }

pub returns-clause-least : goal.returns-clause-least
returns-clause-least c =
    let e = c.loop-number.invariant.multiple ∙ ap common_multiple (take_all c.loop-number.number-index c.args.numbers.now c.loop-number-test.false) in
    (rw (← e) c.loop-number.invariant.fits, e)

pub returns-clause-whole : goal.returns-clause-whole
returns-clause-whole c =
    let e = c.loop-number.invariant.multiple ∙ ap common_multiple (take_all c.loop-number.number-index c.args.numbers.now c.loop-number-test.false) in
    let multiple = common_multiple-all c.args.numbers.now (recursion_from_All (λ n. 0 < n) c.args.numbers.now c.requires) in
    All-from_recursion (λ n. n ∣ c.loop-number.multiple) c.args.numbers.now (rw e multiple.all)
