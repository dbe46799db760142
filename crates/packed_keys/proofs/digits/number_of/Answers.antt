use Rattle.std.proofs.Common.{◌≡◌, ◌-◌, ◌+◌, ◌^◌, ◌*◌, ◌∙◌, ap, arith, get_or, rules, FitsSigned}
use Rattle.std.specs.Prelude.{nat_abs, pos}
use mir.Syntax.{w128}
use Rattle.std.proofs.lemmas.Int.{to_z-of_z}
use Rattle.packed_keys.proofs.DigitLists.{number-more, number-small}
use Rattle.packed_keys.proofs.digits.number_of.Goals as goal

pub digit_below-number-requires-clause-fits : goal.digit_below-number-requires-clause-fits
digit_below-number-requires-clause-fits c =
    let d : FitsSigned w128 (get_or c.args.partial.now (c.loop-i.i - 1) (pos 0)) = search rules in
    rw (to_z-of_z w128 (get_or c.args.partial.now (c.loop-i.i - 1) (pos 0)) d)
    (number-more c.args.bits c.args.partial.now c.requires c.loop-i.i c.loop-i.number (omega (arith, c.loop-i-test.true)) c.loop-i.invariant.within c.loop-i.invariant.here).0

pub loop-i-preserved : goal.loop-i-preserved
loop-i-preserved c =
    let d : FitsSigned w128 (get_or c.args.partial.now (c.loop-i.i - 1) (pos 0)) = search rules in
    record {
      within = omega (arith, c.loop-i.invariant.within);
      here =
          c.digit_below-number.ensures
          ∙ ap (λ z. nat_abs z + 2 ^ c.args.bits * c.loop-i.number) (to_z-of_z w128 (get_or c.args.partial.now (c.loop-i.i - 1) (pos 0)) d)
          ∙ (number-more c.args.bits c.args.partial.now c.requires c.loop-i.i c.loop-i.number (omega (arith, c.loop-i-test.true)) c.loop-i.invariant.within c.loop-i.invariant.here).1;
    }

pub returns-clause-small : goal.returns-clause-small
returns-clause-small c =
    let none : c.loop-i.i ≡ 0 = omega (arith, c.loop-i-test.false) in
    omega (arith, (rw none at c.loop-i.invariant.here), number-small c.args.bits c.args.partial.now c.requires)
