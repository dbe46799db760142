use Rattle.std.proofs.Common.{ℤ, List, ◌-◌, ◌+◌, ◌^◌, ◌∙◌, ap, arith, length, map, rules, sym, FitsSigned}
use Rattle.std.specs.Prelude.{nat_abs, pos}
use mir.Syntax.{w128}
use mir.Val.{to_z, of_z}
use Rattle.std.proofs.lemmas.Int.{to_z-of_z}
use Rattle.label_network.proofs.Rows.{grown, written}
use Rattle.packed_keys.specs.PackedKeys.{digits}
use Rattle.packed_keys.proofs.DigitLists.{digit-next, length-unpacked}
use Rattle.packed_keys.proofs.digits.unpack.Goals as goal

pub loop-i-preserved : goal.loop-i-preserved
loop-i-preserved c =
    let s : FitsSigned w128 c.least_digit.result = search rules in
    let v : FitsSigned w128 c.args.packed = search rules in
    let filled = rw (to_z-of_z w128 c.args.packed v) at c.loop-i.invariant.filled in
    let left = rw (to_z-of_z w128 c.args.packed v) at c.loop-i.invariant.left in
    let base = 2 ^ c.args.bits in
    let k = length c.args.partial.now in
    let all : List ℤ = map pos (digits base k (nat_abs c.args.packed)) in
    let long = length-unpacked base k (nat_abs c.args.packed) in
    let both = digit-next base k c.loop-i.i c.loop-i.number all long (omega (arith, c.loop-i.invariant.long, c.loop-i-test.true)) left in
    rw (to_z-of_z w128 c.args.packed v) (record {
      long = search rules;
      filled = grown c.loop-i.partial all c.loop-i.i (to_z w128 (of_z w128 c.least_digit.result)) (pos 0) (omega (arith, c.loop-i.invariant.long, c.loop-i-test.true)) (omega (arith, long, c.loop-i.invariant.long, c.loop-i-test.true)) filled
          (to_z-of_z w128 c.least_digit.result s ∙ c.least_digit.ensures ∙ sym both.0);
      left = both.1 ∙ ap (λ n. map pos (digits base (k - (c.loop-i.i + 1)) n)) (sym c.other_digits-number.ensures);
    })

pub returns : goal.returns
returns c =
    let v : FitsSigned w128 c.args.packed = search rules in
    let filled = rw (to_z-of_z w128 c.args.packed v) at c.loop-i.invariant.filled in
    let all : List ℤ = map pos (digits (2 ^ c.args.bits) (length c.args.partial.now) (nat_abs c.args.packed)) in
    let long = length-unpacked (2 ^ c.args.bits) (length c.args.partial.now) (nat_abs c.args.packed) in
    written c.loop-i.partial all c.loop-i.i (omega (arith, c.loop-i.invariant.long, c.loop-i-test.false)) (omega (arith, long, c.loop-i.invariant.long, c.loop-i-test.false)) filled
